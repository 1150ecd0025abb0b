-- A test of every byte: of one byte, and of a part.
use Prim.Native.Nat.{ℕ, ◌<◌}
use mathlib.Core.Path.{◌≡◌, refl, sym, ap, ◌∙◌}
use mathlib.Core.Bool.{Bool, true, ◌&&◌}
use mathlib.Core.List.{[], ◌∷◌}
use Rattle.std.specs.List.{list_all}
use lib.ListN.{length, get_or, take, drop, take-append-drop}
use Rattle.dirf.specs.Bytes.{Text, every}
use Rattle.dirf.proofs.tests.Bools.{and_left, and_right}
use Rattle.dirf.proofs.tests.Lists.{drop_on, every_append}
use Rattle.fields.specs.Places.{part_of}

module _ (test : ℕ → Bool) (s : Text) (i : ℕ) where
  every_cut : every test s ≡ true → (every test (take i s) ≡ true) × (every test (drop i s) ≡ true)
  every_cut e =
      let h = sym (every_append test (take i s) (drop i s)) ∙ ap (every test) (take-append-drop i s) ∙ e in
      (and_left (every test (take i s)) _ h, and_right (every test (take i s)) _ h)

  pub every_here : every test s ≡ true → i < length s → test (get_or s i 0) ≡ true
  unfolding every
  every_here e h = and_left (test (get_or s i 0)) _ (rw (drop_on s i 0) at (every_cut e).1)

pub every_part : (test : ℕ → Bool) (s : Text) (start len : ℕ) → every test s ≡ true → every test (part_of s start len) ≡ true
unfolding part_of
every_part test s start len e = (every_cut test (drop start s) len (every_cut test s start e).1).0

-- the library's word
pub every_all : (test : ℕ → Bool) (s : Text) → every test s ≡ list_all test s
unfolding every
every_all test [] = refl
every_all test (b ∷ s) = ap (λ t. test b && t) (every_all test s)
