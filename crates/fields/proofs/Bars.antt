-- A line cut at its first bar: its first field, and the fields behind the bar.
use Prim.Native.Nat.{ℕ, suc, ◌+◌, ◌-◌, ◌≤◌, ◌<◌}
use mathlib.Core.Path.{◌≡◌, refl, ap}
use mathlib.Core.List.{[], ◌∷◌}
use native.Mathlib.Omega.{arith}
use lib.Dec.{eqb}
use lib.ListN.{length, take, drop, length-drop}
use lib.Seq.{drop-drop}
use Rattle.dirf.specs.Bytes.{Text}
use Rattle.dirf.specs.Limits.{bar}
use Rattle.dirf.specs.Lines.{more, fields}
use Rattle.dirf.proofs.tests.Bools.{by_answer}
use Rattle.fields.specs.Places.{part_of, bar_in}

no_field : (s : Text) → length s ≤ bar_in s → fields s ≡ []
unfolding bar_in fields more
no_field [] h = refl
no_field (b ∷ s) h =
    by_answer (eqb b bar) (λ q. absurd (omega (arith, rw q at h))) (λ q. rw q (ap (more b) (no_field s (omega (arith, rw q at h)))))

first_field : (s : Text) → bar_in s < length s → fields s ≡ take (bar_in s) s ∷ fields (drop (suc (bar_in s)) s)
unfolding bar_in fields more
first_field [] h = absurd (omega arith)
first_field (b ∷ s) h =
    by_answer (eqb b bar) (λ q. rw q) (λ q. rw q (ap (more b) (first_field s (omega (arith, rw q at h)))))

-- what begins at byte s of a line, where e is the first bar from there on, or the line's end
module _ (line : Text) (s e : ℕ) (h : s ≤ length line) (q : e ≡ s + bar_in (drop s line)) where
  pub uncut : length line ≤ e → fields (drop s line) ≡ []
  uncut g = no_field (drop s line) (simp length-drop (omega arith))

  pub cut : e < length line → fields (drop s line) ≡ part_of line s (e - s) ∷ fields (drop (e + 1) line)
  unfolding part_of
  cut g =
      let b : bar_in (drop s line) ≡ e - s = omega arith in
      let n : s + suc (e - s) ≡ e + 1 = omega arith in
      rw (first_field (drop s line) (simp length-drop (omega arith)), drop-drop, b, n)
