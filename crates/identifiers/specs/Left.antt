-- What is known of a text when it is compared with an identifier: that no other is left. Each part of it is found by computing at the
-- place in the code, so these definitions lie open.
use Rattle.std.specs.Prelude.{ℕ, suc, ◌≡◌, Bool, cond, true, false, ◌&&◌, not, List, [], ◌∷◌, eqb, length, get_or, if◌then◌else◌}
use Prim.Native.String.{String}
use Rattle.dirf.specs.Bytes.{Text, bytes}
use Rattle.dirf.specs.Kinds.{names2025}

-- a text of this length that begins with this letter
abbrev pub Begins : ℕ → String → Text → Type 0
Begins n letter s = (length s ≡ n) × (get_or s 0 0 ≡ get_or (bytes letter) 0 0)

-- a text has the bytes of a name, from place i on
abbrev pub Spells : ℕ → Text → Text → Type 0
Spells i [] s = Unit {0}
Spells i (b ∷ name) s = (get_or s i 0 ≡ b) × Spells (suc i) name s

-- the same as `same` and `kind_in`, open to the prover's own search
abbrev pub alike : Text → Text → Bool
alike [] [] = true
alike [] (y ∷ ys) = false
alike (x ∷ xs) [] = false
alike (x ∷ xs) (y ∷ ys) = eqb x y && alike xs ys

abbrev pub number_of : List (ℕ × Text) → Text → ℕ
number_of [] s = 0
number_of (n ∷ ns) s = if alike n.1 s then n.0 else number_of ns s

-- a name beside another: as long, with the same first byte, and not the same
abbrev pub is_beside : Text → Text → Bool
is_beside name other = eqb (length other) (length name) && eqb (get_or other 0 0) (get_or name 0 0) && not (alike other name)

-- a text is none of the names beside one
abbrev pub NoOther : Text → List (ℕ × Text) → Text → Type 0
NoOther name [] s = Unit {0}
NoOther name (n ∷ ns) s =
    cond (is_beside name n.1) ((Spells 0 n.1 s → ⊥) × NoOther name ns s) (NoOther name ns s)

-- of all identifiers a text can only be this one, whose kind is k
pub record Left (name : Text) (k : ℕ) (s : Text) : Type 0 where
  pub kind : number_of names2025 name ≡ k
  pub long : length s ≡ length name
  pub first : get_or s 0 0 ≡ get_or name 0 0
  pub no_other : NoOther name names2025 s
