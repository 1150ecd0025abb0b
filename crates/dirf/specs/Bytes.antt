-- Bytes and text, and what is asked of them before anything is known of a record.
use Rattle.std.specs.Prelude.{ℕ, Bool, true, false, ◌&&◌, ◌||◌, List, [], ◌∷◌, eqb, ltb, leb, if◌then◌else◌}
use Prim.Native.String.{String}
use Prim.Native.Char.{code}

-- 01, "Lines and limits": "One byte is one character." A text is its bytes.
abbrev pub Text : Type 0
Text = List ℕ

-- the bytes of a text that is written here, as `bytes "Dirf"`
abbrev pub bytes : String → Text
bytes String.[] = []
bytes (String.◌∷◌ c s) = code c ∷ bytes s

-- a test holds of every element, or of some element, of a list
unfoldable pub every : {A : Type 0} → (A → Bool) → List A → Bool
every test [] = true
every test (x ∷ xs) = test x && every test xs

unfoldable pub some : {A : Type 0} → (A → Bool) → List A → Bool
some test [] = false
some test (x ∷ xs) = test x || some test xs

unfoldable pub is_in : ℕ → List ℕ → Bool
is_in n ns = some (eqb n) ns

-- 01, "Lines and limits": "Identifiers are compared byte for byte, case kept."
unfoldable pub same : Text → Text → Bool
same [] [] = true
same [] (y ∷ ys) = false
same (x ∷ xs) [] = false
same (x ∷ xs) (y ∷ ys) = eqb x y && same xs ys

-- 01, "Order": "Keys compare byte by byte, a proper beginning first; an empty key is the least."
unfoldable pub less : Text → Text → Bool
less [] [] = false
less [] (y ∷ ys) = true
less (x ∷ xs) [] = false
less (x ∷ xs) (y ∷ ys) = ltb x y || eqb x y && less xs ys

-- 01, "Fields": "N and D: digits 0 to 9 only."
unfoldable pub is_digit : ℕ → Bool
is_digit b = leb 48 b && leb b 57

unfoldable pub is_empty : Text → Bool
is_empty [] = true
is_empty (b ∷ bs) = false

unfoldable pub begins_with : ℕ → Text → Bool
begins_with b [] = false
begins_with b (x ∷ xs) = eqb x b

unfoldable pub ends_with : ℕ → Text → Bool
ends_with b [] = false
ends_with b (x ∷ []) = eqb x b
ends_with b (x ∷ y ∷ ys) = ends_with b (y ∷ ys)

-- what a list of numbers and answers says of a number; else what is said of all others
unfoldable pub lookup : {A : Type 0} → A → List (ℕ × A) → ℕ → A
lookup other [] n = other
lookup other (e ∷ es) n = if eqb n e.0 then e.1 else lookup other es n

-- to compute with this file: `unfolding bytes_opens`
unfoldable pub bytes_opens : Unit {0}
unfolding every some is_in same less is_digit is_empty begins_with ends_with lookup
bytes_opens = tt
