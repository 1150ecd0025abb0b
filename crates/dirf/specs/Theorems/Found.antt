-- What the search finds. 02, A6: "For an accepted file with its own table the answer equals that of reading every line." It speaks of the
-- lines of the file and of whose they are, and of every line; not of how the search goes.
use Rattle.std.specs.Prelude.{ℕ, zero, suc, ◌+◌, ◌*◌, ◌≡◌, Bool, ◌&&◌, not, ◌≢◌, List, eqb, ltb, length, take, if◌then◌else◌}
use Rattle.dirf.specs.Bytes.{Text, is_in, less}
use Rattle.dirf.specs.Limits.{numbers_an_entry}
use Rattle.dirf.specs.Kinds.{IDREC, beneficiaries, companies, is_beneficiary}
use Rattle.dirf.specs.Edition.{Edition}
use Rattle.dirf.specs.Check.{Entry, numbers_of, verdict}
use Rattle.dirf.specs.FieldReader.{field_of}
use Rattle.dirf.specs.Search.{Searched, search_in}
use Rattle.dirf.specs.Theorems.Plain.{◌∈◌}
use Rattle.dirf.specs.Theorems.Whose.{kind_at, parent_at, IsLine}
use Rattle.dirf.specs.Theorems.Entries.{bytes_at}

-- how many of the lines 1 to n pass a test
unfoldable pub how_many : (ℕ → Bool) → ℕ → ℕ
how_many test zero = 0
how_many test (suc n) = how_many test n + (if test (suc n) then 1 else 0)

module _ (file : Text) (t : List Entry) (n : ℕ) where
  -- line m is a beneficiary's and stands below line n; and a person's
  pub record Beneficiary (m : ℕ) : Type 0 where
    pub line : IsLine t m
    pub below : parent_at t m ≡ n
    pub kind : kind_at t m ∈ beneficiaries

  pub record Person (m : ℕ) : Type 0 where
    pub beneficiary : Beneficiary m
    pub no_company : kind_at t m ∈ companies → ⊥

  -- its CPF: field 2 of that line of the file
  unfoldable pub cpf_at : ℕ → Text
  cpf_at m = field_of 2 (bytes_at file t m)

  -- the same as tests, to count by
  unfoldable pub is_below : ℕ → Bool
  is_below m = eqb (parent_at t m) n && is_beneficiary (kind_at t m)

  unfoldable pub is_smaller : Text → ℕ → Bool
  is_smaller key m = is_below m && not (is_in (kind_at t m) companies) && less (cpf_at m) key

  -- what the search answers for the IDREC of line n and a key
  pub record Found (key : Text) (s : Searched) : Type 0 where
    -- it is never 27,
    pub number : s.number ≡ 0
    -- a line that it gives is that of a person below the IDREC whose CPF is the key, and a person of that CPF is on that line: so it is 0
    -- where there is none
    pub sought : s.line ≢ 0 → Person s.line × (cpf_at s.line ≡ key)
    pub found : (m : ℕ) → Person m → cpf_at m ≡ key → s.line ≡ m
    -- it looked at the persons with a smaller CPF, and at one more if another beneficiary stands below the IDREC
    pub count : let smaller = how_many (is_smaller key) (length t) in
        s.count ≡ (if ltb smaller (how_many is_below (length t)) then smaller + 1 else smaller)

-- for every accepted file and every IDREC in it, with any table that begins with the file's own entries
abbrev pub Finds : Edition → Type 0
Finds e =
    (file : Text) (room : ℕ) → (verdict e file room).number ≡ 0
    → let t = (verdict e file room).table in
    (n : ℕ) → IsLine t n → kind_at t n ≡ IDREC
    → (numbers : List ℕ) → take (numbers_an_entry * length t) numbers ≡ numbers_of t
    → (key : Text) → Found file t n key (search_in file numbers n key)
