-- Whose is it? The sentence that the whole project is for: no amount can land on the person above a line that was not read.
-- It speaks of the record table of any answer, acceptance or refusal, line by line; lines count from 1. Of each line it says whose it
-- is, and what stands between the two: nothing that could make it somebody else's. `Belongs` has the kinds.
use Rattle.std.specs.Prelude.{ℕ, ◌≤◌, ◌<◌, ◌≡◌, ◌⊎◌, List, ◌∷◌, length, get_or}
use Rattle.dirf.specs.Bytes.{Text}
use Rattle.dirf.specs.Kinds.{IDREC, BPFDEC, INFPA, ESPA, declarants, alone, beneficiaries, pensions, values}
use Rattle.dirf.specs.Edition.{Edition}
use Rattle.dirf.specs.Tree.{block_of}
use Rattle.dirf.specs.Check.{Entry, verdict}
use Rattle.dirf.specs.Theorems.Plain.{◌∈◌}
use Rattle.dirf.specs.Theorems.Belongs.{parents_of, group_of, of_a_person, persons}

-- the entry of line n, its kind and its parent's line
abbrev pub no_entry : Entry
no_entry = record { kind = 0; start = 0; length = 0; parent = 0 }

abbrev pub entry_at : List Entry → ℕ → Entry
entry_at t n = get_or (no_entry ∷ t) n no_entry

abbrev pub kind_at : List Entry → ℕ → ℕ
kind_at t n = (entry_at t n).kind

abbrev pub parent_at : List Entry → ℕ → ℕ
parent_at t n = (entry_at t n).parent

-- line n is one of the table's
abbrev pub IsLine : List Entry → ℕ → Type 0
IsLine t n = (1 ≤ n) × (n ≤ length t)

-- Line n belongs to line p, above it. The group of p is unbroken: every line between them belongs to p or to a line between, and is of
-- a kind that stands in such a group. So below a beneficiary nothing of another person stands between, and below an IDREC nothing of
-- another IDREC. An IDREC is of the beneficiary's own block (line 3 is the declarant), the INFPA of an ESPA that of a BPFDEC.
pub record BelongsTo (t : List Entry) (n p : ℕ) : Type 0 where
  pub above : (1 ≤ p) × (p < n)
  pub to : kind_at t p ∈ parents_of (kind_at t n)
  pub unbroken : (m : ℕ) → p < m → m < n → p ≤ parent_at t m
  pub between : (m : ℕ) → p < m → m < n → kind_at t m ∈ group_of (kind_at t p)
  pub own_block : kind_at t p ≡ IDREC → kind_at t (parent_at t p) ≡ block_of (kind_at t 3) (kind_at t n)
  pub own_person : kind_at t p ≡ INFPA → kind_at t n ≡ ESPA → kind_at t (parent_at t p) ≡ BPFDEC

-- Line b is the person of value record n: a beneficiary above it, its parent, or the parent of the INFPC or INFPA that is its parent.
-- Between the two stands nothing of another person.
pub record PersonOf (t : List Entry) (n b : ℕ) : Type 0 where
  pub above : (1 ≤ b) × (b < n)
  pub person : kind_at t b ∈ beneficiaries
  pub parent : (parent_at t n ≡ b) ⊎ ((kind_at t (parent_at t n) ∈ pensions) × (parent_at t (parent_at t n) ≡ b))
  pub between : (m : ℕ) → b < m → m < n → kind_at t m ∈ of_a_person

-- Line n is nobody's: Dirf, RESPO, the declarant or FIMDirf.
pub record Nobodys (t : List Entry) (n : ℕ) : Type 0 where
  pub kind : kind_at t n ∈ alone
  pub parent : parent_at t n ≡ 0

-- of each line of a table it is said whose it is
pub record Owned (t : List Entry) : Type 0 where
  pub line : (n : ℕ) → IsLine t n → Nobodys t n ⊎ BelongsTo t n (parent_at t n)
  -- line 3 is the declarant, and no other line is one
  pub declarant : 3 ≤ length t → kind_at t 3 ∈ declarants
  pub one_declarant : (n : ℕ) → IsLine t n → kind_at t n ∈ declarants → n ≡ 3
  -- "IDREC belongs to the open FCI, PROC or RRA, else to the declarant": between the two stand IDRECs and persons, and no block
  pub idrec : (n : ℕ) → IsLine t n → kind_at t n ≡ IDREC → (m : ℕ) → parent_at t n < m → m < n → kind_at t m ∈ IDREC ∷ persons
  -- every amount is a person's
  pub person : (n : ℕ) → IsLine t n → kind_at t n ∈ values → (b : ℕ) × PersonOf t n b

abbrev pub Whose : Edition → Type 0
Whose e = (file : Text) (room : ℕ) → Owned (verdict e file room).table
