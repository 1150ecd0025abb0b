-- Keys and order, and what stood before under the same parent.
use Rattle.std.specs.Prelude.{ℕ, Bool, true, false, ◌&&◌, ◌||◌, not, List, [], ◌∷◌, map, eqb, ltb, length, if◌then◌else◌}
use Rattle.std.proofs.Math.Option.{Option, none, some}
use Rattle.dirf.specs.Bytes.{Text, is_in, same, less}
use Rattle.dirf.specs.Kinds.{IDREC, INFPC, INFPA, FCI, PROC, RRA, SCP, OPSE, TPSE, RTPSE, DTPSE, RDTPSE, reimbursements}
use Rattle.dirf.specs.Kinds.{is_beneficiary}
use Rattle.dirf.specs.Lines.{fields, field}
use Rattle.dirf.specs.Tree.{Rec}

-- 01, "Order": "Keys: .. fields 2 then 3 for PROC and RRA"; 000, 3.18 and 3.30: CPF and date of birth for INFPA and DTPSE
abbrev pub by_two_fields : List ℕ
by_two_fields = PROC ∷ RRA ∷ INFPA ∷ DTPSE ∷ []

-- "CPF or CNPJ for .. SCP, .. the code for IDREC, the CNPJ for FCI"; 000, 3.17 and 3.27 to 3.31: the CNPJ for INFPC and OPSE, the CPF for
-- TPSE, the number of who was paid for RTPSE and RDTPSE. All of these are field 2
abbrev pub by_one_field : List ℕ
by_one_field = IDREC ∷ FCI ∷ SCP ∷ INFPC ∷ OPSE ∷ TPSE ∷ RTPSE ∷ RDTPSE ∷ []

-- The numbers of the key's fields; "CPF or CNPJ for beneficiaries". A kind without a key has none.
unfoldable pub key_fields : ℕ → List ℕ
key_fields k = if is_in k by_two_fields then 2 ∷ 3 ∷ [] else (if is_in k by_one_field || is_beneficiary k then 2 ∷ [] else [])

unfoldable pub has_key : ℕ → Bool
has_key k = ltb 0 (length (key_fields k))

-- 000, 3.29 and 3.31: "primeiro os CPF e depois os CNPJ": first how many digits a number has, then the number
unfoldable pub fewer_digits_first : Text → List Text
fewer_digits_first s = (length s ∷ []) ∷ s ∷ []

-- the key of a record of kind k with these fields
unfoldable pub key_of : ℕ → List Text → List Text
key_of k cells = if is_in k reimbursements then fewer_digits_first (field 2 cells) else map (λ f. field f cells) (key_fields k)

-- one key is smaller than another: at the first field in which they differ
unfoldable pub key_less : List Text → List Text → Bool
key_less [] [] = false
key_less [] (b ∷ bs) = true
key_less (a ∷ as') [] = false
key_less (a ∷ as') (b ∷ bs) = less a b || same a b && key_less as' bs

-- 01, "Order": "the one before it of the same kind under the same parent": the last record of kind k whose parent is line p
unfoldable pub last_under : List Rec → ℕ → ℕ → Option Rec
last_under [] p k = none
last_under (r ∷ rs) p k = if eqb r.parent p && eqb r.kind k then some r else last_under rs p k

unfoldable pub is_some : Option Rec → Bool
is_some none = false
is_some (some r) = true

-- is the key of a record not greater than that of the record before it?
unfoldable pub not_after : ℕ → List Text → Option Rec → Bool
not_after k cells none = false
not_after k cells (some r) = not (key_less (key_of k (fields r.line)) (key_of k cells))

-- to compute with this file: `unfolding keys_opens`
unfoldable pub keys_opens : Unit {0}
unfolding key_fields has_key fewer_digits_first key_of key_less last_under is_some not_after
keys_opens = tt
