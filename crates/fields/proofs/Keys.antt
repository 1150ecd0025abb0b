-- The key of a kind: both of fields 2 and 3, the first of them, or none. Only a key of one field can be a reimbursement's.
use Rattle.std.specs.Prelude.{if◌then◌else◌}
use Prim.Native.Nat.{ℕ, ◌≤◌}
use mathlib.Core.Path.{◌≡◌, refl}
use mathlib.Core.Bool.{Bool, true, false, ◌&&◌, ◌||◌, not, and-true, and-false, or-false, true≢false}
use mathlib.Core.List.{List, [], ◌∷◌, map}
use native.Mathlib.Omega.{arith}
use lib.Dec.{eqb, ltb}
use lib.ListN.{length, take}
use borrow.Author.Tests.{not-true}
use Rattle.dirf.specs.Bytes.{Text, is_in, same, less, bytes_opens}
use Rattle.dirf.specs.Kinds.{is_beneficiary, reimbursements, kinds_opens}
use Rattle.dirf.specs.Lines.{field}
use Rattle.dirf.specs.Keys.{by_two_fields, by_one_field, key_fields, fewer_digits_first, key_of, key_less}
use Rattle.dirf.proofs.tests.Bools.{if_cases, by_answer, unless_true}
use Rattle.dirf.proofs.tests.Says.{is_in_says}
use Rattle.dirf.proofs.tests.Lists.{every_in}
use Rattle.fields.specs.Places.{key_parts}

two_plain : (k : ℕ) → is_in k by_two_fields ≡ true → is_in k reimbursements ≡ false
unfolding bytes_opens kinds_opens
two_plain k h = not-true (is_in k reimbursements) (every_in (λ k. not (is_in k reimbursements)) ((is_in_says k by_two_fields).0 h) refl)

none_plain : (k : ℕ) → (is_in k by_one_field || is_beneficiary k) ≡ false → is_in k reimbursements ≡ false
unfolding bytes_opens kinds_opens
none_plain k h =
    unless_true (is_in k reimbursements)
    (λ r. true≢false (rw (every_in (λ k. is_in k by_one_field) ((is_in_says k reimbursements).0 r) refl) at h))

-- what holds of the three lists that there are holds of every kind's
pub by_kind : (P : Bool → List ℕ → Type 0) → P false (2 ∷ 3 ∷ []) → ((b : Bool) → P b (2 ∷ [])) → P false [] → (k : ℕ)
    → P (is_in k reimbursements) (key_fields k)
unfolding key_fields
by_kind P two one none k =
    if_cases (P (is_in k reimbursements)) (is_in k by_two_fields) (λ h. rw (two_plain k h) two)
    (λ _.
    if_cases (P (is_in k reimbursements)) (is_in k by_one_field || is_beneficiary k) (λ _. one (is_in k reimbursements))
    (λ h. rw (none_plain k h) none))

pub key_parts_lem : (k : ℕ) (a b : Text)
    → key_parts k a b ≡ (if is_in k reimbursements then fewer_digits_first a else take (length (key_fields k)) (a ∷ b ∷ []))
unfolding key_parts key_of field
key_parts_lem k a b =
    by_kind
    (λ r fs.
    (if r then fewer_digits_first a else map (λ f. field f ([] ∷ a ∷ b ∷ [])) fs)
    ≡ (if r then fewer_digits_first a else take (length fs) (a ∷ b ∷ [])))
    refl (λ r. by_answer r (λ e. rw e) (λ e. rw e)) refl k

pub at_most_two : (k : ℕ) → length (key_fields k) ≤ 2
at_most_two k = by_kind (λ r fs. length fs ≤ 2) (omega arith) (λ r. omega arith) (omega arith) k

-- a key that is not of one field is no reimbursement's
pub plain_key : (k : ℕ) → (length (key_fields k) ≡ 1 → ⊥) → is_in k reimbursements ≡ false
plain_key k = by_kind (λ r fs. (length fs ≡ 1 → ⊥) → r ≡ false) (λ _. refl) (λ r n. absurd (n refl)) (λ _. refl) k

-- numbers compare by how many digits they have, then byte by byte
pub numbers : (a b : Text)
    → key_less (fewer_digits_first a) (fewer_digits_first b) ≡ (ltb (length a) (length b) || eqb (length a) (length b) && less a b)
unfolding key_less fewer_digits_first less same
numbers a b = simp (and-false, or-false, and-true)

-- keys of two fields compare by the first, and where that is the same by the second
pub both_fields : (a b x y : Text) → key_less (a ∷ b ∷ []) (x ∷ y ∷ []) ≡ (less a x || same a x && less b y)
unfolding key_less
both_fields a b x y = simp (and-false, or-false)
