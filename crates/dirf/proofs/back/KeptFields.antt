-- What fields that keep the rules are like.
use Prim.Native.Nat.{ℕ, suc, ◌≤◌}
use mathlib.Core.Path.{◌≡◌, sym}
use mathlib.Core.Bool.{true, false, true≢false}
use mathlib.Core.List.{List, [], ◌∷◌}
use native.Mathlib.Omega.{arith}
use lib.Dec.{leb}
use lib.ListN.{length}
use borrow.Author.Tests.{eqb-true, leb-true, not-false}
use Rattle.dirf.specs.Bytes.{Text, is_empty}
use Rattle.dirf.specs.Row.{Row, Format, C, N, D, Fill, fixed, variable, obligatory, identifier}
use Rattle.dirf.specs.Fields.{is_obligatory, right_byte, fills_to, size_held, valid, filled, obligatory_field_empty, byte_of_the_wrong_kind}
use Rattle.dirf.specs.Fields.{wrong_size, not_a_valid_value, field_order}
use Rattle.dirf.specs.Rules.{keeps, ask_field, ask_fields}
use Rattle.dirf.specs.FieldReader.{width_of}
use Rattle.dirf.specs.LineWriter.{sum}
use Rattle.dirf.specs.Tables.{longest}
use Rattle.dirf.specs.Theorems.Plain.{RightByte}
use Rattle.dirf.proofs.tests.Bools.{and_left, and_right}
use Rattle.dirf.proofs.tests.Lists.{listed, Each, none, ◌also◌, every_in}
use Rattle.dirf.proofs.tests.Says.{digit_says, same_says}
use Rattle.dirf.proofs.breaches.FieldLaws.{right_byte_says}
use Rattle.dirf.proofs.rules.Asked.{or_else_left, or_else_right, field_kept}
use Rattle.dirf.proofs.back.Bars.{Cell}

fills_within : (g : Fill) (size n : ℕ) → fills_to g size n ≡ true → n ≤ size
unfolding fills_to
fills_within fixed size n e = omega (arith, eqb-true n size e)
fills_within variable size n e = leb-true n size (and_right (leb 1 n) (leb n size) e)

-- 15 kept
pub within_size : (name : Text) (r : Row) (s : Text) → wrong_size name r s ≡ false → length s ≤ r.size
unfolding wrong_size filled is_empty
within_size name r [] e = omega arith
within_size name r (b ∷ s) e =
    fills_within r.fill r.size (length (b ∷ s)) (and_left _ (size_held r.holds (length (b ∷ s))) (not-false _ e))

right_byte_lem : (g : Format) (b : ℕ) → right_byte g b ≡ true → RightByte C b
unfolding right_byte
right_byte_lem C b e = (right_byte_says C b).0 e
right_byte_lem N b e = omega (arith, (digit_says b).0 e)
right_byte_lem D b e = omega (arith, (digit_says b).0 e)

-- 14 kept
pub right_bytes : (name : Text) (r : Row) (s : Text) → byte_of_the_wrong_kind name r s ≡ false → Cell s
unfolding byte_of_the_wrong_kind
right_bytes name r s e b m = right_byte_lem r.format b (every_in (right_byte r.format) m (not-false _ e))

-- 13 and 18 kept, where the row has the record's own identifier
pub own_name : (name : Text) (r : Row) (s : Text) → r.need ≡ obligatory → r.holds ≡ identifier → obligatory_field_empty name r s ≡ false
    → not_a_valid_value name r s ≡ false → s ≡ name
unfolding obligatory_field_empty not_a_valid_value is_obligatory is_empty filled valid
own_name name r [] p q e f = absurd (true≢false (rw p at e))
own_name name r (b ∷ s) p q e f = sym ((same_says name (b ∷ s)).0 (not-false _ (rw q at f)))

pub fields_fit : (f : ℕ) (name : Text) (rs : List Row) (cs : List Text) → length cs ≡ length rs → ask_fields f field_order name rs cs
    ≡ keeps
    → Each Cell cs × (width_of cs ≤ longest rs)
unfolding ask_fields field_order width_of sum
fields_fit f name [] [] n e = (none, omega arith)
fields_fit f name [] (c ∷ cs) n e = absurd (omega arith)
fields_fit f name (r ∷ rs) [] n e = absurd (omega arith)
fields_fit f name (r ∷ rs) (c ∷ cs) n e =
    let here = or_else_left (ask_field f field_order name r c) (ask_fields (suc f) field_order name rs cs) e in
    let rest = fields_fit (suc f) name rs cs (omega arith) (or_else_right (ask_field f field_order name r c) _ e) in
    let short = within_size name r c (field_kept f name r c 15 wrong_size (search listed) here) in
    (right_bytes name r c (field_kept f name r c 14 byte_of_the_wrong_kind (search listed) here) also rest.0, omega arith)
