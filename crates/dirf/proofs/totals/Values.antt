-- One amount: what the amount reader gives of a field that keeps the rules of its row.
use Prim.Native.Nat.{ℕ, ◌≤◌}
use mathlib.Core.Path.{◌≡◌, refl, sym}
use mathlib.Core.Bool.{true, false, ◌&&◌, not, true≢false}
use mathlib.Core.Logic.{⊎_elim}
use native.Mathlib.Omega.{arith}
use lib.Dec.{eqb}
use borrow.Author.Tests.{eqb-true, not-false}
use Rattle.dirf.specs.Bytes.{Text, every, is_digit, begins_with}
use Rattle.dirf.specs.Limits.{amount_size, largest}
use Rattle.dirf.specs.Row.{Row, Format, C, N, D, Holds, identifier, amount, months, ddd, telephone, cpf, cnpj, cpf_or_cnpj, plain}
use Rattle.dirf.specs.Row.{one_of}
use Rattle.dirf.specs.Numbers.{value_of}
use Rattle.dirf.specs.Fields.{right_byte, takes_no_zero, byte_of_the_wrong_kind, wrong_size, zero_in_front, field_order}
use Rattle.dirf.specs.Rules.{keeps, ask_field}
use Rattle.dirf.specs.Amounts.{read_amount}
use Rattle.dirf.specs.Totals.{is_amount}
use Rattle.dirf.specs.Tables.{numeric, is_fixed, digits_up_to, goes_with}
use Rattle.dirf.proofs.tests.Bools.{and_left, and_right, or_cases}
use Rattle.dirf.proofs.tests.Lists.{listed}
use Rattle.dirf.proofs.rules.Asked.{field_kept}
use Rattle.dirf.proofs.back.KeptFields.{within_size}
use Rattle.dirf.proofs.back.NumbersBack.{read_bound, read_digits}

pub value_bound : (c : Text) → (read_amount c).value ≤ largest amount_size
unfolding read_amount
value_bound c = read_bound amount_size c

holds_amount : (h : Holds) → is_amount h ≡ true → h ≡ amount
unfolding is_amount
holds_amount identifier q = absurd (true≢false (sym q))
holds_amount amount q = refl
holds_amount months q = absurd (true≢false (sym q))
holds_amount ddd q = absurd (true≢false (sym q))
holds_amount telephone q = absurd (true≢false (sym q))
holds_amount cpf q = absurd (true≢false (sym q))
holds_amount cnpj q = absurd (true≢false (sym q))
holds_amount cpf_or_cnpj q = absurd (true≢false (sym q))
holds_amount plain q = absurd (true≢false (sym q))
holds_amount (one_of vs) q = absurd (true≢false (sym q))

is_numeric : (g : Format) → numeric g ≡ true → g ≡ N
is_numeric C q = absurd (true≢false (sym q))
is_numeric N q = refl
is_numeric D q = absurd (true≢false (sym q))

-- a row of amounts is numeric and has at most thirteen digits
record AmountRow (r : Row) : Type 0 where
  format : r.format ≡ N
  short : r.size ≤ amount_size

up_to : (n : ℕ) (r : Row) → n ≤ amount_size → digits_up_to n r ≡ true → AmountRow r
up_to n r h q =
    let free = not (is_fixed r.fill) in
    record {
      format = is_numeric r.format (and_left (numeric r.format) free (and_left (numeric r.format && free) (eqb r.size n) q));
      short = omega (arith, eqb-true r.size n (and_right (numeric r.format && free) (eqb r.size n) q));
    }

amount_row_lem : (r : Row) → r.holds ≡ amount → goes_with r.holds r ≡ true → AmountRow r
amount_row_lem r h q =
    ⊎_elim (up_to 13 r (omega arith)) (up_to 9 r (omega arith)) (or_cases (digits_up_to 13 r) (digits_up_to 9 r) (rw h at q))

-- digits, and their value is what the amount reader gives
pub record Money (c : Text) : Type 0 where
  pub digits : every is_digit c ≡ true
  pub value : (read_amount c).value ≡ value_of c

pub money : (f : ℕ) (name : Text) (r : Row) (c : Text) → is_amount r.holds ≡ true → goes_with r.holds r ≡ true
    → ask_field f field_order name r c ≡ keeps → Money c
unfolding read_amount byte_of_the_wrong_kind zero_in_front right_byte takes_no_zero field_order
money f name r c a g k =
    let h = holds_amount r.holds a in
    let row = amount_row_lem r h g in
    let right : every (right_byte r.format) c ≡ true =
    not-false _ (field_kept f name r c 14 byte_of_the_wrong_kind (search listed) k) in
    let d : every is_digit c ≡ true = rw row.format at right in
    let s = within_size name r c (field_kept f name r c 15 wrong_size (search listed) k) in
    let front : (takes_no_zero r.holds && begins_with 48 c) ≡ false = field_kept f name r c 16 zero_in_front (search listed) k in
    let z : begins_with 48 c ≡ false = rw h at front in
    record { digits = d; value = read_digits amount_size c d (omega (arith, row.short)) z }
