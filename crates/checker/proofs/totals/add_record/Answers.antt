-- From its first amount on, as many as its kind has.
use Prim.Native.Nat.{ℕ}
use mathlib.Core.Path.{◌≡◌, sym, ap, ap₂, ◌∙◌, subst}
use native.Mathlib.Omega.{arith}
use lib.ListN.{length, drop}
use lib.Seq.{drop-length}
use borrow.Author.Tests.{eqb-true}
use Rattle.std.specs.Prelude.{Option, Some, None}
use Rattle.dirf.specs.Lines.{fields}
use Rattle.dirf.specs.Bytes.{Text}
use Rattle.dirf.specs.FieldReader.{field_start}
use Rattle.dirf.specs.LineWriter.{sum}
use Rattle.dirf.specs.Tables.{first_amount, amount_count, from_amounts}
use Rattle.fields.specs.Places.{part_of, place_of}
use Rattle.fields.specs.declared.Place.{Place}
use Rattle.fields.proofs.Spots.{placed, unplaced}
use Rattle.checker.specs.Totals.{add_at, sum_of, line_sum, Summable}
use Rattle.checker.proofs.Lent.{add_past, add_none}
use Rattle.checker.proofs.totals.add_record.Goals as goal

-- where a field begins by the answer that there is: at its place, else at the line's end
abbrev begins : Text → Option Place → ℕ
begins part (Some p) = p.start
begins part None = length part

begins_at : (f : ℕ) (part : Text) (o : Option Place) → o ≡ place_of part f → begins part o ≡ field_start f part
begins_at f part (Some p) q = (placed f part p (sym q)).start
begins_at f part None q = sym (unplaced f part (sym q)).1

-- the bytes behind the bar before the first amount are those from which the amounts are added
cut : (k : ℕ) (line : Text) {part tail : Text} {o : Option Place} {first : ℕ} → part ≡ line → first ≡ first_amount k
    → o ≡ place_of part first → tail ≡ drop (begins part o) part → tail ≡ from_amounts k line
cut k line {part} {o} {first = f} same q e t =
    t ∙ ap (λ x. drop x part) (begins_at f part o e ∙ ap (λ f. field_start f part) q) ∙ ap (from_amounts k) same

-- a line that has no first amount has none
no_amount : (k : ℕ) (line : Text) {part : Text} {first : ℕ} → part ≡ line → first ≡ first_amount k → None ≡ place_of part first
    → length (fields (from_amounts k line)) ≡ 0
unfolding fields
no_amount k line {part} same q e =
    ap (λ s. length (fields s)) (sym (cut k line same q e (sym (drop-length part))))

pub returns-then-is_empty : goal.returns-then-is_empty
returns-then-is_empty c =
    let a = c.args in
    sym (add_past a.totals.now a.r.kind _
    (omega (arith, eqb-true (length a.totals.now) 0 (sym c.if-is_empty.ensures))))

pub returns-then-n-eq0 : goal.returns-then-n-eq0
unfolding line_sum sum_of sum
returns-then-n-eq0 c =
    let t = c.args.totals.now in
    let none : line_sum c.args.r.kind (part_of c.args.file.now c.args.at c.args.r.len) ≡ 0 =
    ap (λ n. sum_of n (from_amounts c.args.r.kind (part_of c.args.file.now c.args.at c.args.r.len))) (sym c.amount_count-n.ensures
    ∙ c.if-n-eq0.true) in
    sym (ap (add_at t c.args.r.kind) none ∙ add_none t c.args.r.kind)

pub sum_of-requires : goal.sum_of-requires
sum_of-requires c =
    let line = part_of c.args.file.now c.args.at c.args.r.len in
    let from = cut c.args.r.kind line c.part-line.ensures.0 c.first_amount.ensures c.in-Some.ensures c.tail.ensures in
    subst (λ n. Summable n c.tail.result.now) (sym c.amount_count-n.ensures)
    (subst (Summable (amount_count c.args.r.kind)) (sym from) c.requires.summable)

pub add-requires : goal.add-requires
unfolding line_sum
add-requires c =
    let line = part_of c.args.file.now c.args.at c.args.r.len in
    let from = cut c.args.r.kind line c.part-line.ensures.0 c.first_amount.ensures c.in-Some.ensures c.tail.ensures in
    let summed : c.sum_of.result.0 ≡ line_sum c.args.r.kind line = c.sum_of.ensures ∙ ap₂ sum_of c.amount_count-n.ensures from in
    rw summed c.requires.fits

pub returns-in-Some : goal.returns-in-Some
unfolding line_sum
returns-in-Some c =
    let line = part_of c.args.file.now c.args.at c.args.r.len in
    let from = cut c.args.r.kind line c.part-line.ensures.0 c.first_amount.ensures c.in-Some.ensures c.tail.ensures in
    let summed : c.sum_of.result.0 ≡ line_sum c.args.r.kind line = c.sum_of.ensures ∙ ap₂ sum_of c.amount_count-n.ensures from in
    c.add.ensures ∙ ap (add_at _ _) summed

-- a record that has amounts has the first
pub returns-in_default : goal.returns-in_default
returns-in_default c =
    let line = part_of c.args.file.now c.args.at c.args.r.len in
    let none = no_amount c.args.r.kind line c.part-line.ensures.0 c.first_amount.ensures c.in_default.ensures in
    absurd (c.if-n-eq0.false (omega (arith, c.amount_count-n.ensures, c.requires.summable.many, none)))
