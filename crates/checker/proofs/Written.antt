-- What the check leaves behind is what specs/Left says, whatever the file and the table: told of the contract of `check`.
use Prim.Native.Nat.{ℕ, ◌+◌, ◌-◌, ◌*◌, ◌/◌, ◌≤◌}
use mathlib.Core.Path.{◌≡◌, refl, sym, ◌∙◌, subst}
use mathlib.Core.List.{List, ◌++◌}
use native.Mathlib.Omega.{arith}
use lib.ListN.{length, get_or, drop}
use lib.Seq.{take_at, get_or-append-add, get_or-drop}
use Rattle.dirf.specs.Bytes.{Text}
use Rattle.dirf.specs.Limits.{numbers_an_entry}
use Rattle.dirf.specs.Check.{numbers_of, Verdict, answer_to}
use Rattle.dirf.proofs.files.Files.{files}
use Rattle.checker.specs.Answers.{answer_of, with_numbers, table_after}
use Rattle.checker.specs.Left.{Left}
use Rattle.checker.proofs.Table.{length_numbers, after_length}
use Rattle.checker.proofs.check.Reads as check

-- entries, and behind them what stood there: nothing past them is touched
past : (front before : List ℕ) (i : ℕ) → length front ≤ i → get_or (front ++ drop (length front) before) i 0 ≡ get_or before i 0
past front before i h =
    let j = i - length front in
    let at : length front + j ≡ i = omega arith in
    subst (λ i. get_or (front ++ drop (length front) before) i 0 ≡ get_or before i 0) at
    (get_or-append-add front (drop (length front) before) j 0 ∙ get_or-drop (length front) before j 0)

left : (file : Text) (before : List ℕ)
    → let v = answer_to file (length before / numbers_an_entry) in Left file before (table_after v before) (answer_of v)
unfolding answer_of with_numbers table_after
left file before =
    let room : ℕ = length before / numbers_an_entry in
    let v : Verdict = answer_to file room in
    let count = files.counts file room in
    let long : length (numbers_of v.table) ≡ numbers_an_entry * length v.table = length_numbers v.table in
    record {
      entries = v.table;
      count = refl;
      begins = take_at (numbers_of v.table) (drop (length (numbers_of v.table)) before) (numbers_an_entry * length v.table) long;
      accepted = λ q. (count.when_accepted q).1 ∙ sym (count.when_accepted q).0;
      refused = count.when_refused;
      untouched = λ i h. past (numbers_of v.table) before i (omega (arith, long));
      same_length = after_length v before count.fits;
      whose = files.whose file room;
      groups = files.groups file room;
      pointed = files.entries file room;
    }

pub check_left : (κs : _) (a : _) (x : _) (s : _) → check.Post κs a x s → Left a.0.now a.1.0.now s.1.0.now x
check_left κs a x s p = rw (p.0, p.1) (left a.0.now a.1.0.now)
