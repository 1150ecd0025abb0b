-- The edition whose tables are made is the file's own.
use Prim.Native.Nat.{ℕ}
use mathlib.Core.Path.{◌≡◌, subst}
use mathlib.Core.List.{List}
use Rattle.dirf.specs.Bytes.{Text}
use Rattle.dirf.specs.Editions.{EditionName, edition_named, edition_name_of, edition_of}
use Rattle.dirf.specs.Totals.{total_by}
use Rattle.checker.specs.Answers.{Judged}
use Rattle.checker.specs.Totals.{totals_in}
use Rattle.checker.specs.declared.Answer.{Answer}
use Rattle.checker.proofs.judged.Goals as goal

own : {n : EditionName} {file : Text} {room : ℕ} {before after : List ℕ} {r : Answer} → n ≡ edition_name_of file
    → Judged (edition_named n) file room before after r → Judged (edition_of file) file room before after r
unfolding edition_of
own {n} {file} {room} {before} {after} {r} e = subst (λ n. Judged (edition_named n) file room before after r) e

own_totals : {n : EditionName} (file : Text) (room : ℕ) (first : List ℕ) {last : List ℕ} → n ≡ edition_name_of file
    → last ≡ totals_in (total_by (edition_named n) file room) first → last ≡ totals_in (total_by (edition_of file) file room) first
unfolding edition_of
own_totals {n} file room first {last} e = subst (λ n. last ≡ totals_in (total_by (edition_named n) file room) first) e

pub returns-then-third_kind-eq-DECPF : goal.returns-then-third_kind-eq-DECPF
returns-then-third_kind-eq-DECPF c =
    let w = c.walk_pf.ensures in
    record {
      judged = own c.edition_of-e.ensures w.judged;
      totals = own_totals c.args.file.now c.args.room c.args.totals.now
          c.edition_of-e.ensures w.totals;
    }

pub returns : goal.returns
returns c =
    let w = c.walk_pj.ensures in
    record {
      judged = own c.edition_of-e.ensures w.judged;
      totals = own_totals c.args.file.now c.args.room c.args.totals.now
          c.edition_of-e.ensures w.totals;
    }
