-- The tables of an edition say it, with the list of the declarant that line 3 names.
use Prim.Native.Nat.{ℕ}
use mathlib.Core.Path.{◌≡◌, sym, subst}
use mathlib.Core.List.{List}
use Rattle.dirf.specs.Bytes.{Text}
use Rattle.dirf.specs.Editions.{EditionName, edition_named}
use Rattle.dirf.proofs.tables.Editions.{sound_named}
use Rattle.identifiers.proofs.Own.{own_name}
use Rattle.layout.specs.Tables.{row_table, below_table}
use Rattle.layout.specs.LaidOut.{SayBelow}
use Rattle.layout.proofs.Laws.{kind_small, says_rows, says_below}
use Rattle.layout.proofs.Editions.{laid_out_lem}
use Rattle.checker.specs.Lines.{third_kind}
use Rattle.checker.specs.Answers.{SayAll}

pub say_all : (n : EditionName) (file : Text) {rows : List ℕ} {below : List (List ℕ)} → rows ≡ row_table (edition_named n)
    → below ≡ below_table (edition_named n) (third_kind (edition_named n) file) → SayAll (edition_named n) rows below file
say_all n file is-rows is_below =
    let e = edition_named n in
    record {
      sound = sound_named n;
      small = kind_small e (laid_out_lem n);
      own = own_name n;
      say = rw is-rows (says_rows e (laid_out_lem n));
      say_below = subst (SayBelow e (third_kind e file)) (sym is_below) (says_below e (laid_out_lem n) (third_kind e file));
    }
