-- The histories that a check can come to: the records read so far, last first. What holds of the table of each history holds of
-- every answer's table; and a line's entry stays as it is.
use Prim.Native.Nat.{ℕ, suc, ◌≤◌}
use mathlib.Core.Path.{◌≡◌, refl, sym, ap, ◌∙◌, subst}
use mathlib.Core.Bool.{Bool, true, false}
use mathlib.Core.List.{List, [], ◌∷◌}
use native.Mathlib.Omega.{arith}
use lib.Dec.{eqb, leb}
use lib.ListN.{length, length-append, get_or-append}
use lib.Seq.{get_or_at}
use borrow.Author.Tests.{eqb-true, eqb-false, leb-true, leb-false, not-false}
use Rattle.dirf.specs.Bytes.{Text}
use Rattle.dirf.specs.Edition.{Edition}
use Rattle.dirf.specs.Lines.{Piece, pieces}
use Rattle.dirf.specs.Rules.{Found, keeps, breaks}
use Rattle.dirf.specs.Tree.{Rec, opening, declarant, parent_of, may_stand}
use Rattle.dirf.specs.Order.{here, contents_of, kind_of_line, closed, may_not_stand_here, order}
use Rattle.dirf.specs.Check.{Entry, entry_of, table_of, Verdict, refused, accepted, no_bytes_left, rec_of, breach, after_line}
use Rattle.dirf.specs.Check.{run, verdict}
use Rattle.dirf.specs.Theorems.Whose.{no_entry, entry_at, kind_at}
use Rattle.dirf.proofs.tests.Bools.{if_cases}
use Rattle.dirf.proofs.tests.Lists.{listed}
use Rattle.dirf.proofs.rules.Asked.{rule_kept}

-- each record may stand after those before it, and its parent is found among them
pub data History (e : Edition) : List Rec → Type 0 where
  start : History e []
  next : {r : Rec} {before : List Rec} → may_stand e before r.kind ≡ true → r.parent ≡ parent_of e before r.kind
      → History e before → History e (r ∷ before)

module _ (e : Edition) where
  pub line_stands : (room : ℕ) (before : List Rec) (p : Piece) → breach e room before p ≡ keeps
      → may_stand e before (kind_of_line e p.body) ≡ true
  unfolding contents_of here may_not_stand_here order breach
  line_stands room before p kept =
      not-false (may_stand e before (kind_of_line e p.body))
      (rule_kept 12 1 may_not_stand_here (here e room before p) (search listed depth 30) kept)

  module _ (P : List Entry → Type 0) (all : (before : List Rec) → History e before → P (table_of before)) (room : ℕ) where
    run_table : (before : List Rec) (ps : List Piece) → History e before → P (run e room before ps).table
    unfolding refused accepted no_bytes_left rec_of after_line run
    run_table before [] h = if_cases (λ (v : Verdict). P v.table) (closed before) (λ _. all before h) (λ _. all before h)
    run_table before (p ∷ ps) h =
        go (breach e room before p) refl
        (λ kept. run_table (rec_of e before p ∷ before) ps (next (line_stands room before p kept) refl h))
      where
        later : Verdict
        later = run e room (rec_of e before p ∷ before) ps

        go : (f : Found) → breach e room before p ≡ f → (breach e room before p ≡ keeps → P later.table)
            → P (after_line before f later).table
        go keeps kept on = on kept
        go (breaks number field) broken on = all before h

    pub answer_table : (file : Text) → P (verdict e file room).table
    unfolding verdict
    answer_table file = run_table [] (pieces file) start

pub table_length : (before : List Rec) → length (table_of before) ≡ length before
unfolding table_of
table_length [] = refl
table_length (r ∷ rs) = simp length-append (omega (arith, table_length rs))

pub entry_last : (r : Rec) (rs : List Rec) → entry_at (table_of (r ∷ rs)) (suc (length rs)) ≡ entry_of r rs
unfolding table_of
entry_last r rs = get_or_at (no_entry ∷ table_of rs) (entry_of r rs) [] no_entry (suc (length rs)) (ap suc (table_length rs))

pub entry_earlier : (r : Rec) (rs : List Rec) (n : ℕ) → n ≤ length rs → entry_at (table_of (r ∷ rs)) n ≡ entry_at (table_of rs) n
unfolding table_of
entry_earlier r rs n h = get_or-append (no_entry ∷ table_of rs) (entry_of r rs ∷ []) no_entry n (omega (arith, table_length rs))

-- a line is an earlier one or the last
pub line_cases : (P : ℕ → Type 0) (last m : ℕ) → (m ≤ last → P m) → P (suc last) → m ≤ suc last → P m
line_cases P last m earlier this h = go (leb m last) refl
  where
    go : (t : Bool) → leb m last ≡ t → P m
    go true q = earlier (leb-true m last q)
    go false q = let e : suc last ≡ m = omega (arith, leb-false m last q) in subst P e this

-- line 3 is the declarant
pub declarant_line : (before : List Rec) → 3 ≤ length before → kind_at (table_of before) 3 ≡ declarant before
unfolding opening declarant entry_of
declarant_line [] h = absurd (omega arith)
declarant_line (r ∷ rs) h =
    if_cases (λ k. kind_at (table_of (r ∷ rs)) 3 ≡ k) (eqb (suc (length rs)) 3)
    (λ q. ap (kind_at (table_of (r ∷ rs))) (sym (eqb-true (suc (length rs)) 3 q)) ∙ ap (λ x. x.kind) (entry_last r rs))
    (λ q.
    let earlier : 3 ≤ length rs = omega (arith, eqb-false (suc (length rs)) 3 q) in
    ap (λ x. x.kind) (entry_earlier r rs 3 earlier) ∙ declarant_line rs earlier)
