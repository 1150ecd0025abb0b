-- The demands of the answer to a file, out of those of an edition: which edition it is hangs on line 1 alone.
use Rattle.std.specs.Prelude.{if◌then◌else◌}
use Prim.Native.Nat.{ℕ, zero, suc, ◌≤◌, ◌<◌}
use mathlib.Core.Path.{◌≡◌, refl, sym, ap, ◌∙◌, subst}
use mathlib.Core.Bool.{false≢true}
use mathlib.Core.List.{List, [], ◌∷◌, ◌++◌}
use native.Mathlib.Omega.{arith}
use lib.Dec.{eqb}
use lib.ListN.{length, get_or}
use borrow.Author.Tests.{eqb-true, eqb-false}
use Rattle.dirf.specs.Bytes.{Text, bytes, every, same, bytes_opens}
use Rattle.dirf.specs.Kinds.{Dirf, kinds_opens}
use Rattle.dirf.specs.Row.{Row, row, C, fixed, obligatory, one_of}
use Rattle.dirf.specs.Layout.{mark2022}
use Rattle.dirf.specs.Edition.{Edition, rows_of, edition_opens}
use Rattle.dirf.specs.Lines.{Piece, pieces, fields, field}
use Rattle.dirf.specs.Editions.{EditionName, of2025, of2022, edition_named, first_body, line1, edition_name_of, edition_of}
use Rattle.dirf.specs.Order.{here, kind_of_line, contents_of, closed}
use Rattle.dirf.specs.Check.{answer_to, refused, no_bytes_left, run, verdict}
use Rattle.dirf.specs.Totals.{total_by, total_of}
use Rattle.dirf.specs.Theorems.Plain.{◌∈◌, Nth, this, next}
use Rattle.dirf.specs.Theorems.Breach.{misplaced, count, missing, invalid}
use Rattle.dirf.specs.Theorems.Answered.{recs, Right, LinesRight, Closed, Accepted}
use Rattle.dirf.specs.Theorems.GoodSoFar.{Whole, empty, ends_in_CR_LF, line_ends, Unfinished, GoodSoFar, GoodUpToHere}
use Rattle.dirf.specs.Theorems.Demands.{Demands}
use Rattle.dirf.specs.Theorems.Files.{Files, FilesTotals}
use Rattle.dirf.specs.Theorems.Totals.{Totals}
use Rattle.dirf.proofs.tests.Bools.{by_answer}
use Rattle.dirf.proofs.tests.Says.{same_says}
use Rattle.dirf.proofs.tests.Lists.{every_in}
use Rattle.dirf.proofs.rules.Columns.{columns_hold}
use Rattle.dirf.proofs.files.WholeLaws.{ends_line}
use Rattle.dirf.proofs.files.Line1.{line1_stays}
use Rattle.dirf.proofs.Demands.{demands_named, totals_named}

-- what is written after a whole line 1 leaves the edition as it is
for_good : (s t : Text) → 1 ≤ line_ends s → edition_name_of (s ++ t) ≡ edition_name_of s
unfolding edition_name_of
for_good s t h = rw (line1_stays s t h)

-- An accepted file has the mark of the edition whose rules accept it.
abbrev mark : EditionName → Text
mark of2025 = bytes "R6GP3ZA"
mark of2022 = mark2022

abbrev mark_row : EditionName → Row
mark_row n = row C fixed 7 obligatory (one_of (mark n ∷ []))

only_mark : (n : EditionName) {s : Text} → s ∈ (mark n ∷ []) → s ≡ mark n
unfolding every same
only_mark of2025 m = (same_says _ _).0 (every_in (λ s. same s (mark of2025)) m refl)
only_mark of2022 m = (same_says _ _).0 (every_in (λ s. same s (mark of2022)) m refl)

sixth_row : (n : EditionName) → Nth (rows_of (edition_named n) Dirf) 6 (mark_row n)
unfolding bytes_opens kinds_opens edition_opens edition_named
sixth_row of2025 = next (next (next (next (next this))))
sixth_row of2022 = next (next (next (next (next this))))

six_rows : (n : EditionName) → length (rows_of (edition_named n) Dirf) ≡ 6
unfolding bytes_opens kinds_opens edition_opens edition_named
six_rows of2025 = refl
six_rows of2022 = refl

nth_cell : (cs : List Text) (i : ℕ) → i < length cs → Nth cs (suc i) (get_or cs i [])
nth_cell [] i h = absurd (omega arith)
nth_cell (c ∷ cs) zero h = this
nth_cell (c ∷ cs) (suc i) h = next (nth_cell cs i (omega arith))

module _ (n : EditionName) (room : ℕ) (p : Piece) (right : Right (here (edition_named n) room [] p)) where
  abbrev cells : List Text
  cells = fields p.body

  abbrev kind : ℕ
  kind = kind_of_line (edition_named n) p.body

  is_dirf : kind ≡ Dirf
  unfolding here contents_of
  is_dirf = by_answer (eqb kind Dirf) (eqb-true kind Dirf) (λ q. absurd (right 12 1 (misplaced (λ k. eqb-false kind Dirf q k))))

  six : length cells ≡ 6
  unfolding here contents_of
  six =
      by_answer (eqb (length cells) (length (rows_of (edition_named n) kind)))
      (λ q. eqb-true (length cells) _ q ∙ ap (λ k. length (rows_of (edition_named n) k)) is_dirf ∙ six_rows n)
      (λ q. absurd (right 11 0 (count (eqb-false (length cells) _ q))))

  -- it is filled, and it is a valid value
  has_mark : field 6 cells ≡ mark n
  unfolding here contents_of field
  has_mark =
      let cell : Text = get_or cells 5 [] in
      let is_row : Nth (rows_of (edition_named n) kind) 6 (mark_row n) =
      subst (λ k. Nth (rows_of (edition_named n) k) 6 (mark_row n)) (sym is_dirf) (sixth_row n) in
      let is-cell : Nth cells 6 cell = nth_cell cells 5 (omega (arith, six)) in
      by_answer (same cell (mark n)) (λ q. (same_says cell (mark n)).0 q)
      (λ q.
      absurd
      (right 18 6
      (invalid 6 (mark_row n) cell (is_row, is-cell)
      (λ none. right 13 6 (missing 6 (mark_row n) (is_row, subst (Nth cells 6) none is-cell) refl))
      (λ valid. false≢true (sym q ∙ (same_says cell (mark n)).1 (only_mark n valid))))))

own_mark : (n : EditionName) (room : ℕ) (ps : List Piece) → LinesRight (edition_named n) room ps → Closed (recs (edition_named n) [] ps)
    → field 6 (fields (first_body ps)) ≡ mark n
unfolding first_body
own_mark n room [] right shut = absurd (omega (arith, ap length shut.2))
own_mark n room (p ∷ ps) right shut = has_mark n room p (right [] p ps refl)

by_mark : (n : EditionName) {s : Text} → s ≡ mark n → (if same s mark2022 then of2022 else of2025) ≡ n
unfolding same
by_mark of2025 e = rw e
by_mark of2022 e = rw e

by_its_own : (n : EditionName) (file : Text) (room : ℕ) → Accepted (edition_named n) file room → edition_name_of file ≡ n
unfolding edition_name_of line1
by_its_own n file room a = by_mark n (own_mark n room (pieces file) a.lines a.shut)

-- Demand 3 of the answer.
of : (file : Text) → Demands (edition_of file)
unfolding edition_of
of file = demands_named (edition_name_of file)

totals_of : (file : Text) → Totals (edition_of file)
unfolding edition_of
totals_of file = totals_named (edition_name_of file)

-- the empty file is open, whatever the edition
open_yet : (e : Edition) (room : ℕ) → (verdict e [] room).number ≤ 1
unfolding pieces verdict run no_bytes_left closed refused
open_yet e room = omega arith

-- and an edition's own four lines close it
of_either : (n : EditionName) (room : ℕ) → 4 ≤ room
    → (t : Text) × Whole t × (line_ends t ≤ 4) × (edition_name_of t ≡ n) × Accepted (edition_named n) t room
unfolding line_ends
of_either n room r =
    let fresh : Unfinished [] room = record { whole = empty; few = omega arith; roomy = r } in
    let (t, w, few, a) = ((demands_named n).good_so_far [] room fresh).can (open_yet (edition_named n) room) in
    (t, w, few, by_its_own n t room a, a)

-- where line 1 is whole, what holds of its edition holds of the answer
good_by : (by : Text → Edition) (s : Text) (room : ℕ) → ((t : Text) → by (s ++ t) ≡ by s) → GoodSoFar (λ file. by s) s room
    → GoodSoFar by s room
good_by by s room stays g =
    record {
      can = λ low. let c = g.can low in (c.0, c.1, c.2, subst (λ e. Accepted e (s ++ c.0) room) (sym (stays c.0)) c.3);
      only_then = λ t a. g.only_then t (subst (λ e. Accepted e (s ++ t) room) (stays t) a);
      final = λ n t. ap (λ e. verdict e (s ++ t) room) (stays t) ∙ g.final n t;
    }

good_so_far : GoodUpToHere edition_of
unfolding edition_of line_ends
good_so_far s room u = go s u u.whole
  where
    go : (s : Text) → Unfinished s room → Whole s → GoodSoFar edition_of s room
    go s u empty =
        let (t, w, few, q, a) = of_either of2025 room u.roomy in
        record {
          can = λ low. (t, w, few, subst (λ n. Accepted (edition_named n) t room) (sym q) a);
          only_then = λ t a. open_yet (edition_of []) room;
          final = λ n t. absurd (n (open_yet (edition_of []) room));
        }
    go s u (ends_in_CR_LF l) =
        good_by edition_of s room (λ t. ap edition_named (for_good s t (ends_line l))) ((of s).good_so_far s room u)

-- of totals: the edition stays, and so does what is read
totals_final : (s : Text) (room : ℕ) → Unfinished s room → ((answer_to s room).number ≤ 1 → ⊥) → (t : Text) (k : ℕ)
    → total_of (s ++ t) room k ≡ total_of s room k
unfolding answer_to total_of edition_of
totals_final s room u refused t k = go s u refused u.whole
  where
    go : (s : Text) → Unfinished s room → ((answer_to s room).number ≤ 1 → ⊥) → Whole s → total_of (s ++ t) room k ≡ total_of s room k
    go s u refused empty = absurd (refused (open_yet (edition_of []) room))
    go s u refused (ends_in_CR_LF l) =
        ap (λ n. total_by (edition_named n) (s ++ t) room k) (for_good s t (ends_line l)) ∙ (totals_of s).final s room u refused t k

pub files : Files
unfolding answer_to
files =
    record {
      answered = λ file. (of file).answered file;
      only = λ file. (of file).only file;
      accepted_exactly = λ file. (of file).accepted_exactly file;
      tests_say = λ file. (of file).tests_say;
      columns_hold = columns_hold;
      counts = λ file. (of file).counts file;
      whose = λ file. (of file).whose file;
      groups = λ file. (of file).groups file;
      entries = λ file. (of file).entries file;
      finds = λ file. (of file).finds file;
      good_so_far = good_so_far;
      for_good = for_good;
      of_either = of_either;
      by_its_own = by_its_own;
    }

pub files_totals : FilesTotals
files_totals = record { totals = totals_of; totals_final = totals_final }
