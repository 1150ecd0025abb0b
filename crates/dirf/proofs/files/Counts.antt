-- What every answer tells of the counts.
use Prim.Native.Nat.{ℕ, suc, ◌≤◌, ◌<◌}
use mathlib.Core.Path.{◌≡◌, refl, ap, ◌∙◌}
use mathlib.Core.Bool.{true}
use mathlib.Core.List.{List, [], ◌∷◌}
use native.Mathlib.Omega.{arith}
use native.Mathlib.Nat.{zero-add}
use lib.ListN.{length}
use Rattle.dirf.specs.Bytes.{Text, is_empty}
use Rattle.dirf.specs.Limits.{lines_limit}
use Rattle.dirf.specs.Edition.{Edition}
use Rattle.dirf.specs.Lines.{Piece, pieces, unclean}
use Rattle.dirf.specs.Rules.{keeps, first}
use Rattle.dirf.specs.Tree.{Rec}
use Rattle.dirf.specs.Order.{here, order}
use Rattle.dirf.specs.Check.{Verdict, rec_of, refused, accepted, verdict}
use Rattle.dirf.specs.Theorems.Breach.{line_65537, ends, stray, full}
use Rattle.dirf.specs.Theorems.Sound.{Sound}
use Rattle.dirf.specs.Theorems.Answered.{recs, Right, Answer, accepts, unclosed, refuses}
use Rattle.dirf.specs.Theorems.GoodSoFar.{line_ends}
use Rattle.dirf.specs.Theorems.Counts.{Counted, Counts}
use Rattle.dirf.proofs.tests.Bools.{by_answer}
use Rattle.dirf.proofs.breaches.CleanLaws.{nothing_unclean, stray_says}
use Rattle.dirf.proofs.tree.History.{table_length}
use Rattle.dirf.proofs.files.RunLaws.{Kept, length_recs}
use Rattle.dirf.proofs.files.WholeLaws.{AllEnded, line_count}
use Rattle.dirf.proofs.files.Answered.{right_exactly, lines_right, answered, broken_number}
use Rattle.dirf.proofs.tests.Says.{empty_says}

module _ (e : Edition) (sound : Sound e) (room : ℕ) where
  -- a line that keeps every rule is ended: else it breaks 5 or 6
  line_ended : (before : List Rec) (p : Piece) → first order (here e room before p) ≡ keeps → p.ended ≡ true
  unfolding here
  line_ended before p k =
      let right : Right (here e room before p) = (right_exactly e sound room before p).0 k in
      by_answer p.ended (λ q. q)
      (λ q.
      absurd (by_answer (is_empty (unclean p.body))
      (λ z. right 5 0 (ends q ((nothing_unclean p.body).0 ((empty_says (unclean p.body)).0 z))))
      (λ z. let b = (stray_says p.body).0 (rw z) in right 6 0 (stray b.0 b.1 b.2))))

  pub all_ended : (before : List Rec) (ps : List Piece) → Kept e room before ps → AllEnded ps
  all_ended before [] k = tt
  all_ended before (p ∷ ps) k = (line_ended before p k.0, all_ended (rec_of e before p ∷ before) ps k.1)

  -- and within the limit and the room
  recs_fit : (before : List Rec) (ps : List Piece) → length before ≤ room → length before ≤ lines_limit → Kept e room before ps
      → (length (recs e before ps) ≤ room) × (length (recs e before ps) ≤ lines_limit)
  unfolding here
  recs_fit before [] a b k = (a, b)
  recs_fit before (p ∷ ps) a b k =
      let right = (right_exactly e sound room before p).0 k.0 in
      let roomy : room < suc (length before) → ⊥ = λ h. right 7 0 (full h) in
      let few : lines_limit ≤ length before → ⊥ = λ h. right 3 0 (line_65537 h) in
      recs_fit (rec_of e before p ∷ before) ps (omega arith) (omega arith) k.1

  -- a refusal after some lines that were kept
  stopped : (file : Text) (ps : List Piece) (n f : ℕ) → 1 ≤ n → Kept e room [] ps → Counted file room (refused (recs e [] ps) n f)
  unfolding refused
  stopped file ps n f h k =
      let before = recs e [] ps in
      let fit = recs_fit [] ps (omega arith) (omega arith) k in
      record {
        when_accepted = λ q. absurd (omega arith);
        when_refused = λ q. ap suc (table_length before);
        fits = omega (arith, table_length before, fit.0);
        few = omega (arith, table_length before, fit.1);
      }

  -- an answer's table: the entries of some lines that were kept
  counted : (file : Text) (v : Verdict) → Answer e file room v → Counted file room v
  unfolding accepted refused
  counted file v (accepts a) =
      let k = (lines_right e sound room (pieces file)).1 a.lines in
      let before = recs e [] (pieces file) in
      let count : length before ≡ line_ends file =
      length_recs e [] (pieces file) ∙ zero-add (length (pieces file)) ∙ line_count file (all_ended [] (pieces file) k) in
      let fit = recs_fit [] (pieces file) (omega arith) (omega arith) k in
      record {
        when_accepted = λ q. (count, table_length before ∙ count);
        when_refused = λ q. absurd (q refl);
        fits = omega (arith, table_length before, fit.0);
        few = omega (arith, table_length before, fit.1);
      }
  counted file v (unclosed l c) = stopped file (pieces file) 1 0 (omega arith) ((lines_right e sound room (pieces file)).1 l)
  counted file v (refuses os p qs n f s l b) =
      stopped file os n f (omega (arith, broken_number e sound room (recs e [] os) p n f b)) ((lines_right e sound room os).1 l)

pub counts : (e : Edition) → Sound e → Counts e
counts e sound file room = counted e sound room file (verdict e file room) (answered e sound file room)
