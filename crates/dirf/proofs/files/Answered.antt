-- Demand 2: the verdict is accepted, unclosed, or refused at the first line that breaks a rule, by the first rule in order; and nothing
-- else of that form is the verdict.
use Prim.Native.Nat.{ℕ, ◌≤◌}
use mathlib.Core.Path.{◌≡◌, refl, sym, ap, ◌∙◌, subst}
use mathlib.Core.Bool.{true}
use mathlib.Core.Logic.{◌↔◌}
use mathlib.Core.List.{List, []}
use lib.Dec.{leb}
use borrow.Author.Tests.{leb-true}
use native.Mathlib.Omega.{arith}
use Rattle.dirf.specs.Bytes.{Text, every}
use Rattle.dirf.specs.Edition.{Edition}
use Rattle.dirf.specs.Lines.{Piece, pieces}
use Rattle.dirf.specs.Fields.{fields_opens}
use Rattle.dirf.specs.Conditions.{conditions_opens}
use Rattle.dirf.specs.Rules.{keeps, first}
use Rattle.dirf.specs.Tree.{Rec}
use Rattle.dirf.specs.Order.{here, order, closed}
use Rattle.dirf.specs.Check.{Verdict, refused, accepted, no_bytes_left, verdict}
use Rattle.dirf.specs.Theorems.Sound.{Sound}
use Rattle.dirf.specs.Theorems.Answered.{recs, Right, LinesRight, Closed, Accepted, FirstBroken, Answer, accepts, unclosed, refuses}
use Rattle.dirf.specs.Theorems.Answered.{Answered, Only, AcceptedExactly}
use Rattle.dirf.proofs.tests.Bools.{by_answer}
use Rattle.dirf.proofs.tests.Says.{denies}
use Rattle.dirf.proofs.tests.Lists.{every_in}
use Rattle.dirf.proofs.rules.Asked.{numbers_pass, given_number}
use Rattle.dirf.proofs.rules.Given.{none_given}
use Rattle.dirf.proofs.rules.RuleLaws.{broken_given}
use Rattle.dirf.proofs.breaches.TestsSay.{tests_say, closed_says}
use Rattle.dirf.proofs.files.RunLaws.{Kept, Fate, passes, stops, fate, kept_verdict, stops_verdict, kept_at, at_kept}

-- computed over the list: no rule gives 0 or 1
order_big : every (numbers_pass (leb 2)) order ≡ true
unfolding every fields_opens conditions_opens order
order_big = refl

-- what a file's end comes to
pub shut_ends : (before : List Rec) → Closed before → no_bytes_left before ≡ accepted before
unfolding no_bytes_left
shut_ends before c = rw ((closed_says before).1 c)

pub open_ends : (before : List Rec) → (Closed before → ⊥) → no_bytes_left before ≡ refused before 1 0
unfolding no_bytes_left
open_ends before c = rw ((denies (closed before) (closed_says before)).1 c)

module _ (e : Edition) (sound : Sound e) where
  -- a line keeps every rule of the list exactly when it breaks none of the table
  pub right_exactly : (room : ℕ) (before : List Rec) (p : Piece)
      → (first order (here e room before p) ≡ keeps) ↔ Right (here e room before p)
  right_exactly room before p =
      let h = here e room before p in (
        λ k n f b. let g = (tests_say e sound room before p n f).0 b in (none_given order h).0 k n f g.0 g.1 g.2,
        λ r. (none_given order h).1 (λ n f x m g. r n f ((tests_say e sound room before p n f).1 (x, m, g))),
      )

  pub lines_right : (room : ℕ) (ps : List Piece) → Kept e room [] ps ↔ LinesRight e room ps
  lines_right room ps = (
    λ k os p qs s. (right_exactly room (recs e [] os) p).0 (kept_at e room [] os p qs (subst (Kept e room []) s k)),
    λ l. at_kept e room [] ps (λ os p qs s. (right_exactly room (recs e [] os) p).1 (l os p qs s)),
  )

  -- what is named first has a number that is neither 0 nor 1
  pub broken_number : (room : ℕ) (before : List Rec) (p : Piece) (n f : ℕ) → FirstBroken (here e room before p) n f order → 2 ≤ n
  broken_number room before p n f b =
      let g = broken_given b in
      leb-true 2 n (given_number (leb 2) g.2 (every_in (numbers_pass (leb 2)) g.1 order_big))

  pub answered : Answered e
  answered file room = go (fate e room [] (pieces file))
    where
      go : Fate e room [] (pieces file) → Answer e file room (verdict e file room)
      go (passes k) =
          let all = recs e [] (pieces file) in
          let l = (lines_right room (pieces file)).0 k in
          rw (kept_verdict e room file k)
          (by_answer (closed all) (λ q. let c = (closed_says all).0 q in rw (shut_ends all c) (accepts (record { lines = l; shut = c })))
          (λ q. let c = (denies (closed all) (closed_says all)).0 q in rw (open_ends all c) (unclosed l c)))
      go (stops os p qs n f s k b) =
          rw (stops_verdict e room file os p qs n f s k b) (refuses os p qs n f s ((lines_right room os).0 k) b)

  pub only : Only e
  only file room v (accepts a) =
      sym (kept_verdict e room file ((lines_right room (pieces file)).1 a.lines) ∙ shut_ends (recs e [] (pieces file)) a.shut)
  only file room v (unclosed l c) =
      sym (kept_verdict e room file ((lines_right room (pieces file)).1 l) ∙ open_ends (recs e [] (pieces file)) c)
  only file room v (refuses os p qs n f s l b) = sym (stops_verdict e room file os p qs n f s ((lines_right room os).1 l) b)

  -- number 0, by the one answer there is
  zero_accepted : (file : Text) (room : ℕ) (v : Verdict) → Answer e file room v → v.number ≡ 0 → Accepted e file room
  unfolding refused
  zero_accepted file room v (accepts a) q = a
  zero_accepted file room v (unclosed l c) q = absurd (omega arith)
  zero_accepted file room v (refuses os p qs n f s l b) q = absurd (omega (arith, broken_number room (recs e [] os) p n f b))

  pub accepted_exactly : AcceptedExactly e
  unfolding accepted
  accepted_exactly file room = (
    zero_accepted file room (verdict e file room) (answered file room),
    λ a. ap (λ (v : Verdict). v.number) (sym (only file room (accepted (recs e [] (pieces file))) (accepts a))),
  )
