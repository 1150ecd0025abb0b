-- Laws of the run over a file's lines: what the lines so far decide.
use Prim.Native.Nat.{ℕ, ◌+◌}
use mathlib.Core.Path.{◌≡◌, refl, sym, ap, ◌∙◌}
use mathlib.Core.Logic.{⊎_elim}
use mathlib.Core.List.{List, [], ◌∷◌, ◌++◌, append-nil}
use native.Mathlib.Omega.{arith}
use native.Mathlib.Nat.{add-zero}
use lib.ListN.{length}
use Rattle.dirf.specs.Bytes.{Text}
use Rattle.dirf.specs.Edition.{Edition}
use Rattle.dirf.specs.Lines.{Piece, pieces}
use Rattle.dirf.specs.Rules.{Found, keeps, breaks, first}
use Rattle.dirf.specs.Tree.{Rec}
use Rattle.dirf.specs.Order.{here, order}
use Rattle.dirf.specs.Check.{rec_of, refused, no_bytes_left, breach, after_line, run, verdict}
use Rattle.dirf.specs.Theorems.Answered.{recs, FirstBroken}
use Rattle.dirf.proofs.rules.Asked.{found_cases}
use Rattle.dirf.proofs.rules.RuleLaws.{first_broken, broken_first}

module _ (e : Edition) (room : ℕ) where
  -- each line keeps every rule, given the records before it
  abbrev pub Kept : List Rec → List Piece → Type 0
  Kept before [] = Unit {0}
  Kept before (p ∷ ps) = (first order (here e room before p) ≡ keeps) × Kept (rec_of e before p ∷ before) ps

  -- one line
  run_line : (before : List Rec) (p : Piece) (ps : List Piece) (x : Found) → first order (here e room before p) ≡ x
      → run e room before (p ∷ ps) ≡ after_line before x (run e room (rec_of e before p ∷ before) ps)
  unfolding run breach
  run_line before p ps x q = ap (λ y. after_line before y (run e room (rec_of e before p ∷ before) ps)) q

  -- lines that keep the rules are passed, and the rest is judged after them
  pub run_kept : (before : List Rec) (ps qs : List Piece) → Kept before ps → run e room before (ps ++ qs) ≡ run e room (recs e before ps) qs
  unfolding after_line
  run_kept before [] qs k = refl
  run_kept before (p ∷ ps) qs k = run_line before p (ps ++ qs) keeps k.0 ∙ run_kept (rec_of e before p ∷ before) ps qs k.1

  -- one or the other: all lines are kept, or one is the first that is not
  pub data Fate (before : List Rec) (ps : List Piece) : Type 0 where
    passes : Kept before ps → Fate before ps
    stops : (os : List Piece) (p : Piece) (qs : List Piece) (n f : ℕ) → ps ≡ os ++ (p ∷ qs) → Kept before os
        → FirstBroken (here e room (recs e before os) p) n f order → Fate before ps

  fate_on : (before : List Rec) (p : Piece) (ps : List Piece) → first order (here e room before p) ≡ keeps
      → Fate (rec_of e before p ∷ before) ps → Fate before (p ∷ ps)
  fate_on before p ps k (passes h) = passes (k, h)
  fate_on before p ps k (stops os q qs n f s h b) = stops (p ∷ os) q qs n f (ap (λ l. p ∷ l) s) (k, h) b

  pub fate : (before : List Rec) (ps : List Piece) → Fate before ps
  fate before [] = passes tt
  fate before (p ∷ ps) =
      ⊎_elim (λ q. fate_on before p ps q (fate (rec_of e before p ∷ before) ps))
      (λ b. stops [] p ps b.0 b.1 refl tt (first_broken order (here e room before p) b.0 b.1 b.2))
      (found_cases (first order (here e room before p)))

  -- a file
  pub kept_verdict : (file : Text) → Kept [] (pieces file) → verdict e file room ≡ no_bytes_left (recs e [] (pieces file))
  unfolding verdict run
  kept_verdict file k = ap (run e room []) (sym (append-nil (pieces file))) ∙ run_kept [] (pieces file) [] k

  -- a line that breaks a rule decides, whatever follows
  pub stops_verdict : (file : Text) (os : List Piece) (p : Piece) (qs : List Piece) (n f : ℕ) → pieces file ≡ os ++ (p ∷ qs) → Kept [] os
      → FirstBroken (here e room (recs e [] os) p) n f order → verdict e file room ≡ refused (recs e [] os) n f
  unfolding verdict after_line
  stops_verdict file os p qs n f s k b =
      ap (run e room []) s ∙ run_kept [] os (p ∷ qs) k ∙ run_line (recs e [] os) p qs (breaks n f) (broken_first b)

  -- each line by itself, and all of them together
  pub kept_at : (before : List Rec) (os : List Piece) (p : Piece) (qs : List Piece) → Kept before (os ++ (p ∷ qs))
      → first order (here e room (recs e before os) p) ≡ keeps
  kept_at before [] p qs k = k.0
  kept_at before (o ∷ os) p qs k = kept_at (rec_of e before o ∷ before) os p qs k.1

  pub at_kept : (before : List Rec) (ps : List Piece)
      → ((os : List Piece) (p : Piece) (qs : List Piece) → ps ≡ os ++ (p ∷ qs) → first order (here e room (recs e before os) p) ≡ keeps)
      → Kept before ps
  at_kept before [] h = tt
  at_kept before (p ∷ ps) h = (h [] p ps refl, at_kept (rec_of e before p ∷ before) ps (λ os q qs s. h (p ∷ os) q qs (ap (λ l. p ∷ l) s)))

  pub kept_append : (before : List Rec) (ps qs : List Piece) → Kept before ps → Kept (recs e before ps) qs → Kept before (ps ++ qs)
  kept_append before [] qs k l = l
  kept_append before (p ∷ ps) qs k l = (k.0, kept_append (rec_of e before p ∷ before) ps qs k.1 l)

module _ (e : Edition) where
  pub recs_append : (before : List Rec) (ps qs : List Piece) → recs e before (ps ++ qs) ≡ recs e (recs e before ps) qs
  recs_append before [] qs = refl
  recs_append before (p ∷ ps) qs = recs_append (rec_of e before p ∷ before) ps qs

  pub length_recs : (before : List Rec) (ps : List Piece) → length (recs e before ps) ≡ length before + length ps
  length_recs before [] = sym (add-zero (length before))
  length_recs before (p ∷ ps) = length_recs (rec_of e before p ∷ before) ps ∙ omega arith
