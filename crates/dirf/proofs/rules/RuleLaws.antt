-- What the first breach of a list of rules says: which rule gives it, and where.
use Prim.Native.Nat.{ℕ}
use mathlib.Core.Path.{◌≡◌, ◌∙◌}
use mathlib.Core.Logic.{⊎_elim}
use mathlib.Core.List.{List, [], ◌∷◌}
use Rattle.dirf.specs.Rules.{breaks, or_else, Rule, ask, first}
use Rattle.dirf.specs.Theorems.Plain.{◌∈◌}
use Rattle.dirf.specs.Theorems.Answered.{Given, FirstBroken, this, later}
use Rattle.dirf.proofs.tests.Says.{it, on}
use Rattle.dirf.proofs.rules.Asked.{keeps≢breaks, found_cases, ask_breaks}

module _ {A : Type 0} where
  pub first_broken : (rs : List (Rule A)) (a : A) (n f : ℕ) → first rs a ≡ breaks n f → FirstBroken a n f rs
  unfolding first or_else
  first_broken [] a n f e = absurd (keeps≢breaks e)
  first_broken (r ∷ rs) a n f e =
      ⊎_elim (λ q. later q (first_broken rs a n f (rw q at e))) (λ b. this (b.2 ∙ (rw b.2 at e))) (found_cases (ask r a))

  pub broken_first : {a : A} {n f : ℕ} {rs : List (Rule A)} → FirstBroken a n f rs → first rs a ≡ breaks n f
  unfolding first or_else
  broken_first (this e) = rw e
  broken_first (later e b) = rw e (broken_first b)

  -- it is given by a rule of the list
  pub broken_given : {a : A} {n f : ℕ} {rs : List (Rule A)} → FirstBroken a n f rs → (r : Rule A) × (r ∈ rs) × Given a n f r
  broken_given {a = a} (this {r = r} e) = (r, it, ask_breaks r a e)
  broken_given (later e b) = let h = broken_given b in (h.0, on h.1, h.2)
