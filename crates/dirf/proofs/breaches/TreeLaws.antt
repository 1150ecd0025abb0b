-- 12: what the test says of the tree.
use Rattle.std.specs.Prelude.{if◌then◌else◌}
use Prim.Native.Nat.{ℕ, zero, suc}
use mathlib.Core.Path.{◌≡◌, refl, sym, subst}
use mathlib.Core.Bool.{Bool, ◌&&◌, ◌||◌}
use mathlib.Core.Logic.{◌⊎◌, inl, inr, ⊎_elim}
use mathlib.Core.List.{List, [], ◌∷◌}
use mathlib.Core.Option.{Option, none, some}
use native.Mathlib.Omega.{arith}
use lib.Dec.{eqb, ltb}
use lib.ListN.{length, get_or}
use borrow.Author.Tests.{lt-ltb, le-ltb}
use Rattle.dirf.specs.Bytes.{is_in, lookup}
use Rattle.dirf.specs.Kinds.{Dirf, RESPO, DECPF, DECPJ, IDREC, BPFDEC, INFPA, ESPA, FIMDirf, pensions}
use Rattle.dirf.specs.Edition.{Edition}
use Rattle.dirf.specs.Tree.{Rec, Open, opening, block_of, suits, may_hold, kind_of_first, place_in, place, may_follow, in_order, is_placed}
use Rattle.dirf.specs.Tree.{may_stand}
use Rattle.dirf.specs.Theorems.Breach.{Holds, Innermost, here, further, NotBefore, Below, StandsAfter, Stands}
use Rattle.dirf.specs.Theorems.Plain.{◌∈◌}
use Rattle.dirf.proofs.tests.Bools.{if_cases}
use Rattle.dirf.proofs.tests.Says.{Says, never, says_and, says_by, denies, says, one_says, two_says}

holds_says : (e : Edition) (d : ℕ) (o : Open) (outer : List Open) (k : ℕ)
    → Says (may_hold e d o.kind (kind_of_first outer) k) (Holds e d o outer k)
unfolding may_hold suits
holds_says e d o outer k =
    let u : ℕ = kind_of_first outer in
    let parts : Says (may_hold e d o.kind u k)
    ((k ∈ lookup [] (e.below d) o.kind) × ((o.kind ≡ IDREC → block_of d k ≡ u) × ((o.kind ≡ INFPA) × (k ≡ ESPA) → u ≡ BPFDEC))) =
    search says depth 12 in
    says_by (λ h. record { listed = h.0; block = h.1.0; person = h.1.1 }) (λ h. (h.listed, (h.block, h.person))) parts

order_says : (c : Option Open) (k : ℕ) → Says (in_order c k) (NotBefore c k)
unfolding in_order may_follow pensions
order_says none k = (λ e. tt, λ h. refl)
order_says (some o) k = search says depth 12

positive : (n : ℕ) → Says (ltb 0 (suc n)) (Unit {0})
positive n = (λ e. tt, λ h. lt-ltb 0 (suc n) (omega arith))

-- the innermost of these is the first, or one further out
innermost_cases : {e : Edition} {d k : ℕ} {c last : Option Open} {x o : Open} {outer : List Open} → Innermost e d k c (x ∷ outer) o last
    → (Holds e d x outer k × (c ≡ last)) ⊎ ((Holds e d x outer k → ⊥) × Innermost e d k (some x) outer o last)
innermost_cases (here h) = inl (h, refl)
innermost_cases (further h i) = inr (h, i)

placed_says : (e : Edition) (d : ℕ) (c : Option Open) (os : List Open) (k : ℕ) → Says (is_placed (place_in e d c os k) k) (Below e d k c os)
unfolding place_in is_placed
placed_says e d c [] k = never (λ f. elim f.innermost [ ])
placed_says e d c (o ∷ os) k =
    let holds = holds_says e d o os k in
    let first : Says (ltb 0 (suc (length os)) && in_order c k) (Unit {0} × NotBefore c k) = search (says_and, positive, order_says) in
    if_cases (λ p. Says (is_placed p k) (Below e d k c (o ∷ os))) (may_hold e d o.kind (kind_of_first os) k)
    (λ q.
    says_by (λ n. record { holder = o; last = c; innermost = here (holds.0 q); ordered = n.1 })
    (λ f. (
      tt,
      ⊎_elim (λ i. subst (λ (l : Option Open). NotBefore l k) (sym i.1) f.ordered) (λ i. absurd (i.0 (holds.0 q)))
          (innermost_cases f.innermost),
    ))
    first)
    (λ q.
    let other = (denies (may_hold e d o.kind (kind_of_first os) k) holds).0 q in
    says_by (λ f. record { holder = f.holder; last = f.last; innermost = further other f.innermost; ordered = f.ordered })
    (λ f.
    ⊎_elim (λ i. absurd (other i.0))
    (λ i. record { holder = f.holder; last = f.last; innermost = i.1; ordered = f.ordered }) (innermost_cases f.innermost))
    (placed_says e d (some o) os k))

pub stands_says : (e : Edition) (before : List Rec) (k : ℕ) → Says (may_stand e before k) (Stands e before k)
unfolding may_stand opening place
stands_says e before k = go (length before)
  where
    test : ℕ → Bool
    test n = if ltb n (length opening) then is_in k (get_or opening n []) else eqb k FIMDirf || is_placed (place e before k) k

    go : (n : ℕ) → Says (test n) (StandsAfter n e before k)
    go zero = one_says k Dirf
    go (suc zero) = one_says k RESPO
    go (suc (suc zero)) = two_says k DECPF DECPJ
    go (suc (suc (suc n))) = rw (le-ltb (suc (suc (suc n))) 3 (omega arith)) (search (says, placed_says))
