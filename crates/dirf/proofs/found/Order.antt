-- In what order beneficiaries stand below an IDREC: persons of one kind, then companies.
use Rattle.std.specs.Prelude.{if◌then◌else◌}
use Prim.Native.Nat.{ℕ, ◌≤◌, ◌<◌}
use mathlib.Core.Path.{◌≡◌, refl, sym, ap, ◌∙◌, subst}
use mathlib.Core.Bool.{Bool, true, ◌||◌, not}
use mathlib.Core.Logic.{⊎_elim}
use mathlib.Core.List.{List, ◌∷◌}
use native.Mathlib.Omega.{arith}
use lib.Dec.{eqb, ltb}
use lib.ListN.{length}
use borrow.Author.Tests.{eqb-true, eq-eqb, ltb-true}
use Rattle.dirf.specs.Bytes.{every, is_in, bytes_opens}
use Rattle.dirf.specs.Kinds.{IDREC, declarants, beneficiaries, companies, kinds_opens}
use Rattle.dirf.specs.Edition.{Edition, edition_opens}
use Rattle.dirf.specs.Tree.{Rec, block_of, number_of_first, kind_of_first}
use Rattle.dirf.specs.Check.{Entry, entry_of, table_of}
use Rattle.dirf.specs.Theorems.Plain.{◌∈◌}
use Rattle.dirf.specs.Theorems.Belongs.{parents_of, level, belongs_opens}
use Rattle.dirf.specs.Theorems.Sound.{Sound}
use Rattle.dirf.specs.Theorems.Whose.{kind_at, parent_at, IsLine}
use Rattle.dirf.proofs.tests.Bools.{by_answer, or_cases}
use Rattle.dirf.proofs.tests.Says.{is_in_says}
use Rattle.dirf.proofs.tests.Lists.{every_in}
use Rattle.dirf.proofs.tree.Belongs.{of_parents, parent_deeper}
use Rattle.dirf.proofs.tree.History.{History}
use Rattle.dirf.proofs.tree.OpenRecords.{last_least}
use Rattle.dirf.proofs.tree.Held.{held, has_holder}
use Rattle.dirf.proofs.tree.Whose.{owned}

-- what stands below an IDREC is a beneficiary
idrec_below : (h k : ℕ) → h ≡ IDREC → h ∈ parents_of k → k ∈ beneficiaries
unfolding bytes_opens kinds_opens edition_opens belongs_opens
idrec_below h k is m =
    (is_in_says k beneficiaries).0
    (rw (eq-eqb h IDREC is) at (of_parents (λ k h. not (eqb h IDREC) || is_in k beneficiaries) refl h k m))

-- two of one block are of one kind, or a person's and a company's, the person's being the lower
abbrev ordered : ℕ → ℕ → Bool
ordered x y = if is_in x companies then is_in y companies || ltb y x else is_in y companies || eqb x y

of_one_block : (d x y : ℕ) → d ∈ declarants → x ∈ beneficiaries → y ∈ beneficiaries → block_of d x ≡ block_of d y → ordered x y ≡ true
unfolding bytes_opens kinds_opens block_of
of_one_block d x y is-d is_x is_y q =
    let all = every_in (λ y. not (eqb (block_of d x) (block_of d y)) || ordered x y) is_y
    (every_in (λ x. every (λ y. not (eqb (block_of d x) (block_of d y)) || ordered x y) beneficiaries) is_x
    (every_in (λ d. every (λ x. every (λ y. not (eqb (block_of d x) (block_of d y)) || ordered x y) beneficiaries) beneficiaries)
    is-d refl)) in
    rw (eq-eqb (block_of d x) (block_of d y) q) at all

idrec_level : (k : ℕ) → k ≡ IDREC → level k < 3
unfolding bytes_opens kinds_opens level
idrec_level k q = subst (λ k. level k < 3) (sym q) (omega arith)

module _ (e : Edition) (sound : Sound e) {all : List Rec} (h : History e all) (n : ℕ) (one : 1 ≤ n)
    (is : kind_at (table_of all) n ≡ IDREC) where
  abbrev t : List Entry
  t = table_of all

  -- line m stands directly below the IDREC
  abbrev Under : ℕ → Type 0
  Under m = IsLine t m × (parent_at t m ≡ n)

  pub beneficiary : (m : ℕ) → Under m → kind_at t m ∈ beneficiaries
  beneficiary m u =
      let s = has_holder e sound h m u.0 (omega (arith, u.1)) in
      idrec_below (kind_at t n) (kind_at t m) is (subst (λ p. kind_at t p ∈ parents_of (kind_at t m)) u.1 s.to)

  deep : (m : ℕ) → Under m → 0 < level (kind_at t m)
  deep m u =
      omega (arith, parent_deeper _ (kind_at t m) (has_holder e sound h m u.0 (omega (arith, u.1))).to)

  of_block : (m : ℕ) → Under m → kind_at t (parent_at t n) ≡ block_of (kind_at t 3) (kind_at t m)
  of_block m u = rw u.1 at (has_holder e sound h m u.0 (omega (arith, u.1))).own_block is

  module _ (a b : ℕ) (ua : Under a) (ub : Under b) (less : a < b) where
    -- no earlier one is of a later kind
    grows : kind_at t a ≤ kind_at t b
    unfolding entry_of number_of_first kind_of_first
    grows =
        let y = held e sound h b ub.0 (deep b ub) in
        let x = y.read in
        let small : a ≤ length x.before = omega (arith, x.number) in
        let at : y.o.number ≡ n = sym y.parent ∙ ub.1 in
        let above : y.o.number ≤ length x.before = omega (arith, y.above, x.number) in
        let kind : y.o.kind ≡ IDREC =
        sym y.known.kind ∙ ap (λ z. z.kind) (sym (x.earlier y.o.number above)) ∙ ap (kind_at t) at ∙ is in
        let least = last_least x.before y.last (y.o ∷ y.outer) x.this.kind (λ _. y.ordered) y.known_last
        (y.known.line.0, idrec_level y.o.kind kind) a small
        (ap (λ z. z.parent) (sym (x.earlier a small)) ∙ ua.1 ∙ sym at) in
        omega (arith, least, ap (λ z. z.kind) (x.earlier a small), ap (λ z. z.kind) x.entry)

    -- both are of the IDREC's block
    two : ordered (kind_at t a) (kind_at t b) ≡ true
    two =
        let y = held e sound h b ub.0 (deep b ub) in
        of_one_block (kind_at t 3) (kind_at t a) (kind_at t b)
        ((owned e sound all h).declarant (omega (arith, y.after, y.read.number, ub.0.1))) (beneficiary a ua) (beneficiary b ub)
        (sym (of_block a ua) ∙ of_block b ub)

    pub companies_last : kind_at t a ∈ companies → kind_at t b ∈ companies
    companies_last c =
        ⊎_elim (λ q. (is_in_says (kind_at t b) companies).0 q)
        (λ q. absurd (omega (arith, grows, ltb-true (kind_at t b) (kind_at t a) q)))
        (or_cases (is_in (kind_at t b) companies) (ltb (kind_at t b) (kind_at t a))
        (rw ((is_in_says (kind_at t a) companies).1 c) at two))

    pub one_kind : (kind_at t a ∈ companies → ⊥) → (kind_at t b ∈ companies → ⊥) → kind_at t a ≡ kind_at t b
    one_kind no-a no-b =
        ⊎_elim (λ q. absurd (no-b ((is_in_says (kind_at t b) companies).0 q))) (eqb-true (kind_at t a) (kind_at t b))
        (or_cases (is_in (kind_at t b) companies) (eqb (kind_at t a) (kind_at t b))
        (rw (by_answer (is_in (kind_at t a) companies) (λ q. absurd (no-a ((is_in_says (kind_at t a) companies).0 q))) (λ q. q)) at two))
