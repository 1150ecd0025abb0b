-- Whose is it? Proved of the table of every history, and so of every answer's.
use Prim.Native.Nat.{ℕ, zero, suc, ◌≤◌, ◌<◌}
use mathlib.Core.Path.{◌≡◌, refl, sym, ap, ◌∙◌, subst}
use mathlib.Core.Logic.{inl, inr, ⊎_elim}
use mathlib.Core.List.Memᴰ
use mathlib.Core.List.{List, ◌∷◌}
use native.Mathlib.Omega.{arith}
use lib.Dec.{eqb}
use lib.ListN.{length}
use borrow.Author.Tests.{eqb-true, eqb-false}
use Rattle.dirf.specs.Kinds.{IDREC, PSE, declarants, blocks, pensions, values}
use Rattle.dirf.specs.Edition.{Edition}
use Rattle.dirf.specs.Tree.{Rec, opening, kind_of_first, number_of_first, may_stand}
use Rattle.dirf.specs.Check.{Entry, entry_of, table_of}
use Rattle.dirf.specs.Theorems.Plain.{◌∈◌}
use Rattle.dirf.specs.Theorems.Belongs.{group_of, of_a_person, persons, of_a_plan}
use Rattle.dirf.specs.Theorems.Sound.{Sound}
use Rattle.dirf.specs.Theorems.Whose.{kind_at, parent_at, IsLine, PersonOf, Owned, Whose}
use Rattle.dirf.proofs.tests.Bools.{by_answer}
use Rattle.dirf.proofs.tests.Says.{is_in_says, below_or}
use Rattle.dirf.proofs.tree.Belongs.{idrec_deep, idrec_high, idrec_parent, idrec_no_plan, idrec_group, later_block, pse_block}
use Rattle.dirf.proofs.tree.Belongs.{plan_parent}
use Rattle.dirf.proofs.tree.Belongs.{value_deep, value_parent, pension_deep, pension_parent, pension_listed, person_group}
use Rattle.dirf.proofs.tree.Belongs.{pension_group}
use Rattle.dirf.proofs.tree.History.{History, answer_table}
use Rattle.dirf.proofs.tree.OpenRecords.{last_least, holder_parent}
use Rattle.dirf.proofs.tree.Held.{Below, held, line, below, whose_line, has_holder, above_is_line, in_group, third, block_third}

module _ (e : Edition) (sound : Sound e) where
  module _ {all : List Rec} (h : History e all) where
    abbrev t : List Entry
    t = table_of all

    line_3 : 3 ≤ length t → kind_at t 3 ∈ declarants
    unfolding entry_of opening may_stand
    line_3 few =
        let x = line e sound h 3 (omega arith, few) in
        let two : length x.before ≡ 2 = omega (arith, x.number) in
        rw (x.entry, kind_at) ((is_in_says x.this.kind declarants).0 (rw two at x.stands))

    -- no block stands between an IDREC and what it belongs to: below a block none does, and below the declarant their order forbids it
    no_block : (n : ℕ) → IsLine t n → kind_at t n ≡ IDREC → (m : ℕ) → parent_at t n < m → m < n → kind_at t m ∈ blocks → ⊥
    unfolding entry_of number_of_first kind_of_first
    no_block n l i m over under block =
        let y = held e sound h n l (idrec_deep (kind_at t n) i) in
        let x = y.read in
        let s = has_holder e sound h n l (omega (arith, y.parent, y.known.line.0)) in
        let l' : IsLine t m = (omega arith, omega (arith, l.1)) in
        let three : parent_at t m ≡ 3 = (block_third e sound h m l' block).1 in
        let p = parent_at t n in
        let lp = above_is_line e sound h l s.above in
        let holder : p ≡ 3 =
        ⊎_elim (third e sound h p lp)
        (λ b. absurd (omega (arith, (block_third e sound h p lp b).0, s.unbroken m over under, three)))
        (idrec_parent (kind_at t p) (kind_at t n) i s.to) in
        let small : m ≤ length x.before = omega (arith, x.number) in
        let least = last_least x.before y.last (y.o ∷ y.outer) x.this.kind (λ _. y.ordered) y.known_last (
          y.known.line.0,
          idrec_high y.o.kind x.this.kind (ap (λ z. z.kind) (sym x.entry) ∙ i)
              (holder_parent e _ _ sound _ _ y.holds),
        )
        m small (ap (λ z. z.parent) (sym (x.earlier m small)) ∙ omega (arith, three, holder, y.parent)) in
        omega (arith, least, ap (λ z. z.kind) (x.earlier m small), later_block block, ap (λ z. z.kind) x.entry, i)

    module _ (n : ℕ) (l : IsLine t n) where
      abbrev p : ℕ
      p = parent_at t n

      -- nothing of a health plan stands between an IDREC and what it belongs to: its PSE would be a block between them
      no_plan : kind_at t n ≡ IDREC → Below e sound h n p → (f m : ℕ) → m < f → p < m → m < n → kind_at t m ∈ of_a_plan → ⊥
      no_plan i s zero m low over under of-plan = absurd (omega arith)
      no_plan i s (suc f) m low over under of-plan =
          let x = has_holder e sound h m (omega arith, omega (arith, l.1)) (omega (arith, s.unbroken m over under, s.above.0)) in
          let q = parent_at t m in
          let up = plan_parent (kind_at t q) (kind_at t m) of-plan x.to in
          by_answer (eqb q p)
          (λ e. idrec_no_plan (kind_at t p) (kind_at t n) i s.to (subst (λ j. kind_at t j ∈ PSE ∷ of_a_plan) (eqb-true q p e) up))
          (λ e.
          let further : p < q = omega (arith, s.unbroken m over under, eqb-false q p e) in
          ⊎_elim (λ b. no_block n l i q further (omega (arith, x.above.1)) (pse_block b))
          (no_plan i s f q (omega (arith, x.above.1)) further (omega (arith, x.above.1))) (Memᴰ.cases_cons up))

      idrec_between : kind_at t n ≡ IDREC → (m : ℕ) → p < m → m < n → kind_at t m ∈ IDREC ∷ persons
      idrec_between i m over under =
          let s = below e sound h n l (idrec_deep (kind_at t n) i) in
          ⊎_elim (λ b. absurd (no_block n l i m over under b))
          (⊎_elim (λ q. absurd (no_plan i s (suc m) m (omega arith) over under q)) (λ x. x))
          (idrec_group (kind_at t p) (kind_at t m) (kind_at t n) i s.to
          (in_group e sound h s.above.0 (omega (arith, l.1)) s.unbroken m over under))

      -- the person of a value record is its parent, or that of the INFPC or INFPA above it
      person_of : kind_at t n ∈ values → (b : ℕ) × PersonOf t n b
      person_of v =
          let s = below e sound h n l (value_deep v) in
          let grouped = in_group e sound h s.above.0 (omega (arith, l.1)) s.unbroken in
          ⊎_elim
          (λ b. (
            p,
            record {
              above = s.above;
              person = b;
              parent = inl refl;
              between = λ m x y. person_group (kind_at t p) (kind_at t m) b (grouped m x y);
            },
          ))
          (λ c. through c s grouped) (value_parent (kind_at t p) (kind_at t n) v s.to)
        where
          through : kind_at t p ∈ pensions → Below e sound h n p → ((m : ℕ) → p < m → m < n → kind_at t m ∈ group_of (kind_at t p))
              → (b : ℕ) × PersonOf t n b
          through c s grouped =
              let lp = above_is_line e sound h l s.above in
              let x = below e sound h p lp (pension_deep c) in
              let person = pension_parent (kind_at t (parent_at t p)) (kind_at t p) c x.to in (
                parent_at t p,
                record {
                  above = (x.above.0, omega (arith, x.above.1, s.above.1));
                  person = person;
                  parent = inr (c, refl);
                  between = λ m v w.
                      below_or p m
                      (λ before.
                      person_group (kind_at t (parent_at t p)) (kind_at t m) person
                      (in_group e sound h x.above.0 (omega (arith, lp.1)) x.unbroken m v before))
                      (λ after.
                      by_answer (eqb m p) (λ q. subst (λ j. kind_at t j ∈ of_a_person) (sym (eqb-true m p q)) (pension_listed c))
                      (λ q. pension_group (kind_at t p) (kind_at t m) c (grouped m (omega (arith, eqb-false m p q)) w)));
                },
              )

  pub owned : (before : List Rec) → History e before → Owned (table_of before)
  owned before h =
      record {
        line = λ n l.
            ⊎_elim inl
            (λ s.
            inr
            (record {
              above = s.above;
              to = s.to;
              unbroken = s.unbroken;
              between = in_group e sound h s.above.0 (omega (arith, l.1)) s.unbroken;
              own_block = s.own_block;
              own_person = s.own_person;
            }))
            (whose_line e sound h n l);
        declarant = line_3 h;
        one_declarant = third e sound h;
        idrec = idrec_between h;
        person = person_of h;
      }

pub whose : (e : Edition) → Sound e → Whose e
whose e sound file room = answer_table e Owned (owned e sound) room file
