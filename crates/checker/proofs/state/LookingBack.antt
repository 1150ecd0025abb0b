-- The rules that look back ask the same of the state as of the records: 21 and 20.
use Prim.Native.Nat.{ℕ, ◌<◌}
use mathlib.Core.Path.{◌≡◌, refl, sym, ap, ap₂, ◌∙◌}
use mathlib.Core.Bool.{true, ◌&&◌, Bool, false, not, and-true}
use mathlib.Core.List.{List}
use mathlib.Core.Option.{Option, none, some}
use native.Mathlib.Omega.{arith}
use lib.Dec.{eqb}
use borrow.Author.Tests.{ne_eqb}
use Rattle.dirf.specs.Bytes.{Text}
use Rattle.dirf.specs.Kinds.{stands_once}
use Rattle.dirf.specs.Edition.{Edition}
use Rattle.dirf.specs.Tree.{Rec, parent_of}
use Rattle.dirf.specs.Tree.{may_stand}
use Rattle.dirf.specs.Theorems.Belongs.{level}
use Rattle.dirf.specs.Lines.{fields, field}
use Rattle.dirf.specs.Rules.{given, or_else}
use Rattle.dirf.specs.Keys.{has_key, key_of, key_less, last_under, is_some, not_after}
use Rattle.dirf.proofs.tree.Parents.{has_parent}
use Rattle.dirf.proofs.tree.OpenRecords.{first_line}
use Rattle.dirf.proofs.tree.Opened.{placed}
use Rattle.dirf.proofs.tree.LastOfKind.{last_of, if_under, last_by_kind}
use Rattle.dirf.proofs.tests.Bools.{by_answer}
use Rattle.dirf.proofs.tree.Levels.{key_below, once_below}
use Rattle.fields.specs.Places.{key_parts}
use Rattle.fields.proofs.PlaceLaws.{key_of_cells}
use Rattle.kinds.specs.Kinds.{kinds}
use Rattle.checker.specs.State.{last_in, last_line}
use Rattle.checker.specs.State.{stood_on, repeated_on, key_on, look_found}
use Rattle.checker.specs.State.{Past}
use Rattle.checker.specs.declared.state.State.{State}
use Rattle.checker.proofs.state.Sums.{parent_in, Sums}

module _ {e : Edition} {below : List (List ℕ)} {text : Text} {st : State} {past : Past} {before : List Rec}
    (h : Sums e below text st past before) (k : ℕ) (stands : may_stand e before k ≡ true) where
  abbrev p : ℕ
  p = parent_of e before k

  -- what is asked of the line of the last of a kind: it stood under its parent exactly where the state remembers that parent
  asked_same : (f : Text → Bool) (g : Option Rec → Bool) → g none ≡ false → ((r : Rec) → f r.line ≡ g (some r)) → k < kinds
      → 0 < level k → (stood_on (last_in past k) p && f (last_line text (last_in past k))) ≡ g (last_under before p k)
  unfolding stood_on last_in parent_in if_under parent_of
  asked_same f g of_none of_some small deep =
      ap (λ u. eqb u p && f (last_line text (last_in past k))) (h.past.under k small) ∙ go (last_of before k) refl
      ∙ ap g (sym (last_by_kind e h.sound h.history k stands deep))
    where
      above_zero : 0 < p
      above_zero = first_line (placed e h.sound h.history k).known (has_parent e before k deep stands).1

      go : (l : Option Rec) → last_of before k ≡ l → (eqb (parent_in l) p && f (last_line text (last_in past k))) ≡ g (if_under p l)
      go none q = rw (ne_eqb 0 p (λ z. omega (arith, above_zero))) (sym of_none)
      go (some r) q =
          by_answer (eqb r.parent p) (λ t. rw t (ap f (h.past.line k small r q) ∙ of_some r)) (λ t. rw t (sym of_none))

  -- the rules that look back ask the same of the state as of the records: 21 and 20
  pub look_same : k < kinds → (second third : Text) (cells : List Text) → second ≡ field 2 cells → third ≡ field 3 cells
      → look_found text (last_in past k) k p second third
      ≡ or_else (given 21 1 (stands_once k && is_some (last_under before p k)))
      (given 20 2 (has_key k && not_after k cells (last_under before p k)))
  unfolding look_found repeated_on key_on is_some not_after
  look_same small second third cells x y =
      ap₂ (λ s t. or_else (given 21 1 s) (given 20 2 t))
      (by_answer (stands_once k)
      (λ t. rw t (sym (and-true _) ∙ asked_same (λ _. true) is_some refl (λ r. refl) small (once_below k t)))
      (λ t. rw t))
      (by_answer (has_key k)
      (λ t.
      rw t
      (asked_same (λ line. not (key_less (key_of k (fields line)) (key_parts k second third))) (not_after k cells) refl
      (λ r. ap (λ m. not (key_less (key_of k (fields r.line)) m)) (ap₂ (key_parts k) x y ∙ sym (key_of_cells k cells)))
      small (key_below k t)))
      (λ t. rw t))
