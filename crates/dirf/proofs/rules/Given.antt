-- A rule finds nothing exactly when its own test, in whatever form it comes, gives nothing.
use Prim.Native.Nat.{ℕ, suc}
use mathlib.Core.Path.{◌≡◌, sym, ◌∙◌}
use mathlib.Core.Bool.{false, true≢false}
use mathlib.Core.Logic.{◌↔◌, ⊎_elim}
use mathlib.Core.List.{List}
use Rattle.dirf.specs.Bytes.{Text}
use Rattle.dirf.specs.Row.{Row}
use Rattle.dirf.specs.Fields.{FieldRule}
use Rattle.dirf.specs.Rules.{keeps, Rule, ask_field, ask_fields, ask, first}
use Rattle.dirf.specs.Theorems.Plain.{◌∈◌, Nth, this, next}
use Rattle.dirf.specs.Theorems.Answered.{Given, by_test, by_field, by_condition}
use Rattle.dirf.proofs.tests.Says.{is_in_says}
use Rattle.dirf.proofs.rules.Asked.{found_cases, given_false, or_else_left, or_else_right, one_kept, all_kept, first_tries}
use Rattle.dirf.proofs.rules.Asked.{condition_tries, field_kept, ask_breaks}

row_kept : {rs : List Row} {cs : List Text} {n : ℕ} {r : Row} {s : Text} (xs : List FieldRule) (name : Text) (f : ℕ)
    → Nth rs n r → Nth cs n s → ask_fields f xs name rs cs ≡ keeps → (x : FieldRule) → x ∈ xs → x.1 name r s ≡ false
unfolding ask_fields
row_kept xs name f (this {x = r} {xs = rs}) (this {x = c} {xs = cs}) e x m =
    field_kept f name r c x.0 x.1 m (or_else_left (ask_field f xs name r c) (ask_fields (suc f) xs name rs cs) e)
row_kept xs name f (this {x = r} {xs = rs}) (next {x = c} {xs = cs} j) e x m = elim j [ ]
row_kept xs name f (next {x = r} {xs = rs} i) (this {x = c} {xs = cs}) e x m = elim i [ ]
row_kept xs name f (next {x = r} {xs = rs} i) (next {x = c} {xs = cs} j) e x m =
    row_kept xs name (suc f) i j (or_else_right (ask_field f xs name r c) (ask_fields (suc f) xs name rs cs) e) x m

module _ {A : Type 0} where
  pub keeps_gives_none : {a : A} {n f : ℕ} {r : Rule A} → ask r a ≡ keeps → Given a n f r → ⊥
  unfolding ask
  keeps_gives_none e (by_test {m = n} {g = f} p q t) = true≢false (sym t ∙ given_false n f _ e)
  keeps_gives_none e (by_field {xs} x r s m p i j t) = true≢false (sym t ∙ row_kept xs _ 1 i j e x m)
  keeps_gives_none {a} e (by_condition {m = n} {xs} {of} x q m p k t) =
      let kept = given_false n x.field _ (one_kept _ _ (condition_tries n (of a).kind (of a).cells) m e) in
      true≢false (sym t ∙ (rw ((is_in_says (of a).kind x.kinds).1 k) at kept))

  pub none_given_keeps : (a : A) (r : Rule A) → ((n f : ℕ) → Given a n f r → ⊥) → ask r a ≡ keeps
  none_given_keeps a r no_one = ⊎_elim (λ q. q) (λ b. absurd (no_one b.0 b.1 (ask_breaks r a b.2))) (found_cases (ask r a))

  -- a list is kept exactly when no rule of it gives anything
  pub none_given : (rs : List (Rule A)) (a : A) → (first rs a ≡ keeps) ↔ ((n f : ℕ) (r : Rule A) → r ∈ rs → Given a n f r → ⊥)
  none_given rs a = (
    λ e n f r m g. keeps_gives_none (one_kept _ _ (first_tries a) m e) g,
    λ h. all_kept _ _ (first_tries a) rs (λ r m. none_given_keeps a r (λ n f g. h n f r m g)),
  )
