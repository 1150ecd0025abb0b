-- The bytes before the first CR or LF, and those from it on.
use Prim.Native.Nat.{ℕ}
use mathlib.Core.Path.{◌≡◌, refl, sym, ap, ◌∙◌, subst}
use mathlib.Core.Bool.{false, not}
use mathlib.Core.Logic.{◌↔◌, ◌⊎◌, inl, inr, ⊎_elim}
use mathlib.Core.List.Memᴰ
use mathlib.Core.List.{[], ◌∷◌, ◌++◌, append-nil, cons≢nil, head-eq_of_cons-eq}
use mathlib.Core.List.{tail-eq_of_cons-eq, nil≢cons}
use Rattle.dirf.specs.Bytes.{Text, is_empty}
use Rattle.dirf.specs.Limits.{CR, LF}
use Rattle.dirf.specs.Lines.{is_line_end, clean, unclean}
use Rattle.dirf.specs.Order.{nothing_or_CR}
use Rattle.dirf.specs.Theorems.Plain.{◌∈◌, NoLineEnd}
use Rattle.dirf.proofs.tests.Bools.{if_cases, by_answer}
use Rattle.dirf.proofs.tests.Says.{Says, never, says_or, says_by, says_not, denies, eqb_says, empty_says, it, on}
use lib.Dec.{eqb}

pub line_end_says : (b : ℕ) → Says (is_line_end b) ((b ≡ 13) ⊎ (b ≡ 10))
unfolding is_line_end
line_end_says b = says_or (eqb b CR) (eqb b LF) (eqb_says b CR) (eqb_says b LF)

-- what a byte is, and what it leaves of the rest
no_end_cons : {b : ℕ} {s : Text} → is_line_end b ≡ false → NoLineEnd s → NoLineEnd (b ∷ s)
no_end_cons {b} {s} e n c m =
    ⊎_elim
    (λ q. let h = (denies (is_line_end c) (line_end_says c)).0 (ap is_line_end q ∙ e) in (λ r. h (inl r), λ r. h (inr r)))
    (λ q. n c q) (Memᴰ.cases_cons m)

no_end_head : {b : ℕ} {s : Text} → NoLineEnd (b ∷ s) → is_line_end b ≡ false
no_end_head {b} n = (denies (is_line_end b) (line_end_says b)).1 (⊎_elim (n b it).0 (n b it).1)

no_end_tail : {b : ℕ} {s : Text} → NoLineEnd (b ∷ s) → NoLineEnd s
no_end_tail n c m = n c (on m)

pub clean_none : (s : Text) → NoLineEnd (clean s)
unfolding clean
clean_none [] = λ c m. absurd (Memᴰ.not-nil m)
clean_none (b ∷ s) =
    if_cases NoLineEnd (is_line_end b) (λ _ c m. absurd (Memᴰ.not-nil m)) (λ e. no_end_cons e (clean_none s))

pub clean_unclean : (s : Text) → s ≡ clean s ++ unclean s
unfolding clean unclean
clean_unclean [] = refl
clean_unclean (b ∷ s) = by_answer (is_line_end b) (λ e. rw e) (λ e. rw e (ap (λ l. b ∷ l) (clean_unclean s)))

pub clean_front : (a b : Text) → NoLineEnd a → clean (a ++ b) ≡ a ++ clean b
unfolding clean
clean_front [] b n = refl
clean_front (x ∷ a) b n = rw (no_end_head n, clean) (ap (λ l. x ∷ l) (clean_front a b (no_end_tail n)))

pub clean_whole : (s : Text) → NoLineEnd s → clean s ≡ s
unfolding clean
clean_whole s n = ap clean (sym (append-nil s)) ∙ clean_front s [] n ∙ append-nil s

pub unclean_front : (a b : Text) → NoLineEnd a → unclean (a ++ b) ≡ unclean b
unfolding unclean
unclean_front [] b n = refl
unclean_front (x ∷ a) b n = rw (no_end_head n, unclean) (unclean_front a b (no_end_tail n))

-- nothing is left exactly when no byte is CR or LF
pub nothing_unclean : (s : Text) → (unclean s ≡ []) ↔ NoLineEnd s
unfolding unclean
nothing_unclean s = (
  λ e. subst NoLineEnd (sym (clean_unclean s ∙ ap (λ l. clean s ++ l) e ∙ append-nil (clean s))) (clean_none s),
  λ n. ap unclean (sym (append-nil s)) ∙ unclean_front s [] n,
)

-- what is left begins with a CR or LF
pub unclean_begins : (s : Text) (b : ℕ) (t : Text) → unclean s ≡ b ∷ t → (b ≡ 13) ⊎ (b ≡ 10)
unfolding unclean
unclean_begins [] b t e = absurd (nil≢cons e)
unclean_begins (x ∷ s) b t e =
    by_answer (is_line_end x) (λ q. (line_end_says b).0 (ap is_line_end (sym (head-eq_of_cons-eq (rw q at e))) ∙ q))
    (λ q. unclean_begins s b t (rw q at e))

nothing_or_CR_says : (u : Text) → Says (nothing_or_CR u) ((u ≡ []) ⊎ (u ≡ 13 ∷ []))
unfolding nothing_or_CR
nothing_or_CR_says [] = (λ e. inl refl, λ h. refl)
nothing_or_CR_says (b ∷ []) =
    says_by (λ e. inr (ap (λ x. x ∷ []) e)) (⊎_elim (λ e. absurd (cons≢nil e)) head-eq_of_cons-eq) (eqb_says b 13)
nothing_or_CR_says (b ∷ c ∷ s) = never (⊎_elim cons≢nil (λ e. cons≢nil (tail-eq_of_cons-eq e)))

-- 5: no CR or LF, or a CR as the last byte and none before it
pub cut_says : (s : Text) → Says (nothing_or_CR (unclean s)) (NoLineEnd s ⊎ ((a : Text) × (s ≡ a ++ (13 ∷ [])) × NoLineEnd a))
unfolding unclean is_line_end
cut_says s =
    says_by
    (⊎_elim (λ e. inl ((nothing_unclean s).0 e)) (λ e. inr (clean s, clean_unclean s ∙ ap (λ l. clean s ++ l) e, clean_none s)))
    (⊎_elim (λ n. inl ((nothing_unclean s).1 n)) (λ h. inr (ap unclean h.1 ∙ unclean_front h.0 (13 ∷ []) h.2)))
    (nothing_or_CR_says (unclean s))

-- 6: some byte is CR or LF
pub stray_says : (s : Text) → Says (not (is_empty (unclean s))) ((b : ℕ) × (b ∈ s) × ((b ≡ 13) ⊎ (b ≡ 10)))
stray_says s =
    says_by (there (unclean s) refl) (λ h e. let n = (nothing_unclean s).0 e h.0 h.1 in ⊎_elim n.0 n.1 h.2)
    (says_not (is_empty (unclean s)) (empty_says (unclean s)))
  where
    there : (u : Text) → unclean s ≡ u → (unclean s ≡ [] → ⊥) → (b : ℕ) × (b ∈ s) × ((b ≡ 13) ⊎ (b ≡ 10))
    there [] e h = absurd (h e)
    there (b ∷ t) e h =
        let whole = clean_unclean s ∙ ap (λ l. clean s ++ l) e in
        (b, subst (λ (l : Text). b ∈ l) (sym whole) (Memᴰ.append_right (clean s) it), unclean_begins s b t e)
