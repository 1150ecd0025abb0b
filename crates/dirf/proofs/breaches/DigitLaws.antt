-- 26: digits that pass the test are their first ones with both check digits behind them.
use Rattle.std.specs.Prelude.{if◌then◌else◌}
use Prim.Native.Nat.{ℕ, zero, suc, ◌+◌, ◌-◌, ◌%◌, ◌<◌, min}
use mathlib.Core.Path.{◌≡◌, refl, sym, ap, ◌∙◌}
use mathlib.Core.Bool.{◌&&◌, and_assoc}
use mathlib.Core.List.{List, [], ◌∷◌, ◌++◌}
use native.Mathlib.Omega.{arith}
use lib.Dec.{eqb, ltb}
use lib.ListN.{length, get_or, take, length-append, length-take}
use lib.Seq.{length-take-le, take_all, take-suc, take_at, get_or-append_seam}
use borrow.Author.Tests.{eqb-true, eq-eqb}
use Rattle.dirf.specs.Bytes.{Text}
use Rattle.dirf.specs.Row.{Holds, identifier, amount, months, ddd, telephone, cpf, cnpj, cpf_or_cnpj, plain, one_of}
use Rattle.dirf.specs.Digits.{weighted, check_digit, digit_right, digits_right, right_CPF, right_CNPJ}
use Rattle.dirf.specs.Fields.{digits_held}
use Rattle.dirf.specs.Theorems.Plain.{digit_given, with_digit, RightDigits, DigitsHeld}
use Rattle.dirf.proofs.tests.Bools.{and_left, and_right}
use Rattle.dirf.proofs.tests.Says.{Says, always, says_and, says_or, says_by, eqb_says}

-- the sum is of the digits that have a weight
weighted_take : (ws : List ℕ) (s : Text) → weighted ws (take (length ws) s) ≡ weighted ws s
unfolding weighted
weighted_take [] s = refl
weighted_take (w ∷ ws) [] = refl
weighted_take (w ∷ ws) (b ∷ s) = rw (weighted_take ws s)

-- 11 minus the remainder, remainder by remainder
given_by_rest : (r : ℕ) → r < 11 → (if ltb r 2 then 0 else 11 - r) ≡ digit_given r
given_by_rest zero h = refl
given_by_rest (suc zero) h = refl
given_by_rest (suc (suc zero)) h = refl
given_by_rest (suc (suc (suc zero))) h = refl
given_by_rest (suc (suc (suc (suc zero)))) h = refl
given_by_rest (suc (suc (suc (suc (suc zero))))) h = refl
given_by_rest (suc (suc (suc (suc (suc (suc zero)))))) h = refl
given_by_rest (suc (suc (suc (suc (suc (suc (suc zero))))))) h = refl
given_by_rest (suc (suc (suc (suc (suc (suc (suc (suc zero)))))))) h = refl
given_by_rest (suc (suc (suc (suc (suc (suc (suc (suc (suc zero))))))))) h = refl
given_by_rest (suc (suc (suc (suc (suc (suc (suc (suc (suc (suc zero)))))))))) h = refl
given_by_rest (suc (suc (suc (suc (suc (suc (suc (suc (suc (suc (suc r))))))))))) h = absurd (omega arith)

given : (sum : ℕ) → check_digit sum ≡ digit_given (sum % 11)
unfolding check_digit
given sum = given_by_rest (sum % 11) (omega arith)

-- one digit is right exactly when the digits up to it are those before it, with the one that they give
digit_says : (ws : List ℕ) (s : Text) → length ws < length s
    → Says (digit_right ws s) (take (suc (length ws)) s ≡ with_digit ws (take (length ws) s))
unfolding digit_right
digit_says ws s h =
    rw (take-suc s (length ws) 0 h, weighted_take ws s, ← given (weighted ws s))
    (says_by (λ e. ap (λ b. take (length ws) s ++ (b ∷ [])) e) last (eqb_says (get_or s (length ws) 0) (48 + check_digit (weighted ws s))))
  where
    last : {a b : ℕ} → take (length ws) s ++ (a ∷ []) ≡ take (length ws) s ++ (b ∷ []) → a ≡ b
    last {a} {b} e =
        let t = take (length ws) s in
        sym (get_or-append_seam t a [] 0) ∙ ap (λ l. get_or l (length t) 0) e ∙ get_or-append_seam t b [] 0

module _ (front : ℕ) (ws : List ℕ) (s : Text) where
  abbrev n : ℕ
  n = length ws

  -- a text of that size: both digits are right exactly when it is its first digits with those that they give
  sized_says : length s ≡ n + 2 → Says (digit_right ws s && digit_right (front ∷ ws) s) (RightDigits front ws s)
  sized_says l =
      let all = with_digit (front ∷ ws) in
      says_by (λ h. sym whole ∙ h.1 ∙ ap all h.0) (λ e. (body e, whole ∙ e ∙ ap all (sym (body e))))
      (says_and (digit_right ws s) (digit_right (front ∷ ws) s) (digit_says ws s (omega arith)) (digit_says (front ∷ ws) s (omega arith)))
    where
      whole : take (suc (suc n)) s ≡ s
      whole = take_all (suc (suc n)) s (omega arith)

      body : RightDigits front ws s → take (suc n) s ≡ with_digit ws (take n s)
      body e =
          let t = with_digit ws (take n s) in
          ap (take (suc n)) e ∙ take_at t _ (suc n) (rw (length-append, length-take-le n s (omega arith)) (omega arith))

  -- and no text of another size is
  sized : RightDigits front ws s → length s ≡ n + 2
  sized e =
      let l : length s ≡ min n (length s) + 1 + 1 = rw (← length-take n s) (ap length e ∙ rw (length-append, length-append)) in
      omega arith

  pub digits_say : Says (digits_right front ws s) (RightDigits front ws s)
  unfolding digits_right
  digits_say =
      let size = eqb (length s) (n + 2) in
      let both = digit_right ws s && digit_right (front ∷ ws) s in (
        λ t. let h = rw (and_assoc size) at t in (sized_says (eqb-true _ _ (and_left size both h))).0 (and_right size both h),
        λ e. rw (and_assoc size, eq-eqb _ _ (sized e)) ((sized_says (sized e)).1 e),
      )

-- by what the field holds
pub digits_held_say : (h : Holds) (s : Text) → Says (digits_held h s) (DigitsHeld h s)
unfolding digits_held
digits_held_say identifier s = always
digits_held_say amount s = always
digits_held_say months s = always
digits_held_say ddd s = always
digits_held_say telephone s = always
digits_held_say cpf s = digits_say _ _ s
digits_held_say cnpj s = digits_say _ _ s
digits_held_say cpf_or_cnpj s = says_or (right_CPF s) (right_CNPJ s) (digits_say _ _ s) (digits_say _ _ s)
digits_held_say plain s = always
digits_held_say (one_of vs) s = always
