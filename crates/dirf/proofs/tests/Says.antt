-- What computed tests say in plain mathematics.
use Rattle.std.specs.Prelude.{if◌then◌else◌}
use Prim.Native.Nat.{ℕ, ◌≤◌, ◌<◌}
use mathlib.Core.Path.{◌≡◌, refl, sym, ap, ◌∙◌, subst}
use mathlib.Core.Bool.{Bool, true, false, ◌&&◌, ◌||◌, not, true≢false}
use mathlib.Core.Logic.{◌↔◌, ◌⊎◌, ◌≢◌, inl, inr, ⊎_elim}
use mathlib.Core.List.Memᴰ
use mathlib.Core.List.{List, [], ◌∷◌, ◌++◌, nil≢cons}
use mathlib.Core.List.{cons≢nil, head-eq_of_cons-eq, tail-eq_of_cons-eq}
use native.Mathlib.Omega.{arith}
use lib.Dec.{eqb, ltb, leb}
use lib.ListN.{length}
use borrow.Author.Tests.{eqb-true, eq-eqb, leb-true, le-leb, ltb-true, ltb-false, lt-ltb}
use Rattle.dirf.specs.Bytes.{Text, every, some, is_in, same, less, is_digit, is_empty, begins_with, ends_with}
use Rattle.dirf.proofs.tests.Bools.{by_answer}
use Rattle.dirf.specs.Theorems.Plain.{◌∈◌, Smaller, beginning, at_byte}

-- a test says P: it is true exactly when P holds
abbrev pub Says : Bool → Type 0 → Type 0
Says b P = (b ≡ true) ↔ P

-- a test that always holds, and one that never does
pub always : Says true (Unit {0})
always = (λ e. tt, λ h. refl)

pub never : {P : Type 0} → (P → ⊥) → Says false P
never h = (λ e. absurd (true≢false (sym e)), λ p. absurd (h p))

pub says_and : {P Q : Type 0} (a b : Bool) → Says a P → Says b Q → Says (a && b) (P × Q)
says_and true b p q = (λ e. (p.0 refl, q.0 e), λ h. q.1 h.1)
says_and false b p q = (λ e. absurd (true≢false (sym e)), λ h. p.1 h.0)

pub says_or : {P Q : Type 0} (a b : Bool) → Says a P → Says b Q → Says (a || b) (P ⊎ Q)
says_or true b p q = (λ e. inl (p.0 refl), λ h. refl)
says_or false b p q = (λ e. inr (q.0 e), ⊎_elim (λ h. absurd (true≢false (sym (p.1 h)))) q.1)

pub says_not : {P : Type 0} (a : Bool) → Says a P → Says (not a) (P → ⊥)
says_not true p = never (λ h. h (p.0 refl))
says_not false p = (λ e h. true≢false (sym (p.1 h)), λ h. refl)

-- a test asked only where another holds
pub says_if : {P Q : Type 0} (a b : Bool) → Says a P → Says b Q → Says (if a then b else true) (P → Q)
says_if true b p q = (λ e h. q.0 e, λ f. q.1 (f (p.0 refl)))
says_if false b p q = (λ e h. absurd (true≢false (sym (p.1 h))), λ f. refl)

-- a test that is not true does not hold
pub denies : {P : Type 0} (a : Bool) → Says a P → (a ≡ false) ↔ (P → ⊥)
denies true p = (λ e. absurd (true≢false e), λ h. absurd (h (p.0 refl)))
denies false p = (λ e h. true≢false (sym (p.1 h)), λ h. refl)

pub says_by : {P Q : Type 0} {a : Bool} → (P → Q) → (Q → P) → Says a P → Says a Q
says_by f g p = (λ e. f (p.0 e), λ q. p.1 (g q))

-- two tests that say as much answer the same
pub same_answer : {P Q : Type 0} (a b : Bool) → (P → Q) → (Q → P) → Says a P → Says b Q → a ≡ b
same_answer true b f g p q = sym (q.1 (f (p.0 refl)))
same_answer false b f g p q = sym ((denies b q).1 (λ h. true≢false (sym (p.1 (g h)))))

pub eqb_says : (a b : ℕ) → Says (eqb a b) (a ≡ b)
eqb_says a b = (eqb-true a b, eq-eqb a b)

pub leb_says : (a b : ℕ) → Says (leb a b) (a ≤ b)
leb_says a b = (leb-true a b, le-leb a b)

pub ltb_says : (a b : ℕ) → Says (ltb a b) (a < b)
ltb_says a b = (ltb-true a b, lt-ltb a b)

-- below a number, or from it on
pub below_or : {P : Type 0} (n k : ℕ) → (k < n → P) → (n ≤ k → P) → P
below_or n k under past = by_answer (ltb k n) (λ e. under (ltb-true k n e)) (λ e. past (ltb-false k n e))

-- a list of some length has something in it
pub some_length : {A : Type 0} (xs : List A) → (0 < length xs) ↔ (xs ≢ [])
some_length [] = (λ h. omega (arith, h), λ n. absurd (n refl))
some_length (x ∷ xs) = (λ h. cons≢nil, λ n. omega arith)

pub it : {A : Type 0} {x : A} {xs : List A} → x ∈ (x ∷ xs)
it = Memᴰ.head refl

pub on : {A : Type 0} {x y : A} {xs : List A} → x ∈ xs → x ∈ (y ∷ xs)
on m = Memᴰ.tail m

pub alone : {A : Type 0} {x y : A} → x ∈ (y ∷ []) → x ≡ y
alone m = ⊎_elim (λ e. e) (λ m. absurd (Memᴰ.not-nil m)) (Memᴰ.cases_cons m)

module _ {A : Type 0} {x y z : A} where
  pub either_of : x ∈ (y ∷ z ∷ []) → (x ≡ y) ⊎ (x ≡ z)
  either_of m = ⊎_elim inl (λ m. inr (alone m)) (Memᴰ.cases_cons m)

  pub of_either : (x ≡ y) ⊎ (x ≡ z) → x ∈ (y ∷ z ∷ [])
  of_either = ⊎_elim Memᴰ.head (λ e. Memᴰ.tail (Memᴰ.head e))

module _ {A : Type 0} {P : A → Type 0} (test : A → Bool) (says : (x : A) → Says (test x) (P x)) where
  pub some_says : (xs : List A) → Says (some test xs) ((x : A) × (x ∈ xs) × P x)
  unfolding some
  some_says [] = never (λ h. Memᴰ.not-nil h.1)
  some_says (x ∷ xs) =
      says_by (⊎_elim (λ p. (x, it, p)) (λ h. (h.0, on h.1, h.2)))
      (λ h. ⊎_elim (λ e. inl (subst P e h.2)) (λ m. inr (h.0, m, h.2)) (Memᴰ.cases_cons h.1))
      (says_or (test x) (some test xs) (says x) (some_says xs))

  pub every_says : (xs : List A) → Says (every test xs) ((x : A) → x ∈ xs → P x)
  unfolding every
  every_says [] = (λ e x m. absurd (Memᴰ.not-nil m), λ h. refl)
  every_says (x ∷ xs) =
      says_by (λ h y m. ⊎_elim (λ e. subst P (sym e) h.0) (λ m. h.1 y m) (Memᴰ.cases_cons m))
      (λ h. (h x it, λ y m. h y (on m)))
      (says_and (test x) (every test xs) (says x) (every_says xs))

pub is_in_says : (k : ℕ) (ks : List ℕ) → Says (is_in k ks) (k ∈ ks)
unfolding is_in
is_in_says k ks = says_by (λ h. Memᴰ.cast h.2 h.1) (λ m. (k, m, refl)) (some_says (eqb k) (eqb_says k) ks)

-- a list of one or two numbers
pub one_says : (k a : ℕ) → Says (is_in k (a ∷ [])) (k ≡ a)
one_says k a = says_by alone Memᴰ.head (is_in_says k (a ∷ []))

pub two_says : (k a b : ℕ) → Says (is_in k (a ∷ b ∷ [])) ((k ≡ a) ⊎ (k ≡ b))
two_says k a b = says_by either_of of_either (is_in_says k (a ∷ b ∷ []))

pub digit_says : (b : ℕ) → Says (is_digit b) ((48 ≤ b) × (b ≤ 57))
unfolding is_digit
digit_says b = says_and (leb 48 b) (leb b 57) (leb_says 48 b) (leb_says b 57)

pub empty_says : (s : Text) → Says (is_empty s) (s ≡ [])
unfolding is_empty
empty_says [] = (λ e. refl, λ h. refl)
empty_says (b ∷ s) = never cons≢nil

pub same_says : (a b : Text) → Says (same a b) (a ≡ b)
unfolding same
same_says [] [] = (λ e. refl, λ h. refl)
same_says [] (y ∷ ys) = never nil≢cons
same_says (x ∷ xs) [] = never cons≢nil
same_says (x ∷ xs) (y ∷ ys) =
    says_by (λ h. cc (h.0, h.1)) (λ h. (head-eq_of_cons-eq h, tail-eq_of_cons-eq h))
    (says_and (eqb x y) (same xs ys) (eqb_says x y) (same_says xs ys))

-- `search says` finds what a test says that is put together from these
pub ruleset says = (says_and, says_or, says_not, says_if, eqb_says, leb_says, ltb_says, is_in_says, digit_says, empty_says, same_says)

pub begins_says : (b : ℕ) (s : Text) → Says (begins_with b s) ((t : Text) × (s ≡ b ∷ t))
unfolding begins_with
begins_says b [] = never (λ h. nil≢cons h.1)
begins_says b (x ∷ xs) = says_by (λ e. (xs, ap (λ y. y ∷ xs) e)) (λ h. head-eq_of_cons-eq h.1) (eqb_says x b)

not_empty : (s t : Text) (x : ℕ) → [] ≡ s ++ (x ∷ t) → ⊥
not_empty [] t x e = nil≢cons e
not_empty (y ∷ s) t x e = nil≢cons e

pub ends_says : (b : ℕ) (s : Text) → Says (ends_with b s) ((t : Text) × (s ≡ t ++ (b ∷ [])))
unfolding ends_with
ends_says b [] = never (λ h. not_empty h.0 [] b h.1)
ends_says b (x ∷ []) = says_by (λ e. ([], ap (λ y. y ∷ []) e)) (λ h. only h.0 h.1) (eqb_says x b)
  where
    only : (t : Text) → x ∷ [] ≡ t ++ (b ∷ []) → x ≡ b
    only [] e = head-eq_of_cons-eq e
    only (y ∷ t) e = absurd (not_empty t [] b (tail-eq_of_cons-eq e))
ends_says b (x ∷ y ∷ ys) = says_by (λ h. (x ∷ h.0, ap (λ l. x ∷ l) h.1)) (λ h. less_one h.0 h.1) (ends_says b (y ∷ ys))
  where
    less_one : (t : Text) → x ∷ y ∷ ys ≡ t ++ (b ∷ []) → (u : Text) × (y ∷ ys ≡ u ++ (b ∷ []))
    less_one [] e = absurd (cons≢nil (tail-eq_of_cons-eq e))
    less_one (z ∷ t) e = (t, tail-eq_of_cons-eq e)

-- no text is smaller than the empty one
none_smaller : {a : Text} → Smaller a [] → ⊥
none_smaller {a} (beginning c t e) = not_empty a t c e
none_smaller (at_byte s y z t u e q h) = not_empty s u z q

-- "byte by byte, a proper beginning first"
pub less_says : (a b : Text) → Says (less a b) (Smaller a b)
unfolding less
less_says [] [] = never none_smaller
less_says [] (y ∷ ys) = (λ e. beginning y ys refl, λ h. refl)
less_says (x ∷ xs) [] = never none_smaller
less_says (x ∷ xs) (y ∷ ys) =
    says_by (⊎_elim (λ h. at_byte [] x y xs ys refl refl h) (λ h. behind h.0 h.1)) split
    (says_or (ltb x y) (eqb x y && less xs ys) (ltb_says x y) (says_and (eqb x y) (less xs ys) (eqb_says x y) (less_says xs ys)))
  where
    behind : x ≡ y → Smaller xs ys → Smaller (x ∷ xs) (y ∷ ys)
    behind e (beginning c t q) = beginning c t (cc)
    behind e (at_byte s b c t u q r h) = at_byte (x ∷ s) b c t u (cc) (cc) h

    split : Smaller (x ∷ xs) (y ∷ ys) → (x < y) ⊎ ((x ≡ y) × Smaller xs ys)
    split (beginning c t e) = inr (sym (head-eq_of_cons-eq e), beginning c t (tail-eq_of_cons-eq e))
    split (at_byte [] b c t u q r h) = inl (omega (arith, head-eq_of_cons-eq q, head-eq_of_cons-eq r))
    split (at_byte (z ∷ s) b c t u q r h) =
        inr (head-eq_of_cons-eq q ∙ sym (head-eq_of_cons-eq r), at_byte s b c t u (tail-eq_of_cons-eq q) (tail-eq_of_cons-eq r) h)
