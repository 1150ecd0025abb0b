-- The order of keys is an order. Texts compare byte by byte and keys field by field: both as lists, at the first difference.
use mathlib.Core.Path.{◌≡◌, refl}
use mathlib.Core.Bool.{Bool, true, false, ◌&&◌, ◌||◌, false≢true, and-false, or-true}
use mathlib.Core.List.{List, [], ◌∷◌}
use mathlib.Core.Logic.{◌⊎◌, inl, inr, ⊎_elim}
use native.Mathlib.Omega.{arith}
use lib.Dec.{eqb, ltb}
use borrow.Author.Tests.{ltb-true, lt-ltb, le-ltb, eqb-true}
use Rattle.dirf.specs.Bytes.{same, less}
use Rattle.dirf.specs.Keys.{key_less}
use Rattle.dirf.specs.Theorems.ThereAndBack.{KeysOrdered}
use Rattle.dirf.proofs.tests.Says.{same_says}

-- at the first elements: smaller, or the same and the rest decides
decided : (s t u : Bool) → s || t && u ≡ true → (s ≡ true) ⊎ ((t ≡ true) × (u ≡ true))
decided true t u h = inl refl
decided false true u h = inr (refl, h)
decided false false u h = absurd (false≢true h)

-- a test of "smaller" that is an order, beside a test of "the same"
pub record Ordered {A : Type 0} (lt eq : A → A → Bool) : Type 0 where
  pub irreflexive : (a : A) → lt a a ≡ false
  pub transitive : (a b c : A) → lt a b ≡ true → lt b c ≡ true → lt a c ≡ true
  pub same : (a b : A) → eq a b ≡ true → a ≡ b

-- a test of lists that goes by their first difference, a proper beginning first
record Lexical {A : Type 0} (lt eq : A → A → Bool) (lt_of : List A → List A → Bool) : Type 0 where
  none : lt_of [] [] ≡ false
  before : (b : A) (bs : List A) → lt_of [] (b ∷ bs) ≡ true
  behind : (a : A) (as' : List A) → lt_of (a ∷ as') [] ≡ false
  both : (a b : A) (as' bs : List A) → lt_of (a ∷ as') (b ∷ bs) ≡ (lt a b || eq a b && lt_of as' bs)

module _ {A : Type 0} (lt eq : A → A → Bool) (lt_of : List A → List A → Bool) (o : Ordered lt eq) (l : Lexical lt eq lt_of) where
  lexical_irreflexive : (a : List A) → lt_of a a ≡ false
  lexical_irreflexive [] = l.none
  lexical_irreflexive (a ∷ as') = rw (l.both a a as' as', o.irreflexive a, lexical_irreflexive as') (and-false (eq a a))

  lexical_transitive : (a b c : List A) → lt_of a b ≡ true → lt_of b c ≡ true → lt_of a c ≡ true
  lexical_transitive [] [] c h k = k
  lexical_transitive [] (b ∷ bs) [] h k = absurd (false≢true (rw l.behind at k))
  lexical_transitive [] (b ∷ bs) (c ∷ cs) h k = l.before c cs
  lexical_transitive (a ∷ as') [] c h k = absurd (false≢true (rw l.behind at h))
  lexical_transitive (a ∷ as') (b ∷ bs) [] h k = absurd (false≢true (rw l.behind at k))
  lexical_transitive (a ∷ as') (b ∷ bs) (c ∷ cs) h k =
      let second = decided _ _ _ (rw (l.both b c bs cs) at k) in
      rw (l.both a c as' cs)
      (⊎_elim
      (λ p. ⊎_elim (λ q. rw (o.transitive a b c p q)) (λ q. rw (← o.same b c q.0, p)) second)
      (λ p.
      ⊎_elim (λ q. rw (o.same a b p.0, q))
      (λ q. rw (← o.same b c q.0, p.0, lexical_transitive as' bs cs p.1 q.1) (or-true (lt a b))) second)
      (decided _ _ _ (rw (l.both a b as' bs) at h)))

numbers_ordered : Ordered ltb eqb
numbers_ordered =
    record {
      irreflexive = λ a. le-ltb a a (omega arith);
      transitive = λ a b c h k. lt-ltb a c (omega (arith, ltb-true a b h, ltb-true b c k));
      same = eqb-true;
    }

-- both tests of lists go by their first difference, by computing
pub texts_ordered : Ordered less same
unfolding less
texts_ordered =
    let by_byte : Lexical ltb eqb less =
    record { none = refl; before = λ b bs. refl; behind = λ a as'. refl; both = λ a b as' bs. refl } in
    record {
      irreflexive = lexical_irreflexive ltb eqb less numbers_ordered by_byte;
      transitive = lexical_transitive ltb eqb less numbers_ordered by_byte;
      same = λ a b. (same_says a b).0;
    }

pub keys_ordered : KeysOrdered
unfolding key_less
keys_ordered =
    let by_field : Lexical less same key_less =
    record { none = refl; before = λ b bs. refl; behind = λ a as'. refl; both = λ a b as' bs. refl } in
    record {
      irreflexive = lexical_irreflexive less same key_less texts_ordered by_field;
      transitive = lexical_transitive less same key_less texts_ordered by_field;
    }
