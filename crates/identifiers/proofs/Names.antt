-- Which identifier a text can be: every one is found, and nothing else is. One law for where one is left, one for where none is.
use Rattle.std.specs.Prelude.{None, if◌then◌else◌}
use Rattle.std.specs.Bool.{then_some}
use Prim.Native.Nat.{ℕ, suc, ◌+◌, ◌<◌}
use mathlib.Core.Path.{◌≡◌, refl, sym, ap, ◌∙◌, subst}
use mathlib.Core.Bool.{Bool, cond, true, false, ◌||◌, not, true≢false}
use mathlib.Core.List.{List, [], ◌∷◌, map}
use native.Mathlib.Nat.{add-zero, zero-add, add-suc, suc-add}
use native.Mathlib.Omega.{arith}
use lib.Dec.{eqb}
use lib.ListN.{length, get_or, take}
use borrow.Author.Tests.{eq-eqb}
use Rattle.dirf.specs.Bytes.{Text, every, some, is_in, same}
use Rattle.dirf.specs.Kinds.{names2025}
use Rattle.dirf.specs.Edition.{kind_in}
use Rattle.dirf.proofs.tests.Bools.{and_left, and_right, by_answer, if_cases}
use Rattle.dirf.proofs.tests.Says.{same_says}
use Rattle.std.specs.Cmp.Lexicographic.{pointwise}
use Rattle.std.proofs.lemmas.Bool.Decides.{nat_tests}
use Rattle.fields.proofs.Arms.{NoneOf, none_in}
use Rattle.identifiers.specs.Found.{kind_found}
use Rattle.identifiers.specs.Left.{Spells, alike, number_of, is_beside, NoOther, Left}
use Rattle.identifiers.proofs.Found.{none_found, some_found}

alike_same : (a b : Text) → alike a b ≡ same a b
unfolding same
alike_same [] [] = refl
alike_same [] (y ∷ b) = refl
alike_same (x ∷ a) [] = refl
alike_same (x ∷ a) (y ∷ b) = rw (alike_same a b)

number_kind : (ns : List (ℕ × Text)) (s : Text) → number_of ns s ≡ kind_in ns s
unfolding kind_in
number_kind [] s = refl
number_kind (n ∷ ns) s = rw (alike_same n.1 s, number_kind ns s)

-- a text spells itself
spells : (t s : Text) (i : ℕ) → ((j : ℕ) → get_or s (i + j) 0 ≡ get_or t j 0) → Spells i t s
spells [] s i h = tt
spells (b ∷ t) s i h = (
  ap (λ x. get_or s x 0) (sym (add-zero i)) ∙ h 0,
  spells t s (suc i) (λ j. ap (λ x. get_or s x 0) (suc-add i j ∙ sym (add-suc i j)) ∙ h (suc j)),
)

-- the first and the other parts of what is known beside a name
here : (A R : Type 0) (b : Bool) → b ≡ true → cond b (A × R) R → A
here A R true e p = p.0
here A R false e p = absurd (true≢false (sym e))

rest : (A R : Type 0) (b : Bool) → cond b (A × R) R → R
rest A R true p = p.1
rest A R false p = p

module _ (name s : Text) (long : length s ≡ length name) (first : get_or s 0 0 ≡ get_or name 0 0) (other : same s name ≡ false) where
  beside : is_beside name s ≡ true
  beside = rw (eq-eqb (length s) (length name) long, eq-eqb (get_or s 0 0) (get_or name 0 0) first, alike_same s name, other)

  none_left : (ns : List (ℕ × Text)) → NoOther name ns s → kind_in ns s ≡ 0
  unfolding kind_in
  none_left [] p = refl
  none_left (n ∷ ns) p =
      let more : Type 0 = NoOther name ns s in
      if_cases (λ k. k ≡ 0) (same n.1 s)
      (λ q.
      let is : n.1 ≡ s = (same_says n.1 s).0 q in
      absurd
      (here (Spells 0 n.1 s → ⊥) more (is_beside name n.1) (ap (is_beside name) is ∙ beside) p
      (subst (λ t. Spells 0 t s) (sym is) (spells s s 0 (λ j. ap (λ x. get_or s x 0) (zero-add j))))))
      (λ q. none_left ns (rest (Spells 0 n.1 s → ⊥) more (is_beside name n.1) p))

-- where one identifier is left, its kind or none is the kind
pub one_left : {name s : Text} {k : ℕ} → Left name k s → (if same s name then k else 0) ≡ kind_in names2025 s
one_left {name} {s} {k} left =
    if_cases (λ x. x ≡ kind_in names2025 s) (same s name)
    (λ q. sym left.kind ∙ number_kind names2025 name ∙ ap (kind_in names2025) (sym ((same_says s name).0 q)))
    (λ q. sym (none_left name s left.long left.first q names2025 left.no_other))

-- and so it is found
pub found_left : {name s : Text} {k : ℕ} → Left name k s → 0 < k → then_some (same s name) k ≡ kind_found (kind_in names2025 s)
found_left {name} {s} {k} left there =
    by_answer (same s name) (λ q. rw q (sym (some_found k there))) (λ q. rw q (sym (none_found 0 refl)))
    ∙ ap kind_found (one_left left)

-- a text that is as long begins with a name where it is that name
pub whole : (name s : Text) → length s ≡ length name → pointwise eqb name (take (length name) s) ≡ same s name
unfolding same
whole [] [] h = refl
whole (y ∷ name) [] h = absurd (omega arith)
whole [] (x ∷ s) h = absurd (omega arith)
whole (y ∷ name) (x ∷ s) h = let e = whole name s (omega arith) in grind (arith, nat_tests)

-- the arms of a match on single numbers, the last one first
abbrev pub arms : List ℕ → List (List ℕ)
arms = map (λ b. b ∷ [])

-- a text of which something holds, and of which a number is in no arm, where that of every identifier of which it holds is in one
module _ (asked : Text → Bool) (f : Text → ℕ) (bs : List ℕ) where
  abbrev in_arm : Text → Bool
  in_arm t = some (is_in (f t)) (arms bs)

  abbrev in_arms : ℕ × Text → Bool
  in_arms n = not (asked n.1) || in_arm n.1

  none_asked : (s : Text) → asked s ≡ true → in_arm s ≡ false → (ns : List (ℕ × Text)) → every in_arms ns ≡ true → kind_in ns s ≡ 0
  unfolding kind_in every
  none_asked s a b [] all = refl
  none_asked s a b (n ∷ ns) all =
      if_cases (λ k. k ≡ 0) (same n.1 s)
      (λ q.
      let is : n.1 ≡ s = (same_says n.1 s).0 q in
      absurd (true≢false (sym (and_left (in_arms n) _ all) ∙ ap (λ t. not (asked t) || in_arm t) is ∙ rw (a, b))))
      (λ q. none_asked s a b ns (and_right (in_arms n) _ all))

pub other_length : (bs : List ℕ) → every (in_arms (λ t. true) length bs) names2025 ≡ true → (s : Text) → NoneOf (arms bs) (length s)
    → kind_found (kind_in names2025 s) ≡ None
other_length bs all s b = none_found _ (none_asked (λ t. true) length bs s refl (none_in (arms bs) (length s) b) names2025 all)

pub other_first : (n : ℕ) (bs : List ℕ) → every (in_arms (λ t. eqb (length t) n) (λ t. get_or t 0 0) bs) names2025 ≡ true → (s : Text)
    → length s ≡ n → NoneOf (arms bs) (get_or s 0 0) → kind_found (kind_in names2025 s) ≡ None
other_first n bs all s l b =
    none_found _
    (none_asked (λ t. eqb (length t) n) (λ t. get_or t 0 0) bs s (eq-eqb (length s) n l) (none_in (arms bs) (get_or s 0 0) b) names2025 all)
