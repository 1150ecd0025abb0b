-- What a list of rules finds, told by its rules one by one.
use Prim.Native.Nat.{ℕ, suc, ◌+◌}
use mathlib.Core.Path.{◌≡◌, refl, sym, ap, ◌∙◌, subst}
use mathlib.Core.Bool.{Bool, true, false, ◌&&◌}
use mathlib.Core.Logic.{◌⊎◌, inl, inr, ⊎_elim}
use mathlib.Core.List.Memᴰ
use mathlib.Core.List.{List, [], ◌∷◌}
use native.Mathlib.Omega.{arith}
use lib.Dec.{ltb}
use borrow.Author.Tests.{ltb-true}
use Rattle.dirf.specs.Bytes.{Text, every, is_in}
use Rattle.dirf.specs.Row.{Row}
use Rattle.dirf.specs.Fields.{FieldTest, FieldRule}
use Rattle.dirf.specs.Conditions.{Condition}
use Rattle.dirf.specs.Rules.{Found, keeps, breaks, given, or_else, Rule, gives, field_by_field, conditions, ask_field, ask_fields}
use Rattle.dirf.specs.Rules.{ask_conditions, ask, first}
use Rattle.dirf.specs.Theorems.Plain.{◌∈◌, Nth, this, next}
use Rattle.dirf.specs.Theorems.Answered.{Given, by_test, by_field, by_condition}
use Rattle.dirf.proofs.tests.Bools.{and_left, and_right}
use Rattle.dirf.proofs.tests.Says.{is_in_says, it, on}
use Rattle.dirf.proofs.tests.Lists.{every_in}

pub keeps≢breaks : {n f : ℕ} → keeps ≡ breaks n f → ⊥
keeps≢breaks e = let z : ◌≡◌ {A = ℕ} 0 1 = cc in omega arith

-- what is found is nothing, or a breach
pub found_cases : (x : Found) → (x ≡ keeps) ⊎ ((n : ℕ) × (f : ℕ) × (x ≡ breaks n f))
found_cases keeps = inl refl
found_cases (breaks n f) = inr (n, f, refl)

pub given_false : (n f : ℕ) (b : Bool) → given n f b ≡ keeps → b ≡ false
unfolding given
given_false n f true e = cc
given_false n f false e = refl

pub given_keeps : (n f : ℕ) {b : Bool} → b ≡ false → given n f b ≡ keeps
unfolding given
given_keeps n f e = rw e

given_breaks : (m g : ℕ) (b : Bool) {n f : ℕ} → given m g b ≡ breaks n f → (m ≡ n) × (g ≡ f) × (b ≡ true)
unfolding given
given_breaks m g true e = (cc, cc, refl)
given_breaks m g false e = absurd (keeps≢breaks e)

pub or_else_left : (a b : Found) → or_else a b ≡ keeps → a ≡ keeps
unfolding or_else
or_else_left keeps b e = refl
or_else_left (breaks n f) b e = e

pub or_else_right : (a b : Found) → or_else a b ≡ keeps → b ≡ keeps
unfolding or_else
or_else_right keeps b e = e
or_else_right (breaks n f) b e = cc

or_breaks : (a b : Found) {n f : ℕ} → or_else a b ≡ breaks n f → (a ≡ breaks n f) ⊎ (b ≡ breaks n f)
unfolding or_else
or_breaks keeps b e = inr e
or_breaks (breaks n f) b e = inl e

-- the elements of a list are tried in order: `one` of an element, `all` of the list
pub record Tries {X : Type 0} (one : X → Found) (all : List X → Found) : Type 0 where
  pub nothing : all [] ≡ keeps
  pub further : (x : X) (xs : List X) → all (x ∷ xs) ≡ or_else (one x) (all xs)

module _ {X : Type 0} (one : X → Found) (all : List X → Found) (t : Tries one all) where
  pub one_kept : {x : X} {xs : List X} → x ∈ xs → all xs ≡ keeps → one x ≡ keeps
  one_kept (Memᴰ.head {x = y} {xs = ys} p) e = ap one p ∙ or_else_left (one y) (all ys) (rw t.further at e)
  one_kept (Memᴰ.tail {x = y} {xs = ys} m) e = one_kept m (or_else_right (one y) (all ys) (rw t.further at e))

  pub all_kept : (xs : List X) → ((x : X) → x ∈ xs → one x ≡ keeps) → all xs ≡ keeps
  unfolding or_else
  all_kept [] h = t.nothing
  all_kept (x ∷ xs) h = rw (t.further x xs, h x it) (all_kept xs (λ y m. h y (on m)))

  pub one_breaks : (xs : List X) {n f : ℕ} → all xs ≡ breaks n f → (x : X) × (x ∈ xs) × (one x ≡ breaks n f)
  one_breaks [] e = absurd (keeps≢breaks (sym t.nothing ∙ e))
  one_breaks (x ∷ xs) e =
      ⊎_elim (λ q. (x, it, q)) (λ q. let h = one_breaks xs q in (h.0, on h.1, h.2))
      (or_breaks (one x) (all xs) (rw t.further at e))

pub first_tries : {A : Type 0} (a : A) → Tries (λ (r : Rule A). ask r a) (λ rs. first rs a)
unfolding first
first_tries a = record { nothing = refl; further = λ r rs. refl }

pub field_tries : (f : ℕ) (name : Text) (r : Row) (s : Text)
    → Tries (λ (x : FieldRule). given x.0 f (x.1 name r s)) (λ xs. ask_field f xs name r s)
unfolding ask_field
field_tries f name r s = record { nothing = refl; further = λ x xs. refl }

pub condition_tries : (n k : ℕ) (cs : List Text)
    → Tries (λ (x : Condition). given n x.field (is_in k x.kinds && x.broken cs)) (λ xs. ask_conditions n xs k cs)
unfolding ask_conditions
condition_tries n k cs = record { nothing = refl; further = λ x xs. refl }

-- a rule of a list is kept, wherever it stands there
pub rule_kept : {A : Type 0} (n f : ℕ) (t : A → Bool) {rs : List (Rule A)} (a : A) → gives n f t ∈ rs → first rs a ≡ keeps → t a ≡ false
unfolding ask
rule_kept n f t a m e = given_false n f (t a) (one_kept _ _ (first_tries a) m e)

module _ (f : ℕ) (name : Text) (r : Row) (s : Text) where
  pub field_kept : (n : ℕ) (test : FieldTest) {xs : List FieldRule} → (n, test) ∈ xs → ask_field f xs name r s ≡ keeps
      → test name r s ≡ false
  field_kept n test m e = given_false n f (test name r s) (one_kept _ _ (field_tries f name r s) m e)

  pub keeps_field : (xs : List FieldRule) → ((x : FieldRule) → x ∈ xs → x.1 name r s ≡ false) → ask_field f xs name r s ≡ keeps
  unfolding given
  keeps_field xs h = all_kept _ _ (field_tries f name r s) xs (λ x m. rw (h x m))

  -- one field: the rule that it breaks
  field_breaks : (xs : List FieldRule) {n g : ℕ} → ask_field f xs name r s ≡ breaks n g
      → (x : FieldRule) × (x ∈ xs) × (x.0 ≡ n) × (f ≡ g) × (x.1 name r s ≡ true)
  field_breaks xs e =
      let h = one_breaks _ _ (field_tries f name r s) xs e in
      let g = given_breaks h.0.0 f (h.0.1 name r s) h.2 in
      (h.0, h.1, g.0, g.1, g.2)

-- all fields of a record, from field f on: the row and the text, i places on, that break a rule
fields_break : {P : Type 0} {n g : ℕ} (xs : List FieldRule) (name : Text) (f : ℕ) (rs : List Row) (cs : List Text)
    → ask_fields f xs name rs cs ≡ breaks n g
    → ((i : ℕ) (r : Row) (s : Text) (x : FieldRule) → suc g ≡ f + i → Nth rs i r → Nth cs i s
    → x ∈ xs → x.0 ≡ n → x.1 name r s ≡ true → P)
    → P
unfolding ask_fields
fields_break xs name f [] cs e k = absurd (keeps≢breaks e)
fields_break xs name f (r ∷ rs) [] e k = absurd (keeps≢breaks e)
fields_break xs name f (r ∷ rs) (c ∷ cs) e k =
    ⊎_elim
    (λ q. let h = field_breaks f name r c xs q in k 1 r c h.0 (omega (arith, h.3)) this this h.1 h.2 h.4)
    (λ q. fields_break xs name (suc f) rs cs q (λ i r s x p a b m n t. k (suc i) r s x (omega arith) (next a) (next b) m n t))
    (or_breaks (ask_field f xs name r c) (ask_fields (suc f) xs name rs cs) e)

-- what a rule finds is given by its own test
pub ask_breaks : {A : Type 0} (r : Rule A) (a : A) {n f : ℕ} → ask r a ≡ breaks n f → Given a n f r
unfolding ask
ask_breaks (gives m g test) a e = let h = given_breaks m g (test a) e in by_test h.0 h.1 h.2
ask_breaks (field_by_field xs of) a {f = f} e =
    fields_break xs (of a).name 1 (of a).rows (of a).cells e
    (λ i r s x p j l m q t.
    let here : i ≡ f = omega arith in
    by_field x r s m q (subst (λ i. Nth (of a).rows i r) here j) (subst (λ i. Nth (of a).cells i s) here l) t)
ask_breaks (conditions m xs of) a e =
    let h = one_breaks _ _ (condition_tries m (of a).kind (of a).cells) xs e in
    let kind = is_in (of a).kind h.0.kinds in
    let g = given_breaks m h.0.field (kind && h.0.broken (of a).cells) h.2 in
    by_condition h.0 g.0 h.1 g.1 ((is_in_says _ _).0 (and_left kind _ g.2)) (and_right kind _ g.2)

-- every number that a rule can give passes a test
abbrev pub numbers_pass : {A : Type 0} → (ℕ → Bool) → Rule A → Bool
numbers_pass test (gives n f t) = test n
numbers_pass test (field_by_field xs of) = every (λ x. test x.0) xs
numbers_pass test (conditions n xs of) = test n

-- what is found, if anything, has a number that passes a test
abbrev pub Passes : (ℕ → Bool) → Found → Type 0
Passes test keeps = Unit {0}
Passes test (breaks n f) = test n ≡ true

module _ (test : ℕ → Bool) where
  pub or_else_passes : (a b : Found) → Passes test a → Passes test b → Passes test (or_else a b)
  unfolding or_else
  or_else_passes keeps b p q = q
  or_else_passes (breaks n f) b p q = p

  found_passes : (x : Found) → ((n f : ℕ) → x ≡ breaks n f → test n ≡ true) → Passes test x
  found_passes keeps h = tt
  found_passes (breaks n f) h = h n f refl

  -- the number that a rule gives is one of its own
  pub given_number : {A : Type 0} {a : A} {n f : ℕ} {r : Rule A} → Given a n f r → numbers_pass test r ≡ true → test n ≡ true
  given_number (by_test p q t) e = rw (← p) e
  given_number (by_field x r s m p i j t) e = rw (← p) (every_in (λ y. test y.0) m e)
  given_number (by_condition x q m p k t) e = rw (← q) e

  pub field_passes : (f : ℕ) (xs : List FieldRule) (name : Text) (r : Row) (s : Text) → every (λ x. test x.0) xs ≡ true
      → Passes test (ask_field f xs name r s)
  field_passes f xs name r s e =
      found_passes (ask_field f xs name r s)
      (λ n g q. let h = field_breaks f name r s xs q in rw (← h.2) (every_in (λ y. test y.0) h.1 e))

  pub ask_passes : {A : Type 0} (r : Rule A) (a : A) → numbers_pass test r ≡ true → Passes test (ask r a)
  ask_passes r a e = found_passes (ask r a) (λ n f q. given_number (ask_breaks r a q) e)

  pub first_passes : {A : Type 0} (rs : List (Rule A)) (a : A) → every (numbers_pass test) rs ≡ true → Passes test (first rs a)
  first_passes rs a e =
      found_passes (first rs a)
      (λ n f q.
      let h = one_breaks _ _ (first_tries a) rs q in
      given_number (ask_breaks h.0 a h.2) (every_in (numbers_pass test) h.1 e))

-- where no rule has number 0, an answer with number 0 has found nothing
pub nothing_found : (number_of : Found → ℕ) → ((n f : ℕ) → number_of (breaks n f) ≡ n) → (found : Found) → Passes (ltb 0) found
    → number_of found ≡ 0 → found ≡ keeps
nothing_found number_of its keeps p e = refl
nothing_found number_of its (breaks n f) p e = absurd (omega (arith, ltb-true 0 n p, its n f))
