-- What lists of rules find when they are put together: so the order of the rules can be told part by part.
use mathlib.Core.Path.{◌≡◌, refl, ap, ◌∙◌}
use mathlib.Core.List.{List, [], ◌∷◌, ◌++◌}
use Rattle.dirf.specs.Rules.{Found, keeps, breaks, or_else, Rule, gives, field_by_field, conditions, ask, first, asked_of, over}

-- brackets do not matter, so the parts may be taken in any grouping
pub or_assoc : (a b c : Found) → or_else a (or_else b c) ≡ or_else (or_else a b) c
unfolding or_else
or_assoc keeps b c = refl
or_assoc (breaks n f) b c = refl

-- one list after another: what the first finds comes first
pub first_append : {A : Type 0} (xs ys : List (Rule A)) (a : A) → first (xs ++ ys) a ≡ or_else (first xs a) (first ys a)
unfolding first or_else
first_append [] ys a = refl
first_append (x ∷ xs) ys a = ap (or_else (ask x a)) (first_append xs ys a) ∙ or_assoc (ask x a) (first xs a) (first ys a)

-- rules asked of a part find what they find in the part
asked_part : {A B : Type 0} (part : A → B) (r : Rule B) (a : A) → ask (asked_of part r) a ≡ ask r (part a)
unfolding ask asked_of
asked_part part (gives n f test) a = refl
asked_part part (field_by_field xs of) a = refl
asked_part part (conditions n xs of) a = refl

pub first_over : {A B : Type 0} (part : A → B) (xs : List (Rule B)) (a : A) → first (over part xs) a ≡ first xs (part a)
unfolding first over
first_over part [] a = refl
first_over part (x ∷ xs) a = rw (asked_part part x a, first_over part xs a)
