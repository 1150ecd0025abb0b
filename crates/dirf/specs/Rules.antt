-- Rules: what breaking one gives, and lists of rules that are tried in order. The file's rules and the line writer's are such lists.
use Rattle.std.specs.Prelude.{ℕ, suc, Bool, true, false, ◌&&◌, List, [], ◌∷◌}
use Rattle.dirf.specs.Bytes.{Text, is_in}
use Rattle.dirf.specs.Row.{Row}
use Rattle.dirf.specs.Fields.{FieldRule}
use Rattle.dirf.specs.Conditions.{Condition}

-- a rule is kept, or broken: the number given and the field named
pub data Found : Type 0 where
  keeps : Found
  breaks : ℕ → ℕ → Found

unfoldable pub given : ℕ → ℕ → Bool → Found
given number field true = breaks number field
given number field false = keeps

-- what the first of two finds, if anything; else what the second finds
unfoldable pub or_else : Found → Found → Found
or_else keeps later = later
or_else (breaks number field) later = breaks number field

-- the contents of a record's fields, with what its kind asks of them
pub record Contents : Type 0 where
  pub kind : ℕ
  pub name : Text
  pub rows : List Row
  pub cells : List Text

-- a line of document 01's table: number, field, given exactly when; or the rules of each field; or the conditions
pub data Rule (A : Type 0) : Type 0 where
  gives : ℕ → ℕ → (A → Bool) → Rule A
  field_by_field : List FieldRule → (A → Contents) → Rule A
  conditions : ℕ → List Condition → (A → Contents) → Rule A

-- the first rule that field f breaks
unfoldable pub ask_field : ℕ → List FieldRule → Text → Row → Text → Found
ask_field f [] name r s = keeps
ask_field f (x ∷ xs) name r s = or_else (given x.0 f (x.1 name r s)) (ask_field f xs name r s)

-- 01: "13 to 18 run field by field, lowest field first"; 26 of A1 with them
unfoldable pub ask_fields : ℕ → List FieldRule → Text → List Row → List Text → Found
ask_fields f xs name [] cs = keeps
ask_fields f xs name (r ∷ rs) [] = keeps
ask_fields f xs name (r ∷ rs) (c ∷ cs) = or_else (ask_field f xs name r c) (ask_fields (suc f) xs name rs cs)

-- 01: "The lowest field of 19 is named."
unfoldable pub ask_conditions : ℕ → List Condition → ℕ → List Text → Found
ask_conditions n [] k cs = keeps
ask_conditions n (x ∷ xs) k cs = or_else (given n x.field (is_in k x.kinds && x.broken cs)) (ask_conditions n xs k cs)

module _ {A : Type 0} where
  unfoldable pub ask : Rule A → A → Found
  ask (gives n f test) a = given n f (test a)
  ask (field_by_field xs of) a = ask_fields 1 xs (of a).name (of a).rows (of a).cells
  ask (conditions n xs of) a = ask_conditions n xs (of a).kind (of a).cells

  -- 01: "Tried for each line in this order"
  unfoldable pub first : List (Rule A) → A → Found
  first [] a = keeps
  first (r ∷ rs) a = or_else (ask r a) (first rs a)

-- rules of one thing, asked of another that has such a thing
module _ {A B : Type 0} (part : A → B) where
  unfoldable pub asked_of : Rule B → Rule A
  asked_of (gives n f test) = gives n f (λ a. test (part a))
  asked_of (field_by_field xs of) = field_by_field xs (λ a. of (part a))
  asked_of (conditions n xs of) = conditions n xs (λ a. of (part a))

  unfoldable pub over : List (Rule B) → List (Rule A)
  over [] = []
  over (r ∷ rs) = asked_of r ∷ over rs

-- to compute with this file: `unfolding rules_opens`
unfoldable pub rules_opens : Unit {0}
unfolding given or_else ask_field ask_fields ask_conditions ask first asked_of over
rules_opens = tt
