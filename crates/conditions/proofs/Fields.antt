-- The field that the conditions of DECPF name, by what their tests answer.
use Rattle.std.specs.Prelude.{Option, Some, None, if◌then◌else◌}
use Prim.Native.Nat.{ℕ}
use mathlib.Core.Path.{◌≡◌, refl}
use mathlib.Core.Bool.{Bool, true, false, ◌&&◌, not, and_assoc}
use mathlib.Core.List.{List, [], ◌∷◌}
use native.Mathlib.Omega.{arith}
use lib.Dec.{eqb}
use lib.ListN.{length}
use borrow.Author.Tests.{ne_eqb}
use Rattle.dirf.specs.Bytes.{Text, some, is_in, is_empty}
use Rattle.dirf.specs.Kinds.{DECPF}
use Rattle.dirf.specs.Lines.{field}
use Rattle.dirf.specs.Conditions.{special, conditions_opens}
use Rattle.dirf.specs.Rules.{Found, keeps, given, or_else, ask_conditions}
use Rattle.conditions.specs.Broken.{field_of, broken_field, death_unstated}

-- a text is empty where it has no byte
pub no_byte : (s : Text) → eqb (length s) 0 ≡ is_empty s
unfolding is_empty
no_byte [] = refl
no_byte (b ∷ s) = ne_eqb (length (b ∷ s)) 0 (λ e. omega arith)

-- the field by what the tests of DECPF answer
unfoldable pub conditioned : Bool → Bool → Bool → Bool → Bool → Option ℕ
conditioned special date type death estate =
    if not special then None
    else (if date then Some 9 else (if type then Some 10 else (if death then Some 11 else (if estate then None else Some 13))))

four : (a b c d : Bool) → Found
four a b c d = or_else (given 19 9 a) (or_else (given 19 10 b) (or_else (given 19 11 c) (or_else (given 19 13 d) keeps)))

five : (s a b c d : Bool) → field_of (four (s && a) (s && b) (s && c) (s && not d)) ≡ conditioned s a b c d
unfolding four given or_else field_of conditioned
five false a b c d = refl
five true true b c d = refl
five true false true c d = refl
five true false false true d = refl
five true false false false true = refl
five true false false false false = refl

pub condition_field : (cells : List Text)
    → broken_field DECPF cells
    ≡ conditioned (special cells) (is_empty (field 9 cells)) (is_empty (field 10 cells)) (death_unstated cells) (is_empty (field 13 cells))
unfolding is_in some ask_conditions conditions_opens given or_else broken_field death_unstated four
condition_field cells = rw and_assoc (five (special cells) _ _ (death_unstated cells) _)

-- what the search of DECPF's conditions needs: these two, and to compute with their words
pub ruleset decpf_rules = (condition_field, no_byte)

unfoldable pub decpf_opens : Unit {0}
unfolding special conditioned
decpf_opens = tt
