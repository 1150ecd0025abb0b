-- The number of a refusal is never 0, and says which refusal it is.
use Prim.Native.Nat.{ℕ, ◌≤◌}
use mathlib.Core.Path.{◌≡◌, refl, sym, ap, ap₂, ◌∙◌}
use mathlib.Core.List.{List, [], ◌∷◌}
use native.Mathlib.Omega.{arith}
use mathlib.Core.Bool.{false}
use lib.Dec.{eqb}
use lib.ListN.{get_or}
use borrow.Author.Tests.{ne_eqb}
use Rattle.refusals.specs.declared.Refusal.{Refusal}
use Rattle.refusals.specs.declared.Refusal.TheVariants as refusal
use Rattle.refusals.specs.Numbers.{number_for, number_said, found_said}
use Rattle.refusals.specs.declared.Breach.{Breach}
use Rattle.dirf.specs.Rules.{Found, keeps, breaks}
use Rattle.std.specs.Prelude.{Result, Ok, Err}

pub at_least_1 : (r : Refusal) → 1 ≤ number_for r
at_least_1 refusal.NotClosed = omega arith
at_least_1 refusal.GoesOn = omega arith
at_least_1 refusal.TooManyLines = omega arith
at_least_1 refusal.LongLine = omega arith
at_least_1 refusal.CutOffLine = omega arith
at_least_1 refusal.WrongLineEnd = omega arith
at_least_1 refusal.FullTable = omega arith
at_least_1 refusal.NoLastBar = omega arith
at_least_1 refusal.UnknownRecord = omega arith
at_least_1 refusal.LeftForLater = omega arith
at_least_1 refusal.WrongFieldCount = omega arith
at_least_1 refusal.WrongPlace = omega arith
at_least_1 refusal.EmptyField = omega arith
at_least_1 refusal.WrongByte = omega arith
at_least_1 refusal.WrongSize = omega arith
at_least_1 refusal.ZeroInFront = omega arith
at_least_1 refusal.NoSuchDate = omega arith
at_least_1 refusal.NotAValidValue = omega arith
at_least_1 refusal.Disagrees = omega arith
at_least_1 refusal.KeyNotGreater = omega arith
at_least_1 refusal.Repeated = omega arith
at_least_1 refusal.NotWritten = omega arith
at_least_1 refusal.LengthsOff = omega arith
at_least_1 refusal.SmallOutput = omega arith
at_least_1 refusal.LongFile = omega arith
at_least_1 refusal.WrongCheckDigit = omega arith
at_least_1 refusal.NoWay = omega arith

-- the refusals by their numbers; the first of them also stands for 0
abbrev by_number : List Refusal
by_number =
    refusal.NotClosed ∷
    refusal.NotClosed ∷
    refusal.GoesOn ∷
    refusal.TooManyLines ∷
    refusal.LongLine ∷
    refusal.CutOffLine ∷
    refusal.WrongLineEnd ∷
    refusal.FullTable ∷
    refusal.NoLastBar ∷
    refusal.UnknownRecord ∷
    refusal.LeftForLater ∷
    refusal.WrongFieldCount ∷
    refusal.WrongPlace ∷
    refusal.EmptyField ∷
    refusal.WrongByte ∷
    refusal.WrongSize ∷
    refusal.ZeroInFront ∷
    refusal.NoSuchDate ∷
    refusal.NotAValidValue ∷
    refusal.Disagrees ∷
    refusal.KeyNotGreater ∷
    refusal.Repeated ∷
    refusal.NotWritten ∷
    refusal.LengthsOff ∷
    refusal.SmallOutput ∷
    refusal.LongFile ∷
    refusal.WrongCheckDigit ∷
    refusal.NoWay ∷
    []

listed : (r : Refusal) → get_or by_number (number_for r) refusal.NotClosed ≡ r
listed refusal.NotClosed = refl
listed refusal.GoesOn = refl
listed refusal.TooManyLines = refl
listed refusal.LongLine = refl
listed refusal.CutOffLine = refl
listed refusal.WrongLineEnd = refl
listed refusal.FullTable = refl
listed refusal.NoLastBar = refl
listed refusal.UnknownRecord = refl
listed refusal.LeftForLater = refl
listed refusal.WrongFieldCount = refl
listed refusal.WrongPlace = refl
listed refusal.EmptyField = refl
listed refusal.WrongByte = refl
listed refusal.WrongSize = refl
listed refusal.ZeroInFront = refl
listed refusal.NoSuchDate = refl
listed refusal.NotAValidValue = refl
listed refusal.Disagrees = refl
listed refusal.KeyNotGreater = refl
listed refusal.Repeated = refl
listed refusal.NotWritten = refl
listed refusal.LengthsOff = refl
listed refusal.SmallOutput = refl
listed refusal.LongFile = refl
listed refusal.WrongCheckDigit = refl
listed refusal.NoWay = refl

pub one_number : (r q : Refusal) → number_for r ≡ number_for q → r ≡ q
one_number r q e = sym (listed r) ∙ ap (λ n. get_or by_number n refusal.NotClosed) e ∙ listed q

-- answers of one number, where nothing but the number is answered, are one answer
pub same_number : (x y : Result (Unit {0}) Refusal) → number_said x ≡ number_said y → x ≡ y
same_number (Ok a) (Ok b) e = refl
same_number (Ok a) (Err r) e = absurd (omega (arith, at_least_1 r))
same_number (Err r) (Ok a) e = absurd (omega (arith, at_least_1 r))
same_number (Err r) (Err q) e = ap Err (one_number r q e)

abbrev number_in : Found → ℕ
number_in keeps = 0
number_in (breaks number field) = number

abbrev field_in : Found → ℕ
field_in keeps = 0
field_in (breaks number field) = field

-- and so with a field
pub same_found : (x y : Result (Unit {0}) Breach) → found_said x ≡ found_said y → x ≡ y
same_found (Ok a) (Ok b) e = refl
same_found (Ok a) (Err b) e = absurd (omega (arith, at_least_1 b.refusal, ap number_in e))
same_found (Err b) (Ok a) e = absurd (omega (arith, at_least_1 b.refusal, ap number_in e))
same_found (Err b) (Err d) e =
    ap₂ (λ r f. Err (record { refusal = r; field = f })) (one_number b.refusal d.refusal (ap number_in e)) (ap field_in e)

pub not_0 : (r : Refusal) → eqb (number_for r) 0 ≡ false
not_0 r = ne_eqb (number_for r) 0 (λ z. omega (arith, at_least_1 r))
