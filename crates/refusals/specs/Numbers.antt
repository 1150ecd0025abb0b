-- Document 01's numbers, by the reasons of the code.
use Rattle.std.specs.Prelude.{ℕ, Result, Ok, Err}
use Rattle.dirf.specs.Rules.{Found, keeps, breaks}
use Rattle.refusals.specs.declared.Refusal.{Refusal}
use Rattle.refusals.specs.declared.Refusal.TheVariants as refusal
use Rattle.refusals.specs.declared.Breach.{Breach}

abbrev pub number_for : Refusal → ℕ
number_for refusal.NotClosed = 1
number_for refusal.GoesOn = 2
number_for refusal.TooManyLines = 3
number_for refusal.LongLine = 4
number_for refusal.CutOffLine = 5
number_for refusal.WrongLineEnd = 6
number_for refusal.FullTable = 7
number_for refusal.NoLastBar = 8
number_for refusal.UnknownRecord = 9
number_for refusal.LeftForLater = 10
number_for refusal.WrongFieldCount = 11
number_for refusal.WrongPlace = 12
number_for refusal.EmptyField = 13
number_for refusal.WrongByte = 14
number_for refusal.WrongSize = 15
number_for refusal.ZeroInFront = 16
number_for refusal.NoSuchDate = 17
number_for refusal.NotAValidValue = 18
number_for refusal.Disagrees = 19
number_for refusal.KeyNotGreater = 20
number_for refusal.Repeated = 21
number_for refusal.NotWritten = 22
number_for refusal.LengthsOff = 23
number_for refusal.SmallOutput = 24
number_for refusal.LongFile = 25
number_for refusal.WrongCheckDigit = 26
number_for refusal.NoWay = 27

-- 01: "0 the file is accepted", or the line is written, or the number read; else the number of the refusal
abbrev pub number_said : {A : Type 0} → Result A Refusal → ℕ
number_said (Ok a) = 0
number_said (Err r) = number_for r

-- a rule that is kept, or broken: the number given and the field named
abbrev pub found_said : {A : Type 0} → Result A Breach → Found
found_said (Ok a) = keeps
found_said (Err b) = breaks (number_for b.refusal) b.field

-- a refusal that names no field
abbrev pub whole : Refusal → Breach
whole r = record { refusal = r; field = 0 }
