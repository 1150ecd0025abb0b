-- M9 to M12 of document 01: whatever the contracts allow as a result there is the marked answer.
use Prim.Native.Nat.{ℕ}
use mathlib.Core.Path.{◌≡◌, refl, ap, ◌∙◌}
use mathlib.Core.List.{List, [], ◌∷◌}
use Rattle.dirf.specs.Bytes.{Text, bytes, bytes_opens}
use Rattle.dirf.specs.Numbers.{numbers_opens}
use Rattle.dirf.specs.Fields.{field_order, fields_opens}
use Rattle.dirf.specs.Rules.{ask_field, rules_opens}
use Rattle.dirf.specs.Amounts.{Reading, read_amount, amounts_opens}
use Rattle.dirf.specs.Theorems.Plain.{◌∈◌}
use Rattle.dirf.proofs.tests.Lists.{Each, none, ◌also◌, of_each}
use Rattle.layout.specs.declared.Row.{Row}
use Rattle.layout.specs.Tables.{format_of, fill_of, need_of, holds_of, row_of}
use Rattle.layout.specs.Codes.{row_said}
use Rattle.rules.specs.Findings.{number_of, reading_said}
use Rattle.refusals.specs.Numbers.{number_said}
use Rattle.rules.proofs as rules

-- M9 and M10: a field, and the number and the value that the amount reader answers
abbrev pub amounts : List (Text × Reading)
amounts =
    (bytes "0", record { number = 16; value = 0 }) ∷
    (bytes "1", record { number = 0; value = 1 }) ∷
    (bytes "9999999999999", record { number = 0; value = 9999999999999 }) ∷
    (bytes "99999999999999", record { number = 15; value = 0 }) ∷
    []

answers : Each (λ (x : Text × Reading). read_amount x.0 ≡ x.1) amounts
unfolding bytes_opens numbers_opens fields_opens rules_opens amounts_opens
answers = refl also refl also refl also refl also none

pub amounts_marked : (κs : _) (a : _) (r : _) (s : _) → rules.read_amount.Reads.Post κs a r s → (x : Text × Reading) → x ∈ amounts
    → a.0.now ≡ x.0 → reading_said (λ c. c.0) r ≡ x.1
amounts_marked κs a r s e x m f = e ∙ ap read_amount f ∙ of_each answers x m

-- M11 and M12: a row, a field and the number given: field 9 of DECPF, a date, and field 4 of RESPO, an area code
abbrev pub date_row : Row
date_row = record { format = 68; fill = 70; size = 8; need = 78; holds = 46 }

abbrev pub ddd_row : Row
ddd_row = record { format = 78; fill = 70; size = 2; need = 83; holds = 100 }

abbrev pub numbers : List ((Row × Text) × ℕ)
numbers = ((date_row, bytes "20240229"), 0) ∷ ((date_row, bytes "20230229"), 17) ∷ ((ddd_row, bytes "01"), 16) ∷ []

given : (name : Text) → Each (λ (x : (Row × Text) × ℕ). number_of (ask_field 0 field_order name (row_said x.0.0) x.0.1) ≡ x.1) numbers
unfolding bytes_opens numbers_opens fields_opens rules_opens format_of fill_of need_of holds_of row_of row_said number_of
given name = refl also refl also refl also none

pub numbers_marked : (κs : _) (a : _) (r : _) (s : _) → rules.field_rule.Reads.Post κs a r s → (x : (Row × Text) × ℕ) → x ∈ numbers
    → a.1.1.0 ≡ x.0.0 → a.1.0.now ≡ x.0.1 → number_said r ≡ x.1
numbers_marked κs a r s e x m f g =
    e ∙ ap (λ y. number_of (ask_field 0 field_order a.0.now (row_said y) a.1.0.now)) f
    ∙ ap (λ t. number_of (ask_field 0 field_order a.0.now (row_said x.0.0) t)) g ∙ of_each (given a.0.now) x m
