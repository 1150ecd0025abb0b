-- Both editions are sound: computed tests over their tables, and four lines that close a file.
use Prim.Native.Nat.{ℕ, suc}
use mathlib.Core.Path.{◌≡◌, refl}
use mathlib.Core.List.{List}
use native.Mathlib.Omega.{arith}
use lib.ListN.{length}
use borrow.Author.Tests.{le-ltb}
use Rattle.dirf.specs as specs
use Rattle.dirf.specs.Bytes.{Text, bytes, bytes_opens}
use Rattle.dirf.specs.Limits.{lines_limit}
use Rattle.dirf.specs.Kinds.{Dirf, RESPO, DECPF, FIMDirf, kinds_opens}
use Rattle.dirf.specs.Row.{Row}
use Rattle.dirf.specs.Layout.{dirf_rows2025, dirf_rows2022, respo_rows, decpf_rows, fimdirf_rows}
use Rattle.dirf.specs.Below.{Children, under_DECPF2025, under_DECPJ2025, under_DECPF2022, under_DECPJ2022}
use Rattle.dirf.specs.Edition.{Edition, kind_of, name_of, rows_of, edition2025, edition2022, edition_opens}
use Rattle.dirf.specs.Editions.{EditionName, of2025, of2022, edition_named}
use Rattle.dirf.specs.LineWriter.{sum}
use Rattle.dirf.specs.Totals.{is_amount}
use Rattle.dirf.specs.Tables.{AmountsRight, Counted, Totalled, count, largest_of, first_amount, amount_count, amount_at, amount_rows}
use Rattle.dirf.specs.Tree.{Rec, opening, may_stand}
use Rattle.dirf.specs.Order.{kind_of_line}
use Rattle.dirf.specs.Theorems.Belongs.{belongs_opens}
use Rattle.dirf.specs.Theorems.Sound.{rising, KeptAfter, Closable, Sound}
use Rattle.dirf.proofs.tables.Tested.{below_test, tests, Tested, sound, amounts_right}

-- 73 kinds, 66 of them in the base, 622 field rows; in the older edition RTDS and ESDS with their 14 rows each are missing
pub counted2025 : Counted edition2025 73 66 622 211
unfolding bytes_opens kinds_opens edition_opens sum count largest_of
counted2025 = record { all = refl; taken = refl; laid_out_lem = refl; longest_line = refl }

pub counted2022 : Counted edition2022 71 64 594 211
unfolding bytes_opens kinds_opens edition_opens sum count largest_of
counted2022 = record { all = refl; taken = refl; laid_out_lem = refl; longest_line = refl }

-- 40 kinds have a total, 38 in the older edition
pub totalled2025 : Totalled edition2025 40
unfolding bytes_opens kinds_opens edition_opens count amount_count
totalled2025 = record { totalled = refl }

pub totalled2022 : Totalled edition2022 38
unfolding bytes_opens kinds_opens edition_opens count amount_count
totalled2022 = record { totalled = refl }

-- the lists of an edition
abbrev under_DECPF : EditionName → Children
under_DECPF of2025 = under_DECPF2025
under_DECPF of2022 = under_DECPF2022

abbrev under_DECPJ : EditionName → Children
under_DECPJ of2025 = under_DECPJ2025
under_DECPJ of2022 = under_DECPJ2022

tested : (n : EditionName) → Tested (edition_named n) (under_DECPF n) (under_DECPJ n)
unfolding bytes_opens kinds_opens edition_opens belongs_opens sum count rising below_test tests edition_named is_amount first_amount
    amount_count
    amount_at amount_rows
tested of2025 = record { lists = refl; passed = refl; identified = refl }
tested of2022 = record { lists = refl; passed = refl; identified = refl }

-- a record's identifier and rows in an edition
abbrev Has : Edition → ℕ → Text → List Row → Type 0
Has e k name rows = (kind_of e name ≡ k) × (name_of e k ≡ name) × (rows_of e k ≡ rows)

-- line 1 is an edition's own
abbrev line1 : EditionName → Text
line1 of2025 = bytes "Dirf|2025|2024|N||R6GP3ZA|"
line1 of2022 = bytes "Dirf|2022|2021|N||XJFSFHB|"

abbrev rows_of1 : EditionName → List Row
rows_of1 of2025 = dirf_rows2025
rows_of1 of2022 = dirf_rows2022

-- the records of the four lines that close a file: the first is an edition's own
record HasLines (n : EditionName) (e : Edition) : Type 0 where
  dirf : Has e Dirf (bytes "Dirf") (rows_of1 n)
  respo : Has e RESPO (bytes "RESPO") respo_rows
  decpf : Has e DECPF (bytes "DECPF") decpf_rows
  fimdirf : Has e FIMDirf (bytes "FIMDirf") fimdirf_rows

module _ (e : Edition) where
  first : (n : EditionName) → HasLines n e → (before : List Rec) → length before ≡ 0 → KeptAfter e (line1 n) before
  unfolding bytes_opens kinds_opens specs.Lines.lines_opens specs.Numbers.numbers_opens specs.Digits.digits_opens specs.Fields.fields_opens
      specs.Conditions.conditions_opens specs.Rules.rules_opens specs.Keys.keys_opens specs.Order.line_opens may_stand opening
  first of2025 has before h room c m r = let d = has.dirf in simp (c, h, le-ltb room 1 (omega arith), d.0, d.1, d.2)
  first of2022 has before h room c m r = let d = has.dirf in simp (c, h, le-ltb room 1 (omega arith), d.0, d.1, d.2)

  names_dirf : (n : EditionName) → HasLines n e → kind_of_line e (line1 n) ≡ Dirf
  unfolding specs.Lines.lines_opens kind_of_line
  names_dirf of2025 has = has.dirf.0
  names_dirf of2022 has = has.dirf.0

  closable : (n : EditionName) → HasLines n e → Closable e
  unfolding bytes_opens kinds_opens specs.Lines.lines_opens specs.Numbers.numbers_opens specs.Digits.digits_opens specs.Fields.fields_opens
      specs.Conditions.conditions_opens specs.Rules.rules_opens specs.Keys.keys_opens specs.Order.line_opens may_stand opening
  closable n has =
      record {
        line1 = line1 n;
        line2 = bytes "RESPO|11144477735|A|11|33334444||||";
        line3 = bytes "DECPF|11144477735|A|N|N|N|N|N|||N|||||";
        last = bytes "FIMDirf|";
        after0 = first n has;
        after1 = λ before h room c m r. let a = has.respo in simp (c, h, le-ltb room 2 (omega arith), a.0, a.1, a.2);
        after2 = λ before h room c m r. let b = has.decpf in simp (c, h, le-ltb room 3 (omega arith), b.0, b.1, b.2);
        after3 = λ before h room c m r.
            let n = suc (length before) in
            let l = has.fimdirf in
            simp (c, le-ltb lines_limit n (omega arith), le-ltb room n (omega arith), le-ltb (length before) 3 h, l.0, l.1, l.2);
        open1 = λ q. omega (arith, names_dirf n has, q);
        open2 = λ q. omega (arith, has.respo.0, q);
        open3 = λ q. omega (arith, has.decpf.0, q);
        closes = has.fimdirf.0;
      }

has : (n : EditionName) → HasLines n (edition_named n)
unfolding bytes_opens kinds_opens edition_opens edition_named
has of2025 = record { dirf = (refl, refl, refl); respo = (refl, refl, refl); decpf = (refl, refl, refl); fimdirf = (refl, refl, refl) }
has of2022 = record { dirf = (refl, refl, refl); respo = (refl, refl, refl); decpf = (refl, refl, refl); fimdirf = (refl, refl, refl) }

pub sound_named : (n : EditionName) → Sound (edition_named n)
sound_named n = sound (tested n) (closable (edition_named n) n (has n))

pub sound2025 : Sound edition2025
unfolding edition_named
sound2025 = sound_named of2025

pub sound2022 : Sound edition2022
unfolding edition_named
sound2022 = sound_named of2022

pub amounts_named : (n : EditionName) → AmountsRight (edition_named n)
amounts_named n = amounts_right (tested n)
