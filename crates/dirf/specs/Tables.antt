-- What is proved once over the tables, by computed tests.
use Rattle.std.specs.Prelude.{ℕ, suc, ◌+◌, ◌≤◌, max, ◌≡◌, Bool, true, false, ◌&&◌, ◌||◌, not, List, [], ◌∷◌, ◌++◌, map, leb, ltb, eqb}
use Rattle.std.specs.Prelude.{length, drop, if◌then◌else◌}
use Rattle.dirf.specs.Bytes.{Text, every, is_in}
use Rattle.dirf.specs.Limits.{line_limit}
use Rattle.dirf.specs.Kinds.{IDREC, RIL96, RIPTS, RIJMRE, RIRSR, RIO, alone, blocks, beneficiaries, pensions, values, plan}
use Rattle.dirf.specs.Kinds.{reimbursements, later, is_value}
use Rattle.dirf.specs.Row.{Row, Format, C, N, D, Fill, fixed, variable, Holds, identifier, amount, months, ddd, telephone}
use Rattle.dirf.specs.Row.{cpf, cnpj, cpf_or_cnpj, plain, one_of}
use Rattle.dirf.specs.Layout.{monthly2025}
use Rattle.dirf.specs.Edition.{Edition, rows_of, kind_of, is_base}
use Rattle.dirf.specs.Totals.{is_amount}
use Rattle.dirf.specs.FieldReader.{field_start}
use Rattle.dirf.specs.LineWriter.{sum}

-- the longest line that rows allow, line end aside: each field at its size, with its bar
abbrev pub longest : List Row → ℕ
longest rows = sum (map (λ r. r.size + 1) rows)

abbrev pub numeric : Format → Bool
numeric C = false
numeric N = true
numeric D = false

abbrev pub is_fixed : Fill → Bool
is_fixed fixed = true
is_fixed variable = false

-- a numeric field of a fixed size, or of up to a size
abbrev pub digits_fixed : ℕ → Row → Bool
digits_fixed n r = numeric r.format && is_fixed r.fill && eqb r.size n

abbrev pub digits_up_to : ℕ → Row → Bool
digits_up_to n r = numeric r.format && not (is_fixed r.fill) && eqb r.size n

-- 01, "Fields": what a field holds, said a second time by its format, fill and size. QTMESES and the share in BPFSCP are both N up
-- to 4, and only the first counts months; telephones and the amounts of a health plan are both N up to 9; no other shape is used for two
-- things
abbrev pub goes_with : Holds → Row → Bool
goes_with identifier r = not (numeric r.format)
goes_with amount r = digits_up_to 13 r || digits_up_to 9 r
goes_with months r = digits_up_to 4 r
goes_with ddd r = digits_fixed 2 r
goes_with telephone r = digits_up_to 9 r
goes_with cpf r = digits_fixed 11 r
goes_with cnpj r = digits_fixed 14 r
goes_with cpf_or_cnpj r = digits_up_to 14 r
goes_with plain r = not (digits_up_to 13 r || digits_fixed 2 r || digits_up_to 9 r || digits_fixed 11 r || digits_fixed 14 r ||
    digits_up_to 14 r)
goes_with (one_of vs) r = every (λ v. eqb (length v) r.size) vs

-- 01, "Fields": "D: year, month, day": four, two and two digits
abbrev pub date_sized : Format → Row → Bool
date_sized C r = true
date_sized N r = true
date_sized D r = is_fixed r.fill && eqb r.size 8

-- 000, 3.20 and 3.21: the records of one amount a year
abbrev pub yearly : List ℕ
yearly = RIL96 ∷ RIPTS ∷ RIJMRE ∷ RIRSR ∷ RIO ∷ []

-- The amounts of a value record stand one after another: from which field on, and how many there are. A monthly record has the months and
-- the thirteenth from field 2 on, an annual one and RIO one amount in field 2, RTPSE and RDTPSE have two from field 4 on. QTMESES has none,
-- and of what is no value record nothing enters a total.
unfoldable pub first_amount : ℕ → ℕ
first_amount k = if is_in k reimbursements then 4 else 2

unfoldable pub amount_count : ℕ → ℕ
amount_count k = if is_in k monthly2025 then 13 else (if is_in k yearly then 1 else (if is_in k reimbursements then 2 else 0))

-- a line of kind k from its first amount on
abbrev pub from_amounts : ℕ → Text → Text
from_amounts k line = drop (field_start (first_amount k) line) line

-- field f of a value record is an amount
unfoldable pub amount_at : ℕ → ℕ → Bool
amount_at k f = leb (first_amount k) f && ltb f (first_amount k + amount_count k)

-- so say its rows, from that of field f on, which go at least as far
unfoldable pub amount_rows : ℕ → ℕ → List Row → Bool
amount_rows k f [] = leb (first_amount k + amount_count k) f
amount_rows k f (r ∷ rs) = (if amount_at k f then is_amount r.holds else not (is_amount r.holds)) && amount_rows k (suc f) rs

-- 01, "Fields": "Proved once over it: every size is from 1 to 150, and no record's longest line passes 1,024 bytes."
pub record RowsRight (e : Edition) : Type 0 where
  pub sizes : (k : ℕ) → every (λ r. leb 1 r.size && leb r.size 150) (rows_of e k) ≡ true
  pub lines : (k : ℕ) → longest (rows_of e k) ≤ line_limit
  pub held : (k : ℕ) → every (λ r. goes_with r.holds r) (rows_of e k) ≡ true
  pub dates : (k : ℕ) → every (λ r. date_sized r.format r) (rows_of e k) ≡ true

-- the rows of each value record that the edition names have its amounts where its kind says
pub record AmountsRight (e : Edition) : Type 0 where
  pub amounts : every (λ n. not (is_value n.0) || amount_rows n.0 1 (rows_of e n.0)) e.names ≡ true

-- each kind is one thing: a record that stands alone, an IDREC, a block, a beneficiary, a pension, a value record, an operator, holder or
-- dependant of a health plan, a reimbursement, or left for later
abbrev pub sorts : List ℕ
sorts = alone ++ (IDREC ∷ blocks) ++ beneficiaries ++ pensions ++ values ++ plan ++ reimbursements ++ later

abbrev pub kinds_of : Edition → List ℕ
kinds_of e = map (λ n. n.0) e.names

unfoldable pub count : (ℕ → Bool) → List ℕ → ℕ
count test [] = 0
count test (k ∷ ks) = (if test k then 1 else 0) + count test ks

unfoldable pub largest_of : List ℕ → ℕ
largest_of [] = 0
largest_of (n ∷ ns) = max n (largest_of ns)

pub record KindsRight (e : Edition) : Type 0 where
  -- an identifier names its own kind
  pub named : every (λ n. eqb (kind_of e n.1) n.0) e.names ≡ true
  -- each kind is of one sort, and of one only
  pub sorted : every (λ k. eqb (count (eqb k) sorts) 1) (kinds_of e) ≡ true
  -- a kind has field rows exactly when it is in the base
  pub laid_out : every (λ k. eqb (if is_base e k then 1 else 0) (if leb 1 (length (rows_of e k)) then 1 else 0)) (kinds_of e) ≡ true

-- kinds, how many of them are in the base, their field rows, and the bytes of the longest line
pub record Counted (e : Edition) (kinds base rows bytes : ℕ) : Type 0 where
  pub all : length (kinds_of e) ≡ kinds
  pub taken : count (is_base e) (kinds_of e) ≡ base
  pub laid_out_lem : sum (map (λ k. length (rows_of e k)) (kinds_of e)) ≡ rows
  pub longest_line : largest_of (map (λ k. longest (rows_of e k)) (kinds_of e)) ≡ bytes

-- and how many of them have a total
pub record Totalled (e : Edition) (totals : ℕ) : Type 0 where
  pub totalled : count (λ k. ltb 0 (amount_count k)) (kinds_of e) ≡ totals
