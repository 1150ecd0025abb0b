-- The amounts of a value record stand one after another, from its first amount on.
use Rattle.std.specs.Prelude.{if◌then◌else◌}
use Prim.Native.Nat.{ℕ, zero, suc, ◌+◌, ◌-◌, ◌*◌, ◌≤◌, ◌<◌}
use mathlib.Core.Path.{◌≡◌, refl, sym, ap, ◌∙◌}
use mathlib.Core.Bool.{Bool, true, false, not, true≢false}
use mathlib.Core.List.{List, [], ◌∷◌, map}
use native.Mathlib.Omega.{arith}
use native.Mathlib.Nat.{zero-add}
use lib.ListN.{length, get_or, take, drop}
use borrow.Author.Tests.{le-leb, lt-leb, lt-ltb, le-ltb, leb-true}
use Rattle.dirf.specs.Bytes.{Text, every, is_in}
use Rattle.dirf.specs.Limits.{amount_size, largest}
use Rattle.dirf.specs.Kinds.{reimbursements}
use Rattle.dirf.specs.Row.{Row}
use Rattle.dirf.specs.Fields.{field_order}
use Rattle.dirf.specs.Rules.{keeps, ask_field, ask_fields}
use Rattle.dirf.specs.LineWriter.{sum}
use Rattle.dirf.specs.Amounts.{read_amount}
use Rattle.dirf.specs.Totals.{is_amount, amounts_in}
use Rattle.dirf.specs.Tables.{goes_with, first_amount, amount_count, amount_at, amount_rows}
use Rattle.dirf.specs.Theorems.Plain.{Nth, this, next}
use Rattle.dirf.proofs.tests.Bools.{and_left, and_right, if_cases}
use Rattle.dirf.proofs.rules.Asked.{or_else_left, or_else_right}
use Rattle.dirf.proofs.totals.Values.{value_bound, Money, money}

-- the values of amounts, added up
abbrev pub worth : List Text → ℕ
worth cs = sum (map (λ c. (read_amount c).value) cs)

pub worth_bound : (cs : List Text) → worth cs ≤ length cs * largest amount_size
unfolding sum
worth_bound [] = omega arith
worth_bound (c ∷ cs) = omega (arith, value_bound c, worth_bound cs)

-- a row is an amount exactly where the place says so
is_there : (t a : Bool) → (if t then a else not a) ≡ true → a ≡ t
is_there true a q = q
is_there false true q = absurd (true≢false (sym q))
is_there false false q = refl

module _ (k : ℕ) where
  abbrev a : ℕ
  a = first_amount k

  abbrev n : ℕ
  n = amount_count k

  past : (f : ℕ) → a + n ≤ f → amount_at k f ≡ false
  unfolding amount_at
  past f h = rw (le-leb a f (omega arith), le-ltb f (a + n) h)

  pub there : (f : ℕ) → a ≤ f → f < a + n → amount_at k f ≡ true
  unfolding amount_at
  there f h l = rw (le-leb a f h, lt-ltb f (a + n) l)

  not_yet : (f : ℕ) → f < a → amount_at k f ≡ false
  unfolding amount_at
  not_yet f h = rw (lt-leb a f h)

  -- what is asked of the row of field f
  abbrev agrees : ℕ → Row → Bool
  agrees f r = if amount_at k f then is_amount r.holds else not (is_amount r.holds)

  at_row : (f : ℕ) (r : Row) (rs : List Row) → amount_rows k f (r ∷ rs) ≡ true → is_amount r.holds ≡ amount_at k f
  unfolding amount_rows
  at_row f r rs q = is_there (amount_at k f) (is_amount r.holds) (and_left (agrees f r) (amount_rows k (suc f) rs) q)

  on_row : (f : ℕ) (r : Row) (rs : List Row) → amount_rows k f (r ∷ rs) ≡ true → amount_rows k (suc f) rs ≡ true
  unfolding amount_rows
  on_row f r rs q = and_right (agrees f r) (amount_rows k (suc f) rs) q

  one_row : (f : ℕ) (r : Row) (rs : List Row) (c : Text) (cs : List Text) → amount_rows k f (r ∷ rs) ≡ true → {t : Bool} → amount_at k f ≡ t
      → amounts_in (r ∷ rs) (c ∷ cs) ≡ (if t then (read_amount c).value else 0) + amounts_in rs cs
  unfolding amounts_in
  one_row f r rs c cs q t = ap (λ b. (if b then (read_amount c).value else 0) + amounts_in rs cs) (at_row f r rs q ∙ t)

  -- the rows reach as far as the amounts
  pub reach : (f : ℕ) (rs : List Row) → amount_rows k f rs ≡ true → a + n ≤ f + length rs
  unfolding amount_rows
  reach f [] q = omega (arith, leb-true (a + n) f q)
  reach f (r ∷ rs) q = omega (arith, reach (suc f) rs (on_row f r rs q))

  -- behind the last amount
  behind : (f : ℕ) (rs : List Row) (cs : List Text) → amount_rows k f rs ≡ true → a + n ≤ f → amounts_in rs cs ≡ 0
  unfolding amounts_in
  behind f [] cs q h = refl
  behind f (r ∷ rs) [] q h = refl
  behind f (r ∷ rs) (c ∷ cs) q h =
      one_row f r rs c cs q (past f h) ∙ zero-add _ ∙ behind (suc f) rs cs (on_row f r rs q) (omega arith)

  -- from an amount on, of which and behind which there are m
  within : (f m : ℕ) (rs : List Row) (cs : List Text) → amount_rows k f rs ≡ true → a ≤ f → f + m ≡ a + n
      → amounts_in rs cs ≡ worth (take m (take (length rs) cs))
  unfolding amounts_in sum
  within f zero rs cs q h e = behind f rs cs q (omega arith)
  within f (suc m) [] cs q h e = refl
  within f (suc m) (r ∷ rs) [] q h e = refl
  within f (suc m) (r ∷ rs) (c ∷ cs) q h e =
      one_row f r rs c cs q (there f h (omega arith))
      ∙ ap (λ x. (read_amount c).value + x) (within (suc f) m rs cs (on_row f r rs q) (omega arith) (omega arith))

  -- from a field on that stands d before the first amount
  before : (f d : ℕ) (rs : List Row) (cs : List Text) → amount_rows k f rs ≡ true → f + d ≡ a
      → amounts_in rs cs ≡ worth (take n (drop d (take (length rs) cs)))
  unfolding amounts_in sum
  before f zero rs cs q e = within f n rs cs q (omega arith) (omega arith)
  before f (suc d) [] cs q e = absurd (omega (arith, reach f [] q))
  before f (suc d) (r ∷ rs) [] q e = none n
    where
      none : (n : ℕ) → 0 ≡ worth (take n [])
      none zero = refl
      none (suc n) = refl
  before f (suc d) (r ∷ rs) (c ∷ cs) q e =
      one_row f r rs c cs q (not_yet f (omega arith)) ∙ zero-add _ ∙ before (suc f) d rs cs (on_row f r rs q) (omega arith)

  -- each amount of a record that keeps the rules of its fields, the i-th field from f on
  pub all_money : (f : ℕ) (name : Text) (rs : List Row) (cs : List Text) → amount_rows k f rs ≡ true
      → every (λ r. goes_with r.holds r) rs ≡ true → ask_fields f field_order name rs cs ≡ keeps → (i : ℕ) → i < length rs → i < length cs
      → amount_at k (f + i) ≡ true → Money (get_or cs i [])
  unfolding ask_fields every
  all_money f name [] cs q g s i h l t = absurd (omega arith)
  all_money f name (r ∷ rs) [] q g s i h l t = absurd (omega arith)
  all_money f name (r ∷ rs) (c ∷ cs) q g s zero h l t =
      let z : f + 0 ≡ f = omega arith in
      money f name r c (at_row f r rs q ∙ ap (amount_at k) (sym z) ∙ t) (and_left (goes_with r.holds r) _ g)
      (or_else_left (ask_field f field_order name r c) _ s)
  all_money f name (r ∷ rs) (c ∷ cs) q g s (suc i) h l t =
      let z : suc f + i ≡ f + suc i = omega arith in
      all_money (suc f) name rs cs (on_row f r rs q) (and_right (goes_with r.holds r) _ g)
      (or_else_right (ask_field f field_order name r c) _ s) i (omega arith) (omega arith) (ap (amount_at k) z ∙ t)

  pub first_is : 2 ≤ a
  unfolding first_amount
  first_is = if_cases (λ a. 2 ≤ a) (is_in k reimbursements) (λ _. omega arith) (λ _. omega arith)

  -- of all fields of a record
  pub in_row : (rs : List Row) (cs : List Text) → amount_rows k 1 rs ≡ true
      → amounts_in rs cs ≡ worth (take n (drop (a - 1) (take (length rs) cs)))
  in_row rs cs q = before 1 (a - 1) rs cs q (omega (arith, first_is))

  -- what the row of a field says
  pub at_field : (f : ℕ) (rs : List Row) → amount_rows k f rs ≡ true → {i : ℕ} {r : Row} → Nth rs i r
      → is_amount r.holds ≡ amount_at k (f + i - 1)
  at_field f [] q m = elim m [ ]
  at_field f (r ∷ rs) q this = let z : f ≡ f + 1 - 1 = omega arith in at_row f r rs q ∙ ap (amount_at k) z
  at_field f (r ∷ rs) q (next {n = i} m) =
      let z : suc f + i - 1 ≡ f + suc i - 1 = omega arith in at_field (suc f) rs (on_row f r rs q) m ∙ ap (amount_at k) z
