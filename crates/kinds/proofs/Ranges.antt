-- What a definition by lists says of a kind, by ranges, as the code asks: one computed test over the kinds, and one law past them.
use Rattle.std.specs.Prelude.{if◌then◌else◌}
use Prim.Native.Nat.{ℕ, ◌≤◌}
use mathlib.Core.Path.{◌≡◌, refl, sym, ◌∙◌}
use mathlib.Core.Bool.{Bool, false, ◌&&◌, ◌||◌, or-false}
use native.Mathlib.Omega.{arith}
use lib.Dec.{eqb, leb}
use Rattle.std.proofs.lemmas.Bool.Decides.{nat_tests}
use Rattle.dirf.specs.Bytes.{every, some, is_in, bytes_opens}
use Rattle.dirf.specs.Kinds.{later, values, reimbursements, is_later, stands_once, opens_nothing, kinds_opens}
use Rattle.dirf.specs.Layout.{monthly2025}
use Rattle.dirf.specs.Tables.{yearly, first_amount, amount_count}
use Rattle.dirf.specs.Tree.{block_of}
use Rattle.kinds.specs.Kinds.{kinds, tab, month_count}
use Rattle.kinds.proofs.Past.{by_kind, is_in_past, lookup_past}
use Rattle.kinds.proofs.Tab.{tab_each}

-- two functions that are alike over the kinds, and past them
alike : {A : Type 0} (f g : ℕ → A) → tab f 0 kinds ≡ tab g 0 kinds → ((k : ℕ) → kinds ≤ k → f k ≡ g k) → (k : ℕ) → f k ≡ g k
alike f g all past k = by_kind k (tab_each f g kinds all k) (past k)

abbrev in_later : ℕ → Bool
in_later k = leb 45 k && leb k 47 || leb 69 k && leb k 72

abbrev in_once : ℕ → Bool
in_once k = leb 7 k && leb k 19 || leb 21 k && leb k 28 || leb 30 k && leb k 43 || eqb k 53 || (eqb k 57 || eqb k 58) || eqb k 61

abbrev block_by : ℕ → ℕ → ℕ
block_by d k =
    if eqb k 6 || eqb k 44 then d
    else (if eqb k 49 || eqb k 50 then 48 else (if eqb k 52 || eqb k 54 then 51 else (if eqb k 56 then 55 else 0)))

abbrev amounts : ℕ → ℕ
amounts k =
    if leb 40 k && leb k 43 || eqb k 53 then 1
    else (if eqb k 66 || eqb k 68 then 2 else (if eqb k 58 then 0 else month_count k))

pub later_is : (k : ℕ) → is_later k ≡ in_later k
unfolding bytes_opens kinds_opens
later_is =
    alike is_later in_later refl (λ k h. let e : false ≡ in_later k = grind (arith, nat_tests) in is_in_past kinds k h later refl ∙ e)

pub once_is : (k : ℕ) → stands_once k ≡ in_once k
unfolding bytes_opens kinds_opens
once_is =
    alike stands_once in_once refl (λ k h. let e : false ≡ in_once k = grind (arith, nat_tests) in is_in_past kinds k h values refl ∙ e)

pub nothing_is : (k : ℕ) → opens_nothing k ≡ (stands_once k || (eqb k 66 || eqb k 68))
unfolding opens_nothing stands_once reimbursements is_in some
nothing_is k = rw or-false

pub first_is : (k : ℕ) → first_amount k ≡ (if eqb k 66 || eqb k 68 then 4 else 2)
unfolding first_amount reimbursements is_in some
first_is k = rw or-false

-- past the kinds there is no amount and no block
no_count : (k : ℕ) → kinds ≤ k → amounts k ≡ month_count k
no_count k h = grind (arith, nat_tests)

no_amounts : (k : ℕ) → kinds ≤ k → amount_count k ≡ month_count k
unfolding amount_count month_count bytes_opens kinds_opens
no_amounts k h =
    rw (
      is_in_past kinds k h values refl,
      is_in_past kinds k h monthly2025 refl,
      is_in_past kinds k h yearly refl,
      is_in_past kinds k h reimbursements refl,
    )

pub count_is : (k : ℕ) → amount_count k ≡ amounts k
unfolding amount_count month_count bytes_opens kinds_opens
count_is = alike amount_count amounts refl (λ k h. no_amounts k h ∙ sym (no_count k h))

no_block : (d k : ℕ) → kinds ≤ k → 0 ≡ block_by d k
no_block d k h = grind (arith, nat_tests)

past_blocks : (d k : ℕ) → kinds ≤ k → block_of d k ≡ block_by d k
unfolding every block_of
past_blocks d k h = lookup_past kinds k h 0 _ refl ∙ no_block d k h

pub block_is : (d k : ℕ) → block_of d k ≡ block_by d k
unfolding block_of bytes_opens
block_is d = alike (block_of d) (block_by d) refl (past_blocks d)

-- for the prover's own search
pub ruleset later_ones = (later_is, nat_tests)

pub ruleset once = (once_is, nat_tests)

pub ruleset nothing = (nothing_is, nat_tests)

pub ruleset firsts = (first_is, nat_tests)

pub ruleset counts = (count_is, nat_tests)

pub ruleset blocks = (block_is, nat_tests)
