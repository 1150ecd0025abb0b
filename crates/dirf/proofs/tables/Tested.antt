-- An edition is sound by computed tests over its tables, and by four lines that close a file.
use Rattle.std.specs.Prelude.{if◌then◌else◌}
use Prim.Native.Nat.{ℕ, zero, suc}
use mathlib.Core.Path.{◌≡◌, refl, sym, ◌∙◌}
use mathlib.Core.Bool.{Bool, true, false, ◌&&◌, ◌||◌, not, true≢false}
use mathlib.Core.Logic.{⊎_elim}
use mathlib.Core.List.{List, [], ◌∷◌, map}
use lib.Dec.{eqb, leb}
use lib.ListN.{length, get_or}
use borrow.Author.Tests.{leb-true}
use Rattle.dirf.specs.Bytes.{every, is_in, lookup}
use Rattle.dirf.specs.Limits.{line_limit}
use Rattle.dirf.specs.Kinds.{DECPF, is_beneficiary, is_value}
use Rattle.dirf.specs.Row.{obligatory, identifier}
use Rattle.dirf.specs.Below.{Children, by_declarant}
use Rattle.dirf.specs.Edition.{Edition, kind_of, rows_of, is_base}
use Rattle.dirf.specs.LineWriter.{sum}
use Rattle.dirf.specs.Tables.{longest, goes_with, date_sized, amount_rows, RowsRight, AmountsRight, sorts, kinds_of, count}
use Rattle.dirf.specs.Theorems.Plain.{◌∈◌}
use Rattle.dirf.specs.Theorems.Belongs.{parents_of}
use Rattle.dirf.specs.Theorems.Sound.{rising, first_of, Closable, Sound}
use Rattle.dirf.proofs.tests.Bools.{and_left, and_right, or_cases, if_cases}
use Rattle.dirf.proofs.tests.Says.{is_in_says}
use Rattle.dirf.proofs.tests.Lists.{every_in}
use Rattle.dirf.proofs.tables.Tables.{in_group, in_table}

-- what is asked of all that the lists have below one of kind h: it may belong to it, and kind numbers rise, but below a beneficiary
unfoldable pub below_test : ℕ → List ℕ → Bool
below_test h ks = every (λ k. is_in h (parents_of k)) ks && (rising ks || is_beneficiary h)

-- every test of an edition with these two lists
unfoldable pub tests : Edition → Children → Children → List Bool
tests e pf pj =
    -- of the rows of each group
    every (λ g. every (λ r. leb 1 r.size && leb r.size 150) g.1) e.layout ∷
    every (λ g. leb (longest g.1) line_limit) e.layout ∷
    every (λ g. every (λ r. goes_with r.holds r) g.1) e.layout ∷
    every (λ g. every (λ r. date_sized r.format r) g.1) e.layout ∷
    -- of the kinds
    every (λ n. eqb (kind_of e n.1) n.0) e.names ∷
    every (λ k. eqb (count (eqb k) sorts) 1) (kinds_of e) ∷
    every (λ k. eqb (if is_base e k then 1 else 0) (if leb 1 (length (rows_of e k)) then 1 else 0)) (kinds_of e) ∷
    every (λ n. not (eqb n.0 0)) e.names ∷
    every (λ n. not (is_value n.0) || amount_rows n.0 1 (rows_of e n.0)) e.names ∷
    -- of the lists
    every (λ r. below_test r.0 r.1) pf ∷
    every (λ r. below_test r.0 r.1) pj ∷
    []

-- an edition with these lists passes every test, and each of its records begins with its identifier
pub record Tested (e : Edition) (pf pj : Children) : Type 0 where
  pub lists : e.below ≡ by_declarant pf pj
  pub passed : every (λ t. t) (tests e pf pj) ≡ true
  pub identified : map (λ g. first_of g.1) e.layout ≡ map (λ g. (obligatory, identifier)) e.layout

nth_passed : (ts : List Bool) → every (λ t. t) ts ≡ true → (i : ℕ) → get_or ts i true ≡ true
unfolding every
nth_passed [] e i = refl
nth_passed (t ∷ ts) e zero = and_left t (every (λ t. t) ts) e
nth_passed (t ∷ ts) e (suc i) = nth_passed ts (and_right t (every (λ t. t) ts) e) i

module _ {e : Edition} {pf pj : Children} (t : Tested e pf pj) where
  passes : (i : ℕ) → get_or (tests e pf pj) i true ≡ true
  passes = nth_passed (tests e pf pj) t.passed

  rows_right : RowsRight e
  unfolding rows_of every sum tests
  rows_right =
      record {
        sizes = in_group (every (λ r. leb 1 r.size && leb r.size 150)) refl e.layout (passes 0);
        lines = λ k.
            leb-true (longest (rows_of e k)) line_limit (in_group (λ rs. leb (longest rs) line_limit) refl e.layout (passes 1) k);
        held = in_group (every (λ r. goes_with r.holds r)) refl e.layout (passes 2);
        dates = in_group (every (λ r. date_sized r.format r)) refl e.layout (passes 3);
      }

  pub amounts_right : AmountsRight e
  unfolding tests
  amounts_right = record { amounts = passes 8 }

  -- of either declarant's list
  below_tested : (d h : ℕ) → below_test h (lookup [] (e.below d) h) ≡ true
  unfolding by_declarant below_test every rising tests
  below_tested d h =
      rw t.lists
      (if_cases (λ l. below_test h (lookup [] l h) ≡ true) (eqb d DECPF) (λ _. in_table below_test [] (λ h. refl) pf (passes 9) h)
      (λ _. in_table below_test [] (λ h. refl) pj (passes 10) h))

  nested : (d h k : ℕ) → is_in k (lookup [] (e.below d) h) ≡ true → h ∈ parents_of k
  unfolding below_test
  nested d h k m =
      let ks : List ℕ = lookup [] (e.below d) h in
      (is_in_says h (parents_of k)).0
      (every_in (λ k. is_in h (parents_of k)) ((is_in_says k ks).0 m) (and_left _ (rising ks || is_beneficiary h) (below_tested d h)))

  -- the order of kind numbers is the order of the lists, but below a beneficiary
  ordered : (d h : ℕ) → is_beneficiary h ≡ false → rising (lookup [] (e.below d) h) ≡ true
  unfolding below_test
  ordered d h other =
      let ks : List ℕ = lookup [] (e.below d) h in
      ⊎_elim (λ r. r) (λ b. absurd (true≢false (sym b ∙ other)))
      (or_cases (rising ks) (is_beneficiary h) (and_right (every (λ k. is_in h (parents_of k)) ks) _ (below_tested d h)))

  pub sound : Closable e → Sound e
  unfolding tests
  sound c =
      record {
        rows = rows_right;
        kinds = record { named = passes 4; sorted = passes 5; laid_out = passes 6 };
        numbered = passes 7;
        identified = t.identified;
        nested = nested;
        ordered = ordered;
        closable = c;
      }
