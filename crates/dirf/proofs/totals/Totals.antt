-- All that is said of totals, for every sound edition.
use Prim.Native.Nat.{ℕ, ◌+◌, ◌-◌, ◌*◌, ◌≤◌, ◌<◌}
use mathlib.Core.Path.{◌≡◌, refl, sym, ap, ◌∙◌, subst}
use mathlib.Core.Bool.{false}
use mathlib.Core.List.{List, [], ◌∷◌, ◌++◌, map, map-append}
use native.Mathlib.Omega.{arith}
use native.Mathlib.Nat.{zero-add}
use lib.Dec.{leb, ltb}
use lib.ListN.{length, take, length-take, length-map, length-append}
use lib.Seq.{take-append-le}
use Rattle.dirf.specs.Bytes.{Text}
use Rattle.dirf.specs.Kinds.{is_value}
use Rattle.dirf.specs.Edition.{Edition, kind_of, rows_of}
use Rattle.dirf.specs.Lines.{Piece, pieces}
use Rattle.dirf.specs.Check.{table_of, Verdict, accepted, refused, verdict}
use Rattle.dirf.specs.Totals.{added, total, lines_read, total_by}
use Rattle.dirf.specs.Tables.{first_amount, amount_count, amount_at, AmountsRight}
use Rattle.dirf.specs.Theorems.Sound.{Sound}
use Rattle.dirf.specs.Theorems.Answered.{recs, Answer, accepts, unclosed, refuses}
use Rattle.dirf.specs.Theorems.GoodSoFar.{Whole, line_ends}
use Rattle.dirf.specs.Theorems.Totals.{largest_line, Totals}
use Rattle.dirf.proofs.tests.Says.{Says, says_and, leb_says, ltb_says}
use Rattle.dirf.proofs.tree.History.{table_length}
use Rattle.dirf.proofs.files.RunLaws.{length_recs}
use Rattle.dirf.proofs.files.WholeLaws.{pieces_append, line_count, whole_ended}
use Rattle.dirf.proofs.files.Answered.{answered}
use Rattle.dirf.proofs.files.Counts.{counts}
use Rattle.dirf.proofs.files.GoodSoFar.{good_so_far}
use Rattle.dirf.proofs.totals.Row.{at_field}
use Rattle.dirf.proofs.totals.Line.{only_its_own, named_rows, added_bound}

abbrev body : Piece → Text
body p = p.body

module _ (e : Edition) where
  pub total_next : (k : ℕ) (lines : List Text) (line : Text) → total e k (lines ++ (line ∷ [])) ≡ total e k lines + added e k line
  unfolding total
  total_next k [] line = omega arith
  total_next k (l ∷ ls) line = omega (arith, total_next k ls line)

  pub total_none : (k : ℕ) → is_value k ≡ false → (lines : List Text) → total e k lines ≡ 0
  unfolding total added
  total_none k other [] = refl
  total_none k other (l ∷ ls) = rw other (zero-add _ ∙ total_none k other ls)

  pub total_bound : Sound e → AmountsRight e → (k : ℕ) (lines : List Text) → total e k lines ≤ length lines * largest_line
  unfolding total
  total_bound sound right k [] = omega arith
  total_bound sound right k (l ∷ ls) = omega (arith, added_bound e sound right k l, total_bound sound right k ls)

  -- the lines read of a whole file, to which something is added
  read_on : (s t : Text) (n : ℕ) → Whole s → n ≤ line_ends s → take n (map body (pieces (s ++ t))) ≡ take n (map body (pieces s))
  read_on s t n w few =
      let ended = whole_ended w in
      ap (λ ps. take n (map body ps)) (pieces_append s t ended) ∙ ap (take n) (map-append body (pieces s) (pieces t))
      ∙ take-append-le n (map body (pieces s)) (map body (pieces t)) (omega (arith, length-map (pieces s) body, line_count s ended))

  -- are no more than it has
  few_read : Sound e → (s : Text) (room : ℕ) → Whole s → length (verdict e s room).table ≤ line_ends s
  unfolding accepted refused
  few_read sound s room w = go (verdict e s room) (answered e sound s room)
    where
      all : (os : List Piece) → length (table_of (recs e [] os)) ≡ length os
      all os = table_length (recs e [] os) ∙ length_recs e [] os ∙ zero-add (length os)

      count : length (pieces s) ≡ line_ends s
      count = line_count s (whole_ended w)

      go : (v : Verdict) → Answer e s room v → length v.table ≤ line_ends s
      go v (accepts a) = omega (arith, all (pieces s), count)
      go v (unclosed l c) = omega (arith, all (pieces s), count)
      go v (refuses os p qs n f cut l b) = omega (arith, all os, count, ap length cut, length-append os (p ∷ qs))

  pub totals : Sound e → AmountsRight e → Totals e
  unfolding total_by lines_read amount_at
  totals sound right =
      record {
        which = λ s v f r m.
            let k = kind_of e s in
            let a = first_amount k in
            let past = a + amount_count k in
            let z : 1 + f - 1 ≡ f = omega arith in
            subst (λ b. Says b ((a ≤ f) × (f < past))) (sym (at_field k 1 (rows_of e k) (named_rows e sound right s v) m
            ∙ ap (amount_at k) z))
            (says_and (leb a f) (ltb f past) (leb_says a f) (ltb_says f past));
        own = only_its_own e;
        none = total_none;
        next = total_next;
        bounded = λ file room k.
            let n = length (verdict e file room).table in
            let ls = map body (pieces file) in
            omega (arith, total_bound sound right k (take n ls), length-take n ls, (counts e sound file room).few);
        fits = omega arith;
        final = λ s room u refused t k.
            let same = (good_so_far e sound s room u).final refused t in
            ap (λ (v : Verdict). total e k (take (length v.table) (map body (pieces (s ++ t))))) same
            ∙ ap (total e k) (read_on s t _ u.whole (few_read sound s room u.whole));
      }
