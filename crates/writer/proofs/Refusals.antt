-- What the code finds by lent tables is what the line writer's rules find, of any edition that the tables say.
use Rattle.std.specs.Prelude.{if◌then◌else◌}
use Prim.Native.Nat.{ℕ, ◌+◌, ◌≤◌}
use mathlib.Core.Path.{◌≡◌, refl}
use mathlib.Core.Bool.{Bool, true, false, not}
use mathlib.Core.List.{List, [], ◌∷◌, ◌++◌}
use native.Mathlib.Omega.{arith}
use lib.Dec.{eqb, ltb}
use lib.ListN.{length}
use borrow.Author.Tests.{eqb-true}
use Rattle.dirf.specs.Bytes.{Text}
use Rattle.dirf.specs.Edition as dirf
use Rattle.dirf.specs.Edition.{is_base, name_of, rows_of}
use Rattle.editions.specs.declared.Edition.{Edition}
use Rattle.editions.specs.Editions.{edition_says, edition_said}
use Rattle.dirf.specs.Rules.{Found, Rule, gives, given, or_else, asked_of, over, ask, first}
use Rattle.dirf.specs.Order.{contents_of, wrong_number_of_fields, contents}
use Rattle.dirf.specs.LineWriter.{sum, Writing, writing, no_base_kind, lengths_do_not_add_up, output_too_small, writer_order}
use Rattle.dirf.proofs.rules.RulesPut.{first_append, first_over}
use Rattle.fields.specs.Places.{cells_at, places_along}
use Rattle.fields.proofs.Along.{along_cells}
use Rattle.layout.specs.LaidOut.{Say}
use Rattle.layout.specs.Tables.{name_table, row_table}
use Rattle.layout.proofs.Laws.{count_is, few_rows, says}
use Rattle.layout.proofs.Editions.{laid_out_lem}
use Rattle.rules.specs.Findings.{contents_found}
use Rattle.rules.proofs.Laws.{or_keeps}
use Rattle.writer.specs.declared.Asked.{Asked}
use Rattle.writer.specs.Answers.{misfit_of, contents_along, refusal_of}
use Rattle.writer.proofs.Lengths.{cut_length, line_length}

-- 22, 11 and 23 by what their tests say, and what comes after where none is given
three : (base counted added : Bool) (x y : Found) → (counted ≡ true → added ≡ true → x ≡ y)
    → let n : ℕ = if not base then 22 else (if not counted then 11 else (if not added then 23 else 0)) in
    or_else (given n 0 (not (eqb n 0))) x
    ≡ or_else (given 22 0 (not base)) (or_else (given 11 0 (not counted)) (or_else (given 23 0 (not added)) y))
unfolding given or_else
three false c a x y h = refl
three true false a x y h = refl
three true true false x y h = refl
three true true true x y h = h refl refl

-- no start is capped inside a text that is in memory
module _ {e : dirf.Edition} (a : Asked) (say : Say e a.names.now a.rows.now) (room : ℕ)
    (small : length a.contents.now ≤ 18446744073709551615) where
  abbrev k : ℕ
  k = a.kind

  abbrev text : Text
  text = a.contents.now

  abbrev ns : List ℕ
  ns = a.lengths.now

  -- 13 to 19 and 26, then 24
  abbrev later : List (Rule Writing)
  later = over (λ w. w.contents) contents ++ (gives 24 0 output_too_small ∷ [])

  later_finds : length ns ≡ length (rows_of e k) → sum ns ≡ length text
      → or_else (contents_found k (name_of e k) (rows_of e k) (cells_at text (places_along ns)))
      (given 24 0 (ltb room (length text + length ns + 2)))
      ≡ first later (writing e k text ns room)
  unfolding first ask contents_found writing contents_of output_too_small
  later_finds counted added =
      let w = writing e k text ns room in
      rw (
        along_cells text small ns added (omega (arith, few_rows say.all_rows k)),
        ← line_length ns text added,
        first_append (over (λ w. w.contents) contents) (gives 24 0 output_too_small ∷ []) w,
        first_over (λ w. w.contents) contents w,
        or_keeps (given 24 0 _),
      )

  pub by_tables : refusal_of a room ≡ first writer_order (writing e k text ns room)
  unfolding misfit_of contents_along refusal_of first ask over asked_of writer_order writing contents_of
      no_base_kind wrong_number_of_fields lengths_do_not_add_up
  by_tables =
      rw (say.base k, count_is say.all_rows k, say.name k, say.all_rows.fields k, cut_length ns text)
      (three (is_base e k) (eqb (length ns) (length (rows_of e k))) (eqb (sum ns) (length text)) _ _
      (λ c a. later_finds (eqb-true (length ns) (length (rows_of e k)) c) (eqb-true (sum ns) (length text) a)))

-- the tables of an edition say it
pub by_edition : (e : Edition) (a : Asked) → a.names.now ≡ name_table (edition_said e) → a.rows.now ≡ row_table (edition_said e)
    → (room : ℕ) → length a.contents.now ≤ 18446744073709551615
    → refusal_of a room ≡ first writer_order (writing (edition_said e) a.kind a.contents.now a.lengths.now room)
by_edition e a n r room small = by_tables a (rw (n, r) (says _ (laid_out_lem (edition_says e)))) room small

-- to compute with what the code finds, for the search of its proof
unfoldable pub refusal_opens : Unit {0}
unfolding refusal_of given or_else
refusal_opens = tt
