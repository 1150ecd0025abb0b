-- What the line writer answers and leaves in the output, by what its rules find.
use Prim.Native.Nat.{ℕ, ◌≤◌}
use mathlib.Core.Path.{◌≡◌, sym, ap, ◌∙◌}
use mathlib.Core.List.{List, [], ◌++◌}
use native.Mathlib.Nat.{zero-add}
use native.Mathlib.Omega.{arith}
use lib.ListN.{length, drop}
use lib.Seq.{sets, sets-eq}
use borrow.Author.Tests.{eqb-true, ltb-false, not-false}
use Rattle.dirf.specs.Bytes.{Text}
use Rattle.dirf.specs.Edition.{Edition}
use Rattle.dirf.specs.Rules.{Found, keeps, breaks, first}
use Rattle.dirf.specs.Order.{contents_of}
use Rattle.dirf.specs.Written.{writes}
use Rattle.dirf.specs.LineWriter.{cut, sum, line_of, writing, lengths_do_not_add_up, output_too_small, writer_order, write_line}
use Rattle.dirf.proofs.tests.Lists.{listed}
use Rattle.dirf.proofs.rules.Asked.{rule_kept}

module _ (e : Edition) (k : ℕ) (text : Text) (ns : List ℕ) (room : ℕ) where
  abbrev asked : Found
  asked = first writer_order (writing e k text ns room)

  -- a breach is the first refusal
  pub line_refused : {n f : ℕ} → breaks n f ≡ asked → write_line e k text ns room ≡ writes (breaks n f) []
  unfolding write_line writing contents_of writes
  line_refused q = ap (λ x. writes x (line_of (cut ns text))) (sym q)

  module _ (nothing : keeps ≡ asked) where
    pub line_written_lem : write_line e k text ns room ≡ writes keeps (line_of (cut ns text))
    unfolding write_line writing contents_of
    line_written_lem = ap (λ f. writes f (line_of (cut ns text))) (sym nothing)

    pub added_up : sum ns ≡ length text
    unfolding writing writer_order lengths_do_not_add_up
    added_up =
        eqb-true (sum ns) (length text)
        (not-false _ (rule_kept 23 0 lengths_do_not_add_up (writing e k text ns room) (search listed depth 30) (sym nothing)))

    pub has_room : length (line_of (cut ns text)) ≤ room
    unfolding writing writer_order contents_of output_too_small
    has_room =
        ltb-false room (length (line_of (cut ns text)))
        (rule_kept 24 0 output_too_small (writing e k text ns room) (search listed depth 30) (sym nothing))

    -- the line stored from the beginning is what the output holds, and behind it what was there
    pub line_stored : (out : Text) → room ≡ length out
        → sets out 0 (line_of (cut ns text)) ≡ line_of (cut ns text) ++ drop (length (line_of (cut ns text))) out
    line_stored out l = sets-eq (line_of (cut ns text)) out 0 (omega (arith, has_room)) ∙ rw zero-add
