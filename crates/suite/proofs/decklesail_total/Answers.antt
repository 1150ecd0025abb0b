-- A number past the kinds is no value record's, and has no total.
use Prim.Native.Nat.{ℕ, ◌≤◌}
use mathlib.Core.Path.{◌≡◌, refl, sym, ap, ◌∙◌}
use mathlib.Core.Bool.{false}
use mathlib.Core.List.{List}
use native.Mathlib.Omega.{arith}
use lib.ListN.{length, get_or, get_or-eq_default}
use Rattle.dirf.specs.Bytes.{Text, bytes_opens}
use Rattle.dirf.specs.Kinds.{values, reimbursements, is_value, kinds_opens}
use Rattle.dirf.specs.Totals.{total_by, total_of}
use Rattle.dirf.proofs.files.Files.{files_totals}
use Rattle.kinds.specs.Kinds.{kinds}
use Rattle.kinds.proofs.Past.{by_kind, is_in_past}
use Rattle.checker.specs.Totals.{totals_in}
use Rattle.checker.proofs.Lent.{totals_length, total_at}
use Rattle.suite.proofs.decklesail_total.Goals as goal

past : (k : ℕ) → kinds ≤ k → is_value k ≡ false
unfolding bytes_opens kinds_opens
past k h = rw (is_in_past kinds k h values refl, is_in_past kinds k h reimbursements refl)

-- what stands at the place of a kind, among as many as there are kinds
at_place : (file : Text) (room k : ℕ) (t : List ℕ) → length t ≡ kinds → get_or (totals_in (total_of file room) t) k 0 ≡ total_of file room k
unfolding total_of total_by
at_place file room k t long =
    by_kind k (λ h. total_at (total_of file room) t k h (omega (arith, long)))
    (λ h.
    let over : length (totals_in (total_of file room) t) ≤ k = omega (arith, long, totals_length (total_of file room) t) in
    get_or-eq_default (totals_in (total_of file room) t) 0 over ∙ sym ((files_totals.totals file).none k (past k h) _))

pub returns : goal.returns
returns c =
    let a = c.args in
    c.total_at.ensures ∙ ap (λ t. get_or t a.kind 0) c.room_totals.ensures.totals
    ∙ at_place a.file.now a.room a.kind _ refl
