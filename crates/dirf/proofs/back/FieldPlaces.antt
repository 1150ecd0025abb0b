-- The field reader's place and bytes agree.
use Prim.Native.Nat.{ℕ, zero, suc, ◌+◌, ◌-◌, ◌≤◌}
use mathlib.Core.Path.{◌≡◌, refl, sym, ap, ◌∙◌}
use mathlib.Core.Bool.{true, false, false≢true}
use mathlib.Core.List.{[], ◌∷◌, ◌++◌, append_assoc, append-nil}
use native.Mathlib.Omega.{arith}
use lib.Dec.{leb}
use lib.ListN.{length, get_or, take, drop, length-append, get_or-eq_default}
use lib.Seq.{split_at, drop_at, take-append_seam}
use borrow.Author.Tests.{leb-true, leb-false, le-leb}
use Rattle.dirf.specs.Bytes.{Text}
use Rattle.dirf.specs.Limits.{bar}
use Rattle.dirf.specs.Lines.{fields, field}
use Rattle.dirf.specs.FieldReader.{field_there, field_of, field_start, field_length}
use Rattle.dirf.specs.LineWriter.{joined}
use Rattle.dirf.specs.Theorems.ThereAndBack.{FieldPlaced}
use Rattle.dirf.proofs.tests.Bools.{and_right, by_answer}
use Rattle.dirf.proofs.back.Bars.{rejoined, length_joined, joined_append}

-- a part c of a line from byte `start` on: its bytes stand there, inside the line
abbrev Part : Text → Text → ℕ → Type 0
Part line c start = (take (length c) (drop start line) ≡ c) × (start + length c ≤ length line)

part : {line : Text} (before c behind : Text) (start : ℕ) → line ≡ before ++ (c ++ behind) → length before ≡ start → Part line c start
part before c behind start w s =
    (rw (w, drop_at before (c ++ behind) start s, take-append_seam c behind), rw w (simp length-append (omega arith)))

nowhere : (k : ℕ) (line : Text) → field_there k line ≡ false → (field_start k line ≡ length line) × (field_of k line ≡ [])
unfolding field_there field_start field_of field
nowhere zero line e = (refl, refl)
nowhere (suc j) line e =
    let past = leb-false (suc j) (length (fields line)) (rw (le-leb 1 (suc j) (omega arith)) at e) in
    (rw e, get_or-eq_default (fields line) [] (omega arith))

somewhere : (k : ℕ) (line : Text) → field_there k line ≡ true → Part line (field_of k line) (field_start k line)
unfolding field_there field_start field_of field joined
somewhere zero line e = absurd (false≢true e)
somewhere (suc j) line e =
    let cs = fields line in
    let below = leb-true (suc j) (length cs) (and_right (leb 1 (suc j)) (leb (suc j) (length cs)) e) in
    let parted : joined cs ≡ joined (take j cs) ++ (get_or cs j [] ++ (bar ∷ joined (drop (suc j) cs)))
    = ap joined (split_at cs j [] below) ∙ joined_append (take j cs) (get_or cs j [] ∷ drop (suc j) cs) in
    let minus : suc j - 1 ≡ j = omega arith in
    part (joined (take j cs)) (get_or cs j []) ((bar ∷ joined (drop (suc j) cs)) ++ (rejoined line).rest) _
    ((rejoined line).whole ∙ rw parted (simp append_assoc)) (rw (e, minus) (length_joined (take j cs)))

pub field_placed : (k : ℕ) (line : Text) → FieldPlaced k line
unfolding field_length
field_placed k line =
    let place : Part line (field_of k line) (field_start k line) =
    by_answer (field_there k line) (somewhere k line)
    (λ e. let n = nowhere k line e in rw (n.0, n.1) (part line [] [] (length line) (sym (append-nil line)) refl)) in
    record { bytes = place.0; inside = place.1; nowhere = λ e. ((nowhere k line e).0, ap length (nowhere k line e).1) }
