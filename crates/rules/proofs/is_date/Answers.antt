use Prim.Native.Nat.{ℕ, ◌^◌, ◌≤◌, min}
use mathlib.Core.Path.{◌≡◌, ap, ◌∙◌}
use mathlib.Core.Bool.{true}
use native.Mathlib.Nat.{le_trans, min-le_left}
use native.Mathlib.Omega.{arith}
use lib.ListN.{length, drop, length-take, length-drop}
use lib.Seq.{take_all}
use Rattle.dirf.specs.Bytes.{Text, every, is_digit}
use Rattle.dirf.specs.Numbers.{value_of, is_day, is_date}
use Rattle.fields.specs.Places.{part_of}
use Rattle.rules.proofs.Every.{every_part}
use Rattle.rules.proofs.Values.{day_capped}
use Rattle.rules.proofs.is_date.Goals as goal

-- a part of so many digits can be read
readable : (s : Text) (start len : ℕ) → every is_digit s ≡ true → len ≤ 18
    → (every is_digit (part_of s start len) ≡ true) × (length (part_of s start len) ≤ 18)
unfolding part_of
readable s start len e h = (every_part is_digit s start len e, rw length-take (le_trans (min-le_left _ _) h))

-- all that is left after the month is the day
by_parts : (s : Text) {y m d : ℕ} → y ≡ value_of (part_of s 0 4) → m ≡ value_of (part_of s 4 2)
    → d ≡ min (10 ^ 18) (value_of (part_of s 6 (length s))) → is_day y m d ≡ is_date s
unfolding part_of is_date
by_parts s e f g = rw (e, f, g, take_all (length s) (drop 6 s) (rw length-drop (omega arith))) (day_capped _ _ _)

pub value-y-requires : goal.value-y-requires
value-y-requires c = rw c.part.ensures.0 (readable c.args.s.now 0 4 c.requires (omega arith))

pub value-m-requires : goal.value-m-requires
value-m-requires c = rw c.part-2.ensures.0 (readable c.args.s.now 4 2 c.requires (omega arith))

pub capped-d-requires : goal.capped-d-requires
capped-d-requires c = rw c.part-3.ensures.0 (every_part is_digit c.args.s.now 6 (length c.args.s.now) c.requires)

pub returns : goal.returns
returns c =
    let s = c.args.s.now in
    c.is_day.ensures ∙ by_parts s (c.value-y.ensures ∙ ap value_of c.part.ensures.0)
    (c.value-m.ensures ∙ ap value_of c.part-2.ensures.0)
    (c.capped-d.ensures ∙ ap (λ x. min (10 ^ 18) (value_of x)) c.part-3.ensures.0)
