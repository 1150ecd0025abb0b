-- A contract allows one outcome: any two answers, tables and totals that it allows for the same arguments are equal.
use Prim.Native.Nat.{ℕ}
use mathlib.Core.Path.{sym, ◌∙◌}
use mathlib.Core.List.{List}
use Rattle.fields.proofs.Determined.{One, OneWith, both_one}
use Rattle.checker.proofs.check.Reads as check
use Rattle.checker.proofs.check_room.Reads as check-room
use Rattle.checker.proofs.check_totals.Reads as check-totals
use Rattle.checker.proofs.room_totals.Reads as room-totals

pub check_one : OneWith check.Post (λ κs s. s.1.0.now)
check_one κs a x y s t p q = both_one p q

pub check_room_one : One check-room.Post
check_room_one κs a x y s t p q = p ∙ sym q

pub check_totals_one : OneWith {Y = List ℕ × List ℕ} check-totals.Post (λ κs s. (s.1.0.now, s.1.1.0.now))
check_totals_one κs a x y s t p q =
    let both = both_one p.1 q.1 in
    (p.0 ∙ sym q.0, λ i. (both.0 i, both.1 i))

pub room_totals_one : OneWith room-totals.Post (λ κs s. s.1.1.0.now)
room_totals_one κs a x y s t p q = both_one p q
