-- A part of a list copied over as a whole is as its elements set one by one.
use Prim.Native.Nat.{ℕ, ◌+◌, ◌≤◌}
use mathlib.Core.Path.{◌≡◌, sym}
use mathlib.Core.List.{List, ◌++◌, append_assoc}
use lib.ListN.{length, take, drop}
use lib.Seq.{drop-drop, sets, sets-eq}

pub copied : (to part : List ℕ) (at n : ℕ) → n ≡ length part → at + length part ≤ length to
    → take at to ++ (part ++ drop n (drop at to)) ≡ sets to at part
copied to part at n e fits = rw (e, drop-drop, ← append_assoc) (sym (sets-eq part to at fits))
