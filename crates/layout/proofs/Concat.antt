-- Lists of one width, end to end.
use Prim.Native.Nat.{ℕ, zero, suc, ◌+◌, ◌*◌, ◌<◌}
use mathlib.Core.Path.{◌≡◌, sym, ap, ◌∙◌}
use mathlib.Core.List.{List, ◌++◌, head-eq_of_cons-eq, tail-eq_of_cons-eq}
use native.Mathlib.Nat.{add-zero, add-suc, suc-add, add_comm, zero-mul, suc-mul, le_of_suc-le-suc, not-suc-le-zero}
use lib.ListN.{length, drop, replicate}
use lib.Seq.{drop-append-add}
use Rattle.kinds.specs.Kinds.{tab}
use Rattle.layout.specs.Tables.{concat}

-- the k-th stands k widths from the start
pub concat_drop : (g : ℕ → List ℕ) (w i n k : ℕ) → tab (λ x. length (g x)) i n ≡ replicate n w → k < n
    → (rest : List ℕ) × (drop (k * w) (concat (tab g i n)) ≡ g (i + k) ++ rest)
unfolding concat
concat_drop g w i zero k all h = absurd (not-suc-le-zero h)
concat_drop g w i (suc n) zero all h = (concat (tab g (suc i) n), rw (zero-mul w, add-zero i))
concat_drop g w i (suc n) (suc k) all h =
    let r = concat_drop g w (suc i) n k (tail-eq_of_cons-eq all) (le_of_suc-le-suc h) in
    let l : w ≡ length (g i) = sym (head-eq_of_cons-eq all) in
    let m : suc k * w ≡ length (g i) + k * w = suc-mul k w ∙ add_comm (k * w) w ∙ ap (λ x. x + k * w) l in
    (r.0, rw (m, drop-append-add (g i), add-suc i k, ← suc-add i k) r.1)
