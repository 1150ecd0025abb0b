-- A file that is empty or ends in CR LF: each of its pieces is ended, and what is written after it adds pieces behind them.
use Prim.Native.Nat.{ℕ, suc, ◌≤◌}
use mathlib.Core.Path.{◌≡◌, refl, ap, ◌∙◌}
use mathlib.Core.Bool.{true, false, ◌&&◌, false≢true, and-false}
use mathlib.Core.Logic.{◌≢◌}
use mathlib.Core.List.{List, [], ◌∷◌, ◌++◌, append-nil}
use native.Mathlib.Omega.{arith}
use native.Mathlib.Nat.{not-suc-le-zero}
use lib.Dec.{eqb}
use lib.ListN.{length}
use borrow.Author.Tests.{ne_eqb}
use Rattle.dirf.specs.Bytes.{Text}
use Rattle.dirf.specs.Limits.{CR, LF, line_end}
use Rattle.dirf.specs.Lines.{Piece, push, pieces}
use Rattle.dirf.specs.Theorems.Plain.{NoLineEnd}
use Rattle.dirf.specs.Theorems.GoodSoFar.{Whole, empty, ends_in_CR_LF, line_ends}
use Rattle.dirf.proofs.tests.Bools.{if_cases, by_answer}
use Rattle.dirf.proofs.tests.Says.{it, on}

abbrev pub AllEnded : List Piece → Type 0
AllEnded [] = Unit {0}
AllEnded (p ∷ ps) = (p.ended ≡ true) × AllEnded ps

abbrev empty_line : Piece
empty_line = record { body = []; ended = true }

push_ended : (x : ℕ) (ps qs : List Piece) → AllEnded (push x ps) → AllEnded ps × (push x (ps ++ qs) ≡ push x ps ++ qs)
unfolding push
push_ended x [] qs h = absurd (false≢true h.0)
push_ended x (p ∷ ps) qs h = (h, refl)

pub pieces_append : (a b : Text) → AllEnded (pieces a) → pieces (a ++ b) ≡ pieces a ++ pieces b
unfolding pieces push
pieces_append [] b h = refl
pieces_append (x ∷ []) b h = absurd (false≢true h.0)
pieces_append (x ∷ y ∷ s) b h =
    by_answer (eqb x CR && eqb y LF) (λ q. rw q (ap (λ ps. empty_line ∷ ps) (pieces_append s b (rw q at h).1)))
    (λ q.
    let e = push_ended x (pieces (y ∷ s)) (pieces b) (rw q at h) in
    rw q (ap (push x) (pieces_append (y ∷ s) b e.0) ∙ e.1))

push_length : (x : ℕ) (ps : List Piece) → AllEnded (push x ps) → length (push x ps) ≡ length ps
unfolding push
push_length x [] h = absurd (false≢true h.0)
push_length x (p ∷ ps) h = refl

-- as many pieces as CR LF pairs
pub line_count : (a : Text) → AllEnded (pieces a) → length (pieces a) ≡ line_ends a
unfolding pieces push line_ends
line_count [] h = refl
line_count (x ∷ []) h = absurd (false≢true h.0)
line_count (x ∷ y ∷ s) h =
    by_answer (eqb x CR && eqb y LF) (λ q. rw q (ap suc (line_count s (rw q at h).1)))
    (λ q.
    let k = rw q at h in
    rw q (push_length x (pieces (y ∷ s)) k ∙ line_count (y ∷ s) (push_ended x (pieces (y ∷ s)) [] k).0))

-- all ended, and at least one
abbrev Good : List Piece → Type 0
Good ps = AllEnded ps × (1 ≤ length ps)

push_good : (x : ℕ) (ps : List Piece) → Good ps → Good (push x ps)
unfolding push
push_good x [] h = absurd (not-suc-le-zero h.1)
push_good x (p ∷ ps) h = h

ended_line : (ps : List Piece) → AllEnded ps → Good (empty_line ∷ ps)
ended_line ps h = ((refl, h), omega arith)

ends_good : (s : Text) → Good (pieces (s ++ line_end))
unfolding pieces push
ends_good [] = ended_line [] tt
ends_good (x ∷ []) = rw (and-false (eqb x CR)) (push_good x (pieces line_end) (ended_line [] tt))
ends_good (x ∷ y ∷ s) =
    if_cases Good (eqb x CR && eqb y LF) (λ _. ended_line (pieces (s ++ line_end)) (ends_good s).0)
    (λ _. push_good x (pieces (y ∷ s ++ line_end)) (ends_good (y ∷ s)))

pub whole_ended : {s : Text} → Whole s → AllEnded (pieces s)
unfolding pieces
whole_ended empty = tt
whole_ended (ends_in_CR_LF s) = (ends_good s).0

-- a file that ends in CR LF has a line end
pub ends_line : (s : Text) → 1 ≤ line_ends (s ++ line_end)
ends_line s = let g = ends_good s in omega (arith, line_count (s ++ line_end) g.0, g.1)

pub pieces_push : (b : ℕ) (s : Text) → b ≢ 13 → pieces (b ∷ s) ≡ push b (pieces s)
unfolding pieces
pieces_push b [] n = refl
pieces_push b (c ∷ s) n = rw (ne_eqb b CR n)

-- what stands before any CR or LF goes to the first piece of the rest
pub pieces_front : (c r : Text) (q : Piece) (qs : List Piece) → NoLineEnd c → pieces r ≡ q ∷ qs
    → pieces (c ++ r) ≡ record { body = c ++ q.body; ended = q.ended } ∷ qs
unfolding push
pieces_front [] r q qs n e = e
pieces_front (b ∷ c) r q qs n e = pieces_push b (c ++ r) (n b it).0 ∙ ap (push b) (pieces_front c r q qs (λ x m. n x (on m)) e)

-- a line with its CR LF is one piece
pub line_piece : (line rest : Text) → NoLineEnd line
    → pieces (line ++ (CR ∷ LF ∷ rest)) ≡ record { body = line; ended = true } ∷ pieces rest
unfolding pieces
line_piece line rest n =
    pieces_front line (CR ∷ LF ∷ rest) empty_line (pieces rest) n refl
    ∙ ap (λ l. record { body = l; ended = true } ∷ pieces rest) (append-nil line)

-- bytes with no line end at all are one piece that is not ended
pub rest_piece : (b : ℕ) (s : Text) → NoLineEnd (b ∷ s) → pieces (b ∷ s) ≡ record { body = b ∷ s; ended = false } ∷ []
unfolding pieces push
rest_piece b [] n = refl
rest_piece b (c ∷ s) n = pieces_push b (c ∷ s) (n b it).0 ∙ ap (push b) (rest_piece c s (λ x m. n x (on m)))
