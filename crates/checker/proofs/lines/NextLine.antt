-- The line that comes next: what the code's tests read of it, byte by byte, and what is found there.
use Rattle.std.specs.Prelude.{if◌then◌else◌}
use Prim.Native.Nat.{ℕ, suc, ◌-◌, ◌≤◌, ◌<◌, zero, ◌+◌}
use mathlib.Core.Path.{◌≡◌, refl, ap, ◌∙◌, sym, subst}
use mathlib.Core.Bool.{false, Bool, true, ◌&&◌, not, and-false}
use mathlib.Core.List.{[], ◌∷◌, List, ◌++◌, append-nil}
use mathlib.Core.Logic.{◌⊎◌, ⊎_elim}
use native.Mathlib.Omega.{arith}
use lib.Dec.{eqb, leb, ltb}
use lib.ListN.{length, get_or, drop, take}
use lib.Seq.{drop-append_seam, take-append_seam, drop-append-add}
use Rattle.std.proofs.lemmas.Bool.Decides.{nat_tests}
use borrow.Author.Tests.{lt-leb, le-leb, eqb-true, ltb-false}
use Rattle.dirf.specs.Bytes.{Text, ends_with, is_empty}
use Rattle.dirf.specs.Limits.{line_limit, CR, LF}
use Rattle.dirf.specs.Lines.{clean, unclean, Piece, push, pieces}
use Rattle.dirf.specs.Rules.{Found, keeps, breaks, given, or_else}
use Rattle.dirf.specs.Order.{nothing_or_CR}
use Rattle.dirf.specs.Theorems.Plain.{NoLineEnd}
use Rattle.dirf.proofs.breaches.CleanLaws.{clean_unclean, line_end_says, clean_none, clean_front, unclean_front, unclean_begins}
use Rattle.dirf.proofs.tests.Bools.{and_left, and_right, by_answer}
use Rattle.dirf.proofs.files.WholeLaws.{pieces_front, rest_piece}
use Rattle.fields.specs.Places.{part_of}
use Rattle.checker.specs.Lines.{end_of, number_at}

-- what stands behind the bytes of a line
pub drop_clean : (s : Text) → drop (length (clean s)) s ≡ unclean s
drop_clean s = ap (drop (length (clean s))) (clean_unclean s) ∙ drop-append_seam (clean s) (unclean s)

pub ruleset line_at = (drop_clean, nat_tests)

-- the last byte
pub last_lem : (b : ℕ) (s : Text) → ends_with b s ≡ (leb 1 (length s) && eqb (get_or s (length s - 1) 0) b)
unfolding ends_with
last_lem b [] = refl
last_lem b (c ∷ []) = refl
last_lem b (c ∷ d ∷ s) =
    let e : suc (suc (length s)) - 1 ≡ suc (suc (length s) - 1) = omega arith in
    last_lem b (d ∷ s)
    ∙ rw (e, le-leb 1 (suc (length s)) (omega arith), le-leb 1 (suc (suc (length s))) (omega arith))

-- what ends a line, test by test
pub ended : (u : Text)
    → end_of u
    ≡ (if leb (length u) 0 then 5 else (if eqb (get_or u 0 0) 10 then 6
    else (if leb (length u) 1 then 5 else (if eqb (get_or u 1 0) 10 then 0 else 6))))
unfolding end_of
ended [] = refl
ended (b ∷ []) = refl
ended (b ∷ c ∷ u) = rw (lt-leb (suc (suc (length u))) 0 (omega arith), lt-leb (suc (suc (length u))) 1 (omega arith))

-- The line that is found at the front of what is left: the first piece, and what 4, 5 and 6 say of it.

-- 4, 5 and 6 of a piece
unfoldable pub scan_found : Piece → Found
scan_found p =
    or_else (given 4 0 (ltb line_limit (length (clean p.body))))
    (or_else (given 5 0 (not p.ended && nothing_or_CR (unclean p.body)))
    (given 6 0 (not (is_empty (unclean p.body)))))

-- a number that is found, with field 0
unfoldable pub found_of : ℕ → Found
found_of zero = keeps
found_of (suc n) = breaks (suc n) 0

-- what is known of a line c that is whole
pub record WholeLine (s c : Text) (piece : Piece) (rest : List Piece) : Type 0 where
  pub is_piece : piece ≡ record { body = c; ended = true }
  pub is_rest : rest ≡ pieces (drop (length c + 2) s)
  pub short : length c ≤ line_limit

pub record Read (s c : Text) (n : ℕ) : Type 0 where
  pub piece : Piece
  pub rest : List Piece
  pub first : pieces s ≡ piece ∷ rest
  pub told : scan_found piece ≡ found_of n
  pub whole : n ≡ 0 → WholeLine s c piece rest

-- what goes on begins with a piece; behind a byte it is no end of the input, since a file that is not ended ends in a byte
begins : (b d : ℕ) (s : Text)
    → (q : Piece) × (qs : List Piece) × (pieces (d ∷ s) ≡ q ∷ qs) × ((not q.ended && nothing_or_CR (b ∷ q.body)) ≡ false)
unfolding pieces push nothing_or_CR
begins b d [] = (record { body = d ∷ []; ended = false }, [], refl, refl)
begins b d (c ∷ s) = go (eqb d CR && eqb c LF) (pieces (c ∷ s))
  where
    go : (t : Bool) (ps : List Piece)
        → (q : Piece) × (qs : List Piece) × ((if t then record { body = []; ended = true } ∷ pieces s else push d ps) ≡ q ∷ qs)
        × ((not q.ended && nothing_or_CR (b ∷ q.body)) ≡ false)
    go true ps = (record { body = []; ended = true }, pieces s, refl, refl)
    go false [] = (record { body = d ∷ []; ended = false }, [], refl, refl)
    go false (p ∷ ps) = (record { body = d ∷ p.body; ended = p.ended }, ps, refl, and-false (not p.ended))

starts_unclean : (b : ℕ) (s : Text) → (b ≡ 13) ⊎ (b ≡ 10) → (unclean (b ∷ s) ≡ b ∷ s) × (clean (b ∷ s) ≡ [])
unfolding clean unclean
starts_unclean b s h = let e = (line_end_says b).1 h in (rw e, rw e)

-- a text with no line's end, up to the end of the input
open_piece : (c : Text) → NoLineEnd c → 0 < length (c ++ []) → pieces (c ++ []) ≡ record { body = c ++ []; ended = false } ∷ []
open_piece [] n l = absurd (omega arith)
open_piece (b ∷ s) n l = rw append-nil (rest_piece b s n)

module _ (c : Text) (n : NoLineEnd c) where
  -- 4 where it is too long, else by what stands behind it
  abbrev numbered : Text → ℕ
  numbered r = if ltb line_limit (length c) then 4 else end_of r

  -- a piece of what stands behind the line's own bytes, with none of them in it: it is a whole line where the piece is empty and ended
  read_piece : (r : Text) (q : Piece) (qs : List Piece) (m : ℕ) → pieces (c ++ r) ≡ record { body = c ++ q.body; ended = q.ended } ∷ qs
      → (unclean q.body ≡ q.body) × (clean q.body ≡ []) → end_of r ≡ m
      → or_else (given 5 0 (not q.ended && nothing_or_CR q.body)) (given 6 0 (not (is_empty q.body))) ≡ found_of m
      → (m ≡ 0 → (q ≡ record { body = []; ended = true }) × (qs ≡ pieces (drop 2 r)))
      → Read (c ++ r) c (numbered r)
  unfolding scan_found or_else given found_of
  read_piece r q qs m first bare end told whole =
      rw end
      (record {
        piece = record { body = c ++ q.body; ended = q.ended };
        rest = qs;
        first = first;
        told = rw (clean_front c q.body n, unclean_front c q.body n, bare.0, bare.1, append-nil)
            (by_answer (ltb line_limit (length c)) (λ t. rw t) (λ t. rw t told));
        whole = by_answer (ltb line_limit (length c))
            (λ t. rw t (λ z. absurd (omega arith)))
            (λ t.
            rw t
            (λ z.
            record {
              is_piece = ap (λ (x : Piece). record { body = c ++ x.body; ended = x.ended }) (whole z).0 ∙ rw append-nil;
              is_rest = (whole z).1 ∙ ap pieces (sym (drop-append-add c r 2));
              short = ltb-false line_limit (length c) t;
            }));
      })

  read_from : (u : Text) → ((b : ℕ) (t : Text) → u ≡ b ∷ t → (b ≡ 13) ⊎ (b ≡ 10)) → 0 < length (c ++ u) → Read (c ++ u) c (numbered u)
  unfolding end_of found_of given or_else is_empty pieces push nothing_or_CR clean unclean
  -- the end of the input
  read_from [] h l =
      read_piece [] (record { body = []; ended = false }) [] 5 (open_piece c n l) (refl, refl) refl refl (λ z. absurd (omega arith))
  -- one byte more
  read_from (b ∷ []) h l =
      let q : Piece = record { body = b ∷ []; ended = false } in
      let first = pieces_front c (b ∷ []) q [] n refl in
      let bare = starts_unclean b [] (h b [] refl) in
      ⊎_elim
      (λ e. read_piece (b ∷ []) q [] 5 first bare (rw e) (rw e) (λ z. absurd (omega arith)))
      (λ e. read_piece (b ∷ []) q [] 6 first bare (rw e) (rw e) (λ z. absurd (omega arith)))
      (h b [] refl)
  -- CR LF, or a CR or LF that is not a line's end
  read_from (b ∷ d ∷ t) h l =
      by_answer (eqb b CR && eqb d LF)
      (λ y.
      rw (eqb-true b CR (and_left (eqb b CR) _ y), eqb-true d LF (and_right (eqb b CR) _ y))
      (read_piece (CR ∷ LF ∷ t) (record { body = []; ended = true }) (pieces t) 0
      (pieces_front c (CR ∷ LF ∷ t) (record { body = []; ended = true }) (pieces t) n refl) (refl, refl) refl refl (λ _. (refl, refl))))
      (λ y.
      let o = begins b d t in
      let q : Piece = record { body = b ∷ o.0.body; ended = o.0.ended } in
      read_piece (b ∷ d ∷ t) q o.1 6 (pieces_front c (b ∷ d ∷ t) q o.1 n (rw y (ap (push b) o.2)))
      (starts_unclean b o.0.body (h b (d ∷ t) refl)) (⊎_elim (λ e. rw (e, rw e at y)) (λ e. rw e) (h b (d ∷ t) refl))
      (rw o.3) (λ z. absurd (omega arith)))

pub read : (s : Text) → 0 < length s → Read s (clean s) (number_at s)
unfolding number_at
read s h =
    subst (λ x. Read x (clean s) (if ltb line_limit (length (clean s)) then 4 else end_of (unclean s))) (sym (clean_unclean s))
    (read_from (clean s) (clean_none s) (unclean s) (λ b t e. unclean_begins s b t e) (subst (λ x. 0 < length x) (clean_unclean s) h))

-- the line is what stands at its place
pub line_is : (s : Text) (i : ℕ) → part_of s i (length (clean (drop i s))) ≡ clean (drop i s)
unfolding part_of
line_is s i =
    let c : Text = clean (drop i s) in
    ap (take (length c)) (clean_unclean (drop i s)) ∙ take-append_seam c (unclean (drop i s))
