-- A line stored into an output: field by field, and a field byte by byte.
use Prim.Native.Nat.{ℕ, suc, ◌+◌, ◌≤◌, ◌<◌}
use mathlib.Core.Path.{◌≡◌, sym, ap, ◌∙◌}
use mathlib.Core.List.{List, [], ◌∷◌, ◌++◌, append_assoc}
use native.Mathlib.Nat.{add-zero}
use native.Mathlib.Numerals.{add-one}
use native.Mathlib.Omega.{arith}
use lib.ListN.{length, get_or, take, drop, set, length-append, drop_of_length-le}
use lib.Seq.{drop-cons, drop-drop, sets}
use Rattle.dirf.specs.Bytes.{Text}
use Rattle.dirf.specs.Limits.{bar, line_end}
use Rattle.dirf.specs.LineWriter.{cut, sum, joined, line_of}
use Rattle.fields.specs.Places.{part_of}
use Rattle.fields.proofs.Copies.{copied}

-- a text and then another
sets_append : (out : Text) (at : ℕ) (s t : Text) → sets out at (s ++ t) ≡ sets (sets out at s) (at + length s) t
sets_append out at [] t = rw add-zero
sets_append out at (b ∷ s) t =
    let n : suc at + length s ≡ at + suc (length s) = omega arith in
    rw (← n) (sets_append (set out at b) (suc at) s t)

-- a field copied in as a whole, and its bar
pub field_stored : (field out : Text) (at n : ℕ) → n ≡ length field → at + length field < length out
    → set (take at out ++ (field ++ drop n (drop at out))) (at + length field) bar ≡ sets out at (field ++ (bar ∷ []))
field_stored field out at n e h =
    ap (λ l. set l (at + length field) bar) (copied out field at n e (omega arith)) ∙ sym (sets_append out at field (bar ∷ []))

-- what is left of a line from length i and byte `from` on
unfoldable pub rest : List ℕ → Text → ℕ → ℕ → Text
rest ns text i from = line_of (cut (drop i ns) (drop from text))

module _ (ns : List ℕ) (text : Text) (i from : ℕ) where
  rest_on : i < length ns
      → rest ns text i from ≡ part_of text from (get_or ns i 0) ++ (bar ∷ []) ++ rest ns text (i + 1) (from + get_or ns i 0)
  unfolding rest part_of cut joined line_of
  rest_on h = simp (drop-cons ns i 0 h, add-one, drop-drop, append_assoc)

  pub rest_end : length ns ≤ i → rest ns text i from ≡ line_end
  unfolding rest cut joined line_of
  rest_end h = rw (drop_of_length-le ns h)

  pub rest_sum : i < length ns → sum (drop i ns) ≡ get_or ns i 0 + sum (drop (i + 1) ns)
  unfolding sum
  rest_sum h = rw (drop-cons ns i 0, add-one)

  pub rest_length : i < length ns
      → length (rest ns text i from) ≡ length (part_of text from (get_or ns i 0)) + 1 + length (rest ns text (i + 1) (from + get_or ns i 0))
  rest_length h = simp (rest_on h, length-append)

  -- CR and LF at the least
  pub rest_two : 2 ≤ length (rest ns text i from)
  unfolding rest line_of
  rest_two = rw length-append (omega arith)

  -- a field put where the last one ended, up to where the next one goes
  pub field_put : i < length ns → (put out next : Text) (at to : ℕ) → put ≡ part_of text from (get_or ns i 0)
      → next ≡ sets out at (put ++ (bar ∷ [])) → to ≡ at + length put + 1
      → sets out at (rest ns text i from) ≡ sets next to (rest ns text (i + 1) (from + get_or ns i 0))
  field_put h put out next at to p q e =
      let m : at + length (put ++ (bar ∷ [])) ≡ to = rw length-append (omega arith) in
      let more = rest ns text (i + 1) (from + get_or ns i 0) in
      rw (rest_on h, ← p) (sets_append out at (put ++ (bar ∷ [])) more ∙ cc (m, q))
