-- The place of field k, sought from field to field.
use Rattle.std.specs.Prelude.{Option, Some, None, unwrap_or, ◌==◌, if◌then◌else◌}
use Rattle.std.specs.List.{position, position_or_len}
use Rattle.std.proofs.lemmas.Option.{none-some}
use Rattle.std.proofs.lemmas.List.Recursion.{is_position_or_len}
use Prim.Native.Nat.{ℕ, zero, suc, ◌+◌, ◌-◌, ◌≤◌, ◌<◌}
use mathlib.Core.Path.{◌≡◌, refl, sym, ap, ap₂, ◌∙◌}
use mathlib.Core.Bool.{true, ◌&&◌, and-false}
use mathlib.Core.List.{List, [], ◌∷◌}
use native.Mathlib.Omega.{arith}
use native.Mathlib.Nat.{add-zero, zero-add, add_assoc}
use native.Mathlib.Numerals.{sub-one}
use lib.Dec.{eqb, leb, leb-suc-zero, leb-suc-suc}
use lib.ListN.{length, take, drop, length-drop}
use lib.Seq.{length-take-le, take_all}
use borrow.Author.Tests.{le-leb, lt-ltb, le-ltb}
use Rattle.dirf.specs.Bytes.{Text}
use Rattle.dirf.specs.Limits.{bar}
use Rattle.dirf.specs.Lines.{fields, field}
use Rattle.dirf.proofs.tests.Bools.{by_answer}
use Rattle.dirf.proofs.tests.Says.{below_or}
use Rattle.dirf.specs.FieldReader.{field_there, field_of, field_start, width_of, reader_opens}
use Rattle.dirf.proofs.back.FieldPlaces.{field_placed}
use Rattle.fields.specs.declared.Place.{Place}
use Rattle.fields.specs.Places.{part_of, place_of, bar_in}
use Rattle.fields.proofs.Bars.{cut, uncut}

abbrev pub spot : ℕ → ℕ → Option Place
spot start len = Some (record { start = start; len = len })

-- field k of the fields from byte s on
abbrev pub seek : List Text → ℕ → ℕ → Option Place
seek cs s zero = None
seek [] s (suc k) = None
seek (c ∷ cs) s (suc zero) = spot s (length c)
seek (c ∷ cs) s (suc (suc k)) = seek cs (s + (length c + 1)) (suc k)

pub seek_none : (s k : ℕ) → seek [] s k ≡ None
seek_none s zero = refl
seek_none s (suc k) = refl

leb_one : (k : ℕ) → leb 1 (suc k) ≡ true
leb_one k = le-leb 1 (suc k) (omega arith)

seek_is : (cs : List Text) (s k : ℕ)
    → seek cs s k
    ≡ (if leb 1 k && leb k (length cs) then spot (s + width_of (take (k - 1) cs)) (length (field k cs)) else None)
unfolding width_of field
seek_is cs s zero = refl
seek_is [] s (suc k) = simp (leb-suc-zero, and-false)
seek_is (c ∷ cs) s (suc zero) = simp (leb_one, add-zero)
seek_is (c ∷ cs) s (suc (suc k)) =
    rw (seek_is cs (s + (length c + 1)) (suc k)) (simp (leb_one, leb-suc-suc, sub-one, add_assoc))

-- field k of what begins at byte s of a line
abbrev pub sought : Text → ℕ → ℕ → Option Place
sought line s k = seek (fields (drop s line)) s k

pub place_is : (line : Text) (k : ℕ) → place_of line k ≡ sought line 0 k
unfolding place_of reader_opens
place_is line k =
    rw (seek_is (fields line) 0 k, zero-add)
    (by_answer (leb 1 k && leb k (length (fields line))) (λ e. rw e) (λ e. rw e))

-- where the library finds a bar, or none
bar_is : (s : Text) → position_or_len (λ b. b == bar) s ≡ bar_in s
unfolding bar_in
bar_is s = sym (is_position_or_len bar_in (λ b. b == bar) refl (λ b s. by_answer (eqb b bar) (λ e. rw e) (λ e. rw e (omega arith))) s)

no_bar : (s : Text) → position (λ b. b == bar) s ≡ None → length s ≤ bar_in s
no_bar s e =
    below_or (length s) (bar_in s) (λ l. absurd (none-some (bar_in s) (sym (rw (bar_is s, lt-ltb (bar_in s) (length s) l) at e)))) (λ g. g)

at_bar : (s : Text) (n : ℕ) → position (λ b. b == bar) s ≡ Some n → (n ≡ bar_in s) × (n < length s)
at_bar s n e =
    below_or (length s) (bar_in s)
    (λ l.
    let m : bar_in s ≡ n = ap (λ o. unwrap_or o 0) (rw (bar_is s, lt-ltb (bar_in s) (length s) l) at e) in
    (sym m, omega arith))
    (λ g. absurd (none-some n (rw (bar_is s, le-ltb (bar_in s) (length s) g) at e)))

-- what begins at byte s of a line, as a slice
abbrev pub rest : Text → ℕ → Text
rest line s = take (length line - s) (drop s line)

rest_is : (line : Text) (s : ℕ) → rest line s ≡ drop s line
rest_is line s = take_all (length line - s) (drop s line) (omega (arith, length-drop s line))

module _ (line : Text) (s : ℕ) (h : s ≤ length line) where
  pub sought_none : (k : ℕ) → position (λ b. b == bar) (rest line s) ≡ None → sought line s k ≡ None
  sought_none k r =
      let e = rw (rest_is line s) at r in
      let none = no_bar (drop s line) e in
      rw (uncut line s (s + bar_in (drop s line)) h refl (omega (arith, length-drop s line))) (seek_none s k)

  module _ (n : ℕ) (r : position (λ b. b == bar) (rest line s) ≡ Some n) where
    here : (n ≡ bar_in (drop s line)) × (n < length (drop s line))
    here = at_bar (drop s line) n (rw (rest_is line s) at r)

    pub inside : s + n < length line
    inside = omega (arith, here.1, length-drop s line)

    one_field : fields (drop s line) ≡ part_of line s n ∷ fields (drop (s + (n + 1)) line)
    one_field =
        let m : s + n - s ≡ n = omega arith in
        let o : s + n + 1 ≡ s + (n + 1) = omega arith in
        cut line s (s + n) h (ap (λ x. s + x) here.0) inside
        ∙ ap₂ (λ x y. part_of line s x ∷ fields (drop y line)) m o

    part_long : length (part_of line s n) ≡ n
    unfolding part_of
    part_long = length-take-le n (drop s line) (omega (arith, here.1))

    pub sought_first : sought line s 1 ≡ spot s n
    sought_first = rw (one_field, part_long)

    pub sought_next : (k : ℕ) → 1 < k → sought line s k ≡ sought line (s + (n + 1)) (k - 1)
    sought_next zero m = absurd (omega arith)
    sought_next (suc zero) m = absurd (omega arith)
    sought_next (suc (suc k)) m = rw (one_field, seek, part_long, sub-one)

-- a place of field k: inside the line, where the field is
pub record Sits (k : ℕ) (line : Text) (p : Place) : Type 0 where
  pub bytes : part_of line p.start p.len ≡ field_of k line
  pub inside : p.start + p.len ≤ length line
  pub start : p.start ≡ field_start k line

pub placed : (k : ℕ) (line : Text) (p : Place) → place_of line k ≡ Some p → Sits k line p
unfolding place_of part_of
placed k line p e =
    let f = field_placed k line in
    by_answer (field_there k line)
    (λ t.
    let own : unwrap_or (place_of line k) p ≡ p = ap (λ o. unwrap_or o p) e in
    rw (sym (rw t at own)) record { bytes = f.bytes; inside = f.inside; start = refl })
    (λ n. absurd (none-some p (rw n at e)))

-- where there is no place there is no field: it is empty, at the line's end
pub unplaced : (k : ℕ) (line : Text) → place_of line k ≡ None → (field_of k line ≡ []) × (field_start k line ≡ length line)
unfolding place_of
unplaced k line e =
    let f = field_placed k line in
    by_answer (field_there k line) (λ t. absurd (none-some _ (sym (rw t at e))))
    (λ n.
    let w = f.nowhere n in
    (sym f.bytes ∙ ap₂ (λ i j. take i (drop j line)) w.1 w.0 ∙ refl, w.0))
