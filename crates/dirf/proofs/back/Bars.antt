-- A line cut at its bars, and fields joined by bars.
use Rattle.std.specs.Prelude.{if◌then◌else◌}
use Prim.Native.Nat.{ℕ}
use mathlib.Core.Path.{◌≡◌, refl, sym, ap, ◌∙◌}
use mathlib.Core.Bool.{Bool, true, false, true≢false}
use mathlib.Core.Logic.{⊎_elim}
use mathlib.Core.List.Memᴰ
use mathlib.Core.List.{List, [], ◌∷◌, ◌++◌, append_assoc, append-nil}
use native.Mathlib.Omega.{arith}
use lib.Dec.{eqb}
use lib.ListN.{length, length-append}
use borrow.Author.Tests.{eqb-true, ne_eqb}
use Rattle.dirf.specs.Bytes.{Text, ends_with}
use Rattle.dirf.specs.Limits.{bar}
use Rattle.dirf.specs.Lines.{more, fields}
use Rattle.dirf.specs.FieldReader.{width_of}
use Rattle.dirf.specs.Row.{C}
use Rattle.dirf.specs.LineWriter.{joined}
use Rattle.dirf.specs.Theorems.Plain.{◌∈◌, NoLineEnd, RightByte}
use Rattle.dirf.proofs.tests.Lists.{Each, none, ◌also◌}

ends_behind : (b : ℕ) (s : Text) → eqb b bar ≡ false → ends_with bar s ≡ false → ends_with bar (b ∷ s) ≡ false
unfolding ends_with
ends_behind b [] e h = e
ends_behind b (c ∷ s) e h = h

-- a line is its fields, each with its bar, and the bytes after its last bar
pub record Rejoined (line : Text) (cells : List Text) : Type 0 where
  pub rest : Text
  pub whole : line ≡ joined cells ++ rest
  pub barless : ends_with bar rest ≡ false

pub rejoined : (line : Text) → Rejoined line (fields line)
unfolding fields more joined ends_with
rejoined [] = record { rest = []; whole = refl; barless = refl }
rejoined (b ∷ s) = go (eqb b bar) (fields s) refl (rejoined s)
  where
    go : (t : Bool) (cs : List Text) → eqb b bar ≡ t → Rejoined s cs → Rejoined (b ∷ s) (if t then [] ∷ cs else more b cs)
    go true cs e r =
        let p : b ≡ bar = eqb-true b bar e in
        record { rest = r.rest; whole = cc r.whole; barless = r.barless }
    go false [] e r =
        record { rest = b ∷ r.rest; whole = ap (λ l. b ∷ l) r.whole; barless = ends_behind b r.rest e r.barless }
    go false (c ∷ cs) e r = record { rest = r.rest; whole = ap (λ l. b ∷ l) r.whole; barless = r.barless }

pub length_joined : (cs : List Text) → length (joined cs) ≡ width_of cs
unfolding joined width_of
length_joined [] = refl
length_joined (c ∷ cs) = simp (length-append, length_joined cs) (omega arith)

pub joined_append : (cs ds : List Text) → joined (cs ++ ds) ≡ joined cs ++ joined ds
unfolding joined
joined_append [] ds = refl
joined_append (c ∷ cs) ds = simp (joined_append cs ds, append_assoc)

-- a line that ends with a bar is its fields joined
ends_append : (b : ℕ) (s : Text) (c : ℕ) (t : Text) → ends_with b (s ++ (c ∷ t)) ≡ ends_with b (c ∷ t)
unfolding ends_with
ends_append b [] c t = refl
ends_append b (x ∷ []) c t = refl
ends_append b (x ∷ y ∷ s) c t = ends_append b (y ∷ s) c t

pub joined_fields : (line : Text) → ends_with bar line ≡ true → joined (fields line) ≡ line
joined_fields line e = go (rejoined line).rest (rejoined line).whole (rejoined line).barless
  where
    go : (rest : Text) → line ≡ joined (fields line) ++ rest → ends_with bar rest ≡ false → joined (fields line) ≡ line
    go [] w n = sym (append-nil (joined (fields line))) ∙ sym w
    go (b ∷ s) w n = absurd (true≢false (sym e ∙ ap (ends_with bar) w ∙ ends_append bar (joined (fields line)) b s ∙ n))

pub ends_joined : (c : Text) (cs : List Text) → ends_with bar (joined (c ∷ cs)) ≡ true
unfolding joined ends_with
ends_joined c [] = ends_append bar c bar []
ends_joined c (d ∷ ds) = ends_append bar c bar (joined (d ∷ ds)) ∙ ends_joined (bar ∷ d) ds

-- texts without bar, CR and LF, joined: they are the line's fields, and the line has no CR and no LF
abbrev pub Cell : Text → Type 0
Cell c = (b : ℕ) → b ∈ c → RightByte C b

field_joined : (c s : Text) → Cell c → fields (c ++ (bar ∷ s)) ≡ c ∷ fields s
unfolding fields more
field_joined [] s h = refl
field_joined (b ∷ c) s h =
    rw (ne_eqb b bar (h b (Memᴰ.head refl)).0) (ap (more b) (field_joined c s (λ x m. h x (Memᴰ.tail m))))

pub fields_joined : {cs : List Text} → Each Cell cs → fields (joined cs) ≡ cs
unfolding fields joined
fields_joined none = refl
fields_joined (◌also◌ {x = c} {xs = cs} h hs) = field_joined c (joined cs) h ∙ ap (λ l. c ∷ l) (fields_joined hs)

pub joined_clean : {cs : List Text} → Each Cell cs → NoLineEnd (joined cs)
unfolding joined
joined_clean none b m = absurd (Memᴰ.not-nil m)
joined_clean (◌also◌ {x = c} {xs = cs} h hs) b m =
    ⊎_elim (λ i. ((h b i).1, (h b i).2))
    (λ i. ⊎_elim (λ (e : b ≡ bar). omega arith) (joined_clean hs b) (Memᴰ.cases_cons i)) (Memᴰ.append_cases c m)
