-- What is known of a kind of the base, in a sound edition.
use Prim.Native.Nat.{ℕ, ◌≤◌}
use mathlib.Core.Path.{◌≡◌, refl, sym, ap, ◌∙◌}
use mathlib.Core.Bool.{true, false, not, or-true, false≢true, true≢false}
use mathlib.Core.List.Memᴰ
use mathlib.Core.List.{List, [], ◌∷◌, map}
use native.Mathlib.Omega.{arith}
use lib.Dec.{eqb, leb}
use lib.ListN.{length}
use borrow.Author.Tests.{eqb-true, eq-eqb, leb-true, not-true}
use Rattle.dirf.specs.Bytes.{Text, some, same, is_in, lookup}
use Rattle.dirf.specs.Kinds.{is_later}
use Rattle.dirf.specs.Row.{Row, obligatory, identifier}
use Rattle.dirf.specs.Edition.{Edition, kind_in, kind_of, name_of, rows_in, rows_of, is_base}
use Rattle.dirf.specs.Theorems.Plain.{◌∈◌}
use Rattle.dirf.specs.Theorems.Sound.{first_of, Sound}
use Rattle.dirf.proofs.tests.Bools.{and_left, and_right, if_cases, by_answer}
use Rattle.dirf.proofs.tests.Says.{it, on}
use Rattle.dirf.proofs.tests.Lists.{every_in}

-- a kind other than 0 that an identifier names, and that is not left for later, is of the base
named_in : (ns : List (ℕ × Text)) (s : Text) → eqb (kind_in ns s) 0 ≡ false → some (λ n. eqb (kind_in ns s) n.0) ns ≡ true
unfolding kind_in some
named_in [] s e = absurd (true≢false e)
named_in (n ∷ ns) s e =
    if_cases (λ k. some (λ m. eqb k m.0) (n ∷ ns) ≡ true) (same n.1 s) (λ q. rw (eq-eqb n.0 n.0 refl))
    (λ q. rw (named_in ns s (rw q at e)) (or-true (eqb (kind_in ns s) n.0)))

pub named_base : (e : Edition) (s : Text) → eqb (kind_of e s) 0 ≡ false → is_later (kind_of e s) ≡ false → is_base e (kind_of e s) ≡ true
unfolding kind_of is_base
named_base e s p q = rw (named_in e.names s p, q)

lookup_in : (ns : List (ℕ × Text)) (k : ℕ) → some (λ n. eqb k n.0) ns ≡ true
    → (n : ℕ × Text) × (n ∈ ns) × (k ≡ n.0) × (lookup [] ns k ≡ n.1)
unfolding some lookup
lookup_in [] k e = absurd (true≢false (sym e))
lookup_in (x ∷ ns) k e =
    by_answer (eqb k x.0) (λ q. (x, it, eqb-true k x.0 q, rw q))
    (λ q. let h = lookup_in ns k (rw q at e) in (h.0, on h.1, h.2, rw q h.3))

module _ (e : Edition) (k : ℕ) (base : is_base e k ≡ true) where
  pub base_not_later : is_later k ≡ false
  unfolding is_base
  base_not_later = not-true (is_later k) (and_right (some (λ n. eqb k n.0) e.names) (not (is_later k)) base)

  pub base_name : (n : ℕ × Text) × (n ∈ e.names) × (k ≡ n.0) × (name_of e k ≡ n.1)
  unfolding is_base name_of
  base_name = lookup_in e.names k (and_left _ (not (is_later k)) base)

  pub base_named : Sound e → kind_of e (name_of e k) ≡ k
  base_named sound =
      let h = base_name in
      ap (kind_of e) h.3 ∙ eqb-true (kind_of e h.0.1) h.0.0 (every_in _ h.1 sound.kinds.named) ∙ sym h.2

  pub base_not_zero : Sound e → eqb k 0 ≡ false
  base_not_zero sound = rw base_name.2 (not-true _ (every_in _ base_name.1 sound.numbered))

  pub base_laid_out : Sound e → 1 ≤ length (rows_of e k)
  base_laid_out sound =
      let laid = every_in _ (Memᴰ.cast base_name.2 (Memᴰ.map (λ n. n.0) base_name.1)) sound.kinds.laid_out in
      by_answer (leb 1 (length (rows_of e k))) (λ p. leb-true 1 (length (rows_of e k)) p)
      (λ p. absurd (false≢true (rw p at (rw base at laid))))

first_in : (gs : List (List ℕ × List Row)) (k : ℕ) → map (λ g. first_of g.1) gs ≡ map (λ g. (obligatory, identifier)) gs
    → 1 ≤ length (rows_in gs k) → first_of (rows_in gs k) ≡ (obligatory, identifier)
unfolding rows_in
first_in [] k e h = absurd (omega arith)
first_in (g ∷ gs) k e h =
    by_answer (is_in k g.0) (λ q. rw q (cc)) (λ q. rw q (first_in gs k (cc) (rw q at h)))

pub base_identifier_first : (e : Edition) (k : ℕ) → is_base e k ≡ true → Sound e → first_of (rows_of e k) ≡ (obligatory, identifier)
unfolding rows_of
base_identifier_first e k base sound = first_in e.layout k sound.identified (base_laid_out e k base sound)
