-- 21 and 20: what the look-backs say of the records before.
use Rattle.std.specs.Prelude.{if◌then◌else◌}
use Prim.Native.Nat.{ℕ}
use mathlib.Core.Path.{◌≡◌, refl, sym, ap, ◌∙◌, subst}
use mathlib.Core.Bool.{Bool, true, false, ◌&&◌, not, true≢false}
use mathlib.Core.Logic.{◌≢◌, ◌⊎◌, inl, inr, ⊎_elim}
use mathlib.Core.List.Memᴰ
use mathlib.Core.List.{List, [], ◌∷◌, ◌++◌}
use mathlib.Core.Option.{Option, none, some, some-injective}
use lib.Dec.{eqb}
use lib.ListN.{length}
use Rattle.dirf.specs.Bytes.{Text, same, less}
use Rattle.dirf.specs.Lines.{fields}
use Rattle.dirf.specs.Tree.{Rec}
use Rattle.dirf.specs.Keys.{key_fields, has_key, key_of, key_less, last_under, is_some, not_after}
use Rattle.dirf.specs.Theorems.Plain.{◌∈◌, Smaller, SmallerKey, shorter, at_field, same_field}
use Rattle.dirf.proofs.tests.Bools.{if_cases}
use Rattle.dirf.proofs.tests.Says.{Says, says_and, says_or, says_not, says_by, denies, eqb_says, same_says, less_says, it, on}
use Rattle.dirf.proofs.tests.Says.{ltb_says, some_length}

-- under this parent and of this kind
abbrev pub Under : ℕ → ℕ → Rec → Type 0
Under p k r = (r.parent ≡ p) × (r.kind ≡ k)

under_says : (p k : ℕ) (r : Rec) → Says (eqb r.parent p && eqb r.kind k) (Under p k r)
under_says p k r = says_and (eqb r.parent p) (eqb r.kind k) (eqb_says r.parent p) (eqb_says r.kind k)

-- the last such record, and what stands since
pub record LastOne (before : List Rec) (p k : ℕ) (r : Rec) : Type 0 where
  pub since : List Rec
  pub earlier : List Rec
  pub split : before ≡ since ++ (r ∷ earlier)
  pub under : Under p k r
  pub none_since : (x : Rec) → x ∈ since → Under p k x → ⊥

abbrev Look : List Rec → ℕ → ℕ → Option Rec → Type 0
Look before p k none = (x : Rec) → x ∈ before → Under p k x → ⊥
Look before p k (some r) = LastOne before p k r

behind : (x : Rec) (before : List Rec) (p k : ℕ) → (Under p k x → ⊥) → (o : Option Rec) → Look before p k o → Look (x ∷ before) p k o
behind x before p k n none l =
    λ y m u. ⊎_elim (λ e. n (subst (Under p k) e u)) (λ m. l y m u) (Memᴰ.cases_cons m)
behind x before p k n (some r) l =
    record {
      since = x ∷ l.since;
      earlier = l.earlier;
      split = ap (λ rs. x ∷ rs) l.split;
      under = l.under;
      none_since = λ y m u. ⊎_elim (λ e. n (subst (Under p k) e u)) (λ m. l.none_since y m u) (Memᴰ.cases_cons m);
    }

look : (before : List Rec) (p k : ℕ) → Look before p k (last_under before p k)
unfolding last_under
look [] p k = λ x m. absurd (Memᴰ.not-nil m)
look (r ∷ rs) p k = go (eqb r.parent p && eqb r.kind k) refl (look rs p k)
  where
    go : (t : Bool) → (eqb r.parent p && eqb r.kind k) ≡ t → Look rs p k (last_under rs p k)
        → Look (r ∷ rs) p k (if t then some r else last_under rs p k)
    go true q ih =
        record {
          since = [];
          earlier = rs;
          split = refl;
          under = (under_says p k r).0 q;
          none_since = λ x m. absurd (Memᴰ.not-nil m);
        }
    go false q ih = behind r rs p k ((denies (eqb r.parent p && eqb r.kind k) (under_says p k r)).0 q) (last_under rs p k) ih

-- there is one
pub repeated_says : (before : List Rec) (p k : ℕ) → Says (is_some (last_under before p k)) ((r : Rec) × (r ∈ before) × Under p k r)
unfolding is_some
repeated_says before p k = go (last_under before p k) (look before p k)
  where
    go : (o : Option Rec) → Look before p k o → Says (is_some o) ((r : Rec) × (r ∈ before) × Under p k r)
    go none l = (λ e. absurd (true≢false (sym e)), λ h. absurd (l h.0 h.1 h.2))
    go (some r) l =
        (λ e. (r, subst (λ (rs : List Rec). r ∈ rs) (sym l.split) (Memᴰ.append_right l.since it), l.under), λ h. refl)

-- the last one is what is found
last_found : (since earlier : List Rec) (r : Rec) (p k : ℕ) → Under p k r → ((x : Rec) → x ∈ since → Under p k x → ⊥)
    → last_under (since ++ (r ∷ earlier)) p k ≡ some r
unfolding last_under
last_found [] earlier r p k u none_since = rw ((under_says p k r).1 u)
last_found (x ∷ since) earlier r p k u none_since =
    if_cases (λ o. o ≡ some r) (eqb x.parent p && eqb x.kind k) (λ q. absurd (none_since x it ((under_says p k x).0 q)))
    (λ _. last_found since earlier r p k u (λ y m. none_since y (on m)))

pub key_less_says : (a b : List Text) → Says (key_less a b) (SmallerKey a b)
unfolding key_less
key_less_says [] [] = (λ e. absurd (true≢false (sym e)), λ h. elim h [ ])
key_less_says [] (b ∷ bs) = (λ e. shorter, λ h. refl)
key_less_says (a ∷ xs) [] = (λ e. absurd (true≢false (sym e)), λ h. elim h [ ])
key_less_says (a ∷ xs) (b ∷ bs) =
    says_by (⊎_elim at_field (λ h. same_field h.0 h.1)) split
    (says_or (less a b) (same a b && key_less xs bs) (less_says a b)
    (says_and (same a b) (key_less xs bs) (same_says a b) (key_less_says xs bs)))
  where
    split : SmallerKey (a ∷ xs) (b ∷ bs) → Smaller a b ⊎ ((a ≡ b) × SmallerKey xs bs)
    split (at_field h) = inl h
    split (same_field e h) = inr (e, h)

-- the last one's key is not smaller
pub not_after_says : (k : ℕ) (cells : List Text) (before : List Rec) (p : ℕ)
    → Says (not_after k cells (last_under before p k))
    ((r : Rec) × LastOne before p k r × (SmallerKey (key_of k (fields r.line)) (key_of k cells) → ⊥))
unfolding not_after is_some
not_after_says k cells before p = go (last_under before p k) refl (look before p k)
  where
    before_key : Rec → List Text
    before_key r = key_of k (fields r.line)

    smaller : (r : Rec) → Says (not (key_less (before_key r) (key_of k cells))) (SmallerKey (before_key r) (key_of k cells) → ⊥)
    smaller r = says_not (key_less (before_key r) (key_of k cells)) (key_less_says (before_key r) (key_of k cells))

    Answer : Type 0
    Answer = (r : Rec) × LastOne before p k r × (SmallerKey (before_key r) (key_of k cells) → ⊥)

    found : (x : Rec) → LastOne before p k x → last_under before p k ≡ some x
    found x l = rw l.split (last_found l.since l.earlier x p k l.under l.none_since)

    go : (o : Option Rec) → last_under before p k ≡ o → Look before p k o → Says (not_after k cells o) Answer
    go none q l = (λ e. absurd (true≢false (sym e)), λ h. absurd (true≢false (ap is_some (sym (found h.0 h.1) ∙ q))))
    go (some r) q l =
        says_by (λ n. (r, l, n))
        (λ h. let same : h.0 ≡ r = some-injective h.0 r (sym (found h.0 h.1) ∙ q) in rw (← same) h.2)
        (smaller r)

pub has_key_says : (k : ℕ) → Says (has_key k) (key_fields k ≢ [])
unfolding has_key
has_key_says k =
    says_by (some_length (key_fields k)).0 (some_length (key_fields k)).1 (ltb_says 0 (length (key_fields k)))
