-- The keys of records of one kind under one parent grow from line to line, where every line keeps rule 20.
use Rattle.std.specs.Prelude.{if◌then◌else◌}
use Prim.Native.Nat.{ℕ, suc, ◌+◌, ◌≤◌, ◌<◌}
use mathlib.Core.Path.{◌≡◌, refl, sym, ap, ◌∙◌}
use mathlib.Core.Bool.{true, false, ◌&&◌, true≢false}
use mathlib.Core.List.{List, [], ◌∷◌}
use mathlib.Core.Option.{some}
use native.Mathlib.Omega.{arith}
use lib.Dec.{eqb}
use lib.ListN.{length}
use borrow.Author.Tests.{eqb-true, eqb-false, eq-eqb, ne_eqb, not-false}
use Rattle.dirf.specs.Bytes.{Text}
use Rattle.dirf.specs.Edition.{Edition}
use Rattle.dirf.specs.Lines.{Piece, fields}
use Rattle.dirf.specs.Tree.{Rec}
use Rattle.dirf.specs.Keys.{has_key, key_of, key_less, last_under, not_after}
use Rattle.dirf.specs.Order.{here, contents_of, key_not_greater, order}
use Rattle.dirf.specs.Check.{entry_of, table_of, rec_of}
use Rattle.dirf.specs.Theorems.Plain.{Nth, this, next}
use Rattle.dirf.specs.Theorems.Answered.{recs}
use Rattle.dirf.specs.Theorems.Whose.{kind_at, parent_at}
use Rattle.dirf.proofs.tests.Bools.{by_answer, and_left, and_right}
use Rattle.dirf.proofs.tests.Lists.{listed}
use Rattle.dirf.proofs.rules.Asked.{rule_kept}
use Rattle.dirf.proofs.tree.History.{entry_last, entry_earlier, line_cases}
use Rattle.dirf.proofs.files.RunLaws.{Kept}
use Rattle.dirf.proofs.back.KeyOrder.{keys_ordered}

-- each record's key is greater than that of the one before it of its kind under its parent
abbrev pub Keyed : List Rec → Type 0
Keyed [] = Unit {0}
Keyed (r ∷ rs) =
    (has_key r.kind && not_after r.kind (fields r.line) (last_under rs r.parent r.kind) ≡ false) × Keyed rs

-- the line of record m
unfoldable pub line_at : List Rec → ℕ → Text
line_at [] m = []
line_at (r ∷ rs) m = if eqb m (suc (length rs)) then r.line else line_at rs m

pub keyed : (e : Edition) (room : ℕ) (before : List Rec) (ps : List Piece) → Keyed before → Kept e room before ps → Keyed (recs e before ps)
unfolding rec_of here contents_of key_not_greater order
keyed e room before [] k kept = k
keyed e room before (p ∷ ps) k kept =
    keyed e room (rec_of e before p ∷ before) ps
    (rule_kept 20 2 key_not_greater (here e room before p) (search listed depth 40) kept.0, k) kept.1

module _ (r : Rec) (rs : List Rec) where
  line_last : line_at (r ∷ rs) (suc (length rs)) ≡ r.line
  unfolding line_at
  line_last = rw (eq-eqb (suc (length rs)) (suc (length rs)) refl)

  line_earlier : (m : ℕ) → m ≤ length rs → line_at (r ∷ rs) m ≡ line_at rs m
  unfolding line_at
  line_earlier m h = rw (ne_eqb m (suc (length rs)) (λ q. omega arith))

-- record c is the last one of kind k under line p, and no earlier than record a
record Latest (rs : List Rec) (p k a : ℕ) : Type 0 where
  rec : Rec
  c : ℕ
  under : last_under rs p k ≡ some rec
  from : a ≤ c
  few : c ≤ length rs
  parent : parent_at (table_of rs) c ≡ p
  kind : kind_at (table_of rs) c ≡ k
  line : rec.line ≡ line_at rs c

latest : (rs : List Rec) (p k a : ℕ) → 1 ≤ a → a ≤ length rs → parent_at (table_of rs) a ≡ p → kind_at (table_of rs) a ≡ k → Latest rs p k a
unfolding entry_of last_under
latest [] p k a one few is-p is-k = absurd (omega arith)
latest (r ∷ rs) p k a one few is-p is-k =
    by_answer (eqb r.parent p && eqb r.kind k)
    (λ q.
    record {
      rec = r;
      c = suc (length rs);
      under = rw q;
      from = few;
      few = omega arith;
      parent = ap (λ x. x.parent) (entry_last r rs) ∙ eqb-true r.parent p (and_left (eqb r.parent p) (eqb r.kind k) q);
      kind = ap (λ x. x.kind) (entry_last r rs) ∙ eqb-true r.kind k (and_right (eqb r.parent p) (eqb r.kind k) q);
      line = sym (line_last r rs);
    })
    (λ q.
    line_cases (λ a. parent_at (table_of (r ∷ rs)) a ≡ p → kind_at (table_of (r ∷ rs)) a ≡ k → 1 ≤ a → Latest (r ∷ rs) p k a) (length rs) a
    (λ h is-p is-k one.
    let l = latest rs p k a one h (ap (λ x. x.parent) (sym (entry_earlier r rs a h)) ∙ is-p)
    (ap (λ x. x.kind) (sym (entry_earlier r rs a h)) ∙ is-k) in
    record {
      rec = l.rec;
      c = l.c;
      under = rw q l.under;
      from = l.from;
      few = omega (arith, l.few);
      parent = ap (λ x. x.parent) (entry_earlier r rs l.c l.few) ∙ l.parent;
      kind = ap (λ x. x.kind) (entry_earlier r rs l.c l.few) ∙ l.kind;
      line = l.line ∙ sym (line_earlier r rs l.c l.few);
    })
    (λ is-p is-k one.
    absurd
    (true≢false
    (sym
    (rw (
      eq-eqb r.parent p (ap (λ x. x.parent) (sym (entry_last r rs)) ∙ is-p),
      eq-eqb r.kind k (ap (λ x. x.kind) (sym (entry_last r rs)) ∙ is-k),
    ))
    ∙ q)))
    few is-p is-k one)

-- so the key of any earlier one is smaller
pub keys_grow : (rs : List Rec) → Keyed rs → (a b k : ℕ) → has_key k ≡ true → 1 ≤ a → a < b → b ≤ length rs
    → parent_at (table_of rs) a ≡ parent_at (table_of rs) b → kind_at (table_of rs) a ≡ k → kind_at (table_of rs) b ≡ k
    → key_less (key_of k (fields (line_at rs a))) (key_of k (fields (line_at rs b))) ≡ true
unfolding entry_of not_after
keys_grow [] keyed a b k has one less few = absurd (omega arith)
keys_grow (r ∷ rs) keyed a b k has one less few =
    let t = table_of (r ∷ rs) in
    line_cases
    (λ b. a < b → parent_at t a ≡ parent_at t b → kind_at t a ≡ k → kind_at t b ≡ k
    → key_less (key_of k (fields (line_at (r ∷ rs) a))) (key_of k (fields (line_at (r ∷ rs) b))) ≡ true)
    (length rs) b
    (λ h less parents is-a is_b.
    let ea = entry_earlier r rs a (omega arith) in
    let eb = entry_earlier r rs b h in
    rw (line_earlier r rs a (omega arith), line_earlier r rs b h)
    (keys_grow rs keyed.1 a b k has one less h (ap (λ x. x.parent) (sym ea) ∙ parents ∙ ap (λ x. x.parent) eb)
    (ap (λ x. x.kind) (sym ea) ∙ is-a) (ap (λ x. x.kind) (sym eb) ∙ is_b)))
    (λ less parents is-a is_b.
    let small : a ≤ length rs = omega arith in
    let ea = entry_earlier r rs a small in
    let own-p : parent_at t (suc (length rs)) ≡ r.parent = ap (λ x. x.parent) (entry_last r rs) in
    let own-k : r.kind ≡ k = ap (λ x. x.kind) (sym (entry_last r rs)) ∙ is_b in
    let l = latest rs r.parent k a one small (ap (λ x. x.parent) (sym ea) ∙ parents ∙ own-p) (ap (λ x. x.kind) (sym ea) ∙ is-a) in
    rw (line_earlier r rs a small, line_last r rs) (step l own-k keyed.0
    (λ h.
    keys_grow rs keyed.1 a l.c k has one h l.few (ap (λ x. x.parent) (sym ea) ∙ parents ∙ own-p ∙ sym l.parent)
    (ap (λ x. x.kind) (sym ea) ∙ is-a) l.kind)))
    few less
  where
    step : (l : Latest rs r.parent k a) → r.kind ≡ k
        → (has_key r.kind && not_after r.kind (fields r.line) (last_under rs r.parent r.kind) ≡ false)
        → (a < l.c → key_less (key_of k (fields (line_at rs a))) (key_of k (fields (line_at rs l.c))) ≡ true)
        → key_less (key_of k (fields (line_at rs a))) (key_of k (fields r.line)) ≡ true
    step l own kept on =
        let after : not_after k (fields r.line) (last_under rs r.parent k) ≡ false = rw (own, has) at kept in
        let smaller : key_less (key_of k (fields (line_at rs l.c))) (key_of k (fields r.line)) ≡ true =
        rw (← l.line) (not-false _ (rw l.under at after)) in
        by_answer (eqb a l.c) (λ q. rw (eqb-true a l.c q) smaller)
        (λ q. keys_ordered.transitive _ _ _ (on (omega (arith, l.from, eqb-false a l.c q))) smaller)

-- the line of record m is the m-th of those that were read
lines_stay : (e : Edition) (before : List Rec) (ps : List Piece) (m : ℕ) → m ≤ length before
    → line_at (recs e before ps) m ≡ line_at before m
lines_stay e before [] m h = refl
lines_stay e before (p ∷ ps) m h =
    lines_stay e (rec_of e before p ∷ before) ps m (omega arith) ∙ line_earlier (rec_of e before p) before m h

pub line_read : (e : Edition) (before : List Rec) (ps : List Piece) (i : ℕ) (p : Piece) → Nth ps i p
    → line_at (recs e before ps) (length before + i) ≡ p.body
unfolding rec_of
line_read e before [] i p x = elim x [ ]
line_read e before (q ∷ ps) i p this =
    let at : length before + 1 ≡ suc (length before) = omega arith in
    rw at (lines_stay e (rec_of e before q ∷ before) ps (suc (length before)) (omega arith) ∙ line_last (rec_of e before q) before)
line_read e before (q ∷ ps) i p (next {n = j} there) =
    let at : length before + suc j ≡ length (rec_of e before q ∷ before) + j = omega arith in
    rw at (line_read e (rec_of e before q ∷ before) ps j p there)
