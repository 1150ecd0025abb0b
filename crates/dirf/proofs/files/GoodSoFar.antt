-- Demand 3: a file cut after a whole line can still become accepted with at most four more lines, or its answer is final.
use Prim.Native.Nat.{ℕ, zero, suc, ◌+◌, ◌-◌, ◌≤◌, ◌<◌}
use mathlib.Core.Path.{◌≡◌, refl, sym, ap, ◌∙◌, subst}
use mathlib.Core.Bool.{false}
use mathlib.Core.Logic.{◌≢◌, inl, inr}
use mathlib.Core.List.{List, [], ◌∷◌, ◌++◌, append_assoc}
use native.Mathlib.Omega.{arith}
use native.Mathlib.Nat.{zero-add}
use lib.ListN.{length}
use borrow.Author.Tests.{ne_eqb}
use Rattle.dirf.specs.Bytes.{Text}
use Rattle.dirf.specs.Limits.{line_end, lines_limit}
use Rattle.dirf.specs.Kinds.{FIMDirf}
use Rattle.dirf.specs.Edition.{Edition}
use Rattle.dirf.specs.Lines.{Piece, pieces}
use Rattle.dirf.specs.Rules.{keeps, first}
use Rattle.dirf.specs.Tree.{Rec}
use Rattle.dirf.specs.Order.{here, order, closed, kind_of_line}
use Rattle.dirf.specs.Check.{Verdict, rec_of, refused, accepted, no_bytes_left, verdict}
use Rattle.dirf.specs.Theorems.Plain.{NoLineEnd, whole_line}
use Rattle.dirf.specs.Theorems.Breach.{stray}
use Rattle.dirf.specs.Theorems.Sound.{Closable, Sound}
use Rattle.dirf.specs.Theorems.Answered.{recs, Closed, Accepted, FirstBroken}
use Rattle.dirf.specs.Theorems.GoodSoFar.{Whole, empty, ends_in_CR_LF, line_ends, Unfinished, GoodSoFar, GoodUpToHere}
use Rattle.dirf.proofs.tests.Bools.{if_cases, by_answer}
use Rattle.dirf.proofs.breaches.TestsSay.{closed_says}
use Rattle.dirf.proofs.files.RunLaws.{Kept, Fate, passes, stops, fate, kept_verdict, stops_verdict, kept_append, recs_append}
use Rattle.dirf.proofs.files.RunLaws.{length_recs}
use Rattle.dirf.proofs.files.WholeLaws.{pieces_append, line_count, whole_ended, line_piece}
use Rattle.dirf.proofs.files.Answered.{right_exactly, lines_right, broken_number, accepted_exactly}

-- what closes a file after some records: so many lines at the most
record Closes (e : Edition) (room : ℕ) (before : List Rec) (most : ℕ) : Type 0 where
  text : Text
  is_whole : Whole text
  few : line_ends text ≤ most
  kept : Kept e room before (pieces text)
  shut : Closed (recs e before (pieces text))

whole_on : (line : Text) {text : Text} → Whole text → Whole (line ++ (13 ∷ 10 ∷ text))
whole_on line empty = ends_in_CR_LF line
whole_on line (ends_in_CR_LF s) = subst Whole (append_assoc line (13 ∷ 10 ∷ s) line_end) (ends_in_CR_LF (line ++ (13 ∷ 10 ∷ s)))

module _ (e : Edition) (sound : Sound e) (room : ℕ) where
  abbrev c : Closable e
  c = sound.closable

  no_line_end : (before : List Rec) (line : Text) → first order (here e room before (whole_line line)) ≡ keeps → NoLineEnd line
  unfolding here
  no_line_end before line k b m =
      let right = (right_exactly e sound room before (whole_line line)).0 k in
      (λ q. right 6 0 (stray b m (inl q)), λ q. right 6 0 (stray b m (inr q)))

  -- one line more in front of what closes
  line_closes : (before : List Rec) (line : Text) (most : ℕ) → first order (here e room before (whole_line line)) ≡ keeps
      → 1 ≤ most → Closes e room (rec_of e before (whole_line line) ∷ before) (most - 1) → Closes e room before most
  line_closes before line most k small t =
      let text = line ++ (13 ∷ 10 ∷ t.text) in
      let cut : pieces text ≡ whole_line line ∷ pieces t.text = line_piece line t.text (no_line_end before line k) in
      let w : Whole text = whole_on line t.is_whole in
      let lines = line_count t.text (whole_ended t.is_whole) in
      record {
        text = text;
        is_whole = w;
        few = omega (arith, line_count text (whole_ended w), lines, ap length cut, t.few);
        kept = subst (Kept e room before) (sym cut) (k, t.kept);
        shut = subst (λ ps. Closed (recs e before ps)) (sym cut) t.shut;
      }

  nothing_closes : (before : List Rec) (most : ℕ) → Closed before → Closes e room before most
  unfolding line_ends pieces
  nothing_closes before most q = record { text = []; is_whole = empty; few = omega arith; kept = tt; shut = q }

  -- a line that is not FIMDirf leaves the file open, and FIMDirf closes it
  stays_open : (before : List Rec) (line : Text) → kind_of_line e line ≢ FIMDirf → closed (rec_of e before (whole_line line) ∷ before)
      ≡ false
  unfolding closed rec_of
  stays_open before line n = ne_eqb (kind_of_line e line) FIMDirf n

  close3 : (before : List Rec) → 3 ≤ length before → closed before ≡ false → length before < lines_limit → length before < room
      → (most : ℕ) → 1 ≤ most → Closes e room before most
  unfolding rec_of
  close3 before h q m r most few =
      let last = rec_of e before (whole_line c.last) in
      line_closes before c.last most (c.after3 before h room q m r) few
      (nothing_closes (last ∷ before) (most - 1) (last, before, refl, c.closes))

  -- after n lines, if the file is open and there is room for four lines: so many more close it
  abbrev ClosedBy : ℕ → ℕ → Type 0
  ClosedBy n more =
      (before : List Rec) → length before ≡ n → closed before ≡ false → 4 ≤ room → (most : ℕ) → more ≤ most → Closes e room before most

  before_it : (n more : ℕ) (line : Text) → n < 4 → kind_of_line e line ≢ FIMDirf
      → ((before : List Rec) → length before ≡ n → (room : ℕ) → closed before ≡ false → length before < lines_limit → length before < room
      → first order (here e room before (whole_line line)) ≡ keeps)
      → ClosedBy (suc n) more → ClosedBy n (suc more)
  before_it n more line small open' after next before h q r most few =
      line_closes before line most (after before h room q (omega arith) (omega arith)) (omega arith)
      (next (rec_of e before (whole_line line) ∷ before) (omega arith) (stays_open before line open') r (most - 1) (omega arith))

  close2 : ClosedBy 2 2
  close2 =
      before_it 2 1 c.line3 (omega arith) c.open3 c.after2
      (λ before h q r. close3 before (omega arith) q (omega arith) (omega arith))

  close1 : ClosedBy 1 3
  close1 = before_it 1 2 c.line2 (omega arith) c.open2 c.after1 close2

  -- whatever was read, if it is open and there is room for four more
  closes : (before : List Rec) → closed before ≡ false → length before + 4 ≤ lines_limit → length before + 4 ≤ room → Closes e room before 4
  closes before q few roomy = go (length before) refl
    where
      go : (n : ℕ) → length before ≡ n → Closes e room before 4
      go zero h = before_it 0 3 c.line1 (omega arith) c.open1 c.after0 close1 before h q (omega arith) 4 (omega arith)
      go (suc zero) h = close1 before h q (omega arith) 4 (omega arith)
      go (suc (suc zero)) h = close2 before h q (omega arith) 4 (omega arith)
      go (suc (suc (suc n))) h = close3 before (omega arith) q (omega arith) (omega arith) 4 (omega arith)

  -- what follows a whole file is judged after its lines
  after_whole : (s t : Text) → Whole s → pieces (s ++ t) ≡ pieces s ++ pieces t
  after_whole s t w = pieces_append s t (whole_ended w)

  accepted_after : (s t : Text) → Whole s → Kept e room [] (pieces s) → Kept e room (recs e [] (pieces s)) (pieces t)
      → Closed (recs e (recs e [] (pieces s)) (pieces t)) → Accepted e (s ++ t) room
  accepted_after s t w k l q =
      let cut = after_whole s t w in
      let kept = kept_append e room [] (pieces s) (pieces t) k l in
      record {
        lines = (lines_right e sound room (pieces (s ++ t))).0 (subst (Kept e room []) (sym cut) kept);
        shut = subst Closed (sym (ap (recs e []) cut ∙ recs_append e [] (pieces s) (pieces t))) q;
      }

  -- a file's end is no worse than unclosed
  ends_low : (before : List Rec) → (no_bytes_left before).number ≤ 1
  unfolding no_bytes_left accepted refused
  ends_low before = if_cases (λ (v : Verdict). v.number ≤ 1) (closed before) (λ _. omega arith) (λ _. omega arith)

  -- all lines are kept: number 0 or 1, and it can be closed
  good : (s : Text) → Unfinished s room → Kept e room [] (pieces s) → GoodSoFar (λ file. e) s room
  good s u k =
      let before = recs e [] (pieces s) in
      let count = length_recs e [] (pieces s) ∙ zero-add (length (pieces s)) ∙ line_count s (whole_ended u.whole) in
      let low : (verdict e s room).number ≤ 1 = rw (kept_verdict e room s k) (ends_low before) in
      let t : Closes e room before 4 =
      by_answer (closed before) (λ q. nothing_closes before 4 ((closed_says before).0 q))
      (λ q. closes before q (omega (arith, count, u.few)) (omega (arith, count, u.roomy))) in
      record {
        can = λ _. (t.text, t.is_whole, t.few, accepted_after s t.text u.whole k t.kept t.shut);
        only_then = λ t a. low;
        final = λ n t. absurd (n low);
      }

  -- a line breaks a rule: the answer is final
  final : (s : Text) → Whole s → (os : List Piece) (p : Piece) (qs : List Piece) (n f : ℕ) → pieces s ≡ os ++ (p ∷ qs) → Kept e room [] os
      → FirstBroken (here e room (recs e [] os) p) n f order → GoodSoFar (λ file. e) s room
  unfolding refused
  final s w os p qs n f split k b =
      let v : verdict e s room ≡ refused (recs e [] os) n f = stops_verdict e room s os p qs n f split k b in
      let low = broken_number e sound room (recs e [] os) p n f b in
      let big : 2 ≤ (verdict e s room).number = omega (arith, ap (λ (x : Verdict). x.number) v, low) in
      let same : (t : Text) → verdict e (s ++ t) room ≡ verdict e s room =
      λ t. stops_verdict e room (s ++ t) os p (qs ++ pieces t) n f
      (after_whole s t w ∙ ap (λ ps. ps ++ pieces t) split ∙ append_assoc os (p ∷ qs) (pieces t)) k b ∙ sym v in
      record {
        can = λ h. absurd (omega arith);
        only_then = λ t a. absurd (omega (arith, ap (λ (x : Verdict). x.number) (same t), (accepted_exactly e sound (s ++ t) room).1 a));
        final = λ h t. same t;
      }

pub good_so_far : (e : Edition) → Sound e → GoodUpToHere (λ file. e)
good_so_far e sound s room u = go (fate e room [] (pieces s))
  where
    go : Fate e room [] (pieces s) → GoodSoFar (λ file. e) s room
    go (passes k) = good e sound room s u k
    go (stops os p qs n f split k b) = final e sound room s u.whole os p qs n f split k b
