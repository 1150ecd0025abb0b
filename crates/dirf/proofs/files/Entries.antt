-- What an entry points at. A file is the text of its pieces, and each whole line takes up its bytes and its CR LF.
use Prim.Native.Nat.{ℕ, zero, suc, ◌+◌, ◌≤◌, ◌<◌}
use mathlib.Core.Path.{◌≡◌, refl, sym, ap, ◌∙◌, subst}
use mathlib.Core.Bool.{Bool, true, false, ◌&&◌}
use mathlib.Core.List.{List, [], ◌∷◌, ◌++◌, append_assoc, append-nil}
use native.Mathlib.Omega.{arith}
use native.Mathlib.Nat.{zero-add}
use lib.Dec.{eqb}
use lib.ListN.{length, length-append, get_or, take, drop}
use lib.Seq.{split_at, take_at, drop_at, length-take-le}
use borrow.Author.Tests.{eqb-true}
use Rattle.dirf.specs.Bytes.{Text}
use Rattle.dirf.specs.Limits.{CR, LF, line_end}
use Rattle.dirf.specs.Edition.{Edition}
use Rattle.dirf.specs.Lines.{Piece, push, pieces}
use Rattle.dirf.specs.Tree.{Rec}
use Rattle.dirf.specs.Check.{Entry, bytes_of, entry_of, table_of, Verdict, rec_of, refused, accepted, verdict}
use Rattle.dirf.specs.Theorems.Plain.{Nth, this, next, whole_line}
use Rattle.dirf.specs.Theorems.Sound.{Sound}
use Rattle.dirf.specs.Theorems.Answered.{recs, LinesRight, Answer, accepts, unclosed, refuses}
use Rattle.dirf.specs.Theorems.Whose.{entry_at, IsLine}
use Rattle.dirf.specs.Theorems.Entries.{start_at, length_at, bytes_at, Pointed, Entries}
use Rattle.dirf.proofs.tests.Bools.{and_left, and_right, by_answer}
use Rattle.dirf.proofs.tree.History.{table_length, entry_last, entry_earlier, line_cases}
use Rattle.dirf.proofs.files.RunLaws.{recs_append, length_recs}
use Rattle.dirf.proofs.files.WholeLaws.{AllEnded}
use Rattle.dirf.proofs.files.Counts.{all_ended}
use Rattle.dirf.proofs.files.Answered.{lines_right, answered}

-- a piece with its line end, if it has one, and the text of pieces
end_of : Bool → Text
end_of true = line_end
end_of false = []

text_of : List Piece → Text
text_of [] = []
text_of (p ∷ ps) = p.body ++ (end_of p.ended ++ text_of ps)

text_push : (b : ℕ) (ps : List Piece) → text_of (push b ps) ≡ b ∷ text_of ps
unfolding push text_of end_of
text_push b [] = refl
text_push b (p ∷ ps) = refl

text_pieces : (s : Text) → text_of (pieces s) ≡ s
unfolding pieces push text_of end_of
text_pieces [] = refl
text_pieces (b ∷ []) = refl
text_pieces (b ∷ c ∷ s) =
    by_answer (eqb b CR && eqb c LF)
    (λ q.
    let e : b ≡ CR = eqb-true b CR (and_left (eqb b CR) (eqb c LF) q) in
    let f : c ≡ LF = eqb-true c LF (and_right (eqb b CR) (eqb c LF) q) in
    rw q (cc (text_pieces s)))
    (λ q. rw q (text_push b (pieces (c ∷ s)) ∙ ap (λ l. b ∷ l) (text_pieces (c ∷ s))))

text_append : (ps qs : List Piece) → text_of (ps ++ qs) ≡ text_of ps ++ text_of qs
unfolding text_of
text_append [] qs = refl
text_append (p ∷ ps) qs =
    ap (λ l. p.body ++ (end_of p.ended ++ l)) (text_append ps qs)
    ∙ ap (λ l. p.body ++ l) (sym (append_assoc (end_of p.ended) (text_of ps) (text_of qs)))
    ∙ sym (append_assoc p.body (end_of p.ended ++ text_of ps) (text_of qs))

-- the text of a whole line, and of what follows
text_line : (p : Piece) (ps : List Piece) → p.ended ≡ true → text_of (p ∷ ps) ≡ p.body ++ (CR ∷ LF ∷ text_of ps)
unfolding text_of end_of
text_line p ps q = ap (λ b. p.body ++ (end_of b ++ text_of ps)) q

ended_parts : (ps qs : List Piece) → AllEnded (ps ++ qs) → AllEnded ps × AllEnded qs
ended_parts [] qs h = (tt, h)
ended_parts (p ∷ ps) qs h = let r = ended_parts ps qs h.1 in ((h.0, r.0), r.1)

nth_at : (os : List Piece) (p : Piece) (qs : List Piece) → Nth (os ++ (p ∷ qs)) (suc (length os)) p
nth_at [] p qs = this
nth_at (o ∷ os) p qs = next (nth_at os p qs)

module _ (e : Edition) where
  -- a line's entry stays as it is
  entry_stays : (before : List Rec) (ps : List Piece) (n : ℕ) → n ≤ length before
      → entry_at (table_of (recs e before ps)) n ≡ entry_at (table_of before) n
  entry_stays before [] n h = refl
  entry_stays before (p ∷ ps) n h =
      entry_stays (rec_of e before p ∷ before) ps n (omega arith) ∙ entry_earlier (rec_of e before p) before n h

  -- where the next line starts
  bytes_read : (before : List Rec) (ps : List Piece) → AllEnded ps → bytes_of (recs e before ps) ≡ bytes_of before + length (text_of ps)
  unfolding bytes_of rec_of text_of
  bytes_read before [] h = omega arith
  bytes_read before (p ∷ ps) h =
      bytes_read (rec_of e before p ∷ before) ps h.1
      ∙ omega (arith, ap length (text_line p ps h.0), length-append p.body (CR ∷ LF ∷ text_of ps))

  -- the entry of a line that stands after others
  entry_of_lem : (os : List Piece) (p : Piece) (qs : List Piece)
      → entry_at (table_of (recs e [] (os ++ (p ∷ qs)))) (suc (length os)) ≡ entry_of (rec_of e (recs e [] os) p) (recs e [] os)
  entry_of_lem os p qs =
      let before = recs e [] os in
      let count : length before ≡ length os = length_recs e [] os ∙ zero-add (length os) in
      ap (λ rs. entry_at (table_of rs) (suc (length os))) (recs_append e [] os (p ∷ qs))
      ∙ entry_stays (rec_of e before p ∷ before) qs (suc (length os)) (omega (arith, count))
      ∙ ap (λ n. entry_at (table_of (rec_of e before p ∷ before)) (suc n)) (sym count)
      ∙ entry_last (rec_of e before p) before

  -- line n of the table of some lines of a file stands there, and CR LF behind it
  abbrev At : Text → List Piece → ℕ → Type 0
  At file os n =
      let t = table_of (recs e [] os) in
      Nth (pieces file) n (whole_line (bytes_at file t n)) × (take 2 (drop (start_at t n + length_at t n) file) ≡ 13 ∷ 10 ∷ [])

  -- the line p of a file, after the lines os
  line_at_lem : (file : Text) (os : List Piece) (p : Piece) (qs rest : List Piece) → pieces file ≡ os ++ (p ∷ qs) ++ rest
      → AllEnded (os ++ (p ∷ qs)) → At file (os ++ (p ∷ qs)) (suc (length os))
  unfolding entry_of bytes_of rec_of
  line_at_lem file os p qs rest cut ended =
      let n = suc (length os) in
      let t : List Entry = table_of (recs e [] (os ++ (p ∷ qs))) in
      let parts = ended_parts os (p ∷ qs) ended in
      let starts : start_at t n ≡ length (text_of os) =
      ap (λ x. x.start) (entry_of_lem os p qs) ∙ bytes_read [] os parts.0 ∙ zero-add (length (text_of os)) in
      let lasts : length_at t n ≡ length p.body = ap (λ x. x.length) (entry_of_lem os p qs) in
      let on-from : pieces file ≡ os ++ (p ∷ qs ++ rest) = cut ∙ append_assoc os (p ∷ qs) rest in
      -- the file is what stands before the line, the line, CR LF, and the rest
      let after : Text = CR ∷ LF ∷ text_of (qs ++ rest) in
      let whole : file ≡ text_of os ++ (p.body ++ after) =
      sym (text_pieces file) ∙ ap text_of on-from ∙ text_append os (p ∷ qs ++ rest)
      ∙ ap (λ s. text_of os ++ s) (text_line p (qs ++ rest) parts.1.0) in
      let line-bytes : bytes_at file t n ≡ p.body =
      ap (λ s. take (length_at t n) (drop (start_at t n) s)) whole
      ∙ ap (take (length_at t n)) (drop_at (text_of os) (p.body ++ after) (start_at t n) (sym starts))
      ∙ take_at p.body after (length_at t n) (sym lasts) in
      let here : p ≡ whole_line (bytes_at file t n) = rw line-bytes (ap (λ b. record { body = p.body; ended = b }) parts.1.0) in
      let end : length (text_of os ++ p.body) ≡ start_at t n + length_at t n =
      length-append (text_of os) p.body ∙ omega (arith, starts, lasts) in (
        subst (Nth (pieces file) n) here (subst (λ ps. Nth ps n p) (sym on-from) (nth_at os p (qs ++ rest))),
        ap (λ s. take 2 (drop (start_at t n + length_at t n) s)) (whole ∙ sym (append_assoc (text_of os) p.body after))
            ∙ ap (take 2) (drop_at (text_of os ++ p.body) after (start_at t n + length_at t n) end),
      )

-- starts follow each other without a gap
first_start : (rs : List Rec) → 1 ≤ length rs → start_at (table_of rs) 1 ≡ 0
unfolding entry_of bytes_of
first_start [] h = absurd (omega arith)
first_start (r ∷ []) h = ap (λ x. x.start) (entry_last r [])
first_start (r ∷ x ∷ rs) h = ap (λ y. y.start) (entry_earlier r (x ∷ rs) 1 (omega arith)) ∙ first_start (x ∷ rs) (omega arith)

next_start : (rs : List Rec) (n : ℕ) → suc n ≤ length rs → 1 ≤ n
    → start_at (table_of rs) (suc n) ≡ start_at (table_of rs) n + length_at (table_of rs) n + 2
unfolding entry_of bytes_of
next_start [] n h = absurd (omega arith)
next_start (r ∷ []) n h = λ a. absurd (omega arith)
next_start (r ∷ x ∷ rs) n h =
    let t = table_of (r ∷ x ∷ rs) in
    line_cases (λ n. 1 ≤ n → start_at t (suc n) ≡ start_at t n + length_at t n + 2) (length rs) n
    (λ small a.
    let this = entry_earlier r (x ∷ rs) n (omega arith) in
    ap (λ y. y.start) (entry_earlier r (x ∷ rs) (suc n) (omega arith)) ∙ next_start (x ∷ rs) n (omega arith) a
    ∙ omega (arith, ap (λ y. y.start) this, ap (λ y. y.length) this))
    (λ _.
    let this = entry_earlier r (x ∷ rs) (suc (length rs)) (omega arith) ∙ entry_last x rs in
    ap (λ y. y.start) (entry_last r (x ∷ rs)) ∙ omega (arith, ap (λ y. y.start) this, ap (λ y. y.length) this))
    (omega arith)

module _ (e : Edition) where
  -- every line of the table of some whole lines of a file, whatever follows them there
  module _ (file : Text) (os rest : List Piece) (cut : pieces file ≡ os ++ rest) (ended : AllEnded os) where
    at_line : (n : ℕ) → IsLine (table_of (recs e [] os)) n → At e file os n
    at_line zero l = absurd (omega (arith, l.0))
    at_line (suc i) l =
        let small : i < length os = omega (arith, l.1, table_length (recs e [] os), length_recs e [] os) in
        let before = take i os in
        let p = get_or os i (whole_line []) in
        let behind = drop (suc i) os in
        let split : os ≡ before ++ (p ∷ behind) = split_at os i (whole_line []) small in
        let cut' = cut ∙ ap (λ ps. ps ++ rest) split in
        let ended' = subst AllEnded split ended in
        subst (λ (ps : List Piece). At e file ps (suc i)) (sym split)
        (subst (λ j. At e file (before ++ (p ∷ behind)) (suc j)) (length-take-le i os (omega arith))
        (line_at_lem e file before p behind rest cut' ended'))

  pointed : (file : Text) (os rest : List Piece) → pieces file ≡ os ++ rest → AllEnded os → Pointed file (table_of (recs e [] os))
  pointed file os rest cut ended =
      record {
        line = λ n l. (at_line file os rest cut ended n l).0;
        line_end_lem = λ n l. (at_line file os rest cut ended n l).1;
        first = λ h. first_start (recs e [] os) (omega (arith, table_length (recs e [] os)));
        next = λ n a h. next_start (recs e [] os) n (omega (arith, table_length (recs e [] os))) a;
      }

pub entries : (e : Edition) → Sound e → Entries e
unfolding accepted refused
entries e sound file room = go (verdict e file room) (answered e sound file room)
  where
    kept : (os : List Piece) (rest : List Piece) → pieces file ≡ os ++ rest → LinesRight e room os → Pointed file (table_of (recs e [] os))
    kept os rest cut right = pointed e file os rest cut (all_ended e sound room [] os ((lines_right e sound room os).1 right))

    go : (v : Verdict) → Answer e file room v → Pointed file v.table
    go v (accepts a) = kept (pieces file) [] (sym (append-nil (pieces file))) a.lines
    go v (unclosed l c) = kept (pieces file) [] (sym (append-nil (pieces file))) l
    go v (refuses os p qs n f s l b) = kept os (p ∷ qs) s l
