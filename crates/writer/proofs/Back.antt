-- What the code wrote is read back, and what it did not write is as it was: stated on what the contracts ensure of the result and of
-- the output at exit.
use Prim.Native.Nat.{ℕ, ◌+◌, ◌≤◌}
use mathlib.Core.Path.{◌≡◌, refl, sym, ap, ◌∙◌}
use mathlib.Core.List.{[], ◌∷◌, ◌++◌, map}
use lib.ListN.{length, take, drop}
use lib.Seq.{take-append_seam, drop-append_seam}
use Rattle.dirf.specs.Bytes.{Text}
use Rattle.dirf.specs.Lines.{fields}
use Rattle.dirf.specs.Order.{kind_of_line}
use Rattle.dirf.specs.Rules.{Found, keeps, breaks}
use Rattle.dirf.specs.Written.{Written, writes, output_after}
use Rattle.dirf.specs.Amounts.{Reading, read_amount, read_months, amounts_opens}
use Rattle.dirf.specs.LineWriter.{write_line}
use Rattle.dirf.specs.Theorems.Plain.{whole_line}
use Rattle.dirf.specs.Theorems.ThereAndBack.{Sound-line, ReadsBack, together}
use Rattle.dirf.proofs.back.NumbersBack.{numbers_back}
use Rattle.dirf.proofs.Demands.{demands_named}
use Rattle.editions.specs.Editions.{edition_says, edition_said}
use Rattle.writer.specs.Answers.{Answered, answered, number_answered, line_answered}
use Rattle.writer.proofs as writer

-- the first bytes of the output, as many as the count says, are those written
module _ (w : Written) (before : Text) {count : ℕ} {after : Text} (c : count ≡ length w.bytes) (o : after ≡ output_after w before) where
  front : take count after ≡ w.bytes
  unfolding output_after
  front = rw (c, o) (take-append_seam w.bytes _)

  behind_it : drop count after ≡ drop count before
  unfolding output_after
  behind_it = rw (c, o) (drop-append_seam w.bytes _)

-- 01: "a refusal leaves the output untouched", "Bytes past the line stay"
pub record Careful (number count : ℕ) (before after : Text) : Type 0 where
  pub untouched : (number ≡ 0 → ⊥) → after ≡ before
  pub behind : drop count after ≡ drop count before

refused_untouched : (f : Found) (text before : Text) → ((writes f text).number ≡ 0 → ⊥) → output_after (writes f text) before ≡ before
unfolding writes output_after
refused_untouched keeps text before h = absurd (h refl)
refused_untouched (breaks n g) text before h = refl

careful : (f : Found) (text before : Text) {number count : ℕ} {after : Text} → number ≡ (writes f text).number
    → count ≡ length (writes f text).bytes → after ≡ output_after (writes f text) before → Careful number count before after
careful f text before n c o =
    record {
      untouched = λ h. o ∙ refused_untouched f text before (λ e. h (n ∙ e));
      behind = behind_it (writes f text) before c o;
    }

-- a number written is read back by a reader that reads back what the definition writes
number_back : (w : Written) (before : Text) {r : Answered} {after : Text} → r ≡ answered w → after ≡ output_after w before
    → (read : Text → Reading) (v : Reading)
    → (w.number ≡ 0 → read w.bytes ≡ v) → r.number ≡ 0 → read (take r.count after) ≡ v
unfolding answered
number_back w before p o read v known e = rw (front w before (ap (λ r. r.count) p) o) (known (sym (ap (λ r. r.number) p) ∙ e))

-- arguments: the number, the output
module _ (κs : _) (a : _) (r : _) (s : _) (p : writer.write_amount.Reads.Post κs a r s) where
  pub amount_back : (number_answered r).number ≡ 0
      → read_amount (take (number_answered r).count s.1.0.now) ≡ record { number = 0; value = a.0.0 }
  amount_back = number_back _ a.1.0.now p.0 p.1 read_amount _ (numbers_back.amount_back a.0.0 (length a.1.0.now))

  pub amount_careful : Careful (number_answered r).number (number_answered r).count a.1.0.now s.1.0.now
  unfolding answered amounts_opens
  amount_careful = careful _ _ a.1.0.now (ap (λ r. r.number) p.0) (ap (λ r. r.count) p.0) p.1

module _ (κs : _) (a : _) (r : _) (s : _) (p : writer.write_months.Reads.Post κs a r s) where
  pub months_back : (number_answered r).number ≡ 0
      → read_months (take (number_answered r).count s.1.0.now) ≡ record { number = 0; value = a.0.0 }
  months_back = number_back _ a.1.0.now p.0 p.1 read_months _ (numbers_back.months_back a.0.0 (length a.1.0.now))

  pub months_careful : Careful (number_answered r).number (number_answered r).count a.1.0.now s.1.0.now
  unfolding answered amounts_opens
  months_careful = careful _ _ a.1.0.now (ap (λ r. r.number) p.0) (ap (λ r. r.count) p.0) p.1

-- arguments: the edition, the kind, the contents, the lengths, the output
module _ (κs : _) (a : _) (r : _) (s : _) (p : writer.write_line.Reads.Post κs a r s) where
  pub line_back : (line_answered r).number ≡ 0
      → ReadsBack (edition_said a.0) a.1.0 a.1.1.0.now a.1.1.1.0.now (take (line_answered r).count s.1.1.1.1.0.now)
  unfolding answered
  line_back e =
      let out = a.1.1.1.1.0.now in
      let w = write_line (edition_said a.0) a.1.0 a.1.1.0.now a.1.1.1.0.now (length out) in
      let n : w.number ≡ 0 = sym (ap (λ r. r.number) p.0) ∙ e in
      rw (front w out (ap (λ r. r.count) p.0) p.1)
      ((demands_named (edition_says a.0)).writer_reads_back a.1.0 a.1.1.0.now a.1.1.1.0.now (length out) n)

  pub line_careful : Careful (line_answered r).number (line_answered r).count a.1.1.1.1.0.now s.1.1.1.1.0.now
  unfolding answered write_line
  line_careful = careful _ _ a.1.1.1.1.0.now (ap (λ r. r.number) p.0) (ap (λ r. r.count) p.0) p.1

  -- and every line that breaks no rule of a line is what is written for its kind and its fields, where there is room
  pub line_there : (text : Text) → Sound-line (edition_said a.0) (whole_line text) → length text + 2 ≤ length a.1.1.1.1.0.now
      → a.1.0 ≡ kind_of_line (edition_said a.0) text → a.1.1.0.now ≡ together (fields text)
      → a.1.1.1.0.now ≡ map length (fields text)
      → ((line_answered r).number ≡ 0) × (take (line_answered r).count s.1.1.1.1.0.now ≡ text ++ (13 ∷ 10 ∷ []))
  unfolding answered
  line_there text sound room k c l =
      let out = a.1.1.1.1.0.now in
      let w = write_line (edition_said a.0) a.1.0 a.1.1.0.now a.1.1.1.0.now (length out) in
      let t : w ≡ record { number = 0; field = 0; bytes = text ++ (13 ∷ 10 ∷ []) } =
      rw (k, c, l) ((demands_named (edition_says a.0)).reader_writes_back text (length out) sound room) in
      (ap (λ r. r.number) p.0 ∙ ap (λ w. w.number) t, front w out (ap (λ r. r.count) p.0) p.1 ∙ ap (λ w. w.bytes) t)
