-- The numbers of entries in front of a table: one entry more behind them, and the last line of a group.
use Rattle.std.specs.Prelude.{if◌then◌else◌}
use Prim.Native.Nat.{ℕ, zero, suc, ◌+◌, ◌-◌, ◌*◌, ◌/◌, ◌≤◌, ◌<◌}
use mathlib.Core.Path.{◌≡◌, refl, sym, ap, ap₂, ◌∙◌}
use mathlib.Core.Logic.{◌≢◌}
use mathlib.Core.Bool.{Bool, true, false, ◌||◌}
use mathlib.Core.List.{List, [], ◌∷◌, ◌++◌, map}
use native.Mathlib.Omega.{arith}
use lib.Dec.{eqb}
use lib.ListN.{length, set, take, drop, length-append, length-take}
use lib.Seq.{sets-eq, set-append_left, take-append_seam, drop-append-add, drop-drop, take_all, take-append-le, length_front, length-take-le}
use borrow.Author.Tests.{eq-eqb, ne_eqb, lt-ltb, le-ltb, le-leb, lt-leb}
use Rattle.dirf.specs.Bytes.{Text, is_in, some}
use Rattle.dirf.specs.Limits.{numbers_an_entry}
use Rattle.dirf.specs.Edition.{Edition}
use Rattle.dirf.specs.Tree.{Rec, Open}
use Rattle.dirf.specs.Check.{Entry, entry_numbers, numbers_from, numbers_of, last_at, Verdict}
use Rattle.dirf.proofs.tests.Says.{below_or}
use Rattle.dirf.proofs.tree.OpenRecords.{OpenRecords, none_open, innermost}
use Rattle.dirf.proofs.found.Numbers.{length_from}
use Rattle.checker.specs.Answers.{with_numbers, numbers_in, table_within, table_after, put_entry, put_last, put_lasts, Judged}
use Rattle.checker.specs.declared.Answer.{Answer}
use Rattle.checker.specs.declared.state.Open.{Open as Opened}
use Rattle.checker.proofs.state.Sums.{Stack}

-- the numbers of entries, and the last lines of their groups
module _ (f : ℕ → ℕ) where
  from_last : (n : ℕ) (es : List Entry) (x : Entry)
      → numbers_from f n (es ++ (x ∷ [])) ≡ numbers_from f n es ++ entry_numbers x (f (n + length es))
  unfolding numbers_from entry_numbers
  from_last n [] x = let z : n ≡ n + 0 = omega arith in ap (λ n. entry_numbers x (f n)) z
  from_last n (y ∷ es) x =
      let z : suc n + length es ≡ n + suc (length es) = omega arith in
      ap (λ l. entry_numbers y (f n) ++ l)
      (from_last (suc n) es x ∙ ap (λ m. numbers_from f (suc n) es ++ entry_numbers x (f m)) z)

pub length_numbers : (es : List Entry) → length (numbers_of es) ≡ numbers_an_entry * length es
unfolding numbers_of
length_numbers es = length_from (last_at es) 1 es

module _ (f g : ℕ → ℕ) where
  same_numbers : (n : ℕ) (es : List Entry) → ((j : ℕ) → n ≤ j → j < n + length es → g j ≡ f j) → numbers_from f n es ≡ numbers_from g n es
  unfolding numbers_from
  same_numbers n [] same = refl
  same_numbers n (x ∷ es) same =
      ap₂ (λ l ns. entry_numbers x l ++ ns) (sym (same n (omega arith) (omega arith)))
      (same_numbers (suc n) es (λ j a b. same j (omega arith) (omega arith)))

  -- one of them changed
  set_numbers : (n : ℕ) (es : List Entry) (i v : ℕ) → i < length es → g (n + i) ≡ v → ((j : ℕ) → j ≢ n + i → g j ≡ f j)
      → set (numbers_from f n es) (numbers_an_entry * i + 4) v ≡ numbers_from g n es
  unfolding numbers_from entry_numbers
  set_numbers n [] i v few this others = absurd (omega arith)
  set_numbers n (x ∷ es) zero v few this others =
      let z : n ≡ n + 0 = omega arith in
      ap₂ (λ l ns. entry_numbers x l ++ ns) (sym this ∙ ap g (sym z))
      (same_numbers (suc n) es (λ j a b. others j (λ q. omega arith)))
  set_numbers n (x ∷ es) (suc i) v few this others =
      let at : numbers_an_entry * suc i + 4 ≡ suc (suc (suc (suc (suc (numbers_an_entry * i + 4))))) = omega arith in
      let z : suc n + i ≡ n + suc i = omega arith in
      rw at
      (ap₂ (λ l ns. entry_numbers x l ++ ns) (sym (others n (λ q. omega arith)))
      (set_numbers (suc n) es i v (omega arith) (ap g z ∙ this) (λ j d. others j (λ q. d (q ∙ sym z)))))

pub with_length : (t ns : List ℕ) → length ns ≤ length t → length (with_numbers ns t) ≡ length t
unfolding with_numbers
with_length t ns fits = length_front t ns (length ns) (sym (length-take-le (length ns) t fits))

-- entries in front of a table that has room for so many, m of them
module _ (t : List ℕ) where
  abbrev m : ℕ
  m = length t / numbers_an_entry

  module _ (f : ℕ → ℕ) (es : List Entry) (fits : length es ≤ m) where
    abbrev ns : List ℕ
    ns = numbers_from f 1 es

    size : length ns ≡ numbers_an_entry * length es
    size = length_from f 1 es

    long : length (with_numbers ns t) ≡ length t
    long = with_length t ns (omega (arith, size))

    -- one entry more, where there is room for it
    put_one : (x : Entry) → length es < m
        → put_entry (with_numbers ns t) (length es) (entry_numbers x (f (suc (length es))))
        ≡ with_numbers (numbers_from f 1 (es ++ (x ∷ []))) t
    unfolding put_entry with_numbers entry_numbers
    put_one x room =
        let row = entry_numbers x (f (suc (length es))) in
        let longer : length (ns ++ row) ≡ length ns + numbers_an_entry = length-append ns row in
        let z : 1 + length es ≡ suc (length es) = omega arith in
        let more : numbers_from f 1 (es ++ (x ∷ [])) ≡ ns ++ row = from_last f 1 es x ∙ ap (λ n. ns ++ entry_numbers x (f n)) z in
        rw (long, lt-ltb (length es) m room, ← size)
        (sets-eq row (ns ++ drop (length ns) t) (length ns) (omega (arith, long, size))
        ∙ ap₂ (λ a b. a ++ row ++ b) (take-append_seam ns (drop (length ns) t))
        (drop-append-add ns (drop (length ns) t) numbers_an_entry ∙ drop-drop numbers_an_entry (length ns) t)
        ∙ rw (more, longer))

    put_none : (c : ℕ) (row : List ℕ) → m ≤ c → put_entry (with_numbers ns t) c row ≡ with_numbers ns t
    unfolding put_entry
    put_none c row full = rw (long, le-ltb c m full)

    -- the last line of a group, where the entry is one of these; where it has no room, nothing changes
    put_last_lem : (g : ℕ → ℕ) (n v : ℕ) → 1 ≤ n → (n ≤ m → n ≤ length es) → g n ≡ v → ((j : ℕ) → j ≢ n → g j ≡ f j)
        → put_last (with_numbers ns t) n v ≡ with_numbers (numbers_from g 1 es) t
    unfolding put_last with_numbers
    put_last_lem g n v one held this others =
        below_or (suc m) n
        (λ h.
        let i = n - 1 in
        let at : numbers_an_entry * n - 1 ≡ numbers_an_entry * i + 4 = omega arith in
        let n' : 1 + i ≡ n = omega arith in
        let in-front = held (omega arith) in
        rw (long, le-leb n m (omega arith), at)
        (set-append_left ns (drop (length ns) t) (numbers_an_entry * i + 4) v (omega (arith, size))
        ∙ ap₂ (λ a b. a ++ drop b t)
        (set_numbers f g 1 es i v (omega arith) (ap g n' ∙ this) (λ j d. others j (λ q. d (q ∙ sym n'))))
        (size ∙ sym (length_from g 1 es))))
        (λ h.
        rw (long, lt-leb n m h)
        (ap (λ ns. ns ++ drop (length ns) t) (same_numbers f g 1 es (λ j a b. others j (λ q. omega arith)))))

  -- the entries that the table holds whole, of so many
  module _ (f : ℕ → ℕ) (es : List Entry) where
    pub put_next : (x : Entry)
        → put_entry (with_numbers (numbers_from f 1 (take m es)) t) (length es) (entry_numbers x (f (suc (length es))))
        ≡ with_numbers (numbers_from f 1 (take m (es ++ (x ∷ [])))) t
    put_next x =
        below_or m (length es)
        (λ l.
        rw (take_all m es (omega arith), take_all m (es ++ (x ∷ [])) (simp length-append (omega arith))) (put_one f es (omega arith) x l))
        (λ l.
        rw (take-append-le m es (x ∷ []) l)
        (put_none f (take m es) (omega (arith, length-take m es)) (length es) (entry_numbers x (f (suc (length es)))) l))

    pub held_length : length (with_numbers (numbers_from f 1 (take m es)) t) ≡ length t
    held_length = long f (take m es) (omega (arith, length-take m es))

  -- a line becomes the last one of each of the open records above it
  pub put_above : {before : List Rec} (f g : ℕ → ℕ) (es : List Entry) (v : ℕ) (opened : List Opened) {k l : ℕ} {up : List Open}
      → OpenRecords before k l up → length before ≤ length es → Stack opened up
      → ((j : ℕ) → 1 ≤ j → j ≤ length es → g j ≡ (if is_in j (map (λ o. o.number) up) then v else f j))
      → put_lasts (with_numbers (numbers_from f 1 (take m es)) t) opened (length up) v ≡ with_numbers (numbers_from g 1 (take m es)) t
  unfolding put_lasts is_in some
  put_above f g es v opened (none_open z) few stack is =
      ap (λ ns. with_numbers ns t) (same_numbers f g 1 (take m es) (λ j a b. is j a (omega (arith, length-take m es))))
  put_above f g es v opened (innermost {o = o} {outer = outer} a b known rest) few stack is =
      let f' : ℕ → ℕ = λ j. if eqb j o.number then v else f j in
      ap (λ n. put_lasts (put_last (with_numbers (numbers_from f 1 (take m es)) t) n v) opened (length outer) v) stack.0.number
      ∙ ap (λ t. put_lasts t opened (length outer) v)
      (put_last_lem f (take m es) (omega (arith, length-take m es)) f' o.number v known.line.0
      (λ h. omega (arith, length-take m es, known.line.1)) (rw (eq-eqb o.number o.number refl))
      (λ j d. rw (ne_eqb j o.number d)))
      ∙ put_above f' g es v opened rest few stack.1
      (λ j x y. is j x y ∙ either j (eqb j o.number) (is_in j (map (λ o. o.number) outer)))
    where
      either : (j : ℕ) (p q : Bool) → (if p || q then v else f j) ≡ (if q then v else (if p then v else f j))
      either j true true = refl
      either j true false = refl
      either j false true = refl
      either j false false = refl

pub judged_length : {e : Edition} {file : Text} {room : ℕ} {before after : List ℕ} {r : Answer} → Judged e file room before after r
    → length after ≡ length before
unfolding table_within numbers_in
judged_length {before = t} j = ap length j.entries ∙ held_length t _ _

-- where all of them fit, those are all
pub all_within : (v : Verdict) (t : List ℕ) → length v.table ≤ length t / numbers_an_entry → table_within v t ≡ table_after v t
unfolding table_within table_after numbers_in numbers_of
all_within v t fits =
    ap (λ es. with_numbers (numbers_from (last_at v.table) 1 es) t) (take_all (length t / numbers_an_entry) v.table fits)

pub after_length : (v : Verdict) (t : List ℕ) → length v.table ≤ length t / numbers_an_entry → length (table_after v t) ≡ length t
unfolding table_after
after_length v t fits = with_length t (numbers_of v.table) (omega (arith, length_numbers v.table))
