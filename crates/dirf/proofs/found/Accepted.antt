-- An accepted file: its table is that of all its lines, and below an IDREC persons stand in the order of their CPFs, companies behind
-- them. So the search finds what reading every line finds.
use Prim.Native.Nat.{ℕ, ◌*◌, ◌<◌}
use mathlib.Core.Path.{◌≡◌, refl, sym, ap, ◌∙◌, subst}
use mathlib.Core.Bool.{true, false, ◌&&◌, not, or-true, true≢false}
use mathlib.Core.Logic.{⊎_elim}
use mathlib.Core.List.{List, [], ◌∷◌}
use native.Mathlib.Nat.{zero-add}
use native.Mathlib.Omega.{arith}
use lib.ListN.{length, take}
use borrow.Author.Tests.{not-true}
use Rattle.dirf.specs.Bytes.{Text, is_in, same, less, bytes_opens}
use Rattle.dirf.specs.Kinds.{IDREC, beneficiaries, reimbursements, is_beneficiary, kinds_opens}
use Rattle.dirf.specs.Edition.{Edition}
use Rattle.dirf.specs.Lines.{Piece, pieces, fields, field}
use Rattle.dirf.specs.FieldReader.{field_of}
use Rattle.dirf.specs.Rules.{first}
use Rattle.dirf.specs.Tree.{Rec}
use Rattle.dirf.specs.Keys.{by_two_fields, by_one_field, has_key, key_fields, key_of, key_less}
use Rattle.dirf.specs.Order.{closed}
use Rattle.dirf.specs.Limits.{numbers_an_entry}
use Rattle.dirf.specs.Search.{search_in}
use Rattle.dirf.specs.Check.{numbers_of, table_of, Verdict, rec_of, breach, refused, accepted, no_bytes_left, verdict}
use Rattle.dirf.specs.Theorems.Plain.{◌∈◌}
use Rattle.dirf.specs.Theorems.Sound.{Sound}
use Rattle.dirf.specs.Theorems.Answered.{recs}
use Rattle.dirf.specs.Theorems.Whose.{kind_at, IsLine, Owned}
use Rattle.dirf.specs.Theorems.Entries.{bytes_at, Pointed}
use Rattle.dirf.specs.Theorems.Found.{Person, cpf_at, Found, Finds}
use Rattle.dirf.proofs.tests.Bools.{and_right, if_cases, or_cases}
use Rattle.dirf.proofs.tests.Says.{is_in_says}
use Rattle.dirf.proofs.tests.Lists.{every_in}
use Rattle.dirf.proofs.tree.History.{History, start, next, line_stands, table_length}
use Rattle.dirf.proofs.tree.Whose.{whose}
use Rattle.dirf.proofs.files.RunLaws.{Kept, kept_verdict}
use Rattle.dirf.proofs.files.Answered.{lines_right, accepted_exactly}
use Rattle.dirf.proofs.files.Entries.{entries}
use Rattle.dirf.proofs.found.Keyed.{keyed, line_at, keys_grow, line_read}
use Rattle.dirf.proofs.found.Order.{beneficiary, companies_last, one_kind}
use Rattle.dirf.proofs.found.Found.{Tidy, finds}

-- the key of a beneficiary is field 2
module _ (k : ℕ) (m : k ∈ beneficiaries) where
  not_two : is_in k by_two_fields ≡ false
  unfolding bytes_opens kinds_opens
  not_two = not-true (is_in k by_two_fields) (every_in (λ k. not (is_in k by_two_fields)) m refl)

  not_paid : is_in k reimbursements ≡ false
  unfolding bytes_opens kinds_opens
  not_paid = not-true (is_in k reimbursements) (every_in (λ k. not (is_in k reimbursements)) m refl)

  key_fields_lem : key_fields k ≡ 2 ∷ []
  unfolding key_fields is_beneficiary
  key_fields_lem = rw (not_two, (is_in_says k beneficiaries).1 m, or-true (is_in k by_one_field))

  has_key_lem : has_key k ≡ true
  unfolding has_key
  has_key_lem = rw key_fields_lem

  key_of_lem : (cells : List Text) → key_of k cells ≡ field 2 cells ∷ []
  unfolding key_of
  key_of_lem cells = rw (not_paid, key_fields_lem)

  -- so of two of them the field decides
  by_field : (x y : List Text) → key_less (key_of k x) (key_of k y) ≡ true → less (field 2 x) (field 2 y) ≡ true
  unfolding key_less
  by_field x y q =
      ⊎_elim (λ l. l) (λ r. absurd (true≢false (sym (and_right (same (field 2 x) (field 2 y)) false r))))
      (or_cases (less (field 2 x) (field 2 y)) (same (field 2 x) (field 2 y) && false) (rw (key_of_lem x, key_of_lem y) at q))

module _ (e : Edition) (sound : Sound e) (file : Text) (room : ℕ) (ok : (verdict e file room).number ≡ 0) where
  abbrev rs : List Rec
  rs = recs e [] (pieces file)

  kept : Kept e room [] (pieces file)
  kept = (lines_right e sound room (pieces file)).1 ((accepted_exactly e sound file room).0 ok).lines

  table_is : (verdict e file room).table ≡ table_of rs
  unfolding no_bytes_left accepted refused
  table_is =
      ap (λ (v : Verdict). v.table) (kept_verdict e room file kept)
      ∙ if_cases (λ (v : Verdict). v.table ≡ table_of rs) (closed rs) (λ _. refl) (λ _. refl)

  read : (before : List Rec) (ps : List Piece) → History e before → Kept e room before ps → History e (recs e before ps)
  unfolding rec_of breach first
  read before [] h k = h
  read before (p ∷ ps) h k = read (rec_of e before p ∷ before) ps (next (line_stands e room before p k.0) refl h) k.1

  history : History e rs
  history = read [] (pieces file) start kept

  pointed : Pointed file (table_of rs)
  pointed = subst (Pointed file) table_is (entries e sound file room)

  line_is : (m : ℕ) → IsLine (table_of rs) m → line_at rs m ≡ bytes_at file (table_of rs) m
  line_is m l = ap (line_at rs) (sym (zero-add m)) ∙ line_read e [] (pieces file) m _ (pointed.line m l)

  module _ (n : ℕ) (line : IsLine (table_of rs) n) (is : kind_at (table_of rs) n ≡ IDREC) where
    grow : (a b : ℕ) → Person file (table_of rs) n a → Person file (table_of rs) n b → a < b
        → less (cpf_at file (table_of rs) n a) (cpf_at file (table_of rs) n b) ≡ true
    unfolding cpf_at field_of
    grow a b pa pb h =
        let t = table_of rs in
        let la = pa.beneficiary.line in
        let lb = pb.beneficiary.line in
        let same_kind : kind_at t a ≡ kind_at t b =
        one_kind e sound history n line.0 is a b (la, pa.beneficiary.below) (lb, pb.beneficiary.below)
        h pa.no_company pb.no_company in
        let k = kind_at t b in
        let m = pb.beneficiary.kind in
        rw (← line_is a la, ← line_is b lb)
        (by_field k m (fields (line_at rs a)) (fields (line_at rs b))
        (keys_grow rs (keyed e room [] (pieces file) tt kept) a b k (has_key_lem k m) la.0 h (omega (arith, lb.1, table_length rs))
        (pa.beneficiary.below ∙ sym pb.beneficiary.below) same_kind refl))

    tidy : Tidy file (table_of rs) n
    tidy =
        record {
          owned = subst Owned table_is (whose e sound file room);
          pointed = pointed;
          line = line;
          idrec = is;
          kinds = λ m l q. beneficiary e sound history n line.0 is m (l, q);
          last = λ a b x y h. companies_last e sound history n line.0 is a b (x.line, x.below) (y.line, y.below) h;
          grow = grow;
        }

pub finds_all : (e : Edition) → Sound e → Finds e
finds_all e sound file room ok =
    subst
    (λ t. (n : ℕ) → IsLine t n → kind_at t n ≡ IDREC → (numbers : List ℕ) → take (numbers_an_entry * length t) numbers ≡ numbers_of t
    → (key : Text) → Found file t n key (search_in file numbers n key))
    (sym (table_is e sound file room ok))
    (λ n line is numbers own key. finds (tidy e sound file room ok n line is) key numbers own)
