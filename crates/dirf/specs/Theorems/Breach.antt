-- Document 01's table of numbers in plain mathematics: what it means that a line gives a number, naming a field. Limits are literals.
use Rattle.std.specs.Prelude.{ℕ, zero, suc, ◌≤◌, ◌<◌, ◌≡◌, false, ◌⊎◌, ◌≢◌, List, [], ◌∷◌, ◌++◌, length}
use Rattle.std.proofs.Math.Option.{Option, none, some}
use Rattle.dirf.specs.Bytes.{Text, bytes, lookup}
use Rattle.dirf.specs.Kinds.{Dirf, RESPO, DECPF, DECPJ, IDREC, BPFDEC, INFPC, INFPA, ESPA, PROC, RRA, PSE, FIMDirf}
use Rattle.dirf.specs.Kinds.{later, values}
use Rattle.dirf.specs.Row.{Row, D, obligatory}
use Rattle.dirf.specs.Edition.{Edition}
use Rattle.dirf.specs.Lines.{fields, field}
use Rattle.dirf.specs.Tree.{Rec, Open, opened, declarant, block_of, kind_of_first}
use Rattle.dirf.specs.Keys.{key_fields, key_of}
use Rattle.dirf.specs.Order.{Here}
use Rattle.dirf.specs.Theorems.Plain.{◌∈◌, Nth, NoLineEnd, RightByte, Fills, SizeHeld, TakesNoZero, Valid, DigitsHeld, Date}
use Rattle.dirf.specs.Theorems.Plain.{SmallerKey}

-- the lists have k directly below an open record o, an IDREC is of the beneficiary's own block, and the INFPA of an ESPA is a BPFDEC's
pub record Holds (e : Edition) (d : ℕ) (o : Open) (outer : List Open) (k : ℕ) : Type 0 where
  pub listed : k ∈ lookup [] (e.below d) o.kind
  pub block : o.kind ≡ IDREC → block_of d k ≡ kind_of_first outer
  pub person : (o.kind ≡ INFPA) × (k ≡ ESPA) → kind_of_first outer ≡ BPFDEC

-- the innermost of the open records that may hold k is o; what opened last below o is `last`
pub data Innermost (e : Edition) (d k : ℕ) : Option Open → List Open → Open → Option Open → Type 0 where
  here : {last : Option Open} {o : Open} {outer : List Open} → Holds e d o outer k → Innermost e d k last (o ∷ outer) o last
  further : {c last : Option Open} {x o : Open} {outer : List Open} → (Holds e d x outer k → ⊥) → Innermost e d k (some x) outer o last
      → Innermost e d k c (x ∷ outer) o last

-- INFPC and INFPA stand in any order; elsewhere the order of kind numbers is kept, and nothing comes after a PSE
abbrev pub NotBefore : Option Open → ℕ → Type 0
NotBefore none k = Unit {0}
NotBefore (some o) k = (o.kind ∈ (INFPC ∷ INFPA ∷ [])) ⊎ ((o.kind ≢ PSE) × (o.kind ≤ k))

-- some open record may hold k, and k does not come before what opened last there
pub record Below (e : Edition) (d k : ℕ) (c : Option Open) (os : List Open) : Type 0 where
  pub holder : Open
  pub last : Option Open
  pub innermost : Innermost e d k c os holder last
  pub ordered : NotBefore last k

-- 01, "The tree": a record of kind k may stand after n records: "Lines 1, 2, 3 are Dirf, RESPO and one of DECPF or DECPJ. Then
-- blocks, then FIMDirf"
abbrev pub StandsAfter : ℕ → Edition → List Rec → ℕ → Type 0
StandsAfter zero e before k = k ≡ Dirf
StandsAfter (suc zero) e before k = k ≡ RESPO
StandsAfter (suc (suc zero)) e before k = (k ≡ DECPF) ⊎ (k ≡ DECPJ)
StandsAfter (suc (suc (suc n))) e before k = (k ≡ FIMDirf) ⊎ Below e (declarant before) k none (opened before)

abbrev pub Stands : Edition → List Rec → ℕ → Type 0
Stands e before k = StandsAfter (length before) e before k

-- field f of a line has row r and holds s
abbrev pub FieldIs : Here → ℕ → Row → Text → Type 0
FieldIs h f r s = Nth h.contents.rows f r × Nth h.contents.cells f s

-- a PROC or RRA whose field 4, the lawyer's kind, is this
abbrev pub LawyerIs : Here → Text → Type 0
LawyerIs h kind = ((h.contents.kind ≡ PROC) ⊎ (h.contents.kind ≡ RRA)) × (field 4 h.contents.cells ≡ kind)

-- of the same kind under the same parent
abbrev pub Sibling : Here → Rec → Type 0
Sibling h r = (r.kind ≡ h.contents.kind) × (r.parent ≡ h.parent)

pub data Breach (h : Here) : ℕ → ℕ → Type 0 where
  -- 2 "bytes follow FIMDirf"
  follows : (r : Rec) (rs : List Rec) → h.before ≡ r ∷ rs → r.kind ≡ FIMDirf → Breach h 2 0
  -- 3 "line 65,537 would begin"
  line_65537 : 65536 ≤ length h.before → Breach h 3 0
  -- 4 "over 1,024 bytes before a CR, LF or the end"
  long : (a b : Text) → h.piece.body ≡ a ++ b → NoLineEnd a → 1024 < length a → Breach h 4 0
  -- 5 "the input ends before any CR or LF, or right after the first CR"
  ends : h.piece.ended ≡ false → NoLineEnd h.piece.body → Breach h 5 0
  ends_after_CR : (a : Text) → h.piece.ended ≡ false → h.piece.body ≡ a ++ (13 ∷ []) → NoLineEnd a → Breach h 5 0
  -- 6 "a CR or LF that is not CR LF": the body of a piece holds no CR LF
  stray : (b : ℕ) → b ∈ h.piece.body → (b ≡ 13) ⊎ (b ≡ 10) → Breach h 6 0
  -- 8 "the line is empty or its last byte is no bar"
  no_bar : ((s : Text) → h.piece.body ≡ s ++ (124 ∷ []) → ⊥) → Breach h 8 0
  -- 9 "identifier unknown"
  unknown : ((n : ℕ × Text) → n ∈ h.edition.names → n.1 ≡ field 1 h.contents.cells → ⊥) → Breach h 9 1
  -- 10 "identifier known, left for later"
  for_later : h.contents.kind ∈ later → Breach h 10 1
  -- 12 "the record may not stand here"
  misplaced : (Stands h.edition h.before h.contents.kind → ⊥) → Breach h 12 1
  -- 11 "wrong number of fields"
  count : length h.contents.cells ≢ length h.contents.rows → Breach h 11 0
  -- 13 "obligatory field empty"
  missing : (f : ℕ) (r : Row) → FieldIs h f r [] → r.need ≡ obligatory → Breach h 13 f
  -- 14 "a byte of the wrong kind"
  byte : (f : ℕ) (r : Row) (s : Text) → FieldIs h f r s → (b : ℕ) → b ∈ s → (RightByte r.format b → ⊥) → Breach h 14 f
  -- 15 "wrong size, the 8 or 9 and 11 or 14 rules included"
  size : (f : ℕ) (r : Row) (s : Text) → FieldIs h f r s → s ≢ []
      → (Fills r.fill r.size (length s) × SizeHeld r.holds (length s) → ⊥) → Breach h 15 f
  -- 16 "a zero in front in an amount, month count or DDD"
  a_zero_in_front : (f : ℕ) (r : Row) (s : Text) → FieldIs h f r (48 ∷ s) → TakesNoZero r.holds → Breach h 16 f
  -- 17 "no such date"
  no_day : (f : ℕ) (r : Row) (s : Text) → FieldIs h f r s → s ≢ [] → r.format ≡ D → (Date s → ⊥) → Breach h 17 f
  -- 18 "not one of the valid values"
  invalid : (f : ℕ) (r : Row) (s : Text) → FieldIs h f r s → s ≢ [] → (Valid h.contents.name r.holds s → ⊥) → Breach h 18 f
  -- 26 "right check digits by the public modulo 11 rule"
  wrong_digits : (f : ℕ) (r : Row) (s : Text) → FieldIs h f r s → s ≢ [] → (DigitsHeld r.holds s → ⊥) → Breach h 26 f
  -- 19 "a condition is broken": PROC and RRA, "1 means a CPF and a name of up to 60"
  not_a_cpf : LawyerIs h (bytes "1") → field 5 h.contents.cells ≢ [] → length (field 5 h.contents.cells) ≢ 11 → Breach h 19 5
  persons_name : LawyerIs h (bytes "1") → 60 < length (field 6 h.contents.cells) → Breach h 19 6
  -- "2 means a CNPJ and a name of up to 150"
  not_a_cnpj : LawyerIs h (bytes "2") → field 5 h.contents.cells ≢ [] → length (field 5 h.contents.cells) ≢ 14 → Breach h 19 5
  firms_name : LawyerIs h (bytes "2") → 150 < length (field 6 h.contents.cells) → Breach h 19 6
  -- "With field 4 empty, fields 5 and 6 must be empty"
  nobodys_number : LawyerIs h [] → field 5 h.contents.cells ≢ [] → Breach h 19 5
  nobodys_name : LawyerIs h [] → field 6 h.contents.cells ≢ [] → Breach h 19 6
  -- DECPF, "field 8 is S: 9 and 10 are filled"
  no_event_date : h.contents.kind ≡ DECPF → field 8 h.contents.cells ≡ bytes "S" → field 9 h.contents.cells ≡ [] → Breach h 19 9
  no_event_type : h.contents.kind ≡ DECPF → field 8 h.contents.cells ≡ bytes "S" → field 10 h.contents.cells ≡ [] → Breach h 19 10
  -- "field 8 is S and 10 is 1: 11 is S"
  no_death : h.contents.kind ≡ DECPF → field 8 h.contents.cells ≡ bytes "S" → field 10 h.contents.cells ≡ bytes "1"
      → field 11 h.contents.cells ≢ bytes "S" → Breach h 19 11
  -- "field 8 is S: 13 is empty"
  estate : h.contents.kind ≡ DECPF → field 8 h.contents.cells ≡ bytes "S" → field 13 h.contents.cells ≢ [] → Breach h 19 13
  -- 21 "a value record repeated", 02, A3: "under its own parent"
  again : h.contents.kind ∈ values → (r : Rec) → r ∈ h.before → Sibling h r → Breach h 21 1
  -- 20 "key not greater"
  not_greater : key_fields h.contents.kind ≢ [] → (since : List Rec) (r : Rec) (earlier : List Rec) → h.before ≡ since ++ (r ∷ earlier)
      → Sibling h r → ((x : Rec) → x ∈ since → Sibling h x → ⊥)
      → (SmallerKey (key_of h.contents.kind (fields r.line)) (key_of h.contents.kind h.contents.cells) → ⊥) → Breach h 20 2
  -- 7 "the table holds fewer than n whole entries"
  full : h.room < suc (length h.before) → Breach h 7 0
