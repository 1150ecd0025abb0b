-- Demand 2: "A file is accepted exactly when it is closed, keeps the stated limits, fits the table, and no line breaks a field, nesting,
-- condition or order rule of the layout as document 01 reads it. Otherwise the first breach in document 01's order is named." And
-- demand 1: "Bad input is refused with a number, and in a file with its line and field too"; "A refused file leaves the record table
-- holding the lines before the bad one".
use Rattle.std.specs.Prelude.{ℕ, ◌≡◌, Bool, true, ◌↔◌, List, [], ◌∷◌, ◌++◌}
use Rattle.dirf.specs.Bytes.{Text}
use Rattle.dirf.specs.Kinds.{FIMDirf}
use Rattle.dirf.specs.Row.{Row}
use Rattle.dirf.specs.Fields.{FieldRule}
use Rattle.dirf.specs.Conditions.{Condition}
use Rattle.dirf.specs.Edition.{Edition}
use Rattle.dirf.specs.Lines.{Piece, pieces}
use Rattle.dirf.specs.Rules.{keeps, breaks, Contents, Rule, gives, field_by_field, conditions, ask}
use Rattle.dirf.specs.Tree.{Rec}
use Rattle.dirf.specs.Order.{Here, here, order}
use Rattle.dirf.specs.Check.{Verdict, rec_of, refused, accepted, verdict}
use Rattle.dirf.specs.Theorems.Plain.{◌∈◌, Nth}
use Rattle.dirf.specs.Theorems.Breach.{Breach}

-- the records that lines make, after those before, last first
abbrev pub recs : Edition → List Rec → List Piece → List Rec
recs e before [] = before
recs e before (p ∷ ps) = recs e (rec_of e before p ∷ before) ps

-- a line breaks no rule
abbrev pub Right : Here → Type 0
Right h = (n f : ℕ) → Breach h n f → ⊥

-- each of these lines breaks no rule, given the lines before it
abbrev pub LinesRight : Edition → ℕ → List Piece → Type 0
LinesRight e room ps = (os : List Piece) (p : Piece) (qs : List Piece) → ps ≡ os ++ (p ∷ qs) → Right (here e room (recs e [] os) p)

-- FIMDirf was read: it is the last record
abbrev pub Closed : List Rec → Type 0
Closed before = (r : Rec) × (rs : List Rec) × (before ≡ r ∷ rs) × (r.kind ≡ FIMDirf)

pub record Accepted (e : Edition) (file : Text) (room : ℕ) : Type 0 where
  pub lines : LinesRight e room (pieces file)
  pub shut : Closed (recs e [] (pieces file))

-- the first rule of the list that is broken gives n, naming f
pub data FirstBroken {A : Type 0} (a : A) (n f : ℕ) : List (Rule A) → Type 0 where
  this : {r : Rule A} {rs : List (Rule A)} → ask r a ≡ breaks n f → FirstBroken a n f (r ∷ rs)
  later : {r : Rule A} {rs : List (Rule A)} → ask r a ≡ keeps → FirstBroken a n f rs → FirstBroken a n f (r ∷ rs)

-- What an answer can be: accepted; unclosed, which is 1; or refused at the first line that breaks a rule, by the first rule in order.
pub data Answer (e : Edition) (file : Text) (room : ℕ) : Verdict → Type 0 where
  accepts : Accepted e file room → Answer e file room (accepted (recs e [] (pieces file)))
  unclosed : LinesRight e room (pieces file) → (Closed (recs e [] (pieces file)) → ⊥)
      → Answer e file room (refused (recs e [] (pieces file)) 1 0)
  refuses : (os : List Piece) (p : Piece) (qs : List Piece) (n f : ℕ) → pieces file ≡ os ++ (p ∷ qs) → LinesRight e room os
      → FirstBroken (here e room (recs e [] os) p) n f order → Answer e file room (refused (recs e [] os) n f)

-- the answer is of that form, and any answer of that form is the answer
abbrev pub Answered : Edition → Type 0
Answered e = (file : Text) (room : ℕ) → Answer e file room (verdict e file room)

abbrev pub Only : Edition → Type 0
Only e = (file : Text) (room : ℕ) (v : Verdict) → Answer e file room v → v ≡ verdict e file room

-- number 0 exactly when the file is accepted
abbrev pub AcceptedExactly : Edition → Type 0
AcceptedExactly e = (file : Text) (room : ℕ) → ((verdict e file room).number ≡ 0) ↔ Accepted e file room

-- a rule's own test says that it is broken: number n, naming field f
pub data Given {A : Type 0} (a : A) (n f : ℕ) : Rule A → Type 0 where
  by_test : {m g : ℕ} {test : A → Bool} → m ≡ n → g ≡ f → test a ≡ true → Given a n f (gives m g test)
  by_field : {xs : List FieldRule} {of : A → Contents} (x : FieldRule) (r : Row) (s : Text) → x ∈ xs → x.0 ≡ n
      → Nth (of a).rows f r → Nth (of a).cells f s → x.1 (of a).name r s ≡ true → Given a n f (field_by_field xs of)
  by_condition : {m : ℕ} {xs : List Condition} {of : A → Contents} (x : Condition) → m ≡ n → x ∈ xs → x.field ≡ f
      → (of a).kind ∈ x.kinds → x.broken (of a).cells ≡ true → Given a n f (conditions m xs of)

-- each test of the list says what document 01's table says in plain mathematics, and the list has them all
abbrev pub TestsSay : Edition → Type 0
TestsSay e =
    (room : ℕ) (before : List Rec) (p : Piece) (n f : ℕ)
    → Breach (here e room before p) n f ↔ ((r : Rule Here) × (r ∈ order) × Given (here e room before p) n f r)
