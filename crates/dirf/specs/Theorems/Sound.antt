-- What is asked of an edition: computed tests over its tables, proved once for each edition. The theorems hold for every such edition.
use Rattle.std.specs.Prelude.{ℕ, ◌≤◌, ◌<◌, ◌≡◌, Bool, true, false, ◌&&◌, not, ◌≢◌, List, [], ◌∷◌, map, eqb, ltb, length}
use Rattle.dirf.specs.Bytes.{Text, every, is_in, lookup}
use Rattle.dirf.specs.Limits.{lines_limit}
use Rattle.dirf.specs.Kinds.{FIMDirf, is_beneficiary}
use Rattle.dirf.specs.Row.{Row, Need, obligatory, optional, Holds, identifier, plain}
use Rattle.dirf.specs.Edition.{Edition}
use Rattle.dirf.specs.Tables.{RowsRight, KindsRight}
use Rattle.dirf.specs.Rules.{keeps, first}
use Rattle.dirf.specs.Tree.{Rec}
use Rattle.dirf.specs.Order.{here, order, closed, kind_of_line}
use Rattle.dirf.specs.Theorems.Plain.{◌∈◌}
use Rattle.dirf.specs.Theorems.Belongs.{parents_of}

-- the numbers of a list rise
unfoldable pub rising : List ℕ → Bool
rising [] = true
rising (k ∷ ks) = every (ltb k) ks && rising ks

-- a line keeps every rule after some records, if it is not too late for any line
abbrev pub KeptAfter : Edition → Text → List Rec → Type 0
KeptAfter e line before =
    (room : ℕ) → closed before ≡ false → length before < lines_limit → length before < room
    → first order (here e room before (record { body = line; ended = true })) ≡ keeps

-- four lines that close a file: one for each of the opening lines, and the last
pub record Closable (e : Edition) : Type 0 where
  pub line1 : Text
  pub line2 : Text
  pub line3 : Text
  pub last : Text
  pub after0 : (before : List Rec) → length before ≡ 0 → KeptAfter e line1 before
  pub after1 : (before : List Rec) → length before ≡ 1 → KeptAfter e line2 before
  pub after2 : (before : List Rec) → length before ≡ 2 → KeptAfter e line3 before
  pub after3 : (before : List Rec) → 3 ≤ length before → KeptAfter e last before
  pub open1 : kind_of_line e line1 ≢ FIMDirf
  pub open2 : kind_of_line e line2 ≢ FIMDirf
  pub open3 : kind_of_line e line3 ≢ FIMDirf
  pub closes : kind_of_line e last ≡ FIMDirf

abbrev pub first_of : List Row → Need × Holds
first_of [] = (optional, plain)
first_of (r ∷ rs) = (r.need, r.holds)

pub record Sound (e : Edition) : Type 0 where
  pub rows : RowsRight e
  pub kinds : KindsRight e
  -- no kind has number 0
  pub numbered : every (λ n. not (eqb n.0 0)) e.names ≡ true
  -- every field table begins with the record's identifier, obligatory
  pub identified : map (λ g. first_of g.1) e.layout ≡ map (λ g. (obligatory, identifier)) e.layout
  -- what the lists have directly below a record may belong to it
  pub nested : (d h k : ℕ) → is_in k (lookup [] (e.below d) h) ≡ true → h ∈ parents_of k
  -- the lists name what stands below a record in document 01's order, and kind numbers rise along them; below a beneficiary there is
  -- no order
  pub ordered : (d h : ℕ) → is_beneficiary h ≡ false → rising (lookup [] (e.below d) h) ≡ true
  pub closable : Closable e
