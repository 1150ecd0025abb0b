-- What the tables say of an edition, and the one computed fact that has them say it.
use Rattle.std.specs.Prelude.{ℕ, ◌≡◌, Bool, true, List, ◌++◌, ltb, length, replicate}
use Rattle.dirf.specs.Bytes.{every}
use Rattle.dirf.specs.Edition.{Edition, name_of, rows_of, is_base}
use Rattle.dirf.specs.Tree.{may_hold}
use Rattle.kinds.specs.Kinds.{tab, kinds}
use Rattle.layout.specs.Tables.{holders, columns, name_in, base_in, name_table, record_bytes, record_of, rows_in, holds_in}

-- a lent table says an edition: whoever reads it reads what the edition has
pub record SayRows (e : Edition) (rows : List ℕ) : Type 0 where
  pub fields : (k : ℕ) → rows_in rows k ≡ rows_of e k

-- the tables of identifiers and of rows
pub record Say (e : Edition) (names rows : List ℕ) : Type 0 where
  pub name : (k : ℕ) → name_in names k ≡ name_of e k
  pub base : (k : ℕ) → base_in names k ≡ is_base e k
  pub all_rows : SayRows e rows

-- and what may stand below what under a declarant of kind d
abbrev pub SayBelow : Edition → ℕ → List (List ℕ) → Type 0
SayBelow e d below = (h u k : ℕ) → holds_in below d h u k ≡ may_hold e d h u k

abbrev pub is_kind : ℕ → Bool
is_kind k = ltb k kinds

abbrev pub is_column : ℕ → Bool
is_column k = ltb k columns

-- an edition is laid out in tables: tests over its lists, each proved by computing
pub record LaidOut (e : Edition) : Type 0 where
  -- every number in the edition's lists is a kind's, and has a row and a column where it stands there
  pub named_kinds : every (λ n. is_kind n.0) e.names ≡ true
  pub laid_kinds : every (λ g. every is_kind g.0) e.layout ≡ true
  pub holds : (d : ℕ) → every (λ r. ltb r.0 holders) (e.below d) ≡ true
  pub held : (d : ℕ) → every (λ r. every is_column r.1) (e.below d) ≡ true
  -- identifiers and rows fit their places, and read back
  pub name : tab (name_in (name_table e)) 0 kinds ≡ tab (name_of e) 0 kinds
  pub base : tab (base_in (name_table e)) 0 kinds ≡ tab (is_base e) 0 kinds
  pub widths : tab (λ k. length (record_of (rows_of e k))) 0 kinds ≡ replicate kinds record_bytes
  pub records : (after : List ℕ) → tab (λ k. rows_in (record_of (rows_of e k) ++ after) 0) 0 kinds ≡ tab (rows_of e) 0 kinds
