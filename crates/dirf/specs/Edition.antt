-- An edition of the layout: all that the published documents fix, as one argument. There are two: of 2025, and the older one of
-- document 000, which late filers use.
use Rattle.std.specs.Prelude.{ℕ, Bool, ◌&&◌, not, List, [], ◌∷◌, eqb, if◌then◌else◌}
use Rattle.dirf.specs.Bytes.{Text, same, some, is_in, lookup}
use Rattle.dirf.specs.Kinds.{names2025, names2022, is_later}
use Rattle.dirf.specs.Row.{Row}
use Rattle.dirf.specs.Layout.{layout2025, layout2022}
use Rattle.dirf.specs.Below.{Children, under_DECPF2025, under_DECPJ2025, under_DECPF2022, under_DECPJ2022, by_declarant}

pub record Edition : Type 0 where
  -- the kinds and their identifiers
  pub names : List (ℕ × Text)
  -- the records that share a field table, and its rows
  pub layout : List (List ℕ × List Row)
  -- by the declarant's kind, which record may stand directly below which
  pub below : ℕ → Children

unfoldable pub edition2025 : Edition
edition2025 = record { names = names2025; layout = layout2025; below = by_declarant under_DECPF2025 under_DECPJ2025 }

unfoldable pub edition2022 : Edition
edition2022 = record { names = names2022; layout = layout2022; below = by_declarant under_DECPF2022 under_DECPJ2022 }

-- the kind that an identifier names; 0: unknown
unfoldable pub kind_in : List (ℕ × Text) → Text → ℕ
kind_in [] s = 0
kind_in (n ∷ ns) s = if same n.1 s then n.0 else kind_in ns s

unfoldable pub kind_of : Edition → Text → ℕ
kind_of e s = kind_in e.names s

unfoldable pub name_of : Edition → ℕ → Text
name_of e k = lookup [] e.names k

-- what a table has for a kind, where several kinds share a row of it
unfoldable pub rows_in : {A : Type 0} → List (List ℕ × List A) → ℕ → List A
rows_in [] k = []
rows_in (g ∷ gs) k = if is_in k g.0 then g.1 else rows_in gs k

-- the field rows of a kind
unfoldable pub rows_of : Edition → ℕ → List Row
rows_of e k = rows_in e.layout k

-- a kind that the edition names and that is not left for later
unfoldable pub is_base : Edition → ℕ → Bool
is_base e k = some (λ n. eqb k n.0) e.names && not (is_later k)

-- to compute with this file: `unfolding edition_opens`
unfoldable pub edition_opens : Unit {0}
unfolding by_declarant edition2025 edition2022 kind_in kind_of name_of rows_in rows_of is_base
edition_opens = tt
