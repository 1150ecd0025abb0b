-- Each edition is laid out in tables, by computing; and what the older one's tables are beside those of 2025.
use Prim.Native.Nat.{ℕ}
use mathlib.Core.Path.{◌≡◌, refl, ap}
use mathlib.Core.Bool.{Bool, true}
use mathlib.Core.List.{List, [], ◌∷◌, ◌++◌}
use lib.Dec.{eqb, ltb}
use lib.ListN.{length, get_or, set, replicate}
use lib.Seq.{sets}
use borrow.Author.Tests.{ne_eqb}
use Rattle.dirf.specs.Bytes.{Text, every, bytes_opens}
use Rattle.dirf.specs.Kinds.{DECPF, DECPJ, BPFDEC, BPFPROC, RTDS, ESDS, kinds_opens}
use Rattle.dirf.specs.Below.{Children, under_DECPF2025, under_DECPJ2025, under_DECPF2022, under_DECPJ2022, by_declarant}
use Rattle.dirf.specs.Edition.{Edition, name_of, rows_of, is_base, edition2025, edition2022, edition_opens}
use Rattle.dirf.specs.Editions.{EditionName, of2025, of2022, edition_named}
use Rattle.dirf.proofs.tests.Bools.{if_cases}
use Rattle.layout.specs.Tables.{holders, below_table, name_in, base_in, name_table, slot_of, concat, rows_in}
use Rattle.kinds.specs.Kinds.{tab, kinds}
use Rattle.layout.specs.Tables.{record_bytes, count_in, row_in}
use Rattle.layout.specs.Tables.{byte_in, row_of, format_of, fill_of, need_of, holds_of, record_of, row_bytes_of, format_byte, fill_byte}
use Rattle.layout.specs.Tables.{need_byte, holds_byte, row_table, yes}
use Rattle.layout.specs.LaidOut.{LaidOut, is_kind, is_column}

-- a test of the lists below holds if it holds of each declarant's
each : (pf pj : Children) (test : ℕ × List ℕ → Bool) → every test pf ≡ true → every test pj ≡ true → (d : ℕ)
    → every test (by_declarant pf pj d) ≡ true
unfolding by_declarant
each pf pj test f j d = if_cases (λ (t : Children). every test t ≡ true) (eqb d DECPF) (λ _. f) (λ _. j)

-- what is computed of an edition with these lists, and what it has to come to
abbrev Facts : Type 0
Facts = List Bool × List Text × List Bool × List ℕ

abbrev found : Edition → Children → Children → Facts
found e pf pj = (
  every (λ n. is_kind n.0) e.names
      ∷ every (λ g. every is_kind g.0) e.layout
      ∷ every (λ r. ltb r.0 holders) pf
      ∷ every (λ r. ltb r.0 holders) pj
      ∷ every (λ r. every is_column r.1) pf
      ∷ every (λ r. every is_column r.1) pj
      ∷ [],
  tab (name_in (name_table e)) 0 kinds,
  tab (base_in (name_table e)) 0 kinds,
  tab (λ k. length (record_of (rows_of e k))) 0 kinds,
)

abbrev wanted : Edition → Facts
wanted e = (replicate 6 true, tab (name_of e) 0 kinds, tab (is_base e) 0 kinds, replicate kinds record_bytes)

laid : (e : Edition) (pf pj : Children) → e.below ≡ by_declarant pf pj → found e pf pj ≡ wanted e
    → ((after : List ℕ) → tab (λ k. rows_in (record_of (rows_of e k) ++ after) 0) 0 kinds ≡ tab (rows_of e) 0 kinds) → LaidOut e
laid e pf pj lists f records =
    record {
      named_kinds = ap (λ (x : Facts). get_or x.0 0 true) f;
      laid_kinds = ap (λ (x : Facts). get_or x.0 1 true) f;
      holds = rw lists
          (each pf pj (λ r. ltb r.0 holders) (ap (λ (x : Facts). get_or x.0 2 true) f) (ap (λ (x : Facts). get_or x.0 3 true) f));
      held = rw lists
          (each pf pj (λ r. every is_column r.1) (ap (λ (x : Facts). get_or x.0 4 true) f) (ap (λ (x : Facts). get_or x.0 5 true) f));
      name = ap (λ (x : Facts). x.1) f;
      base = ap (λ (x : Facts). x.2) f;
      widths = ap (λ (x : Facts). x.3) f;
      records = records;
    }

pub laid_out_lem : (n : EditionName) → LaidOut (edition_named n)
unfolding name_in base_in name_table slot_of concat rows_in count_in row_in byte_in row_of format_of fill_of need_of holds_of
    record_of row_bytes_of format_byte fill_byte need_byte holds_byte bytes_opens kinds_opens edition_opens edition_named
laid_out_lem of2025 = laid edition2025 under_DECPF2025 under_DECPJ2025 refl refl (λ after. refl)
laid_out_lem of2022 = laid edition2022 under_DECPF2022 under_DECPJ2022 refl refl (λ after. refl)

-- what is no DECPF has the list of DECPJ
pub other_table : (n : EditionName) (d : ℕ) → (d ≡ DECPF → ⊥) → below_table (edition_named n) d ≡ below_table (edition_named n) DECPJ
unfolding below_table edition2025 edition2022 by_declarant edition_named
other_table of2025 d n = rw (ne_eqb d DECPF n)
other_table of2022 d n = rw (ne_eqb d DECPF n)

-- The tables of the older edition, out of those of 2025.
pub names_older : sets (sets (name_table edition2025) 80 (replicate 8 0)) 136 (replicate 8 0) ≡ name_table edition2022
unfolding name_table slot_of concat bytes_opens kinds_opens edition_opens
names_older = refl

-- a cell that says no
abbrev pub cleared : List (List ℕ) → ℕ → ℕ → List (List ℕ)
cleared t h k = set t h (set (get_or t h []) k 46)

pub pf_older : cleared (cleared (below_table edition2025 DECPF) BPFDEC RTDS) BPFDEC ESDS ≡ below_table edition2022 DECPF
unfolding below_table yes bytes_opens kinds_opens edition_opens
pf_older = refl

pub pj_older :
    cleared (cleared (cleared (cleared (below_table edition2025 DECPJ) BPFDEC RTDS) BPFDEC ESDS) BPFPROC RTDS) BPFPROC ESDS
    ≡ below_table edition2022 DECPJ
unfolding below_table yes bytes_opens kinds_opens edition_opens
pj_older = refl

pub rows_older :
    set
    (set
    (set (set (set (sets (sets (row_table edition2025) 760 (replicate 76 46)) 1292 (replicate 76 46)) 760 0) 1292 0) 86 111)
    91 112)
    106 113
    ≡ row_table edition2022
unfolding row_table record_of row_bytes_of format_byte fill_byte need_byte holds_byte concat bytes_opens kinds_opens edition_opens
rows_older = refl
