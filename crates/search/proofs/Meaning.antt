-- A search after a check that accepted: it answers what reading every line answers. Told of the contracts of `check` and `search`.
use Prim.Native.Nat.{ℕ, ◌*◌, ◌/◌}
use mathlib.Core.Path.{◌≡◌, sym, ap, ap₂, ◌∙◌}
use mathlib.Core.List.{List}
use Rattle.std.specs.Prelude.{Result}
use lib.ListN.{length, take, drop}
use lib.Seq.{take_at}
use Rattle.dirf.specs.Bytes.{Text}
use Rattle.dirf.specs.Limits.{numbers_an_entry}
use Rattle.dirf.specs.Kinds.{IDREC}
use Rattle.dirf.specs.Check.{Entry, numbers_of, Verdict, answer_to}
use Rattle.dirf.specs.Search as dirf
use Rattle.dirf.specs.Search.{search_in}
use Rattle.dirf.specs.Theorems.Whose.{kind_at, IsLine}
use Rattle.dirf.specs.Theorems.Found.{Found}
use Rattle.dirf.proofs.files.Files.{files}
use Rattle.checker.specs.Answers.{answer_of as checked, with_numbers, table_after}
use Rattle.checker.proofs.Table.{length_numbers}
use Rattle.checker.proofs.check.Reads as check
use Rattle.refusals.specs.declared.Refusal.{Refusal}
use Rattle.search.specs.Answers.{said}
use Rattle.search.specs.declared.Found as code
use Rattle.search.proofs.search.Reads as search

-- the table of a file, with what the lent table had behind its entries
own : (v : Verdict) (before : List ℕ) → take (numbers_an_entry * length v.table) (table_after v before) ≡ numbers_of v.table
unfolding table_after with_numbers
own v before =
    take_at (numbers_of v.table) (drop (length (numbers_of v.table)) before) (numbers_an_entry * length v.table)
    (length_numbers v.table)

-- the answer of a search is what is to be found below the IDREC of line n
pub record Answers (file : Text) (t : List Entry) (n : ℕ) (key : Text) (r : Result code.Found Refusal) : Type 0 where
  pub says : dirf.Searched
  pub is : said r ≡ says
  pub right : Found file t n key says

pub search_finds : (κs : _) (a : _) (x : _) (s : _) → check.Post κs a x s → x.number ≡ 0
    → let file = a.0.now in let t = (answer_to file (length a.1.0.now / numbers_an_entry)).table in
    (n : ℕ) → IsLine t n → kind_at t n ≡ IDREC → (κs' : _) (b : _) (y : _) (u : _) → search.Post κs' b y u
    → b.0.now ≡ file → b.1.0.now ≡ s.1.0.now → b.1.1.0 ≡ n → Answers file t n b.1.1.1.0.now y
unfolding checked
search_finds κs a x s p ok n l is κs' b y u q same-file same-table same_line =
    let file = a.0.now in
    let room = length a.1.0.now / numbers_an_entry in
    let v = answer_to file room in
    let t = table_after v a.1.0.now in
    let key = b.1.1.1.0.now in
    record {
      says = search_in file t n key;
      is = q.0 ∙ ap (λ f. search_in f b.1.0.now b.1.1.0 key) same-file
          ∙ ap₂ (λ t n. search_in file t n key) (same-table ∙ p.1) same_line;
      right = files.finds file room (sym (ap (λ z. z.number) p.0) ∙ ok) n l is t (own v a.1.0.now) key;
    }
