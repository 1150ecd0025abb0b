-- A contract allows one result: any two results that it allows for the same arguments are equal.
use Rattle.std.proofs.Common.{ℕ, ◌≡◌, Result, Ok, Err, sym, ap, ◌∙◌, arith}
use mathlib.Core.Path.{ap₂}
use Rattle.dirf.specs.Search.{Searched}
use Rattle.fields.proofs.Determined.{One, OnePlace, by_parts}
use Rattle.refusals.specs.declared.Refusal.{Refusal}
use Rattle.refusals.specs.Numbers.{number_for}
use Rattle.search.specs.Answers.{said, IsNoWay}
use Rattle.search.specs.declared.Found.{Found}
use Rattle.search.proofs.entries.Reads as entries
use Rattle.search.proofs.search.Reads as search

-- results that say the same are the same, where a refusal has one reason
says_one : (x y : Result Found Refusal) → said x ≡ said y → IsNoWay x → IsNoWay y → x ≡ y
says_one (Ok f) (Ok g) e p q =
    let found : ℕ → ℕ → Result Found Refusal = λ l n. Ok (record { line = l; count = n }) in
    ap₂ found (ap (λ (z : Searched). z.line) e) (ap (λ (z : Searched). z.count) e)
says_one (Ok f) (Err s) e p q = absurd (omega (arith, ap (λ (z : Searched). z.number) e ∙ ap number_for q))
says_one (Err r) (Ok g) e p q = absurd (omega (arith, ap (λ (z : Searched). z.number) (sym e) ∙ ap number_for p))
says_one (Err r) (Err s) e p q = ap (λ (x : Refusal). Err x) (p ∙ sym q)

pub search_one : One search.Post
search_one κs a x y s t p q = says_one x y (p.0 ∙ sym q.0) p.1 q.1

pub entries_one : OnePlace entries.Post
entries_one κs a x y s t p q = by_parts x y p q
