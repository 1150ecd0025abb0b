-- What a refusal of the search says.
use Rattle.std.proofs.Common.{◌≡◌, Result, Ok, Err, ap}
use Rattle.std.specs.Result.{IsErr}
use Rattle.dirf.specs.Search.{no_way}
use Rattle.refusals.specs.declared.Refusal.{Refusal}
use Rattle.search.specs.Answers.{said, IsNoWay}
use Rattle.search.specs.declared.Found.{Found}

pub refusal_says : (r : Result Found Refusal) → IsErr r → IsNoWay r → said r ≡ no_way
refusal_says (Ok f) e q = cc
refusal_says (Err r) e q = ap (λ (r : Refusal). said (Err r)) q
