-- What the conditions among a record's fields, 19, say in plain mathematics.
use Prim.Native.Nat.{◌<◌}
use mathlib.Core.Path.{◌≡◌}
use mathlib.Core.Bool.{Bool}
use mathlib.Core.Logic.{◌≢◌}
use mathlib.Core.List.{List, []}
use lib.ListN.{length}
use Rattle.dirf.specs.Bytes.{Text, bytes, same}
use Rattle.dirf.specs.Lines.{field}
use Rattle.dirf.specs.Conditions.{Lawyer, lawyers, of_lawyer, lawyers_number_wrong, lawyers_name_too_long}
use Rattle.dirf.specs.Conditions.{special, event_date_missing, event_type_missing, death_not_stated, estate_stated}
use Rattle.dirf.specs.Theorems.Plain.{◌∈◌}
use Rattle.dirf.proofs.tests.Says.{Says, says, says_and, same_says, some_says}

module _ (cs : List Text) where
  -- PROC and RRA: field 4 says the lawyer's kind, and what else
  abbrev OfLawyer : (Lawyer → Type 0) → Type 0
  OfLawyer P = (l : Lawyer) × (l ∈ lawyers) × ((field 4 cs ≡ l.kind) × P l)

  lawyer_says : {P : Lawyer → Type 0} (test : Lawyer → Bool) → ((l : Lawyer) → Says (test l) (P l)) → Says (of_lawyer test cs) (OfLawyer P)
  unfolding of_lawyer
  lawyer_says test q =
      some_says _ (λ l. says_and (same (field 4 cs) l.kind) (test l) (same_says (field 4 cs) l.kind) (q l)) lawyers

  pub number_says : Says (lawyers_number_wrong cs) (OfLawyer (λ l. (field 5 cs ≢ []) × (length (field 5 cs) ≢ l.digits)))
  unfolding lawyers_number_wrong
  number_says = lawyer_says _ (λ l. search says)

  pub name_says : Says (lawyers_name_too_long cs) (OfLawyer (λ l. l.name < length (field 6 cs)))
  unfolding lawyers_name_too_long
  name_says = lawyer_says _ (λ l. search says)

  -- DECPF: field 8 is S, and what else
  special_says : Says (special cs) (field 8 cs ≡ bytes "S")
  unfolding special
  special_says = same_says (field 8 cs) (bytes "S")

  pub date_missing_says : Says (event_date_missing cs) ((field 8 cs ≡ bytes "S") × (field 9 cs ≡ []))
  unfolding event_date_missing
  date_missing_says = search (says, special_says)

  pub type_missing_says : Says (event_type_missing cs) ((field 8 cs ≡ bytes "S") × (field 10 cs ≡ []))
  unfolding event_type_missing
  type_missing_says = search (says, special_says)

  pub death_says : Says (death_not_stated cs) (((field 8 cs ≡ bytes "S") × (field 10 cs ≡ bytes "1")) × (field 11 cs ≢ bytes "S"))
  unfolding death_not_stated
  death_says = search (says, special_says)

  pub estate_says : Says (estate_stated cs) ((field 8 cs ≡ bytes "S") × (field 13 cs ≢ []))
  unfolding estate_stated
  estate_says = search (says, special_says)
