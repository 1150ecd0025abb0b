-- Tables of wrong checkers that are not `Owned`: two of 01, "Where earlier checkers went wrong", and two of a private pension's amounts.
use Prim.Native.Nat.{ℕ}
use mathlib.Core.Path.{◌≡◌, refl, sym, ◌∙◌}
use mathlib.Core.Bool.{false, true≢false}
use mathlib.Core.Logic.{⊎_elim}
use mathlib.Core.List.{List, [], ◌∷◌}
use native.Mathlib.Omega.{arith}
use Rattle.dirf.specs.Bytes.{is_in, bytes_opens}
use Rattle.dirf.specs.Kinds.{Dirf, RESPO, DECPJ, IDREC, BPFDEC, INFPC, RTPP, RTFA, RIDAC, PROC, SCP, alone, kinds_opens}
use Rattle.dirf.specs.Edition.{edition_opens}
use Rattle.dirf.specs.Check.{Entry}
use Rattle.dirf.specs.Theorems.Plain.{◌∈◌}
use Rattle.dirf.specs.Theorems.Belongs.{parents_of, persons, belongs_opens}
use Rattle.dirf.specs.Theorems.Whose.{Owned}
use Rattle.dirf.proofs.tests.Says.{is_in_says}

-- an entry of a kind and a parent; where it starts and how long it is does not matter here
abbrev of : ℕ → ℕ → Entry
of kind parent = record { kind = kind; start = 0; length = 0; parent = parent }

not_in : (k : ℕ) (ks : List ℕ) → is_in k ks ≡ false → k ∈ ks → ⊥
not_in k ks absent m = true≢false (sym ((is_in_says k ks).1 m) ∙ absent)

-- "Taking an IDREC after a PROC for the declarant's": line 5 is the IDREC, with parent 3, and its BPFDEC hangs below it
abbrev pub declarants_IDREC : List Entry
declarants_IDREC = of Dirf 0 ∷ of RESPO 0 ∷ of DECPJ 0 ∷ of PROC 3 ∷ of IDREC 3 ∷ of BPFDEC 5 ∷ []

pub not_the_declarants : Owned declarants_IDREC → ⊥
unfolding bytes_opens kinds_opens
not_the_declarants o = not_in PROC (IDREC ∷ persons) refl (o.idrec 5 (omega arith, omega arith) refl 4 (omega arith) (omega arith))

-- a person of the declarant below an SCP
abbrev pub person_below_SCP : List Entry
person_below_SCP = of Dirf 0 ∷ of RESPO 0 ∷ of DECPJ 0 ∷ of SCP 3 ∷ of BPFDEC 4 ∷ []

pub not_below_SCP : Owned person_below_SCP → ⊥
unfolding bytes_opens kinds_opens edition_opens belongs_opens
not_below_SCP o =
    ⊎_elim (λ n. not_in BPFDEC alone refl n.kind) (λ b. not_in SCP (parents_of BPFDEC) refl b.to)
    (o.line 5 (omega arith, omega arith))

-- an amount of a private pension hung on the person
abbrev pub pension_on_person : List Entry
pension_on_person = of Dirf 0 ∷ of RESPO 0 ∷ of DECPJ 0 ∷ of IDREC 3 ∷ of BPFDEC 4 ∷ of INFPC 5 ∷ of RTPP 5 ∷ []

pub not_on_the_person : Owned pension_on_person → ⊥
unfolding bytes_opens kinds_opens edition_opens belongs_opens
not_on_the_person o =
    ⊎_elim (λ n. not_in RTPP alone refl n.kind) (λ b. not_in BPFDEC (parents_of RTPP) refl b.to) (o.line 7 (omega arith, omega arith))

-- an INFPC that stays open past a value record of the person: line 9 belongs to line 6, and line 8 between them does not
abbrev pub open_past_the_group : List Entry
open_past_the_group =
    of Dirf 0 ∷ of RESPO 0 ∷ of DECPJ 0 ∷ of IDREC 3 ∷ of BPFDEC 4 ∷ of INFPC 5 ∷ of RTPP 6 ∷ of RIDAC 5 ∷ of RTFA 6 ∷ []

pub not_past_the_group : Owned open_past_the_group → ⊥
unfolding bytes_opens kinds_opens
not_past_the_group o =
    ⊎_elim (λ n. not_in RTFA alone refl n.kind) (λ b. absurd (omega (arith, b.unbroken 8 (omega arith) (omega arith))))
    (o.line 9 (omega arith, omega arith))
