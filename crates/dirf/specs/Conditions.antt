-- The conditions among a record's fields, 19. They are asked once every field has passed 13 to 18 and 26.
use Rattle.std.specs.Prelude.{ℕ, Bool, ◌&&◌, not, List, [], ◌∷◌, eqb, ltb, length}
use Rattle.dirf.specs.Bytes.{Text, bytes, some, same, is_empty}
use Rattle.dirf.specs.Kinds.{DECPF, PROC, RRA}
use Rattle.dirf.specs.Lines.{field}

-- a condition on the fields of some kinds: the field named, and when it is broken
pub record Condition : Type 0 where
  pub kinds : List ℕ
  pub field : ℕ
  pub broken : List Text → Bool

-- what the lawyer's kind, field 4, means: so many digits in field 5, where it is filled, and a name of up to so many bytes in field 6
pub record Lawyer : Type 0 where
  pub kind : Text
  pub digits : ℕ
  pub name : ℕ

-- 02, A2: "1 means a CPF and a name of up to 60"
abbrev pub person : Lawyer
person = record { kind = bytes "1"; digits = 11; name = 60 }

-- "2 means a CNPJ and a name of up to 150"
abbrev pub firm : Lawyer
firm = record { kind = bytes "2"; digits = 14; name = 150 }

-- "With field 4 empty, fields 5 and 6 must be empty."
abbrev pub nobody : Lawyer
nobody = record { kind = []; digits = 0; name = 0 }

unfoldable pub lawyers : List Lawyer
lawyers = person ∷ firm ∷ nobody ∷ []

-- something holds of what the lawyer's kind in field 4 means
unfoldable pub of_lawyer : (Lawyer → Bool) → List Text → Bool
of_lawyer test cs = some (λ l. same (field 4 cs) l.kind && test l) lawyers

-- "With 1 or 2 either may be empty"
unfoldable pub lawyers_number_wrong : List Text → Bool
lawyers_number_wrong cs = of_lawyer (λ l. not (is_empty (field 5 cs)) && not (eqb (length (field 5 cs)) l.digits)) cs

unfoldable pub lawyers_name_too_long : List Text → Bool
lawyers_name_too_long cs = of_lawyer (λ l. ltb l.name (length (field 6 cs))) cs

-- 01, "Fields": "field 8 is S", a declaration of special situation
unfoldable pub special : List Text → Bool
special cs = same (field 8 cs) (bytes "S")

-- "field 8 is S: 9 and 10 are filled"
unfoldable pub event_date_missing : List Text → Bool
event_date_missing cs = special cs && is_empty (field 9 cs)

unfoldable pub event_type_missing : List Text → Bool
event_type_missing cs = special cs && is_empty (field 10 cs)

-- "field 8 is S and 10 is 1: 11 is S"
unfoldable pub death_not_stated : List Text → Bool
death_not_stated cs = special cs && same (field 10 cs) (bytes "1") && not (same (field 11 cs) (bytes "S"))

-- "field 8 is S: 13 is empty"
unfoldable pub estate_stated : List Text → Bool
estate_stated cs = special cs && not (is_empty (field 13 cs))

-- 02, A2: "19 at field 5, then 6" of PROC and RRA; 01: "Conditions, DECPF only", to which A2 adds; the lowest field first
unfoldable pub condition_order : List Condition
condition_order =
    record { kinds = PROC ∷ RRA ∷ []; field = 5; broken = lawyers_number_wrong } ∷
    record { kinds = PROC ∷ RRA ∷ []; field = 6; broken = lawyers_name_too_long } ∷
    record { kinds = DECPF ∷ []; field = 9; broken = event_date_missing } ∷
    record { kinds = DECPF ∷ []; field = 10; broken = event_type_missing } ∷
    record { kinds = DECPF ∷ []; field = 11; broken = death_not_stated } ∷
    record { kinds = DECPF ∷ []; field = 13; broken = estate_stated } ∷
    []

-- to compute with this file: `unfolding conditions_opens`
unfoldable pub lawyers_opens : Unit {0}
unfolding lawyers of_lawyer lawyers_number_wrong lawyers_name_too_long
lawyers_opens = tt

unfoldable pub conditions_opens : Unit {0}
unfolding lawyers_opens special event_date_missing event_type_missing death_not_stated estate_stated condition_order
conditions_opens = tt
