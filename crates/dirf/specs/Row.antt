-- A field row: what the layout says of one field.
use Rattle.std.specs.Prelude.{ℕ, List, [], ◌∷◌}
use Rattle.dirf.specs.Bytes.{Text, bytes}

-- the layout's column "Formato": C alphanumeric, N numeric, D a date
pub data Format : Type 0 where
  C N D : Format

-- "Preenchimento": Fixo or Variável
pub data Fill : Type 0 where
  fixed variable : Fill

-- "Obrigatório": Sim or Não
pub data Need : Type 0 where
  obligatory optional : Need

-- what the field holds: "Valores válidos" and "Observações". The record's own identifier; centavos; tenths of a month; an area code;
-- a telephone or fax number; a CPF; a CNPJ; a CPF or a CNPJ; one of the printed values; or plainly what the format says
pub data Holds : Type 0 where
  identifier amount months ddd telephone cpf cnpj cpf_or_cnpj plain : Holds
  one_of : List Text → Holds

pub record Row : Type 0 where
  pub format : Format
  pub fill : Fill
  pub size : ℕ
  pub need : Need
  pub holds : Holds

-- a row in the order of the layout's columns
abbrev pub row : Format → Fill → ℕ → Need → Holds → Row
row f g n o h = record { format = f; fill = g; size = n; need = o; holds = h }

-- an indicator: S (sim) or N (não)
abbrev pub s_or_n : Holds
s_or_n = one_of (bytes "S" ∷ bytes "N" ∷ [])
