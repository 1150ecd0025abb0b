-- 01, "Where earlier checkers went wrong": "Comparing process numbers as numbers, or a CPF without its zeros." No edit of `key_less` is
-- such a program and keeps its shape. So this stands in for one: where such a program answers otherwise, the contract excludes its answer.
use Rattle.std.specs.Prelude.{if◌then◌else◌}
use Prim.Native.Nat.{ℕ}
use mathlib.Core.Path.{◌≡◌, sym, ◌∙◌}
use mathlib.Core.Bool.{Bool, true≢false}
use mathlib.Core.Logic.{◌≢◌}
use mathlib.Core.List.{[], ◌∷◌}
use lib.Dec.{eqb, ltb}
use Rattle.dirf.specs.Bytes.{Text, bytes, less, bytes_opens}
use Rattle.dirf.specs.Kinds.{PROC, BPFSCP, kinds_opens}
use Rattle.dirf.specs.Lines.{fields, lines_opens}
use Rattle.dirf.specs.Numbers.{value_of, numbers_opens}
use Rattle.dirf.specs.Keys.{key_of, key_less, keys_opens}
use Rattle.fields.specs.Places.{key_parts}
use Rattle.fields.proofs.key_less.Reads as key-less

-- a line of a kind, and fields 2 and 3 of a record of that kind
pub record Asked : Type 0 where
  pub kind : ℕ
  pub earlier : Text
  pub second : Text
  pub third : Text

abbrev rightly : Asked → Bool
rightly q = key_less (key_of q.kind (fields q.earlier)) (key_parts q.kind q.second q.third)

-- whatever the contract of `key_less` allows at these arguments is not that answer
abbrev pub Excludes : Asked → Bool → Type 0
Excludes q wrong =
    (κs : _) (a : _) (r : _) (s : _) → key-less.Post κs a r s → a.0 ≡ q.kind → a.1.0.now ≡ q.earlier
    → a.1.1.0.now ≡ q.second → a.1.1.1.0.now ≡ q.third → r ≢ wrong

excludes : (q : Asked) (wrong : Bool) → (rightly q ≡ wrong → ⊥) → Excludes q wrong
excludes q wrong other κs a r s e k b c d w = other (rw (sym k, sym b, sym c, sym d) (sym e ∙ w))

-- process 9, then process 10
abbrev pub processes : Asked
processes = record { kind = PROC; earlier = bytes "PROC|1|9|||||"; second = bytes "1"; third = bytes "10" }

pub not_as_numbers : Excludes processes (ltb (value_of (bytes "9")) (value_of (bytes "10")))
unfolding bytes_opens kinds_opens lines_opens numbers_opens keys_opens key_parts
not_as_numbers = excludes processes (ltb (value_of (bytes "9")) (value_of (bytes "10"))) (λ q. true≢false (sym q))

-- a text without the zeros in front
unfoldable pub without_zeros : Text → Text
without_zeros [] = []
without_zeros (b ∷ s) = if eqb b 48 then without_zeros s else b ∷ s

-- CPF 00000000191, then CPF 11144477735
abbrev pub persons : Asked
persons = record { kind = BPFSCP; earlier = bytes "BPFSCP|00000000191|ANA||"; second = bytes "11144477735"; third = bytes "EVA" }

pub not_without_zeros : Excludes persons (less (without_zeros (bytes "00000000191")) (without_zeros (bytes "11144477735")))
unfolding bytes_opens kinds_opens lines_opens keys_opens key_parts without_zeros
not_without_zeros = excludes persons (less (without_zeros (bytes "00000000191")) (without_zeros (bytes "11144477735"))) (λ q. true≢false q)
