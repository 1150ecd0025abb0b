use mathlib.Core.Path.{refl}
use mathlib.Core.Bool.{true}
use mathlib.Core.List.{[], ◌∷◌}
use borrow.Author.Rules.{rules}
use Rattle.dirf.specs.Bytes.{bytes_opens}
use Rattle.dirf.specs.Fields.{digits_held}
use Rattle.layout.specs.Tables.{holds_of}
use Rattle.kinds.proofs.Arms.{between, seen}
use Rattle.rules.proofs.digits_held.Goals as goal

pub returns-in-99 : goal.returns-in-99
unfolding bytes_opens digits_held holds_of seen
returns-in-99 c = rw c.in-99.is c.right_cpf.ensures

pub returns-in-106 : goal.returns-in-106
unfolding bytes_opens digits_held holds_of seen
returns-in-106 c = rw c.in-106.is c.right_cnpj.ensures

pub returns-in-101 : goal.returns-in-101
unfolding bytes_opens digits_held holds_of seen
returns-in-101 c = rw c.in-101.is c.right_either.ensures

pub returns-in_default : goal.returns-in_default
unfolding bytes_opens digits_held holds_of seen
returns-in_default c =
    let s = c.args.s.now in
    search (rules, between (λ h. digits_held (holds_of h) s) true ((101 ∷ []) ∷ (106 ∷ []) ∷ (99 ∷ []) ∷ []) 0 256 refl)
