-- A contract allows one result: any two results that it allows for the same arguments are equal.
use mathlib.Core.Path.{sym, ◌∙◌}
use Rattle.fields.proofs.Determined.{One}
use Rattle.digits.proofs as digits

pub right_cpf_one : One digits.right_cpf.Reads.Post
right_cpf_one κs a x y s t p q = p ∙ sym q

pub right_cnpj_one : One digits.right_cnpj.Reads.Post
right_cnpj_one κs a x y s t p q = p ∙ sym q

pub right_either_one : One digits.right_either.Reads.Post
right_either_one κs a x y s t p q = p ∙ sym q
