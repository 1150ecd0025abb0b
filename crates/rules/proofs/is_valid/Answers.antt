use mathlib.Core.Path.{◌∙◌}
use mathlib.Core.Bool.{or-false}
use borrow.Author.Rules.{rules}
use Rattle.dirf.specs.Bytes.{lookup, some}
use Rattle.dirf.specs.Fields.{valid}
use Rattle.layout.specs.Tables.{holds_of}
use Rattle.rules.proofs.Letters.{letter_valid}
use Rattle.rules.proofs.is_valid.Goals as goal

pub returns-in-105 : goal.returns-in-105
unfolding lookup some valid holds_of
returns-in-105 c = rw c.in-105.is c.same.ensures

pub returns-in-121 : goal.returns-in-121
unfolding lookup some valid holds_of
returns-in-121 c = rw (c.in-121.is, or-false) c.same-in-121.ensures

pub returns-in-122 : goal.returns-in-122
unfolding lookup some valid holds_of
returns-in-122 c = rw (c.in-122.is, or-false) c.same-in-122.ensures

pub returns-in-114 : goal.returns-in-114
unfolding lookup some valid holds_of
returns-in-114 c = rw (c.in-114.is, or-false) c.same-in-114.ensures

pub returns-in-111 : goal.returns-in-111
unfolding lookup some valid holds_of
returns-in-111 c = rw (c.in-111.is, or-false) c.same-in-111.ensures

pub returns-in-112 : goal.returns-in-112
unfolding lookup some valid holds_of
returns-in-112 c = rw c.in-112.is c.is_either.ensures

pub returns-in-113 : goal.returns-in-113
unfolding lookup some valid holds_of
returns-in-113 c = rw (c.in-113.is, or-false) c.same-in-113.ensures

pub returns-in-107 : goal.returns-in-107
unfolding lookup some valid holds_of
returns-in-107 c = rw c.in-107.is c.is_relation.ensures

pub returns-in_default : goal.returns-in_default
unfolding lookup some valid holds_of
returns-in_default c = c.is_letter.ensures
    ∙ letter_valid c.args.name.now c.args.s.now c.args.holds (search rules) c.in_default.in_default-own.rest
