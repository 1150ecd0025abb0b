-- What is no IDREC's entry, or does not stay within file and table, is refused; from behind any other the search goes to its last line.
use Rattle.std.proofs.Common.{◌∙◌, arith, rules}
use Rattle.dirf.specs.Search.{is_idrec, search_in}
use Rattle.dirf.proofs.tests.Bools.{and_right}
use Rattle.search.proofs.EntryRead.{last_is}
use Rattle.search.proofs.Within.{last_few}
use Rattle.search.proofs.Said.{refusal_says}
use Rattle.search.proofs.search.Goals as goal

pub returns-in_err-e-clause-says : goal.returns-in_err-e-clause-says
unfolding search_in
returns-in_err-e-clause-says c =
    refusal_says c.from_residual.result c.from_residual.ensures.0 (search rules) ∙ rw c.in_err-e.ensures.0

pub search_below-requires : goal.search_below-requires
search_below-requires c =
    let e = c.in_ok-e.ensures in
    omega (arith, last_is _ _ _ e.1, last_few c.args.file.now _ _ (and_right (is_idrec c.args.table.now c.args.line) _ e.0))

pub returns-clause-says : goal.returns-clause-says
unfolding search_in
returns-clause-says c =
    let e = c.in_ok-e.ensures in
    c.search_below.ensures.says ∙ rw (e.0, last_is _ _ _ e.1)
