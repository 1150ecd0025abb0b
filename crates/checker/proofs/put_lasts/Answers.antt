-- From the innermost record above outwards: what is left are those further out.
use Prim.Native.Nat.{ℕ, zero, suc, ◌-◌, ◌*◌, ◌/◌, ◌≤◌, ◌<◌}
use mathlib.Core.Path.{◌≡◌, refl, sym, ap, ◌∙◌}
use mathlib.Core.List.{List}
use native.Mathlib.Omega.{arith}
use lib.Dec.{leb}
use lib.ListN.{length, get_or, length-set}
use borrow.Author.Tests.{lt-leb}
use Rattle.dirf.specs.Limits.{numbers_an_entry}
use Rattle.dirf.proofs.tests.Bools.{if_cases}
use Rattle.checker.specs.State.{no_open}
use Rattle.checker.specs.declared.state.Open.{Open}
use Rattle.checker.specs.Answers.{put_last, put_lasts}
use Rattle.checker.proofs.put_lasts.Goals as goal

length-put : (t : List ℕ) (n last : ℕ) → length (put_last t n last) ≡ length t
unfolding put_last
length-put t n last =
    if_cases (λ (s : List ℕ). length s ≡ length t) (leb n (length t / numbers_an_entry))
    (λ _. length-set t (numbers_an_entry * n - 1) last) (λ _. refl)

-- one of them put
put_step : (t : List ℕ) (opened : List Open) (i last : ℕ) → 1 ≤ i
    → put_lasts t opened i last ≡ put_lasts (put_last t ((get_or opened (i - 1) no_open).line) last) opened (i - 1) last
unfolding put_lasts
put_step t opened zero last one = absurd (omega arith)
put_step t opened (suc i) last one = let q : suc i - 1 ≡ i = omega arith in rw q

-- where the table holds no entry nothing is put
put-nothing : (t : List ℕ) (opened : List Open) (i last : ℕ) → length t < numbers_an_entry
    → ((j : ℕ) → j < i → 1 ≤ (get_or opened j no_open).line)
    → t ≡ put_lasts t opened i last
unfolding put_lasts put_last
put-nothing t opened zero last few lined = refl
put-nothing t opened (suc i) last few lined =
    let none : length t / numbers_an_entry < (get_or opened i no_open).line = omega (arith, lined i (omega arith)) in
    rw (lt-leb ((get_or opened i no_open).line) (length t / numbers_an_entry) none)
    (put-nothing t opened i last few (λ j h. lined j (omega arith)))

pub returns-then-table-lt-NUMBERS_AN_ENTRY : goal.returns-then-table-lt-NUMBERS_AN_ENTRY
unfolding put_lasts
returns-then-table-lt-NUMBERS_AN_ENTRY c = put-nothing _ _ _ _ c.if-table-lt-NUMBERS_AN_ENTRY.true c.requires.1

pub loop-i-init : goal.loop-i-init
loop-i-init c = refl

pub put_last-requires : goal.put_last-requires
put_last-requires c = c.requires.1 _ (omega arith)

pub loop-i-preserved : goal.loop-i-preserved
loop-i-preserved c =
    let l = c.loop-i in
    let a = c.args in
    let put : c.put_last.new.table ≡ put_last l.table ((get_or a.opened (l.i - 1) no_open).line) a.own = c.put_last.ensures in
    l.invariant ∙ put_step l.table a.opened l.i a.own (omega arith) ∙ ap (λ t. put_lasts t a.opened (l.i - 1) a.own) (sym put)

pub returns : goal.returns
unfolding put_lasts
returns c =
    let l = c.loop-i in
    let a = c.args in
    let none : l.i ≡ 0 = omega arith in
    sym (l.invariant ∙ ap (λ i. put_lasts l.table a.opened i a.own) none)
