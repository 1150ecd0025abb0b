-- The stop at a key that isn't smaller, told of the entry that was read and of the key that it has.
use Rattle.std.proofs.Common.{ℕ, ◌≡◌, ◌+◌, ◌<◌, ◌≤◌, true, false, ◌&&◌, List, sym, ap, ◌∙◌}
use Rattle.dirf.specs.Bytes.{Text, is_in, less}
use Rattle.dirf.specs.Kinds.{companies, is_beneficiary}
use Rattle.dirf.specs.Search.{kind_in, is_within, stops_by, search_from}
use Rattle.dirf.proofs.found.Steps.{stopped}
use Rattle.search.specs.Answers.{entry_in, key_on}
use Rattle.search.specs.declared.Entry.{Entry}
use Rattle.search.proofs.EntryRead.{kind_is, key_is}

pub stop : (file : Text) (t : List ℕ) (key : Text) (end at count steps : ℕ) (e : Entry) (found : Text) → at < end → end ≤ at + steps
    → (is_beneficiary (kind_in t (at + 1)) && is_within file t (at + 1)) ≡ true → e ≡ entry_in t (at + 1)
    → false ≡ is_in e.kind companies → found ≡ key_on file e → false ≡ less found key
    → search_from file t key end steps (at + 1) count ≡ stops_by (at + 1) found key (count + 1)
stop file t key end at count steps e found on few reached is person own last =
    let k = key_is t (at + 1) e is file found own in
    stopped file t key end at count on reached steps few (rw (← kind_is t (at + 1) e is) (sym person)) (rw (← k) (sym last))
    ∙ ap (λ f. stops_by (at + 1) f key (count + 1)) (sym k)
