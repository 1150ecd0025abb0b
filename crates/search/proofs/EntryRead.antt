-- The numbers of the entry that was read, and field 2 of its line.
use Prim.Native.Nat.{ℕ, ◌/◌}
use mathlib.Core.Path.{◌≡◌, refl, sym, ap, ◌∙◌}
use mathlib.Core.Bool.{◌&&◌}
use mathlib.Core.List.{List}
use lib.Dec.{eqb, leb}
use lib.ListN.{length}
use Rattle.std.proofs.lemmas.Bool.Decides.{nat_tests}
use Rattle.dirf.specs.Bytes.{Text}
use Rattle.dirf.specs.Search.{entries_in, number_in, kind_in, last_in, key_in, is_idrec}
use Rattle.fields.specs.Places.{part_of}
use Rattle.search.specs.Answers.{entry_in, key_on}
use Rattle.search.specs.declared.Entry.{Entry}

module _ (t : List ℕ) (n : ℕ) where
  pub kind_read : number_in t n 0 ≡ (entry_in t n).kind
  unfolding entry_in
  kind_read = refl

  pub last_read : number_in t n 4 ≡ (entry_in t n).last
  unfolding entry_in
  last_read = refl

  pub key_read : (file : Text) → key_in file t n ≡ key_on file (entry_in t n)
  unfolding entry_in key_on key_in part_of
  key_read file = refl

  pub is_idrec_tests : is_idrec t n ≡ (leb 1 n && leb n (length t / 5) && eqb (entry_in t n).kind 5)
  unfolding is_idrec entries_in entry_in
  is_idrec_tests = refl

  -- and of what is known to be that entry
  module _ (e : Entry) (q : e ≡ entry_in t n) where
    pub kind_is : e.kind ≡ kind_in t n
    kind_is = ap (λ (e : Entry). e.kind) q ∙ sym kind_read

    pub last_is : e.last ≡ last_in t n
    last_is = ap (λ (e : Entry). e.last) q ∙ sym last_read

    pub key_is : (file found : Text) → found ≡ key_on file e → found ≡ key_in file t n
    key_is file found k = k ∙ ap (key_on file) q ∙ sym (key_read file)

-- for the prover's own search
pub ruleset by_number = nat_tests

pub ruleset by_kind = (kind_read, nat_tests)

pub ruleset by_idrec = (is_idrec_tests, nat_tests)
