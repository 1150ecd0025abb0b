-- The state after a record that was taken sums up the records with that one.
use Rattle.std.specs.Prelude.{if◌then◌else◌}
use Prim.Native.Nat.{ℕ, suc, ◌≤◌, ◌<◌}
use mathlib.Core.Path.{◌≡◌, refl, sym, ap, ◌∙◌}
use mathlib.Core.Bool.{true, false}
use mathlib.Core.List.{List, [], ◌∷◌}
use mathlib.Core.Option.{some}
use native.Mathlib.Omega.{arith}
use native.Mathlib.Numerals.{add-one}
use lib.Dec.{eqb, eqb-suc-suc}
use lib.ListN.{length, get_or, set, length-set}
use lib.Seq.{get_or-set_same, get_or-set_other}
use borrow.Author.Tests.{eqb-true, eqb-false}
use Rattle.dirf.specs.Bytes.{Text}
use Rattle.dirf.specs.Kinds.{opens_nothing}
use Rattle.dirf.specs.Edition.{Edition}
use Rattle.dirf.specs.Tree.{Rec, Open, opened, opening, declarant, place, parent_of}
use Rattle.dirf.specs.Tree.{may_stand}
use Rattle.dirf.specs.Order.{closed}
use Rattle.dirf.specs.Check.{bytes_of}
use Rattle.dirf.specs.Theorems.Belongs.{deepest}
use Rattle.dirf.proofs.tree.History.{next}
use Rattle.dirf.proofs.tree.OpenRecords.{open_depth, Placed}
use Rattle.dirf.proofs.tree.Opened.{placed}
use Rattle.dirf.proofs.tree.LastOfKind.{last_of}
use Rattle.dirf.proofs.tests.Bools.{by_answer}
use Rattle.dirf.proofs.tree.Levels.{opens_level}
use Rattle.fields.specs.Places.{part_of}
use Rattle.kinds.specs.Kinds.{kinds}
use Rattle.layout.specs.LaidOut.{SayBelow}
use Rattle.checker.specs.State.{last_in, above, held_at, last_line}
use Rattle.checker.specs.State.{declarant_of, path_after, past_after, state_after}
use Rattle.checker.specs.declared.state.Open.{Open as Opened}
use Rattle.checker.specs.declared.state.Path.{Path}
use Rattle.checker.specs.State.{Past, no_last, no_open}
use Rattle.checker.specs.declared.state.Last.{Last}
use Rattle.checker.specs.declared.state.State.{State}
use Rattle.checker.proofs.state.Sums.{Stack, PathIs, parent_in, Remembers, Sums, held_same, parent_same}

-- open records further out than d stay where they are
stack_on : (rs : List Opened) (d : ℕ) (r : Opened) (os : List Open) → length os ≤ d → Stack rs os → Stack (set rs d r) os
stack_on rs d r [] fits s = tt
stack_on rs d r (o ∷ outer) fits s =
    let same = get_or-set_other rs d (length outer) r no_open (λ q. omega arith) in
    (record { number = rw same s.0.number; kind = rw same s.0.kind }, stack_on rs d r outer (omega arith) s.1)

-- the path after a record, with the open records `up` outside it
path_next : (p : Path) (os up : List Open) → PathIs p os → Stack p.opened up → (k n : ℕ)
    → (opens_nothing k ≡ false → length up < deepest)
    → PathIs (path_after p k (length up) n) (if opens_nothing k then up else (record { number = n; kind = k } ∷ up))
unfolding path_after
path_next p os up is stack k n deep =
    by_answer (opens_nothing k)
    (λ t. rw t (record { size = is.size; depth = refl; stack = stack }))
    (λ t.
    let d : ℕ = length up in
    let l : d < deepest = deep t in
    let r : Opened = record { line = n; kind = k } in
    let here = get_or-set_same p.opened d r no_open (omega (arith, is.size)) in
    rw t
    (record {
      size = length-set p.opened d r ∙ is.size;
      depth = add-one d;
      stack = (record { number = ap (λ o. o.line) here; kind = ap (λ o. o.kind) here }, stack_on p.opened d r up (omega arith) stack);
    }))

-- what is remembered after a record whose line stands in the text
past_next : (text : Text) (p : Past) (before : List Rec) → Remembers text p before → (r : Rec) (at len : ℕ) → r.kind < kinds
    → part_of text at len ≡ r.line → Remembers text (past_after p r.kind r.parent at len) (r ∷ before)
unfolding past_after last_in last_line last_of parent_in
past_next text p before m r at len small there =
    record {
      size = length-set p r.kind last ∙ m.size;
      under = λ k s. rw (set_at k) (by_answer (eqb r.kind k) (λ t. rw t) (λ t. rw t (m.under k s)));
      line = λ k s x.
          rw (set_at k) (by_answer (eqb r.kind k) (λ t. rw t (λ q. there ∙ same q)) (λ t. rw t (m.line k s x)));
    }
  where
    last : Last
    last = record { under = r.parent; start = at; len = len }

    same : {x : Rec} → some r ≡ some x → r.line ≡ x.line
    same q = cc

    set_at : (k : ℕ) → get_or (set p r.kind last) k no_last ≡ (if eqb r.kind k then last else get_or p k no_last)
    set_at k =
        by_answer (eqb r.kind k)
        (λ t. rw (t, ← eqb-true r.kind k t) (get_or-set_same p r.kind last no_last (omega (arith, m.size))))
        (λ t. rw t (get_or-set_other p r.kind k last no_last (λ q. eqb-false r.kind k t (sym q))))

module _ {e : Edition} {below : List (List ℕ)} {text : Text} {st : State} {past : Past} {before : List Rec}
    (h : Sums e below text st past before) (k : ℕ) (stands : may_stand e before k ≡ true) where
  abbrev p : ℕ
  p = parent_of e before k

  -- the state after a record that was taken sums up the records with that one
  pub sums_next : (line : Text) → part_of text st.at (length line) ≡ line → k < kinds
      → let r : Rec = record { kind = k; line = line; parent = p } in
      (3 ≤ length (r ∷ before) → SayBelow e (declarant (r ∷ before)) below)
      → Sums e below text (state_after st k (held_at below st k) (length line))
      (past_after past k (above st.path.opened (held_at below st k)).line st.at (length line)) (r ∷ before)
  unfolding state_after closed bytes_of opened parent_of declarant_of declarant opening
  sums_next line there small say =
      let q : Placed e (declarant before) k before (suc (length before)) (opened before) (place e before k) =
      placed e h.sound h.history k in
      let held = held_same h k stands in
      record {
        sound = h.sound;
        say_below = say;
        count = rw h.count (add-one (length before));
        at = rw h.at;
        done = refl;
        declares = rw (h.count, h.declares, eqb-suc-suc (length before) 2);
        path = rw (held.0, q.found, h.count, add-one (length before))
            (path_next st.path (opened before) (place e before k).up h.path held.1 k (suc (length before))
            (λ t. omega (arith, open_depth q.known, opens_level k t)));
        past = rw (parent_same h k stands)
            (past_next text past before h.past (record { kind = k; line = line; parent = p }) st.at (length line) small there);
        history = next stands refl h.history;
      }
