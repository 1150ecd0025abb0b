-- What the state sums up of the records read so far, and that it tells where a record may stand.
use Rattle.std.specs.Prelude.{if◌then◌else◌}
use Prim.Native.Nat.{ℕ, suc, ◌≤◌, ◌<◌}
use mathlib.Core.Path.{◌≡◌, refl, sym, ap, ap₂, ◌∙◌, subst}
use mathlib.Core.Bool.{true, ◌&&◌, ◌||◌}
use mathlib.Core.List.{List, [], ◌∷◌}
use mathlib.Core.Option.{Option, none, some}
use native.Mathlib.Omega.{arith}
use lib.Dec.{eqb, ltb}
use lib.ListN.{length, get_or, get_or-replicate}
use borrow.Author.Tests.{lt-ltb, le-ltb}
use Rattle.dirf.specs.Bytes.{Text, is_in}
use Rattle.dirf.specs.Kinds.{FIMDirf}
use Rattle.dirf.specs.Edition.{Edition}
use Rattle.dirf.specs.Tree.{Rec, Open, opened, opening, declarant, may_hold, kind_of_first, number_of_first, Place, place_in, place}
use Rattle.dirf.specs.Tree.{parent_of}
use Rattle.dirf.specs.Tree.{in_order, is_placed, may_stand}
use Rattle.dirf.specs.Order.{closed}
use Rattle.dirf.specs.Check.{bytes_of}
use Rattle.dirf.specs.Theorems.Belongs.{deepest}
use Rattle.dirf.specs.Theorems.Sound.{Sound}
use Rattle.dirf.proofs.tree.History.{History, start}
use Rattle.dirf.proofs.tree.Parents.{has_parent}
use Rattle.dirf.proofs.tree.OpenRecords.{open_depth, Placed}
use Rattle.dirf.proofs.tree.Opened.{placed, unheld}
use Rattle.dirf.proofs.tree.LastOfKind.{last_of}
use Rattle.dirf.proofs.tests.Bools.{by_answer}
use Rattle.dirf.proofs.tests.Says.{below_or}
use Rattle.dirf.proofs.tree.Levels.{level_most}
use Rattle.kinds.specs.Kinds.{kinds}
use Rattle.layout.specs.LaidOut.{SayBelow}
use Rattle.checker.specs.State.{start_state, start_past, last_in, above, held_in, held_at, order_at, below_on, stands_on}
use Rattle.checker.specs.State.{last_line, no_last, no_open}
use Rattle.checker.specs.declared.state.Open.{Open as Opened}
use Rattle.checker.specs.declared.state.Path.{Path}
use Rattle.checker.specs.State.{Past}
use Rattle.checker.specs.declared.state.State.{State}

-- place i of the open records is an open record
pub record IsOpen (opened : List Opened) (i : ℕ) (o : Open) : Type 0 where
  pub number : (get_or opened i no_open).line ≡ o.number
  pub kind : (get_or opened i no_open).kind ≡ o.kind

-- the open records, the outermost in place 0
abbrev pub Stack : List Opened → List Open → Type 0
Stack rs [] = Unit {0}
Stack rs (o ∷ outer) = IsOpen rs (length outer) o × Stack rs outer

pub record PathIs (p : Path) (os : List Open) : Type 0 where
  pub size : length p.opened ≡ deepest
  pub depth : p.depth ≡ length os
  pub stack : Stack p.opened os

-- the parent of a record, if there is one
unfoldable pub parent_in : Option Rec → ℕ
parent_in none = 0
parent_in (some r) = r.parent

-- of each kind, the parent of its last record and where that record's line stands
pub record Remembers (text : Text) (p : Past) (before : List Rec) : Type 0 where
  pub size : length p ≡ kinds
  pub under : (k : ℕ) → k < kinds → (last_in p k).under ≡ parent_in (last_of before k)
  pub line : (k : ℕ) → k < kinds → (r : Rec) → last_of before k ≡ some r → last_line text (last_in p k) ≡ r.line

-- for a sound edition, with a table that says from line 4 on what stands below the declarant
pub record Sums (e : Edition) (below : List (List ℕ)) (text : Text) (st : State) (p : Past) (before : List Rec) : Type 0 where
  pub sound : Sound e
  pub say_below : 3 ≤ length before → SayBelow e (declarant before) below
  pub count : st.count ≡ length before
  pub at : st.at ≡ bytes_of before
  pub done : st.done ≡ closed before
  pub declares : st.declarant ≡ declarant before
  pub path : PathIs st.path (opened before)
  pub past : Remembers text p before
  pub history : History e before

pub sums_start : {e : Edition} {below : List (List ℕ)} {text : Text} → Sound e → Sums e below text start_state start_past []
unfolding start_state start_past last_in bytes_of closed declarant opened last_of parent_in
sums_start sound =
    record {
      sound = sound;
      say_below = λ l. absurd (omega arith);
      count = refl;
      at = refl;
      done = refl;
      declares = refl;
      path = record { size = refl; depth = refl; stack = tt };
      past = record { size = refl; under = λ k l. ap (λ x. x.under) (get_or-replicate kinds k no_last no_last l); line = λ k _ r q. cc };
      history = start;
    }

-- the open record just inside place i: none, or the one in place i
abbrev pub Inside : Path → Option Open → ℕ → Type 0
Inside p none i = i ≡ p.depth
Inside p (some o) i = (i < p.depth) × IsOpen p.opened i o

inside_bound : (p : Path) (c : Option Open) (i : ℕ) → Inside p c i → i ≤ p.depth
inside_bound p none i h = omega arith
inside_bound p (some o) i h = omega (arith, h.0)

-- the place of a kind among the open records, as the path has it
pub record Located (p : Path) (q : Place) (d : ℕ) : Type 0 where
  pub deep : d ≡ length q.up
  pub stack : Stack p.opened q.up
  pub inside : Inside p q.last (length q.up)

-- what they stand below is the innermost of them
first_above : (rs : List Opened) (os : List Open) → Stack rs os
    → ((above rs (length os)).line ≡ number_of_first os) × ((above rs (length os)).kind ≡ kind_of_first os)
unfolding above number_of_first kind_of_first
first_above rs [] h = (refl, refl)
first_above rs (o ∷ os) h = (h.0.number, h.0.kind)

module _ (e : Edition) (d : ℕ) (below : List (List ℕ)) (say : SayBelow e d below) (p : Path) (k : ℕ) where
  locate : (c : Option Open) (os : List Open) → Stack p.opened os → Inside p c (length os)
      → Located p (place_in e d c os k) (held_in below d p.opened k (length os))
  unfolding held_in place_in
  locate c [] s i = record { deep = refl; stack = tt; inside = i }
  locate c (o ∷ os) s i =
      let outwards = locate (some o) os s.1 (omega (arith, inside_bound p c (suc (length os)) i), s.0) in
      rw (s.0.kind, (first_above p.opened os s.1).1, say o.kind (kind_of_first os) k)
      (by_answer (may_hold e d o.kind (kind_of_first os) k)
      (λ t. rw t (record { deep = refl; stack = s; inside = i }))
      (λ t. rw t outwards))

module _ {e : Edition} {below : List (List ℕ)} {text : Text} {st : State} {past : Past} {before : List Rec}
    (h : Sums e below text st past before) (k : ℕ) where
  abbrev up : List Open
  up = (place e before k).up

  abbrev p : ℕ
  p = parent_of e before k

  located : 3 ≤ length before → Located st.path (place e before k) (held_at below st k)
  unfolding place held_at opening
  located later =
      let p = st.path in
      let q = place e before k in
      rw (le-ltb st.count 3 (omega (arith, h.count)))
      (subst (λ d. Located p q (held_in below d p.opened k p.depth)) (sym h.declares)
      (subst (λ n. Located p q (held_in below (declarant before) p.opened k n)) (sym h.path.depth)
      (locate e (declarant before) below (h.say_below later) p k none (opened before) h.path.stack (sym h.path.depth))))

  order_same : 3 ≤ length before → order_at st.path k (held_at below st k) ≡ in_order (place e before k).last k
  unfolding order_at in_order
  order_same later = rw (located later).deep (go (place e before k).last (located later).inside)
    where
      go : (c : Option Open) → Inside st.path c (length up) → order_at st.path k (length up) ≡ in_order c k
      go none i = rw (le-ltb (length up) st.path.depth (omega arith))
      go (some o) i = rw (lt-ltb (length up) st.path.depth i.0, i.1.kind)

  -- 12 asks the same of the state as of the records
  pub stands_same : stands_on st k (held_at below st k) ≡ may_stand e before k
  unfolding stands_on may_stand below_on is_placed opening
  stands_same =
      ap (λ n. if ltb n 3 then is_in k (get_or opening n []) else below_on st.path k (held_at below st k)) h.count
      ∙ below_or 3 (length before)
      (λ few. rw (lt-ltb (length before) 3 few))
      (λ later.
      rw (le-ltb (length before) 3 later)
      (ap₂ (λ n o. eqb k FIMDirf || ltb 0 n && o) (located later).deep (order_same later)))

  module _ (stands : may_stand e before k ≡ true) where
    abbrev found : Placed e (declarant before) k before (suc (length before)) (opened before) (place e before k)
    found = placed e h.sound h.history k

    -- a record that may stand has as many open records outside it as the code finds; nothing holds an opening line
    pub held_same : (held_at below st k ≡ length up) × Stack st.path.opened up
    unfolding held_at opening
    held_same =
        below_or 3 (length before)
        (λ few.
        let flat = unheld e h.sound h.history k (λ deep. omega (arith, (has_parent e before k deep stands).0)) in
        rw (flat, lt-ltb st.count 3 (omega (arith, h.count))) (refl, tt))
        (λ later. let l = located later in (l.deep, l.stack))

    pub held_few : held_at below st k ≤ deepest
    held_few = omega (arith, held_same.0, open_depth found.known, level_most k)

    pub parent_same : (above st.path.opened (held_at below st k)).line ≡ p
    unfolding parent_of
    parent_same = rw held_same.0 (first_above _ up held_same.1).0
