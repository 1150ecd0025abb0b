-- The tree: which record may stand where, and whose it is.
use Rattle.std.specs.Prelude.{ℕ, suc, Bool, true, ◌&&◌, ◌||◌, not, List, [], ◌∷◌, eqb, ltb, leb, length, get_or, if◌then◌else◌}
use Rattle.std.proofs.Math.Option.{Option, none, some}
use Rattle.dirf.specs.Bytes.{Text, is_in, lookup}
use Rattle.dirf.specs.Kinds.{Dirf, RESPO, declarants, IDREC, FCI, PROC, RRA, BPFDEC, BPJDEC, BPFFCI, BPJFCI, BPFPROC}
use Rattle.dirf.specs.Kinds.{BPJPROC, BPFRRA, INFPA, ESPA, PSE, FIMDirf, pensions, opens_nothing}
use Rattle.dirf.specs.Edition.{Edition}

-- A record that was read: its kind, its line without the line end, its parent's line number (0: none). The records read so far are
-- a list, the last one first; so the number of a record's line is one more than how many stand behind it there.
pub record Rec : Type 0 where
  pub kind : ℕ
  pub line : Text
  pub parent : ℕ

-- A record that is open: what comes next may stand below it. Its line number and its kind.
pub record Open : Type 0 where
  pub number : ℕ
  pub kind : ℕ

-- the open records from the one of line n outwards
unfoldable pub from : ℕ → List Open → List Open
from n [] = []
from n (o ∷ os) = if eqb n o.number then o ∷ os else from n os

-- The open records, innermost first. Every record closes what was open below its parent, and then is open itself, unless nothing ever
-- stands below its kind.
unfoldable pub opened : List Rec → List Open
opened [] = []
opened (r ∷ rs) =
    let outer = from r.parent (opened rs) in
    if opens_nothing r.kind then outer else record { number = suc (length rs); kind = r.kind } ∷ outer

-- 01, "The tree": "Lines 1, 2, 3 are Dirf, RESPO and one of DECPF or DECPJ."
unfoldable pub opening : List (List ℕ)
opening = (Dirf ∷ []) ∷ (RESPO ∷ []) ∷ declarants ∷ []

-- the kind of the declarant: the last of the opening lines
unfoldable pub declarant : List Rec → ℕ
declarant [] = 0
declarant (r ∷ rs) = if eqb (suc (length rs)) (length opening) then r.kind else declarant rs

-- 01, "The tree": "in FCI, BPFFCI then BPJFCI; in PROC, BPFPROC then BPJPROC; in RRA, only BPFRRA", else BPFDEC then BPJDEC. So
-- what an IDREC must belong to for a beneficiary to stand below it (d: the declarant's kind)
unfoldable pub block_of : ℕ → ℕ → ℕ
block_of d k =
    lookup 0
    ((BPFDEC, d) ∷ (BPJDEC, d) ∷ (BPFFCI, FCI) ∷ (BPJFCI, FCI) ∷ (BPFPROC, PROC) ∷ (BPJPROC, PROC) ∷ (BPFRRA, RRA) ∷ [])
    k

-- Where the table of yes and no cannot say it: does a record of kind h, which belongs to one of kind u, suit one of kind k below it? An
-- IDREC has to be of the beneficiary's own block. 004 and 000, list 2.2: below the INFPA of a BPFRRA there is no ESPA.
unfoldable pub suits : ℕ → ℕ → ℕ → ℕ → Bool
suits d h u k = (if eqb h IDREC then eqb (block_of d k) u else true) && (if eqb h INFPA && eqb k ESPA then eqb u BPFDEC else true)

-- May a record of kind k stand directly below one of kind h, which itself belongs to one of kind u? (d: the declarant's kind)
unfoldable pub may_hold : Edition → ℕ → ℕ → ℕ → ℕ → Bool
may_hold e d h u k = is_in k (lookup [] (e.below d) h) && suits d h u k

unfoldable pub kind_of_first : List Open → ℕ
kind_of_first [] = 0
kind_of_first (o ∷ os) = o.kind

unfoldable pub number_of_first : List Open → ℕ
number_of_first [] = 0
number_of_first (o ∷ os) = o.number

-- Where a record goes: below the first of the open records `up`; `last` is the record that opened last there, if one is open.
pub record Place : Type 0 where
  pub up : List Open
  pub last : Option Open

-- 01, "The tree": "IDREC belongs to the open FCI, PROC or RRA, else to the declarant", and so for every kind: the innermost open
-- record that may hold it
unfoldable pub place_in : Edition → ℕ → Option Open → List Open → ℕ → Place
place_in e d c [] k = record { up = []; last = c }
place_in e d c (o ∷ os) k =
    if may_hold e d o.kind (kind_of_first os) k then record { up = o ∷ os; last = c } else place_in e d (some o) os k

unfoldable pub place : Edition → List Rec → ℕ → Place
place e before k = place_in e (declarant before) none (opened before) k

-- 01, "Lines and limits": "The parent of Dirf, RESPO, the declarant and FIMDirf is 0": nothing may hold them.
unfoldable pub parent_of : Edition → List Rec → ℕ → ℕ
parent_of e before k = number_of_first (place e before k).up

-- 01, "The tree": "Blocks .. in this order", "BPFDEC then BPJDEC"; 02, A3: "RTPSE, then DTPSE". The order of kind numbers is the order
-- of siblings: so a record may not have a lower number than the one that opened last under the same parent, and after a PSE, which
-- "stands at most once", nothing more stands there. Below a beneficiary there is no order ("in any order"): only an INFPC or INFPA opens
-- there. `Sound` asks an edition that its lists are in the order of kind numbers wherever there is an order.
unfoldable pub may_follow : ℕ → ℕ → Bool
may_follow last k = is_in last pensions || not (eqb last PSE) && leb last k

unfoldable pub in_order : Option Open → ℕ → Bool
in_order none k = true
in_order (some o) k = may_follow o.kind k

unfoldable pub is_placed : Place → ℕ → Bool
is_placed p k = ltb 0 (length p.up) && in_order p.last k

-- 01, "The tree": "Then blocks, then FIMDirf, then nothing. .. FIMDirf may stand anywhere after line 3."
unfoldable pub may_stand : Edition → List Rec → ℕ → Bool
may_stand e before k =
    if ltb (length before) (length opening) then is_in k (get_or opening (length before) [])
    else eqb k FIMDirf || is_placed (place e before k) k

-- to compute with this file: `unfolding tree_opens`
unfoldable pub tree_opens : Unit {0}
unfolding from opened opening declarant block_of suits may_hold kind_of_first number_of_first place_in place parent_of may_follow
    in_order is_placed
    may_stand
tree_opens = tt
