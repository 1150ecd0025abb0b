-- What belongs to what, by kinds alone: what a record belongs to, what stands in its group, and how deep. These are the words in which
-- `Whose` speaks; `Sound` asks of an edition that its lists keep to them.
use Rattle.std.specs.Prelude.{ℕ, ◌||◌, List, [], ◌∷◌, ◌++◌, eqb, if◌then◌else◌}
use Rattle.dirf.specs.Bytes.{is_in}
use Rattle.dirf.specs.Kinds.{IDREC, BPFDEC, INFPC, RTPP, RTFA, RTSP, RTEP, ESPP, ESFA, ESSP, ESEP, INFPA, RTPA, ESPA}
use Rattle.dirf.specs.Kinds.{BPFPROC, BPFRRA, SCP, PSE, OPSE, TPSE, RTPSE, DTPSE, RDTPSE, declarants, blocks, with_IDREC, below_SCP}
use Rattle.dirf.specs.Kinds.{beneficiaries, pensions, values, is_block, is_beneficiary, opens_nothing}
use Rattle.dirf.specs.Edition.{rows_in}

-- records, and the kinds of the one that each of them belongs to
abbrev pub parents : List (List ℕ × List ℕ)
parents =
    -- 01, "The tree": "Blocks under DECPF .. Under DECPJ"
    (blocks, declarants) ∷
    -- "IDREC belongs to the open FCI, PROC or RRA, else to the declarant"
    (IDREC ∷ [], declarants ++ with_IDREC) ∷
    -- "Below SCP: BPFSCP then BPJSCP, no IDREC", and every other beneficiary below an IDREC
    (below_SCP, SCP ∷ []) ∷
    (beneficiaries, IDREC ∷ []) ∷
    -- 02, A3: "INFPC and INFPA below the beneficiaries where 004's lists put them, with their value records"
    (INFPC ∷ [], BPFDEC ∷ []) ∷
    (INFPA ∷ [], BPFDEC ∷ BPFRRA ∷ []) ∷
    (RTPP ∷ RTFA ∷ RTSP ∷ ESPP ∷ ESFA ∷ ESSP ∷ [], INFPC ∷ BPFPROC ∷ []) ∷
    (RTEP ∷ ESEP ∷ [], INFPC ∷ []) ∷
    (RTPA ∷ ESPA ∷ [], INFPA ∷ BPFPROC ∷ []) ∷
    -- "Below a beneficiary: the value records", every other one
    (values, beneficiaries) ∷
    -- 02, A3: "PSE, OPSE, TPSE, its RTPSE, then DTPSE, and RDTPSE below DTPSE"
    (OPSE ∷ [], PSE ∷ []) ∷
    (TPSE ∷ [], OPSE ∷ []) ∷
    (RTPSE ∷ DTPSE ∷ [], TPSE ∷ []) ∷
    (RDTPSE ∷ [], DTPSE ∷ []) ∷
    []

unfoldable pub parents_of : ℕ → List ℕ
parents_of k = rows_in parents k

-- The group of a record is what stands below it at any depth. A person's: private pension, alimony and value records.
abbrev pub of_a_person : List ℕ
of_a_person = pensions ++ values

abbrev pub persons : List ℕ
persons = beneficiaries ++ of_a_person

abbrev pub of_a_plan : List ℕ
of_a_plan = OPSE ∷ TPSE ∷ RTPSE ∷ DTPSE ∷ RDTPSE ∷ []

abbrev pub groups : List (List ℕ × List ℕ)
groups =
    (declarants, IDREC ∷ blocks ++ persons ++ of_a_plan) ∷
    (with_IDREC, IDREC ∷ persons) ∷
    (IDREC ∷ SCP ∷ [], persons) ∷
    (BPFDEC ∷ BPFRRA ∷ [], of_a_person) ∷
    (beneficiaries ++ pensions, values) ∷
    (PSE ∷ [], of_a_plan) ∷
    (OPSE ∷ [], TPSE ∷ RTPSE ∷ DTPSE ∷ RDTPSE ∷ []) ∷
    (TPSE ∷ [], RTPSE ∷ DTPSE ∷ RDTPSE ∷ []) ∷
    (DTPSE ∷ [], RDTPSE ∷ []) ∷
    []

unfoldable pub group_of : ℕ → List ℕ
group_of k = rows_in groups k

-- 02, A3: "The path of open records grows deeper by one." At most so many are open: the declarant, a block, an IDREC, a beneficiary, an
-- INFPC or INFPA; or the declarant, PSE, OPSE, TPSE and DTPSE
abbrev pub deepest : ℕ
deepest = 5

-- how deep a kind stands: the declarant 0; blocks 1; IDREC and OPSE 2; beneficiaries and TPSE 3; INFPC, INFPA and DTPSE 4; value records
-- and reimbursements deepest
unfoldable pub level : ℕ → ℕ
level k =
    if opens_nothing k then deepest
    else (if is_in k (INFPC ∷ INFPA ∷ DTPSE ∷ []) then 4
    else (if is_beneficiary k || eqb k TPSE then 3
    else (if is_in k (IDREC ∷ OPSE ∷ []) then 2
    else (if is_block k then 1
    else 0))))

-- to compute with this file: `unfolding belongs_opens`
unfoldable pub belongs_opens : Unit {0}
unfolding parents_of group_of level
belongs_opens = tt
