-- The 73 kinds of record: their numbers, their identifiers, and what each is.
use Rattle.std.specs.Prelude.{ℕ, Bool, ◌||◌, List, [], ◌∷◌}
use Rattle.dirf.specs.Bytes.{Text, bytes, is_in}

-- 01, "Lines and limits": "Kind numbers are fixed in docs/, from 1, in the order in which 004's list 2.2 first names them, those left
-- for later counted too, DECPF standing before DECPJ."
abbrev pub Dirf : ℕ
Dirf = 1

abbrev pub RESPO : ℕ
RESPO = 2

abbrev pub DECPF : ℕ
DECPF = 3

abbrev pub DECPJ : ℕ
DECPJ = 4

abbrev pub IDREC : ℕ
IDREC = 5

abbrev pub BPFDEC : ℕ
BPFDEC = 6

abbrev pub RTRT : ℕ
RTRT = 7

abbrev pub RTPO : ℕ
RTPO = 8

abbrev pub RTDP : ℕ
RTDP = 9

abbrev pub RTDS : ℕ
RTDS = 10

abbrev pub RTIRF : ℕ
RTIRF = 11

abbrev pub CJAC : ℕ
CJAC = 12

abbrev pub CJAA : ℕ
CJAA = 13

abbrev pub ESRT : ℕ
ESRT = 14

abbrev pub ESPO : ℕ
ESPO = 15

abbrev pub ESDP : ℕ
ESDP = 16

abbrev pub ESDS : ℕ
ESDS = 17

abbrev pub ESIR : ℕ
ESIR = 18

abbrev pub ESDJ : ℕ
ESDJ = 19

abbrev pub INFPC : ℕ
INFPC = 20

abbrev pub RTPP : ℕ
RTPP = 21

abbrev pub RTFA : ℕ
RTFA = 22

abbrev pub RTSP : ℕ
RTSP = 23

abbrev pub RTEP : ℕ
RTEP = 24

abbrev pub ESPP : ℕ
ESPP = 25

abbrev pub ESFA : ℕ
ESFA = 26

abbrev pub ESSP : ℕ
ESSP = 27

abbrev pub ESEP : ℕ
ESEP = 28

abbrev pub INFPA : ℕ
INFPA = 29

abbrev pub RTPA : ℕ
RTPA = 30

abbrev pub ESPA : ℕ
ESPA = 31

abbrev pub RIDAC : ℕ
RIDAC = 32

abbrev pub RIIRP : ℕ
RIIRP = 33

abbrev pub RIAP : ℕ
RIAP = 34

abbrev pub RIMOG : ℕ
RIMOG = 35

abbrev pub RIP65 : ℕ
RIP65 = 36

abbrev pub RIBMR : ℕ
RIBMR = 37

abbrev pub RICAP : ℕ
RICAP = 38

abbrev pub RIRPC : ℕ
RIRPC = 39

abbrev pub RIL96 : ℕ
RIL96 = 40

abbrev pub RIPTS : ℕ
RIPTS = 41

abbrev pub RIJMRE : ℕ
RIJMRE = 42

abbrev pub RIO : ℕ
RIO = 43

abbrev pub BPJDEC : ℕ
BPJDEC = 44

abbrev pub VPEIM : ℕ
VPEIM = 45

abbrev pub RIMUN : ℕ
RIMUN = 46

abbrev pub RISEN : ℕ
RISEN = 47

abbrev pub FCI : ℕ
FCI = 48

abbrev pub BPFFCI : ℕ
BPFFCI = 49

abbrev pub BPJFCI : ℕ
BPJFCI = 50

abbrev pub PROC : ℕ
PROC = 51

abbrev pub BPFPROC : ℕ
BPFPROC = 52

abbrev pub RIRSR : ℕ
RIRSR = 53

abbrev pub BPJPROC : ℕ
BPJPROC = 54

abbrev pub RRA : ℕ
RRA = 55

abbrev pub BPFRRA : ℕ
BPFRRA = 56

abbrev pub DAJUD : ℕ
DAJUD = 57

abbrev pub QTMESES : ℕ
QTMESES = 58

abbrev pub SCP : ℕ
SCP = 59

abbrev pub BPFSCP : ℕ
BPFSCP = 60

abbrev pub RISCP : ℕ
RISCP = 61

abbrev pub BPJSCP : ℕ
BPJSCP = 62

abbrev pub PSE : ℕ
PSE = 63

abbrev pub OPSE : ℕ
OPSE = 64

abbrev pub TPSE : ℕ
TPSE = 65

abbrev pub RTPSE : ℕ
RTPSE = 66

abbrev pub DTPSE : ℕ
DTPSE = 67

abbrev pub RDTPSE : ℕ
RDTPSE = 68

abbrev pub RPDE : ℕ
RPDE = 69

abbrev pub BRPDE : ℕ
BRPDE = 70

abbrev pub VRPDE : ℕ
VRPDE = 71

abbrev pub INF : ℕ
INF = 72

abbrev pub FIMDirf : ℕ
FIMDirf = 73

-- 01, "What the checker covers": "Document 000 decides the spelling of identifiers." They stand in the order of their numbers, in three
-- parts: where the parts meet, the edition of 2025 has RTDS and ESDS.
abbrev pub up_to_RTDP : List (ℕ × Text) → List (ℕ × Text)
up_to_RTDP after =
    (Dirf, bytes "Dirf") ∷
    (RESPO, bytes "RESPO") ∷
    (DECPF, bytes "DECPF") ∷
    (DECPJ, bytes "DECPJ") ∷
    (IDREC, bytes "IDREC") ∷
    (BPFDEC, bytes "BPFDEC") ∷
    (RTRT, bytes "RTRT") ∷
    (RTPO, bytes "RTPO") ∷
    (RTDP, bytes "RTDP") ∷
    after

abbrev pub up_to_ESDP : List (ℕ × Text) → List (ℕ × Text)
up_to_ESDP after =
    (RTIRF, bytes "RTIRF") ∷
    (CJAC, bytes "CJAC") ∷
    (CJAA, bytes "CJAA") ∷
    (ESRT, bytes "ESRT") ∷
    (ESPO, bytes "ESPO") ∷
    (ESDP, bytes "ESDP") ∷
    after

abbrev pub from_ESIR : List (ℕ × Text)
from_ESIR =
    (ESIR, bytes "ESIR") ∷
    (ESDJ, bytes "ESDJ") ∷
    (INFPC, bytes "INFPC") ∷
    (RTPP, bytes "RTPP") ∷
    (RTFA, bytes "RTFA") ∷
    (RTSP, bytes "RTSP") ∷
    (RTEP, bytes "RTEP") ∷
    (ESPP, bytes "ESPP") ∷
    (ESFA, bytes "ESFA") ∷
    (ESSP, bytes "ESSP") ∷
    (ESEP, bytes "ESEP") ∷
    (INFPA, bytes "INFPA") ∷
    (RTPA, bytes "RTPA") ∷
    (ESPA, bytes "ESPA") ∷
    (RIDAC, bytes "RIDAC") ∷
    (RIIRP, bytes "RIIRP") ∷
    (RIAP, bytes "RIAP") ∷
    (RIMOG, bytes "RIMOG") ∷
    (RIP65, bytes "RIP65") ∷
    (RIBMR, bytes "RIBMR") ∷
    (RICAP, bytes "RICAP") ∷
    (RIRPC, bytes "RIRPC") ∷
    (RIL96, bytes "RIL96") ∷
    (RIPTS, bytes "RIPTS") ∷
    (RIJMRE, bytes "RIJMRE") ∷
    (RIO, bytes "RIO") ∷
    (BPJDEC, bytes "BPJDEC") ∷
    (VPEIM, bytes "VPEIM") ∷
    (RIMUN, bytes "RIMUN") ∷
    (RISEN, bytes "RISEN") ∷
    (FCI, bytes "FCI") ∷
    (BPFFCI, bytes "BPFFCI") ∷
    (BPJFCI, bytes "BPJFCI") ∷
    (PROC, bytes "PROC") ∷
    (BPFPROC, bytes "BPFPROC") ∷
    (RIRSR, bytes "RIRSR") ∷
    (BPJPROC, bytes "BPJPROC") ∷
    (RRA, bytes "RRA") ∷
    (BPFRRA, bytes "BPFRRA") ∷
    (DAJUD, bytes "DAJUD") ∷
    (QTMESES, bytes "QTMESES") ∷
    (SCP, bytes "SCP") ∷
    (BPFSCP, bytes "BPFSCP") ∷
    (RISCP, bytes "RISCP") ∷
    (BPJSCP, bytes "BPJSCP") ∷
    (PSE, bytes "PSE") ∷
    (OPSE, bytes "OPSE") ∷
    (TPSE, bytes "TPSE") ∷
    (RTPSE, bytes "RTPSE") ∷
    (DTPSE, bytes "DTPSE") ∷
    (RDTPSE, bytes "RDTPSE") ∷
    (RPDE, bytes "RPDE") ∷
    (BRPDE, bytes "BRPDE") ∷
    (VRPDE, bytes "VRPDE") ∷
    (INF, bytes "INF") ∷
    (FIMDirf, bytes "FIMDirf") ∷
    []

-- 004, lists 2.1 and 2.2
abbrev pub names2025 : List (ℕ × Text)
names2025 = up_to_RTDP ((RTDS, bytes "RTDS") ∷ up_to_ESDP ((ESDS, bytes "ESDS") ∷ from_ESIR))

-- 000, lists 2.1 and 2.2. 02, A4: "no RTDS or ESDS"; all other kinds keep their numbers
abbrev pub names2022 : List (ℕ × Text)
names2022 = up_to_RTDP (up_to_ESDP from_ESIR)

-- 01, "What the checker covers": "Left for later: .. and all records that stand only below these." 02, A3: "10 remains for VPEIM, RPDE
-- and INF."
unfoldable pub later : List ℕ
later = VPEIM ∷ RIMUN ∷ RISEN ∷ RPDE ∷ BRPDE ∷ VRPDE ∷ INF ∷ []

-- 01, "The tree": "one of DECPF or DECPJ"
abbrev pub declarants : List ℕ
declarants = DECPF ∷ DECPJ ∷ []

-- 01, "Lines and limits": "The parent of Dirf, RESPO, the declarant and FIMDirf is 0."
abbrev pub alone : List ℕ
alone = Dirf ∷ RESPO ∷ DECPF ∷ DECPJ ∷ FIMDirf ∷ []

-- 01, "The tree": "FCI, PROC, RRA, SCP", the blocks that open below the declarant beside IDREC; 02, A3: "and the PSE block after SCP"
unfoldable pub blocks : List ℕ
blocks = FCI ∷ PROC ∷ RRA ∷ SCP ∷ PSE ∷ []

-- 01, "The tree": "IDREC belongs to the open FCI, PROC or RRA"; "Below SCP: BPFSCP then BPJSCP, no IDREC"
abbrev pub with_IDREC : List ℕ
with_IDREC = FCI ∷ PROC ∷ RRA ∷ []

abbrev pub below_SCP : List ℕ
below_SCP = BPFSCP ∷ BPJSCP ∷ []

-- 01, "The tree": "Below IDREC: BPFDEC then BPJDEC; .. Below SCP: BPFSCP then BPJSCP"
unfoldable pub beneficiaries : List ℕ
beneficiaries = BPFDEC ∷ BPJDEC ∷ BPFFCI ∷ BPJFCI ∷ BPFPROC ∷ BPJPROC ∷ BPFRRA ∷ BPFSCP ∷ BPJSCP ∷ []

-- 02, A6: "at the first company"
unfoldable pub companies : List ℕ
companies = BPJDEC ∷ BPJFCI ∷ BPJPROC ∷ BPJSCP ∷ []

-- 02, A3: "INFPC and INFPA below the beneficiaries", private pension and alimony, "with their value records"
unfoldable pub pensions : List ℕ
pensions = INFPC ∷ INFPA ∷ []

-- 01, "What the checker covers": "the value records that the structure lists put directly under a beneficiary"; 02, A3: those of INFPC
-- and INFPA
unfoldable pub values : List ℕ
values =
    RTRT ∷ RTPO ∷ RTDP ∷ RTDS ∷ RTIRF ∷ CJAC ∷ CJAA ∷ ESRT ∷ ESPO ∷ ESDP ∷ ESDS ∷ ESIR ∷ ESDJ ∷
    RTPP ∷ RTFA ∷ RTSP ∷ RTEP ∷ ESPP ∷ ESFA ∷ ESSP ∷ ESEP ∷ RTPA ∷ ESPA ∷
    RIDAC ∷ RIIRP ∷ RIAP ∷ RIMOG ∷ RIP65 ∷ RIBMR ∷ RICAP ∷ RIRPC ∷ RIL96 ∷ RIPTS ∷ RIJMRE ∷ RIO ∷
    RIRSR ∷ DAJUD ∷ QTMESES ∷ RISCP ∷
    []

-- 02, A3: "PSE, OPSE, TPSE, its RTPSE, then DTPSE, and RDTPSE below DTPSE": the operators, holders and dependants of a health plan, and
-- the reimbursements, which are value records with a key
unfoldable pub plan : List ℕ
plan = OPSE ∷ TPSE ∷ DTPSE ∷ []

unfoldable pub reimbursements : List ℕ
reimbursements = RTPSE ∷ RDTPSE ∷ []

unfoldable pub is_later : ℕ → Bool
is_later k = is_in k later

unfoldable pub is_block : ℕ → Bool
is_block k = is_in k blocks

unfoldable pub is_beneficiary : ℕ → Bool
is_beneficiary k = is_in k beneficiaries

-- 02, A3: "A value record with no key stands at most once under its own parent."
unfoldable pub stands_once : ℕ → Bool
stands_once k = is_in k values

-- a value record, with a key or without
abbrev pub is_value : ℕ → Bool
is_value k = is_in k values || is_in k reimbursements

-- Does nothing ever stand below a record of this kind? Below a value record, with a key or without.
unfoldable pub opens_nothing : ℕ → Bool
opens_nothing k = is_in k values || is_in k reimbursements

-- to compute with this file: `unfolding kinds_opens`
unfoldable pub kinds_opens : Unit {0}
unfolding later blocks beneficiaries companies pensions values plan reimbursements is_later is_block is_beneficiary stands_once
    opens_nothing
kinds_opens = tt
