-- Which record may stand directly below which: the structure lists 2.1 (DECPF) and 2.2 (DECPJ) of 004, and of 000 for the older
-- edition, records of the base only. 000's indents show what stands under INFPC and INFPA, its prose what stands where below PSE.
use Rattle.std.specs.Prelude.{ℕ, List, [], ◌∷◌, eqb, if◌then◌else◌}
use Rattle.dirf.specs.Kinds.{DECPF, DECPJ, IDREC, BPFDEC, RTRT, RTPO, RTDP, RTDS, RTIRF, CJAC, CJAA, ESRT, ESPO, ESDP, ESDS}
use Rattle.dirf.specs.Kinds.{ESIR, ESDJ, INFPC, RTPP, RTFA, RTSP, RTEP, ESPP, ESFA, ESSP, ESEP, INFPA, RTPA, ESPA, RIDAC, RIIRP}
use Rattle.dirf.specs.Kinds.{RIAP, RIMOG, RIP65, RIBMR, RICAP, RIRPC, RIL96, RIPTS, RIJMRE, RIO, BPJDEC, FCI, BPFFCI, BPJFCI}
use Rattle.dirf.specs.Kinds.{PROC, BPFPROC, RIRSR, BPJPROC, RRA, BPFRRA, DAJUD, QTMESES, SCP, BPFSCP, RISCP, BPJSCP, PSE, OPSE}
use Rattle.dirf.specs.Kinds.{TPSE, RTPSE, DTPSE, RDTPSE}

-- a parent, and the records that may stand directly below it
abbrev pub Children : Type 0
Children = List (ℕ × List ℕ)

-- list 2.1, the same in both editions but for what stands below a BPFDEC
abbrev pub list_of_DECPF : List ℕ → Children
list_of_DECPF below_BPFDEC =
    (DECPF, IDREC ∷ RRA ∷ SCP ∷ PSE ∷ []) ∷
    (IDREC, BPFDEC ∷ BPJDEC ∷ BPFRRA ∷ []) ∷
    (BPFDEC, below_BPFDEC) ∷
    (INFPC, RTPP ∷ RTFA ∷ ESPP ∷ ESFA ∷ []) ∷
    (INFPA, RTPA ∷ ESPA ∷ []) ∷
    (BPJDEC, RTRT ∷ RTIRF ∷ []) ∷
    (RRA, IDREC ∷ []) ∷
    (BPFRRA, RTRT ∷ RTPO ∷ RTIRF ∷ DAJUD ∷ QTMESES ∷ RIJMRE ∷ INFPA ∷ []) ∷
    (SCP, BPFSCP ∷ BPJSCP ∷ []) ∷
    (BPFSCP, RISCP ∷ []) ∷
    (BPJSCP, RISCP ∷ []) ∷
    (PSE, OPSE ∷ []) ∷
    (OPSE, TPSE ∷ []) ∷
    (TPSE, RTPSE ∷ DTPSE ∷ []) ∷
    (DTPSE, RDTPSE ∷ []) ∷
    []

-- list 2.2, the same in both editions but for what stands below a BPFDEC and a BPFPROC
abbrev pub list_of_DECPJ : List ℕ → List ℕ → Children
list_of_DECPJ below_BPFDEC below_BPFPROC =
    (DECPJ, IDREC ∷ FCI ∷ PROC ∷ RRA ∷ SCP ∷ PSE ∷ []) ∷
    (IDREC, BPFDEC ∷ BPJDEC ∷ BPFFCI ∷ BPJFCI ∷ BPFPROC ∷ BPJPROC ∷ BPFRRA ∷ []) ∷
    (BPFDEC, below_BPFDEC) ∷
    (INFPC, RTPP ∷ RTFA ∷ RTSP ∷ RTEP ∷ ESPP ∷ ESFA ∷ ESSP ∷ ESEP ∷ []) ∷
    (INFPA, RTPA ∷ ESPA ∷ []) ∷
    (BPJDEC, RTRT ∷ RTIRF ∷ []) ∷
    (FCI, IDREC ∷ []) ∷
    (BPFFCI, RTRT ∷ RTIRF ∷ CJAC ∷ CJAA ∷ ESRT ∷ ESIR ∷ ESDJ ∷ RIP65 ∷ RIMOG ∷ RICAP ∷ RIO ∷ []) ∷
    (BPJFCI, RTRT ∷ RTIRF ∷ []) ∷
    (PROC, IDREC ∷ []) ∷
    (BPFPROC, below_BPFPROC) ∷
    (BPJPROC, RTRT ∷ RTIRF ∷ RIRSR ∷ []) ∷
    (RRA, IDREC ∷ []) ∷
    (BPFRRA, RTRT ∷ RTPO ∷ INFPA ∷ RTIRF ∷ RIMOG ∷ RIP65 ∷ RIJMRE ∷ DAJUD ∷ QTMESES ∷ []) ∷
    (SCP, BPFSCP ∷ BPJSCP ∷ []) ∷
    (BPFSCP, RISCP ∷ []) ∷
    (BPJSCP, RISCP ∷ []) ∷
    (PSE, OPSE ∷ []) ∷
    (OPSE, TPSE ∷ []) ∷
    (TPSE, RTPSE ∷ DTPSE ∷ []) ∷
    (DTPSE, RDTPSE ∷ []) ∷
    []

-- 004, lists 2.1 and 2.2
abbrev pub under_DECPF2025 : Children
under_DECPF2025 =
    list_of_DECPF
    (RTRT ∷ RTPO ∷ RTDP ∷ RTDS ∷ RTIRF ∷ CJAC ∷ CJAA ∷ ESRT ∷ ESPO ∷ ESDP ∷ ESDS ∷ ESIR ∷ ESDJ ∷ INFPC ∷ INFPA ∷ RIDAC ∷ RIIRP ∷
    RIAP ∷ RIP65 ∷ RIJMRE ∷ RIO ∷ [])

abbrev pub under_DECPJ2025 : Children
under_DECPJ2025 =
    list_of_DECPJ
    (RTRT ∷ RTPO ∷ RTDP ∷ RTDS ∷ RTIRF ∷ CJAC ∷ CJAA ∷ ESRT ∷ ESPO ∷ ESDP ∷ ESDS ∷ ESIR ∷ ESDJ ∷ INFPC ∷ INFPA ∷ RIDAC ∷ RIIRP ∷
    RIAP ∷ RIMOG ∷ RIP65 ∷ RIBMR ∷ RICAP ∷ RIRPC ∷ RIL96 ∷ RIPTS ∷ RIJMRE ∷ RIO ∷ [])
    (RTRT ∷ RTPO ∷ RTDP ∷ RTDS ∷ RTIRF ∷ CJAC ∷ CJAA ∷ ESRT ∷ ESPO ∷ ESDP ∷ ESDS ∷ ESIR ∷ ESDJ ∷ RTPP ∷ RTFA ∷
    RTSP ∷ ESPP ∷ ESFA ∷ ESSP ∷ RTPA ∷ ESPA ∷ RIMOG ∷ RIJMRE ∷ RIRSR ∷ [])

-- 000, lists 2.1 and 2.2
abbrev pub under_DECPF2022 : Children
under_DECPF2022 =
    list_of_DECPF
    (RTRT ∷ RTPO ∷ RTDP ∷ RTIRF ∷ CJAC ∷ CJAA ∷ ESRT ∷ ESPO ∷ ESDP ∷ ESIR ∷ ESDJ ∷ INFPC ∷ INFPA ∷ RIDAC ∷ RIIRP ∷ RIAP ∷ RIP65 ∷
    RIJMRE ∷ RIO ∷ [])

abbrev pub under_DECPJ2022 : Children
under_DECPJ2022 =
    list_of_DECPJ
    (RTRT ∷ RTPO ∷ RTDP ∷ RTIRF ∷ CJAC ∷ CJAA ∷ ESRT ∷ ESPO ∷ ESDP ∷ ESIR ∷ ESDJ ∷ INFPC ∷ INFPA ∷ RIDAC ∷ RIIRP ∷ RIAP ∷ RIMOG ∷
    RIP65 ∷ RIBMR ∷ RICAP ∷ RIRPC ∷ RIL96 ∷ RIPTS ∷ RIJMRE ∷ RIO ∷ [])
    (RTRT ∷ RTPO ∷ RTDP ∷ RTIRF ∷ CJAC ∷ CJAA ∷ ESRT ∷ ESPO ∷ ESDP ∷ ESIR ∷ ESDJ ∷ RTPP ∷ RTFA ∷ RTSP ∷ ESPP ∷
    ESFA ∷ ESSP ∷ RTPA ∷ ESPA ∷ RIMOG ∷ RIJMRE ∷ RIRSR ∷ [])

-- 01, "The tree": "one table of yes and no, with the declarant's kind as a part of the question"
unfoldable pub by_declarant : Children → Children → ℕ → Children
by_declarant pf pj declarant = if eqb declarant DECPF then pf else pj
