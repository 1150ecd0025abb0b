-- The field rows of the records of the base, in the sources' order and grouped as the sources group them: in the edition of 2025 66
-- records with 622 rows, in the older one 64 with 594. Of 2025 3.1 to 3.3 are 004's, all others 000's; of the older edition all are
-- 000's, and but for 3.1 they are the same rows. Beside each row stand its number and its name in the source.
use Rattle.std.specs.Prelude.{ℕ, List, [], ◌∷◌, replicate}
use Rattle.dirf.specs.Bytes.{Text, bytes}
use Rattle.dirf.specs.Row.{Row, Holds, row, C, N, D, fixed, variable, obligatory, optional, identifier, amount, months, ddd}
use Rattle.dirf.specs.Row.{telephone, cpf, cnpj, cpf_or_cnpj, plain, one_of, s_or_n}
use Rattle.dirf.specs.Kinds.{Dirf, RESPO, DECPF, DECPJ, IDREC, BPFDEC, RTRT, RTPO, RTDP, RTDS, RTIRF, CJAC, CJAA, ESRT}
use Rattle.dirf.specs.Kinds.{ESPO, ESDP, ESDS, ESIR, ESDJ, INFPC, RTPP, RTFA, RTSP, RTEP, ESPP, ESFA, ESSP, ESEP, INFPA, RTPA}
use Rattle.dirf.specs.Kinds.{ESPA, RIDAC, RIIRP, RIAP, RIMOG, RIP65, RIBMR, RICAP, RIRPC, RIL96, RIPTS, RIJMRE, RIO, BPJDEC}
use Rattle.dirf.specs.Kinds.{FCI, BPFFCI, BPJFCI, PROC, BPFPROC, RIRSR, BPJPROC, RRA, BPFRRA, DAJUD, QTMESES, SCP, BPFSCP}
use Rattle.dirf.specs.Kinds.{RISCP, BPJSCP, PSE, OPSE, TPSE, RTPSE, DTPSE, RDTPSE, FIMDirf}

-- 004, 3.1, and 01, "Fields": "Dirf: fields 2, 3 and 6 are 2025, 2024 and R6GP3ZA; field 4 is S or N; field 5 may be empty."
abbrev pub dirf_rows2025 : List Row
dirf_rows2025 =
    row C fixed 4 obligatory identifier ∷  -- 1 Identificador de registro
    row N fixed 4 obligatory (one_of (bytes "2025" ∷ [])) ∷  -- 2 Ano referência
    row N fixed 4 obligatory (one_of (bytes "2024" ∷ [])) ∷  -- 3 Ano-calendário
    row C fixed 1 obligatory s_or_n ∷  -- 4 Indicador de retificadora
    row N fixed 12 optional plain ∷  -- 5 Número do recibo
    row C fixed 7 obligatory (one_of (bytes "R6GP3ZA" ∷ [])) ∷  -- 6 Identificador de estrutura do leiaute
    []

-- 000, 3.1, field 6: what says that a file is of the older edition
abbrev pub mark2022 : Text
mark2022 = bytes "XJFSFHB"

-- 000, 3.1. 02, A4: "its own year, calendar year and layout mark in record 3.1"
abbrev pub dirf_rows2022 : List Row
dirf_rows2022 =
    row C fixed 4 obligatory identifier ∷  -- 1 Identificador de registro
    row N fixed 4 obligatory (one_of (bytes "2022" ∷ [])) ∷  -- 2 Ano referência
    row N fixed 4 obligatory (one_of (bytes "2021" ∷ bytes "2022" ∷ [])) ∷  -- 3 Ano-calendário
    row C fixed 1 obligatory s_or_n ∷  -- 4 Indicador de retificadora
    row N fixed 12 optional plain ∷  -- 5 Número do recibo
    row C fixed 7 obligatory (one_of (mark2022 ∷ [])) ∷  -- 6 Identificador de estrutura do leiaute
    []

-- 004 and 000, 3.2, and 01, "Fields": "RESPO: DDD does not begin with 0; telephone, and fax where filled, has 8 or 9 digits."
abbrev pub respo_rows : List Row
respo_rows =
    row C fixed 5 obligatory identifier ∷  -- 1 Identificador de registro
    row N fixed 11 obligatory cpf ∷  -- 2 CPF
    row C variable 60 obligatory plain ∷  -- 3 Nome
    row N fixed 2 obligatory ddd ∷  -- 4 DDD
    row N variable 9 obligatory telephone ∷  -- 5 Telefone
    row N variable 6 optional plain ∷  -- 6 Ramal
    row N variable 9 optional telephone ∷  -- 7 Fax
    row C variable 50 optional plain ∷  -- 8 Correio eletrônico
    []

-- 004 and 000, 3.3
abbrev pub decpf_rows : List Row
decpf_rows =
    row C fixed 5 obligatory identifier ∷  -- 1 Identificador de registro
    row N fixed 11 obligatory cpf ∷  -- 2 CPF
    row C variable 60 obligatory plain ∷  -- 3 Nome
    row C fixed 1 obligatory s_or_n ∷  -- 4 Indicador de declarante de rendimentos pagos a residentes ou domiciliados no exterior
    row C fixed 1 obligatory s_or_n ∷  -- 5 Indicador de Titular de Serviços Notariais e de Registros
    row C fixed 1 obligatory s_or_n ∷  -- 6 Indicador de plano privado de assistência à saúde
    row C fixed 1 obligatory s_or_n ∷  -- 7 Indicador de sócio ostensivo responsável por SCP
    row C fixed 1 obligatory s_or_n ∷  -- 8 Indicador de situação especial da declaração
    row D fixed 8 optional plain ∷  -- 9 Data do Evento
    row N fixed 1 optional (one_of (bytes "1" ∷ bytes "2" ∷ [])) ∷  -- 10 Tipo de Evento
    row C fixed 1 obligatory s_or_n ∷  -- 11 Indicador de declarante falecido
    row D fixed 8 optional plain ∷  -- 12 Data do óbito
    row N fixed 1 optional (one_of (bytes "0" ∷ bytes "1" ∷ [])) ∷  -- 13 Situação do espólio
    row N fixed 11 optional cpf ∷  -- 14 CPF do inventariante
    row C variable 60 optional plain ∷  -- 15 Nome do inventariante
    []

-- 000, 3.4, and 01, "Fields": "DECPJ field 4 is 0, 1, 2, 3, 4 or 8."
abbrev pub decpj_rows : List Row
decpj_rows =
    row C fixed 5 obligatory identifier ∷  -- 1 Identificador de registro
    row N fixed 14 obligatory cnpj ∷  -- 2 CNPJ
    row C variable 150 obligatory plain ∷  -- 3 Nome empresarial
    row N fixed 1 obligatory (one_of (bytes "0" ∷ bytes "1" ∷ bytes "2" ∷ bytes "3" ∷ bytes "4" ∷ bytes "8" ∷ [])) ∷  -- 4 Natureza do declarante
    row N fixed 11 obligatory cpf ∷  -- 5 CPF responsável perante o CNPJ
    row C fixed 1 obligatory s_or_n ∷  -- 6 Indicador de sócio ostensivo responsável por SCP
    row C fixed 1 obligatory s_or_n ∷  -- 7 Indicador de declarante depositário de crédito decorrente de decisão judicial
    row C fixed 1 obligatory s_or_n ∷  -- 8 Indicador de instituição administradora de fundo ou clube de investimento
    row C fixed 1 obligatory s_or_n ∷  -- 9 Indicador de declarante de rendimentos pagos a residentes ou domiciliados no exterior
    row C fixed 1 obligatory s_or_n ∷  -- 10 Indicador de plano privado de assistência à saúde
    row C fixed 1 obligatory s_or_n ∷  -- 11 Indicador de entidade em que a União detém maioria do capital
    row C fixed 1 obligatory s_or_n ∷  -- 12 Indicador de fundação pública de direito privado
    row C fixed 1 obligatory s_or_n ∷  -- 13 Indicador de situação especial da declaração
    row D fixed 8 optional plain ∷  -- 14 Data do evento
    []

-- 000, 3.5
abbrev pub idrec_rows : List Row
idrec_rows =
    row C fixed 5 obligatory identifier ∷  -- 1 Identificador de registro
    row N fixed 4 obligatory plain ∷  -- 2 Código de receita
    []

-- 000, 3.6
abbrev pub bpfdec_rows : List Row
bpfdec_rows =
    row C fixed 6 obligatory identifier ∷  -- 1 Identificador de registro
    row N fixed 11 obligatory cpf ∷  -- 2 CPF
    row C variable 60 obligatory plain ∷  -- 3 Nome
    row D fixed 8 optional plain ∷  -- 4 Data atribuída pelo laudo da moléstia grave
    row C fixed 1 obligatory s_or_n ∷  -- 5 Indicador de identificação do alimentando
    row C fixed 1 obligatory s_or_n ∷  -- 6 Indicador de identificação da previdência complementar
    []

-- 000, 3.7
abbrev pub bpjdec_rows : List Row
bpjdec_rows =
    row C fixed 6 obligatory identifier ∷  -- 1 Identificador de registro
    row N fixed 14 obligatory cnpj ∷  -- 2 CNPJ
    row C variable 150 obligatory plain ∷  -- 3 Nome empresarial
    []

-- 000, 3.9
abbrev pub fci_rows : List Row
fci_rows =
    row C fixed 3 obligatory identifier ∷  -- 1 Identificador de registro
    row N fixed 14 obligatory cnpj ∷  -- 2 CNPJ
    row C variable 150 obligatory plain ∷  -- 3 Nome empresarial
    []

-- 000, 3.10
abbrev pub bpffci_rows : List Row
bpffci_rows =
    row C fixed 6 obligatory identifier ∷  -- 1 Identificador de registro
    row N fixed 11 obligatory cpf ∷  -- 2 CPF
    row C variable 60 obligatory plain ∷  -- 3 Nome
    row D fixed 8 optional plain ∷  -- 4 Data atribuída pelo laudo da moléstia grave
    []

-- 000, 3.11
abbrev pub bpjfci_rows : List Row
bpjfci_rows =
    row C fixed 6 obligatory identifier ∷  -- 1 Identificador de registro
    row N fixed 14 obligatory cnpj ∷  -- 2 CNPJ
    row C variable 150 obligatory plain ∷  -- 3 Nome empresarial
    []

-- 000, 3.12, and 01, "Fields": "PROC field 2 is 1, 2 or 3; field 5, where filled, has 11 or 14 digits; field 6 has up to 150 bytes."
abbrev pub proc_rows : List Row
proc_rows =
    row C fixed 4 obligatory identifier ∷  -- 1 Identificador de registro
    row N fixed 1 obligatory (one_of (bytes "1" ∷ bytes "2" ∷ bytes "3" ∷ [])) ∷  -- 2 Indicador de Justiça
    row C variable 20 obligatory plain ∷  -- 3 Número do processo
    row N fixed 1 optional (one_of (bytes "1" ∷ bytes "2" ∷ [])) ∷  -- 4 Indicador de tipo de advogado/escritório de advocacia
    row N variable 14 optional cpf_or_cnpj ∷  -- 5 CPF do advogado/CNPJ do escritório de advocacia
    row C variable 150 optional plain ∷  -- 6 Nome do advogado/Nome empresarial do escritório de advocacia
    row N variable 13 optional amount ∷  -- 7 Valor pago para o advogado
    []

-- 000, 3.13
abbrev pub bpfproc_rows : List Row
bpfproc_rows =
    row C fixed 7 obligatory identifier ∷  -- 1 Identificador de registro
    row N fixed 11 obligatory cpf ∷  -- 2 CPF
    row C variable 60 obligatory plain ∷  -- 3 Nome
    row D fixed 8 optional plain ∷  -- 4 Data atribuída pelo laudo da moléstia grave
    []

-- 000, 3.14
abbrev pub bpjproc_rows : List Row
bpjproc_rows =
    row C fixed 7 obligatory identifier ∷  -- 1 Identificador de registro
    row N fixed 14 obligatory cnpj ∷  -- 2 CNPJ
    row C variable 150 obligatory plain ∷  -- 3 Nome empresarial
    []

-- 000, 3.15, and 01, "Fields": "RRA's lawyer fields 4 to 6 follow PROC's."
abbrev pub rra_rows : List Row
rra_rows =
    row C fixed 3 obligatory identifier ∷  -- 1 Identificador de registro
    row N fixed 1 obligatory (one_of (bytes "1" ∷ bytes "2" ∷ [])) ∷  -- 2 Identificador de rendimento recebido acumuladamente
    row C variable 20 optional plain ∷  -- 3 Número do processo/requerimento
    row N fixed 1 optional (one_of (bytes "1" ∷ bytes "2" ∷ [])) ∷  -- 4 Indicador de tipo de advogado/escritório de advocacia
    row N variable 14 optional cpf_or_cnpj ∷  -- 5 CPF do advogado/CNPJ do escritório de advocacia
    row C variable 150 optional plain ∷  -- 6 Nome do advogado/Nome empresarial do escritório de advocacia
    row N variable 13 optional amount ∷  -- 7 Valor pago para o advogado
    []

-- 000, 3.16
abbrev pub bpfrra_rows : List Row
bpfrra_rows =
    row C fixed 6 obligatory identifier ∷  -- 1 Identificador de registro
    row N fixed 11 obligatory cpf ∷  -- 2 CPF
    row C variable 60 obligatory plain ∷  -- 3 Nome
    row C variable 50 optional plain ∷  -- 4 Natureza do RRA
    row D fixed 8 optional plain ∷  -- 5 Data atribuída pelo laudo da moléstia grave
    row C fixed 1 obligatory s_or_n ∷  -- 6 Indicador de identificação do alimentando
    []

-- 000, 3.17
abbrev pub infpc_rows : List Row
infpc_rows =
    row C fixed 5 obligatory identifier ∷  -- 1 Identificador de registro
    row N fixed 14 obligatory cnpj ∷  -- 2 CNPJ
    row C variable 150 obligatory plain ∷  -- 3 Nome empresarial
    []

-- 000, 3.18 and 3.30, "Relação de dependência"
abbrev pub relation : Holds
relation = one_of (bytes "03" ∷ bytes "04" ∷ bytes "06" ∷ bytes "08" ∷ bytes "10" ∷ [])

-- 000, 3.18
abbrev pub infpa_rows : List Row
infpa_rows =
    row C fixed 5 obligatory identifier ∷  -- 1 Identificador de registro
    row N fixed 11 optional cpf ∷  -- 2 CPF do alimentando
    row D fixed 8 optional plain ∷  -- 3 Data de nascimento
    row C variable 60 obligatory plain ∷  -- 4 Nome
    row N fixed 2 optional relation ∷  -- 5 Relação de dependência
    []

-- 000, 3.19: fields 2 to 13 are the months, field 14 the thirteenth salary
abbrev pub monthly_rows : List Row
monthly_rows =
    row C variable 5 obligatory identifier ∷  -- 1 Identificador de registro
    replicate 13 (row N variable 13 optional amount)  -- 2 Janeiro to 14 Décimo Terceiro

-- 000, 3.20
abbrev pub annual_rows : List Row
annual_rows =
    row C variable 6 obligatory identifier ∷  -- 1 Identificador de registro
    row N variable 13 obligatory amount ∷  -- 2 Valor pago no ano
    []

-- 000, 3.21
abbrev pub rio_rows : List Row
rio_rows =
    row C fixed 3 obligatory identifier ∷  -- 1 Identificador de registro
    row N variable 13 obligatory amount ∷  -- 2 Valor pago no ano
    row C variable 60 obligatory plain ∷  -- 3 Descrição dos rendimentos isentos - outros
    []

-- 000, 3.22, and 01, "Fields": "Month counts (QTMESES 2 to 13; N, variable, 4) are tenths of a month"
abbrev pub qtmeses_rows : List Row
qtmeses_rows =
    row C fixed 7 obligatory identifier ∷  -- 1 Identificador de registro
    replicate 12 (row N variable 4 optional months)  -- 2 Quantidade meses - janeiro to 13 Quantidade meses - dezembro

-- 000, 3.23
abbrev pub scp_rows : List Row
scp_rows =
    row C fixed 3 obligatory identifier ∷  -- 1 Identificador de registro
    row N fixed 14 obligatory cnpj ∷  -- 2 CNPJ da Sociedade em Conta de Participação
    row C variable 150 obligatory plain ∷  -- 3 Nome empresarial da Sociedade em Conta de Participação
    []

-- 000, 3.24, and 01, "Fields": "The share in BPFSCP is N, up to 4, zeros in front allowed"
abbrev pub bpfscp_rows : List Row
bpfscp_rows =
    row C fixed 6 obligatory identifier ∷  -- 1 Identificador de registro
    row N fixed 11 obligatory cpf ∷  -- 2 CPF
    row C variable 60 obligatory plain ∷  -- 3 Nome
    row N variable 4 optional plain ∷  -- 4 Percentual de participação na SCP
    []

-- 000, 3.25, and 01, "Fields": "in BPJSCP document 000 prints C, and it is C"
abbrev pub bpjscp_rows : List Row
bpjscp_rows =
    row C fixed 6 obligatory identifier ∷  -- 1 Identificador de registro
    row N fixed 14 obligatory cnpj ∷  -- 2 CNPJ
    row C variable 150 obligatory plain ∷  -- 3 Nome empresarial
    row C variable 4 optional plain ∷  -- 4 Percentual de participação na SCP
    []

-- 000, 3.26
abbrev pub pse_rows : List Row
pse_rows =
    row C fixed 3 obligatory identifier ∷  -- 1 Identificador de registro
    []

-- 000, 3.27
abbrev pub opse_rows : List Row
opse_rows =
    row C fixed 4 obligatory identifier ∷  -- 1 Identificador de registro
    row N fixed 14 obligatory cnpj ∷  -- 2 CNPJ da operadora de plano privado de assistência à saúde
    row C variable 150 obligatory plain ∷  -- 3 Nome empresarial
    row N fixed 6 optional plain ∷  -- 4 Registro ANS
    []

-- 000, 3.28; the table says Sim of field 4, and the prose that would excuse it is not checked
abbrev pub tpse_rows : List Row
tpse_rows =
    row C fixed 4 obligatory identifier ∷  -- 1 Identificador de registro
    row N fixed 11 obligatory cpf ∷  -- 2 CPF do titular
    row C variable 60 obligatory plain ∷  -- 3 Nome
    row N variable 9 obligatory amount ∷  -- 4 Valor pago no ano
    []

-- 000, 3.29 and 3.31, which differ in the identifier's size. 02, A3: "A field for either a CPF or a CNPJ has 11 or 14 digits"
abbrev pub reimbursement_rows : ℕ → List Row
reimbursement_rows size =
    row C fixed size obligatory identifier ∷  -- 1 Identificador de registro
    row N variable 14 obligatory cpf_or_cnpj ∷  -- 2 CPF/CNPJ do prestador de serviço
    row C variable 150 obligatory plain ∷  -- 3 Nome/Nome empresarial do prestador de serviço
    row N variable 9 optional amount ∷  -- 4 Valor do reembolso do ano-calendário
    row N variable 9 optional amount ∷  -- 5 Valor do reembolso de anos anteriores
    []

-- 000, 3.30; of field 6 the table says Sim here too
abbrev pub dtpse_rows : List Row
dtpse_rows =
    row C fixed 5 obligatory identifier ∷  -- 1 Identificador de registro
    row N fixed 11 optional cpf ∷  -- 2 CPF do dependente
    row D fixed 8 optional plain ∷  -- 3 Data de nascimento
    row C variable 60 obligatory plain ∷  -- 4 Nome
    row N fixed 2 optional relation ∷  -- 5 Relação de dependência
    row N variable 9 obligatory amount ∷  -- 6 Valor pago no ano
    []

-- 000, 3.36, and 01, "Lines and limits": "FIMDirf has its identifier and no other field."
abbrev pub fimdirf_rows : List Row
fimdirf_rows =
    row C fixed 7 obligatory identifier ∷  -- 1 Identificador de registro
    []

-- 000, 3.19: the records of monthly values
abbrev pub monthly2022 : List ℕ
monthly2022 =
    RTRT ∷ RTPO ∷ RTPP ∷ RTFA ∷ RTSP ∷ RTEP ∷ RTDP ∷ RTPA ∷ RTIRF ∷ CJAA ∷ CJAC ∷ ESRT ∷ ESPO ∷ ESPP ∷ ESFA ∷ ESSP ∷
    ESEP ∷ ESDP ∷ ESPA ∷ ESIR ∷ ESDJ ∷ RIP65 ∷ RIDAC ∷ RIIRP ∷ RIAP ∷ RIMOG ∷ RIRPC ∷ RIBMR ∷ RICAP ∷ RISCP ∷ DAJUD ∷ []

-- 01, "What the checker covers": "RTDS and ESDS, which 000 lacks, take RTDP's field rows"
abbrev pub monthly2025 : List ℕ
monthly2025 =
    RTRT ∷ RTPO ∷ RTPP ∷ RTFA ∷ RTSP ∷ RTEP ∷ RTDP ∷ RTDS ∷ RTPA ∷ RTIRF ∷ CJAA ∷ CJAC ∷ ESRT ∷ ESPO ∷ ESPP ∷ ESFA ∷
    ESSP ∷ ESEP ∷ ESDP ∷ ESDS ∷ ESPA ∷ ESIR ∷ ESDJ ∷ RIP65 ∷ RIDAC ∷ RIIRP ∷ RIAP ∷ RIMOG ∷ RIRPC ∷ RIBMR ∷ RICAP ∷
    RISCP ∷ DAJUD ∷ []

-- which records have which rows: Dirf and the records of monthly values are an edition's own
abbrev pub layout_of : List Row → List ℕ → List (List ℕ × List Row)
layout_of dirf_rows monthly =
    (Dirf ∷ [], dirf_rows) ∷
    (RESPO ∷ [], respo_rows) ∷
    (DECPF ∷ [], decpf_rows) ∷
    (DECPJ ∷ [], decpj_rows) ∷
    (IDREC ∷ [], idrec_rows) ∷
    (BPFDEC ∷ [], bpfdec_rows) ∷
    (BPJDEC ∷ [], bpjdec_rows) ∷
    (FCI ∷ [], fci_rows) ∷
    (BPFFCI ∷ [], bpffci_rows) ∷
    (BPJFCI ∷ [], bpjfci_rows) ∷
    (PROC ∷ [], proc_rows) ∷
    (BPFPROC ∷ [], bpfproc_rows) ∷
    (BPJPROC ∷ [], bpjproc_rows) ∷
    (RRA ∷ [], rra_rows) ∷
    (BPFRRA ∷ [], bpfrra_rows) ∷
    (INFPC ∷ [], infpc_rows) ∷
    (INFPA ∷ [], infpa_rows) ∷
    (monthly, monthly_rows) ∷
    (RIL96 ∷ RIPTS ∷ RIJMRE ∷ RIRSR ∷ [], annual_rows) ∷
    (RIO ∷ [], rio_rows) ∷
    (QTMESES ∷ [], qtmeses_rows) ∷
    (SCP ∷ [], scp_rows) ∷
    (BPFSCP ∷ [], bpfscp_rows) ∷
    (BPJSCP ∷ [], bpjscp_rows) ∷
    (PSE ∷ [], pse_rows) ∷
    (OPSE ∷ [], opse_rows) ∷
    (TPSE ∷ [], tpse_rows) ∷
    (RTPSE ∷ [], reimbursement_rows 5) ∷
    (DTPSE ∷ [], dtpse_rows) ∷
    (RDTPSE ∷ [], reimbursement_rows 6) ∷
    (FIMDirf ∷ [], fimdirf_rows) ∷
    []

abbrev pub layout2025 : List (List ℕ × List Row)
layout2025 = layout_of dirf_rows2025 monthly2025

abbrev pub layout2022 : List (List ℕ × List Row)
layout2022 = layout_of dirf_rows2022 monthly2022
