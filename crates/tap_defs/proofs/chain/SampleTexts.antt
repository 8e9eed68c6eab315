-- Short texts with their meanings, and texts that have no meaning.
use Rattle.std.proofs.Common.{◌≡◌, ℕ, Bool, true, false, List, [], ◌∷◌, ◌++◌, map, replicate, Option, Some, None, refl}
use Rattle.std.specs.Prelude.{codes, option_map, is_none}
use Rattle.std.specs.List.{list_all}
use Rattle.std.specs.Fmt.{digits}
use Rattle.tap_defs.specs.chain.Scan.{ScanBit, Scan}
use Rattle.tap_defs.specs.chain.Codes.{sent}
use Rattle.tap_defs.specs.chain.ChainScans.{chain_text}
use Rattle.tap_defs.specs.chain.Text.{head_text, tail_text, svf_text}
use Rattle.tap_defs.specs.chain.Run.{Clock}
use Rattle.tap_defs.specs.chain.Clocks.{head_clocks, reset_clocks, sdr_clocks, sir_clocks, test_clocks}
use Rattle.tap_defs.specs.chain.SvfTokens.{tokens_from}
use Rattle.tap_defs.specs.chain.Svf.{text_statements, meaning}

-- the text of these lines
abbrev pub lines : List (List ℕ) → List ℕ
lines [] = []
lines (l ∷ more) = l ++ 10 ∷ lines more

-- the text of the head, these lines and the tail
abbrev pub sample_text : List (List ℕ) → List ℕ
sample_text scans = head_text ++ (lines scans ++ tail_text)

abbrev pub off : Bool
off = false

abbrev pub on : Bool
on = true

-- a scan bit that is compared
abbrev pub read : Bool → Bool → ScanBit
read tdi expected = record { tdi = tdi; expect = Some expected }

abbrev pub sir : List ScanBit → Scan
sir bits = record { ir = true; bits = bits }

abbrev pub sdr : List ScanBit → Scan
sdr bits = record { ir = false; bits = bits }

-- the chain test of a chain of two parts, with instruction lengths 4 and 2
abbrev pub two_parts : List ℕ
two_parts = sample_text (codes "SIR 6 TDI (3F) TDO (05) MASK (0F);" ∷ codes "SDR 10 TDI (0A5) TDO (294) MASK (3FF);" ∷ [])

abbrev pub two_parts_scans : List Scan
two_parts_scans =
    sir (read true true ∷ read true false ∷ read true true ∷ read true false ∷ sent true ∷ sent true ∷ [])
    ∷ sdr (read true false ∷ read false false ∷ read true true ∷ read false false ∷ read false true
    ∷ read true false ∷ read false false ∷ read true true ∷ read false false ∷ read false true ∷ [])
    ∷ []

pub two_parts_text : chain_text (4 ∷ 2 ∷ []) ≡ two_parts
unfolding svf_text digits
two_parts_text = refl

pub two_parts_mean : meaning two_parts ≡ Some (test_clocks two_parts_scans)
unfolding meaning text_statements tokens_from
two_parts_mean = refl

-- TMS in all clocks of the text: five ones and a zero, the two scans, and five ones
pub two_parts_tms : option_map (map (λ (c : Clock). c.tms)) (meaning two_parts) ≡ Some (
    (on ∷ on ∷ on ∷ on ∷ on ∷ off ∷ [])
    ++ (on ∷ on ∷ off ∷ off ∷ []) ++ (off ∷ off ∷ off ∷ off ∷ off ∷ on ∷ []) ++ (on ∷ off ∷ [])
    ++ (on ∷ off ∷ off ∷ []) ++ (off ∷ off ∷ off ∷ off ∷ off ∷ off ∷ off ∷ off ∷ off ∷ on ∷ []) ++ (on ∷ off ∷ [])
    ++ (on ∷ on ∷ on ∷ on ∷ on ∷ []))
unfolding meaning text_statements tokens_from
two_parts_tms = refl

-- The test of two described parts without control cells. Together the parts have four instruction bits, with the codes A and 0, and
-- four cells.
abbrev pub two_nets : List ℕ
two_nets = sample_text (
    codes "SIR 4 TDI (A) TDO (5) MASK (F);" ∷ codes "SDR 4 TDI (0);" ∷ codes "SIR 4 TDI (0) TDO (5) MASK (F);"
    ∷ codes "SDR 4 TDI (4);" ∷ codes "SDR 4 TDI (8) TDO (1) MASK (3);" ∷ codes "SDR 4 TDI (0) TDO (2) MASK (3);" ∷ [])

abbrev pub two_nets_scans : List Scan
two_nets_scans =
    sir (read off on ∷ read on off ∷ read off on ∷ read on off ∷ [])
    ∷ sdr (sent off ∷ sent off ∷ sent off ∷ sent off ∷ [])
    ∷ sir (read off on ∷ read off off ∷ read off on ∷ read off off ∷ [])
    ∷ sdr (sent off ∷ sent off ∷ sent on ∷ sent off ∷ [])
    ∷ sdr (read off on ∷ read off off ∷ sent off ∷ sent on ∷ [])
    ∷ sdr (read off off ∷ read off on ∷ sent off ∷ sent off ∷ [])
    ∷ []

pub two_nets_text : svf_text two_nets_scans ≡ two_nets
unfolding svf_text digits
two_nets_text = refl

pub two_nets_mean : meaning two_nets ≡ Some (test_clocks two_nets_scans)
unfolding meaning text_statements tokens_from
two_nets_mean = refl

-- the chain tests of one part and of forty parts; the first scan of the second test would have 89 characters in one line
pub one_part_text : chain_text (2 ∷ [])
    ≡ sample_text
    (codes "SIR 2 TDI (3) TDO (1) MASK (3);" ∷ codes "SDR 9 TDI (0A5) TDO (14A) MASK (1FF);" ∷ [])
unfolding svf_text digits
one_part_text = refl

pub forty_parts_text : chain_text (replicate 40 2) ≡ sample_text (
    codes "SIR 80" ∷ codes "TDI (FFFFFFFFFFFFFFFFFFFF)" ∷ codes "TDO (55555555555555555555)" ∷ codes "MASK (FFFFFFFFFFFFFFFFFFFF);"
    ∷ codes "SDR 48 TDI (0000000000A5) TDO (A50000000000) MASK (FFFFFFFFFFFF);" ∷ [])
unfolding svf_text digits
forty_parts_text = refl

-- A statement of 80 characters is in one line, and one of 81 is in several. In a statement of several lines, a field of
-- 64 digits has one line, and a longer field has more.
abbrev pub zero_digits : ℕ → List ℕ
zero_digits n = replicate n 48

pub eighty_text : svf_text (sdr (replicate 260 (sent off)) ∷ [])
    ≡ sample_text ((codes "SDR 260 TDI (" ++ (zero_digits 65 ++ codes ");")) ∷ [])
unfolding svf_text digits
eighty_text = refl

pub eighty_one_text : svf_text (sdr (replicate 264 (sent off)) ∷ [])
    ≡ sample_text (codes "SDR 264" ∷ (codes "TDI (" ++ zero_digits 64) ∷ codes "00);" ∷ [])
unfolding svf_text digits
eighty_one_text = refl

pub full_lines_text : svf_text (sir (replicate 256 (read off off)) ∷ []) ≡ sample_text (
    codes "SIR 256" ∷ (codes "TDI (" ++ (zero_digits 64 ++ codes ")")) ∷ (codes "TDO (" ++ (zero_digits 64 ++ codes ")"))
    ∷ (codes "MASK (" ++ (replicate 64 70 ++ codes ");")) ∷ [])
unfolding svf_text digits
full_lines_text = refl

-- the meaning of the head followed by these lines
abbrev pub headed : List (List ℕ) → Option (List Clock)
headed more = meaning (head_text ++ lines more)

abbrev pub one_scan : Option (List Clock)
one_scan = Some (head_clocks ++ sdr_clocks (read off on ∷ sent off ∷ read off off ∷ sent on ∷ sent off ∷ []))

pub scan_means : headed (codes "SDR 5 TDI (08) TDO (01) MASK (05);" ∷ []) ≡ one_scan
unfolding meaning text_statements tokens_from
scan_means = refl

-- The next two texts have a meaning. The first has comments, additional blanks and line ends, also between digits. The
-- second has a lower-case digit. In both, TDO has bits that are not compared.
pub comment_means : headed
    (codes "! a; (" ∷ codes "SDR 5 // 6" ∷ codes "TDI (0!8" ∷ codes "8) TDO (0"
    ∷ codes " 1 )MASK (05 ) ;//" ∷ []) ≡ one_scan
unfolding meaning text_statements tokens_from
comment_means = refl

pub other_case_means : headed (codes "SIR 4 TDI (a) TDO (B) MASK (1);" ∷ [])
    ≡ Some (head_clocks ++ sir_clocks (read off on ∷ sent on ∷ sent off ∷ sent on ∷ []))
unfolding meaning text_statements tokens_from
other_case_means = refl

pub resets_mean : headed (codes "STATE RESET;STATE IDLE;TRST OFF;STATE RESET;" ∷ []) ≡ Some (head_clocks ++ head_clocks ++ reset_clocks)
unfolding meaning text_statements tokens_from
resets_mean = refl

-- Texts without a meaning: STATE IDLE is not right after STATE RESET, a scan does not begin in Run-Test/Idle, or a scan
-- has no ENDDR IDLE before it.
pub idle_late : meaning (codes "STATE RESET; ENDDR IDLE; STATE IDLE;") ≡ None
unfolding meaning text_statements tokens_from
idle_late = refl

pub idle_twice : headed (codes "STATE IDLE;" ∷ []) ≡ None
unfolding meaning text_statements tokens_from
idle_twice = refl

pub scan_in_reset : headed (codes "STATE RESET;" ∷ codes "SDR 4 TDI (0);" ∷ []) ≡ None
unfolding meaning text_statements tokens_from
scan_in_reset = refl

pub scan_unended : meaning (codes "ENDIR IDLE; STATE RESET; STATE IDLE; SDR 4 TDI (0);") ≡ None
unfolding meaning text_statements tokens_from
scan_unended = refl

-- Texts without a meaning. The scans lack TDI, have only one of TDO and MASK, have fields in another order or a field
-- twice, have too many, too few or wrong digits, have a 1 above the bits, have the length 0, or lack a proper length. A
-- command in lower case, another command, an empty statement, and a statement without its semicolon have no meaning
-- either.
pub no_meaning : list_all (λ l. is_none (headed (l ∷ []))) (
    codes "SDR 4;" ∷ codes "SDR 4 TDO (1) MASK (1);" ∷ codes "SDR 4 TDI (0) TDO (1);" ∷ codes "SDR 4 TDI (0) MASK (1);"
    ∷ codes "SDR 4 TDI (0) MASK (1) TDO (1);" ∷ codes "SDR 4 TDI (0) TDO (1) MASK (1) MASK (1);"
    ∷ codes "SDR 4 TDI (00);" ∷ codes "SDR 5 TDI (0);" ∷ codes "SDR 5 TDI (20);" ∷ codes "SDR 4 TDI (G);" ∷ codes "SDR 4 TDI ();"
    ∷ codes "SDR 0 TDI ();" ∷ codes "SDR TDI (0);" ∷ codes "SDR 4x TDI (0);" ∷ codes "sdr 4 TDI (0);" ∷ codes "RUNTEST 5 TCK;" ∷ codes ";"
    ∷ codes "STATE RESET" ∷ []) ≡ true
unfolding meaning text_statements tokens_from
no_meaning = refl
