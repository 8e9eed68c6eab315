-- The clocks of scans and of the STATE statements (SVF Revision E). The controllers take the paths of the state diagram
-- of IEEE 1149.1-1990, section 5.
use Rattle.std.specs.Prelude.{Bool, true, false, List, [], ◌∷◌, ◌++◌, Some, None}
use Rattle.tap_defs.specs.chain.Scan.{ScanBit, Scan}
use Rattle.tap_defs.specs.chain.Run.{Clock}

-- a clock whose TDI may be any bit, and whose TDO is not compared
abbrev pub plain : Bool → Clock
plain tms = record { tms = tms; tdi = None; expect = None }

-- a clock that shifts this bit in, and compares TDO if the bit is compared
abbrev pub shift_clock : Bool → ScanBit → Clock
shift_clock tms bit = record { tms = tms; tdi = Some bit.tdi; expect = bit.expect }

-- the clocks that shift these bits in; only the last clock has TMS 1
abbrev pub shift_clocks : List ScanBit → List Clock
shift_clocks [] = []
shift_clocks (b ∷ []) = shift_clock true b ∷ []
shift_clocks (b ∷ c ∷ bits) = shift_clock false b ∷ shift_clocks (c ∷ bits)

-- the clocks from Run-Test/Idle to Shift-DR, the shift clocks, and the clocks through Update-DR back to Run-Test/Idle
abbrev pub sdr_clocks : List ScanBit → List Clock
sdr_clocks bits = plain true ∷ plain false ∷ plain false ∷ (shift_clocks bits ++ plain true ∷ plain false ∷ [])

-- the clocks from Run-Test/Idle to Shift-IR, the shift clocks, and the clocks through Update-IR back to Run-Test/Idle
abbrev pub sir_clocks : List ScanBit → List Clock
sir_clocks bits = plain true ∷ plain true ∷ plain false ∷ plain false ∷ (shift_clocks bits ++ plain true ∷ plain false ∷ [])

-- the clocks of an SIR statement (`true`) or an SDR statement (`false`) with these bits
abbrev pub clocks_by : Bool → List ScanBit → List Clock
clocks_by true bits = sir_clocks bits
clocks_by false bits = sdr_clocks bits

-- the clocks of a scan
abbrev pub scan_clocks : Scan → List Clock
scan_clocks scan = clocks_by scan.ir scan.bits

-- the clocks of these scans, in the order of the scans
abbrev pub all_clocks : List Scan → List Clock
all_clocks [] = []
all_clocks (s ∷ scans) = scan_clocks s ++ all_clocks scans

-- the clocks of STATE RESET: five with TMS 1, which lead from every state to Test-Logic-Reset
abbrev pub reset_clocks : List Clock
reset_clocks = plain true ∷ plain true ∷ plain true ∷ plain true ∷ plain true ∷ []

-- the clocks of STATE RESET and STATE IDLE
abbrev pub head_clocks : List Clock
head_clocks = reset_clocks ++ plain false ∷ []

-- the clocks of a test: STATE RESET and STATE IDLE, then the scans, then STATE RESET
abbrev pub test_clocks : List Scan → List Clock
test_clocks scans = head_clocks ++ (all_clocks scans ++ reset_clocks)
