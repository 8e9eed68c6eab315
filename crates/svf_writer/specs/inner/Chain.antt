-- The bits of the two scans of the chain test.
use Rattle.std.specs.Prelude.{ℕ, ◌+◌, Bool, true, false, List, ◌++◌, map, replicate, slice_set}
use Rattle.tap_defs.specs.chain.Scan.{ScanBit}
use Rattle.tap_defs.specs.chain.Codes.{instructs}
use Rattle.tap_defs.specs.chain.ChainScans.{marks, compared_with}

-- the bits of a scan that shifts ones, the code of BYPASS, into the instruction register of each
-- part
abbrev pub bypass_bits : List ℕ → List ScanBit
bypass_bits lengths = (instructs (map (λ n. replicate n true) lengths)).bits

-- the bits of a scan that shifts in the marks (the bits of A5, the lowest first) and expects them at TDO `parts` bits
-- later
abbrev pub mark_bits : ℕ → List ScanBit
mark_bits parts = compared_with (marks ++ replicate parts false) (replicate parts false ++ marks)

-- the bits with a 1 written for each 1 of the marks; the first bit of the marks is at position `at`
abbrev pub with_marks : ℕ → List Bool → List Bool
with_marks at bits = slice_set (slice_set (slice_set (slice_set bits at true) (at + 2) true) (at + 5) true) (at + 7) true
