-- Instruction scans, which have a code for each part. Capture-IR loads 01 into the two lowest bits of each instruction
-- register, and an instruction scan compares these bits (IEEE 1149.1, instruction register).
use Rattle.std.specs.Prelude.{Bool, true, false, List, [], ◌∷◌, map, Some, None}
use Rattle.tap_defs.specs.chain.Scan.{ScanBit, Scan, joined}

-- a bit to shift in, without a comparison
abbrev pub sent : Bool → ScanBit
sent bit = record { tdi = bit; expect = None }

-- The scan bits of one part's code, the first of which is nearest TDO. If the code has two or more bits, the first two
-- scan bits expect 1 and then 0 at TDO.
abbrev pub code_bits : List Bool → List ScanBit
code_bits [] = []
code_bits (a ∷ []) = sent a ∷ []
code_bits (a ∷ b ∷ code) = record { tdi = a; expect = Some true } ∷ record { tdi = b; expect = Some false } ∷ map sent code

-- the instruction scan with these codes, in the order of the chain
abbrev pub instructs : List (List Bool) → Scan
instructs codes = record { ir = true; bits = joined (map code_bits codes) }
