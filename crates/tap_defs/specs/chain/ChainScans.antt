-- The scans of the chain test, and its SVF text.
use Rattle.std.specs.Prelude.{ℕ, Bool, true, false, List, [], ◌∷◌, ◌++◌, length, map, replicate, Some}
use Rattle.tap_defs.specs.chain.Scan.{ScanBit, Scan}
use Rattle.tap_defs.specs.chain.Codes.{instructs}
use Rattle.tap_defs.specs.chain.Text.{svf_text}

-- the bits of the hexadecimal number A5, the lowest first
abbrev pub marks : List Bool
marks = true ∷ false ∷ true ∷ false ∷ false ∷ true ∷ false ∷ true ∷ []

-- Scan bits that shift in the first list and expect the second list at TDO. Bits past the end of the shorter list are
-- left out.
abbrev pub compared_with : List Bool → List Bool → List ScanBit
compared_with [] out = []
compared_with (i ∷ ins) [] = []
compared_with (i ∷ ins) (o ∷ out) = record { tdi = i; expect = Some o } ∷ compared_with ins out

-- The scans of the chain test. The first shifts a code of ones, which means BYPASS, into each part. The second shifts
-- in the marks and then a 0 for each part. It expects a 0 for each part at TDO, and then the marks.
abbrev pub chain_scans : List ℕ → List Scan
chain_scans lengths =
    let zeros : List Bool = replicate (length lengths) false in
    instructs (map (λ n. replicate n true) lengths) ∷ record { ir = false; bits = compared_with (marks ++ zeros) (zeros ++ marks) } ∷ []

-- the SVF text of the chain test of parts with these instruction lengths
abbrev pub chain_text : List ℕ → List ℕ
chain_text lengths = svf_text (chain_scans lengths)
