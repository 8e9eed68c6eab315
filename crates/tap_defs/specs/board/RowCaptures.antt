-- The bits that a data scan captures while a row is in the latches, under any faults. They are computed from the bits
-- of the nets, without running clocks.
use Rattle.std.specs.Prelude.{◌≡◌, ℕ, suc, Bool, true, false, List, [], ◌∷◌, Option, Some, None}
use Rattle.board_defs.specs.declared.board.PartKind.{PartKind}
use Rattle.board_defs.specs.declared.board.PartKind.TheVariants.{Described, Bypass as WithoutDescription}
use Rattle.board_defs.specs.declared.board.Part.{Part}
use Rattle.board_defs.specs.declared.board.RawBoard.{RawBoard}
use Rattle.tap_defs.specs.chain.TestLogic.{Extest, Bypass}
use Rattle.tap_defs.specs.chain.ShiftRegister.{filled}
use Rattle.tap_defs.specs.chain.Part.{PinState}
use Rattle.tap_defs.specs.chain.Run.{Choice}
use Rattle.tap_defs.specs.chain.Scan.{ScanBit, Scan, joined}
use Rattle.tap_defs.specs.chain.Transport.{scan_passes}
use Rattle.tap_defs.specs.board.FaultSet.{FaultSet}
use Rattle.tap_defs.specs.board.OnBoard.{board_wiring}
use Rattle.tap_defs.specs.board.TestRows.{TestRow, row_bit}
use Rattle.tap_defs.specs.board.BoardScans.{RowScan}

-- The visible state of a part, that is, its instruction and its latches, while the row is in the latches. A described part has EXTEST, and
-- any other part has BYPASS.
abbrev pub shown_by_part : RawBoard → TestRow → ℕ → PartKind → PinState
shown_by_part board row part (Described device) =
    record {
      current = Extest;
      latches = filled device.boundary
          (λ cell. row_bit board row part device cell);
    }
shown_by_part board row part (WithoutDescription n) = record { current = Bypass; latches = [] }

-- the visible states of these parts, the first of which has number `part`
abbrev pub shown_by_parts : RawBoard → TestRow → ℕ → List Part → List PinState
shown_by_parts board row part [] = []
shown_by_parts board row part (p ∷ parts) = shown_by_part board row part p.kind ∷ shown_by_parts board row (suc part) parts

-- the visible states of all parts
abbrev pub row_states : RawBoard → TestRow → List PinState
row_states board row = shown_by_parts board row 0 board.chain

-- The bits that the data register of a part loads in Capture-DR. The register of a described part loads the bits `pins`
-- of the boundary cells, and the bypass register of any other part loads 0.
abbrev pub register_of : PartKind → List Bool → List Bool
register_of (Described device) pins = pins
register_of (WithoutDescription n) pins = false ∷ []

-- the bits that the data registers of the parts load in Capture-DR; `pins k` has the bits of the boundary cells of part
-- `k`
abbrev pub registers : (ℕ → List Bool) → List Part → List (List Bool)
registers pins [] = []
registers pins (p ∷ parts) = register_of p.kind (pins 0) ∷ registers (λ k. pins (suc k)) parts

-- The bits that a data scan captures while the row is in the latches. The first bit is nearest TDO.
abbrev pub row_captured : RawBoard → FaultSet → TestRow → Choice → List Bool
row_captured board faults row choice = joined (registers (board_wiring board faults (row_states board row) choice) board.chain)

-- Each scan of the second list passes with the bits that the cells capture, whatever the free bits are. The cells
-- capture while the row of the previous scan is in the latches. For the first scan, this is `row`. The first list gives
-- the rows that the scans shift in. Items past the end of the shorter list are ignored.
abbrev pub CapturesPass : RawBoard → FaultSet → TestRow → List RowScan → List Scan → Type 0
CapturesPass board faults row [] scans = Unit {0}
CapturesPass board faults row (t ∷ ts) [] = Unit {0}
CapturesPass board faults row (t ∷ ts) (scan ∷ scans) =
    ((choice : Choice) → scan_passes scan.bits (row_captured board faults row choice) ≡ true) × CapturesPass board faults t.now ts scans

-- the two bits are equal if they are compared
abbrev pub AgreeAt : Option Bool → Bool → Bool → Type 0
AgreeAt None x y = Unit {0}
AgreeAt (Some expected) x y = x ≡ y

-- The two lists of captured bits agree wherever the scan compares a bit. Positions past the end of the shortest list are
-- ignored.
abbrev pub AgreeWhereCompared : List ScanBit → List Bool → List Bool → Type 0
AgreeWhereCompared [] xs ys = Unit {0}
AgreeWhereCompared (bit ∷ bits) [] ys = Unit {0}
AgreeWhereCompared (bit ∷ bits) (x ∷ xs) [] = Unit {0}
AgreeWhereCompared (bit ∷ bits) (x ∷ xs) (y ∷ ys) = AgreeAt bit.expect x y × AgreeWhereCompared bits xs ys

-- no open pin is on a shorted net
abbrev pub NoOpenShorted : FaultSet → Type 0
NoOpenShorted faults = (n k i : ℕ) → faults.short n ≡ Some k → faults.opened n i ≡ None
