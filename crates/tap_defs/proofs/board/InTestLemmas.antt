-- The state of the chain between two scans of a board's test, and scans that are wrong.
use Rattle.std.proofs.Common.{◌≡◌, false, [], ◌⊎◌, List, ◌∷◌, Bool, map}
use Rattle.board_defs.specs.declared.board.RawBoard.{RawBoard}
use Rattle.board_defs.specs.declared.board.PartKind.{PartKind}
use Rattle.board_defs.specs.declared.board.PartKind.TheVariants.{Described, Bypass as WithoutDescription}
use Rattle.tap_defs.specs.declared.tap.TapState.TheVariants.{RunTestIdle}
use Rattle.tap_defs.specs.board.BoardScans.{row_bits, RowScan}
use Rattle.tap_defs.specs.board.RowCaptures.{registers}
use Rattle.tap_defs.specs.board.OnBoard.{test_logic, board_wiring}
use Rattle.tap_defs.specs.chain.Run.{Choice}
use Rattle.tap_defs.specs.board.FaultSet.{FaultSet}
use Rattle.tap_defs.specs.chain.Chain.{ChainPart}
use Rattle.tap_defs.specs.chain.ChainRegisters.{AllSelectingIn, all_held, bits_at_pins}
use Rattle.tap_defs.specs.chain.Transport.{scan_passes}
use Rattle.tap_defs.specs.chain.Scan.{tdi_bits, joined}
use Rattle.tap_defs.specs.chain.TestLogic.{Bypass, Instruction, Extest}

abbrev pub in_test : PartKind → Instruction
in_test (Described device) = Extest
in_test (WithoutDescription n) = Bypass

-- The state of the chain between two scans. Each described part has EXTEST, each other part has BYPASS, and `row` is in
-- the latches.
pub record InTest (board : RawBoard) (row : List (List Bool)) (chain : List ChainPart) : Type 0 where
  pub idle : AllSelectingIn RunTestIdle chain
  pub logics_are : map (λ n. n.logic) chain ≡ map (λ p. test_logic p.kind) board.chain
  pub currents : map (λ n. n.state.current) chain ≡ map (λ p. in_test p.kind) board.chain
  pub stays : all_held chain ≡ row

abbrev pub shifted_row : RawBoard → RowScan → List (List Bool)
shifted_row board t = map tdi_bits (row_bits board t)

-- A scan is wrong if it finds a wrong bit in every run in which `row` is in the latches before the scan.
abbrev pub IsWrong : RawBoard → FaultSet → List (List Bool) → RowScan → Type 0
IsWrong board faults row t =
    (chain : List ChainPart) (free : Choice) → InTest board row chain
    → scan_passes (joined (row_bits board t))
    (joined (registers (bits_at_pins (board_wiring board faults) free chain) board.chain))
    ≡ false

-- at least one of these scans is wrong
abbrev pub SomeWrong : RawBoard → FaultSet → List (List Bool) → List RowScan → Type 0
SomeWrong board faults row [] = ⊥
SomeWrong board faults row (t ∷ ts) = IsWrong board faults row t ⊎ SomeWrong board faults (shifted_row board t) ts
