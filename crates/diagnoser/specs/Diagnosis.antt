-- The single faults that explain a log of a board's test.
use Rattle.std.specs.Prelude.{◌<◌, Bool, List, length}
use Rattle.board_defs.specs.declared.board.RawBoard.{RawBoard}
use Rattle.board_defs.specs.declared.fault.Single.{Single}
use Rattle.board_defs.specs.declared.fault.Single.TheVariants.{StuckNet, OpenPin, Short}
use Rattle.board_defs.specs.Faults.{singles}
use Rattle.board_defs.specs.Pins.{IsOnBoard}
use Rattle.tap_defs.specs.board.Explaining.{Explains}
use Rattle.fault_sim.specs.Diagnosis.{Picks}

-- the single faults of the board that explain the log, each once and in the order of the list `singles board`
abbrev pub AreExplaining : RawBoard → List (List Bool) → List Single → Type 0
AreExplaining board log faults = Picks (λ single. Explains board single log) (singles board) faults

-- the nets and the pin of a fault are on the board
abbrev pub IsFaultOnBoard : RawBoard → Single → Type 0
IsFaultOnBoard board (StuckNet net value) = net < length board.nets
IsFaultOnBoard board (OpenPin pin value) = IsOnBoard board pin
IsFaultOnBoard board (Short a b kind) = (a < length board.nets) × (b < length board.nets)
