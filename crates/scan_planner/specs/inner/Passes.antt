-- A row after the bits of a pass's own drivers are set in it.
use Rattle.std.specs.Prelude.{Bool, List, fold}
use Rattle.board_defs.specs.declared.board.RawBoard.{RawBoard}
use Rattle.board_defs.specs.declared.board.Ctl.{Ctl}
use Rattle.plan_tables.specs.declared.tables.DriverCell.{DriverCell}
use Rattle.plan_tables.specs.declared.tables.PlanTables.{PlanTables}
use Rattle.plan_tables.specs.Assigned.{assigned, set_compared}
use Rattle.plan_tables.specs.Tables.{controlled}

-- The row after the bit of each of the pass's own drivers is set in the driver's cell. The pass's own drivers
-- are the drivers by which it observes nets, except the steady drivers. Every pass observes nets by the
-- steady drivers.
abbrev pub driven : RawBoard → PlanTables → (DriverCell → Bool) → List Bool → List Ctl → List Bool
driven board plan bit bits pass =
    fold (λ done c. assigned (λ d. d.position) bit done (controlled board plan.by_control.rows c))
    (assigned (λ d. d.position) bit bits plan.by_control.always) pass

-- the row after the bit of each of the pass's own drivers is set at the compared cells of the driver's net on other pins
abbrev pub with_compared_bits : RawBoard → PlanTables → (DriverCell → Bool) → List Bool → List Ctl → List Bool
with_compared_bits board plan bit bits pass =
    fold
    (λ done c. set_compared bit plan.nets.readers done (controlled board plan.by_control.rows c))
    (set_compared bit plan.nets.readers bits plan.by_control.always) pass
