-- The conditions under which a log shows the effect of a single fault. A pass of a log shows an effect on a
-- net if the net's compared cells have, in the rows of the pass, the bits that the effect gives them. Cells
-- that read the enabled driver's pin are not checked. If the pass enables no driver on the net, or if the net
-- is guarded, the pass shows every effect on the net. No pass observes a guarded net, for example a net that
-- carries a supply.
use Rattle.std.specs.Prelude.{◌≡◌, ℕ, ◌+◌, ◌*◌, ◌<◌, ◌==◌, Bool, true, ◌||◌, List, [], length, Option, Some, None, slice_index_or}
use Rattle.std.specs.List.{list_all}
use Rattle.board_defs.specs.declared.board.Ctl.{Ctl}
use Rattle.board_defs.specs.declared.board.RawBoard.{RawBoard}
use Rattle.board_defs.specs.declared.fault.Single.{Single}
use Rattle.board_defs.specs.Pins.{is_same}
use Rattle.tap_defs.specs.board.TestRows.{code_bit}
use Rattle.net_pins.specs.declared.nets.ReaderCell.{ReaderCell}
use Rattle.plan_tables.specs.declared.tables.PlanTables.{PlanTables}
use Rattle.response_log.specs.LogRows.{bit_in}
use Rattle.fault_sim.specs.declared.effect.Effect.{Effect}
use Rattle.fault_sim.specs.Effects.{driver_in, place_of_driver, plan_readers, code_in, effect_in, effect_bit, first_net, second_net}

-- True if the cell has, in row j of a pass, the bit that the effect gives it, or if the cell reads the
-- enabled driver's pin. `row` is the number of this row in the log, and `driver` is the place of the driver's
-- pin, that is, its index in the net's list of pins.
abbrev pub cell_shows : List (List Bool) → ℕ → ℕ → Effect → ℕ → Bool → ReaderCell → Bool
cell_shows log row driver effect j expected r =
    (r.place == driver)
    || is_same (bit_in log row r.position) (effect_bit effect j r.place expected)

-- In each of `width` rows of the log, from row `first` on, every cell of `readers` has the bit that the effect gives it. The expected bits
-- are the bits of `code`. Cells that read the enabled driver's pin are not checked.
abbrev pub ShowRows : List (List Bool) → ℕ → ℕ → ℕ → List ReaderCell → Effect → ℕ → Type 0
ShowRows log first width code readers effect driver =
    (j : ℕ) → j < width
    → list_all (cell_shows log (first + j) driver effect j (code_bit code j)) readers ≡ true

-- Like `ShowRows`, but `driver` is `None` if the pass enables no driver on the net or the net is guarded. In
-- that case, nothing is required.
abbrev pub ShowBy : List (List Bool) → ℕ → ℕ → ℕ → List ReaderCell → Effect → Option ℕ → Type 0
ShowBy log first width code readers effect None = Unit {0}
ShowBy log first width code readers effect (Some driver) = ShowRows log first width code readers effect driver

-- Pass x of the log shows an effect on net n. `driver` is the place of the enabled driver's pin, or `None` if
-- the pass enables no driver on the net or the net is guarded.
abbrev pub ShowsEffect : PlanTables → List (List Bool) → ℕ → ℕ → Effect → Option ℕ → Type 0
ShowsEffect plan log x n effect driver = ShowBy log (x * plan.width) plan.width (code_in plan n) (plan_readers plan n) effect driver

-- This pass of the log shows the effect of the fault on net n. The rows of the pass begin at row `first` of the log. Without a fault, the
-- cells must show the expected bits.
abbrev pub NetShows : RawBoard → PlanTables → Option Single → List (List Bool) → ℕ → List Ctl → ℕ → Type 0
NetShows board plan fault log first pass n =
    ShowBy log first plan.width (code_in plan n) (plan_readers plan n)
    (effect_in board plan pass fault n) (place_of_driver (driver_in plan pass n))

-- like `NetShows`, but takes the number of the pass
abbrev pub Shows : RawBoard → PlanTables → Option Single → List (List Bool) → ℕ → ℕ → Type 0
Shows board plan fault log x n = NetShows board plan fault log (x * plan.width) (slice_index_or plan.passes x []) n

-- pass x of the log shows the effect of a single fault on the fault's own nets
abbrev pub ShowsOwnIn : RawBoard → PlanTables → Single → List (List Bool) → ℕ → Type 0
ShowsOwnIn board plan single log x =
    Shows board plan (Some single) log x (first_net single)
    × Shows board plan (Some single) log x (second_net single)

-- every pass of the log shows the effect of a single fault on the fault's own nets
abbrev pub ShowsOwn : RawBoard → PlanTables → Single → List (List Bool) → Type 0
ShowsOwn board plan single log = (x : ℕ) → x < length plan.passes → ShowsOwnIn board plan single log x

-- every pass of the log shows the effect of the fault on net n
abbrev pub ShowsOn : RawBoard → PlanTables → Option Single → List (List Bool) → ℕ → Type 0
ShowsOn board plan fault log n = (x : ℕ) → x < length plan.passes → Shows board plan fault log x n

-- pass x of the log shows the effect of the fault on every net
abbrev pub ShowsIn : RawBoard → PlanTables → Option Single → List (List Bool) → ℕ → Type 0
ShowsIn board plan fault log x = (n : ℕ) → n < length board.nets → Shows board plan fault log x n

-- every pass of the log shows the effect of the fault on every net
abbrev pub ShowsAll : RawBoard → PlanTables → Option Single → List (List Bool) → Type 0
ShowsAll board plan fault log = (x : ℕ) → x < length plan.passes → ShowsIn board plan fault log x
