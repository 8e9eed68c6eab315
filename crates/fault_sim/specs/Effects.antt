-- The effect of a single fault on the compared cells of a net in the rows of a pass. No pass observes a
-- guarded net, for example a net that carries a supply.
use Rattle.std.specs.Prelude.{ℕ, ◌==◌, Bool, false, not, cond, ◌||◌, List, Option, Some, None, option_map, unwrap_or, slice_get, slice_index_or}
use Rattle.board_defs.specs.declared.board.Ctl.{Ctl}
use Rattle.board_defs.specs.declared.board.RawBoard.{RawBoard}
use Rattle.board_defs.specs.declared.fault.Kind.{Kind}
use Rattle.board_defs.specs.declared.fault.Single.{Single}
use Rattle.board_defs.specs.declared.fault.Single.TheVariants.{StuckNet, OpenPin, Short}
use Rattle.board_defs.specs.Pins.{is_same}
use Rattle.board_defs.specs.Settings.{holds, same_ctl}
use Rattle.tap_defs.specs.board.NetBits.{bit_or_else}
use Rattle.tap_defs.specs.board.TestRows.{code_bit}
use Rattle.tap_defs.specs.board.SingleBits.{pulled_to, shorted}
use Rattle.net_pins.specs.declared.nets.NetDriver.{NetDriver}
use Rattle.net_pins.specs.declared.nets.ReaderCell.{ReaderCell}
use Rattle.net_pins.specs.Enabled.{enabled_on, is_read_beside, readers_on}
use Rattle.plan_tables.specs.declared.tables.PlanTables.{PlanTables}
use Rattle.fault_sim.specs.declared.feed.Source.{Source}
use Rattle.fault_sim.specs.declared.feed.Source.TheVariants.{Code, Fixed}
use Rattle.fault_sim.specs.declared.feed.Feed.{Feed}
use Rattle.fault_sim.specs.declared.feed.FedNet.{FedNet}
use Rattle.fault_sim.specs.declared.effect.Effect.{Effect}
use Rattle.fault_sim.specs.declared.effect.Effect.TheVariants.{Plain, Constant, AtPin, Shorted}

-- the first net of a short, or the only net of any other fault
abbrev pub first_net : Single → ℕ
first_net (StuckNet net value) = net
first_net (OpenPin pin value) = pin.net
first_net (Short a b kind) = a

-- the second net of a short, or the only net of any other fault
abbrev pub second_net : Single → ℕ
second_net (StuckNet net value) = net
second_net (OpenPin pin value) = pin.net
second_net (Short a b kind) = b

-- the bit of a driver's cell in row j
abbrev pub source_bit : Source → ℕ → Bool
source_bit (Code code) j = code_bit code j
source_bit (Fixed bit) j = bit

-- The bit that a driver gives its net if the driver's cell has the bit `bit`, or `None` if the driver is off then. `off` is the bit of the
-- driver's own cell that switches the driver off, or `None` if neither bit does.
abbrev pub unless_off : Option Bool → Bool → Option Bool
unless_off None bit = Some bit
unless_off (Some off) bit = cond (is_same bit off) None (Some bit)

-- the bit to which a net is driven in row j, or `None` if the net is not driven in this row
abbrev pub feed_bit : Option Feed → ℕ → Option Bool
feed_bit None j = None
feed_bit (Some feed) j = unless_off feed.off (source_bit feed.source j)

-- true if `own`, the driver's own cell taken as a control, is the driver's control; false if the driver has
-- no control
abbrev pub is_own : Ctl → Option Ctl → Bool
is_own own None = false
is_own own (Some c) = same_ctl c own

-- the compared cells of net n
abbrev pub plan_readers : PlanTables → ℕ → List ReaderCell
plan_readers plan n = readers_on plan.nets n

-- the code of net n, or 0 if no pass observes the net
abbrev pub code_in : PlanTables → ℕ → ℕ
code_in plan n = slice_index_or plan.codes n 0

-- the driver that a pass enables on net n, or `None` if it enables none or the net is guarded
abbrev pub driver_in : PlanTables → List Ctl → ℕ → Option NetDriver
driver_in plan pass n = enabled_on plan.nets (holds pass) n

-- the place of a driver's pin, that is, its index in the net's list of pins, or `None` if there is no driver
abbrev pub place_of_driver : Option NetDriver → Option ℕ
place_of_driver driver = option_map (λ d. d.place) driver

-- The bit that a driver's cell has in all rows of a pass, if the cell does not carry the code of a net. It is the cell's bit in the quiet
-- row, which disables every controlled driver and is in the latches before each pass. If the pass holds the cell as a control, the bit is
-- inverted.
abbrev pub steady_in : PlanTables → List Ctl → NetDriver → Bool
steady_in plan pass d =
    cond (holds pass d.own) (not (slice_index_or plan.quiet.bits d.position false))
    (slice_index_or plan.quiet.bits d.position false)

-- The bits of the cell of driver d, which a pass enables on net n. If another pin of the net has a compared cell, the pass observes the
-- net, and the driver's cell carries the net's code. Otherwise the driver's cell has the same bit in all rows.
abbrev pub source_in : PlanTables → List Ctl → ℕ → NetDriver → Source
source_in plan pass n d = cond (is_read_beside (plan_readers plan n) d) (Code (code_in plan n)) (Fixed (steady_in plan pass d))

-- The feed of net n, which has the pull `pull`: the bits that enabled driver d gives the net in the rows of the pass. If d's own cell
-- controls d, the driver is off whenever the cell has the bit to which the net is pulled.
abbrev pub feed_by : PlanTables → List Ctl → ℕ → Option Bool → NetDriver → Feed
feed_by plan pass n pull d = record { source = source_in plan pass n d; off = cond (is_own d.own d.ctl) pull None }

-- The feed that a pass gives net n, or `None` if the pass enables no driver on the net or the net is guarded. `pull` is the net's pull.
abbrev pub feed_in : PlanTables → List Ctl → ℕ → Option Bool → Option Feed
feed_in plan pass n pull = option_map (feed_by plan pass n pull) (driver_in plan pass n)

-- the bit to which a net is pulled, or `None` if the net has no pull
abbrev pub pull_in : RawBoard → ℕ → Option Bool
pull_in board n = pulled_to (slice_get board.nets n)

-- the feed that a pass gives net n of the board, or `None` if the pass enables no driver on the net or the net is guarded
abbrev pub net_feed : RawBoard → PlanTables → List Ctl → ℕ → Option Feed
net_feed board plan pass n = feed_in plan pass n (pull_in board n)

-- net n in a pass of the board: its feed and its pull
abbrev pub fed_net : RawBoard → PlanTables → List Ctl → ℕ → FedNet
fed_net board plan pass n = record { feed = net_feed board plan pass n; pull = pull_in board n }

-- The effect of an open pin on its net. If the pass enables the driver of this pin, all compared cells of the net have the bit to which the
-- net is pulled, or `value` if the net has no pull. Otherwise only the compared cells of this pin are affected. They have the bit `value`.
abbrev pub open_effect : Option ℕ → ℕ → Bool → Option Bool → Effect
open_effect None place value pull = AtPin place value
open_effect (Some driver) place value pull = cond (driver == place) (Constant (unwrap_or pull value)) (AtPin place value)

-- the effect of a short on its two nets
abbrev pub shorted_effect : Kind → FedNet → FedNet → Effect
shorted_effect kind first second = Shorted kind first.feed second.feed (shorted kind first.pull second.pull)

-- the effect of a short of nets a and b on both nets
abbrev pub effect_of_short : RawBoard → PlanTables → List Ctl → ℕ → ℕ → Kind → Effect
effect_of_short board plan pass a b kind = shorted_effect kind (fed_net board plan pass a) (fed_net board plan pass b)

-- the effect of a single fault on net n in the rows of a pass
abbrev pub effect_of : RawBoard → PlanTables → List Ctl → Single → ℕ → Effect
effect_of board plan pass (StuckNet net value) n = cond (n == net) (Constant value) Plain
effect_of board plan pass (OpenPin pin value) n =
    cond (n == pin.net)
    (open_effect (place_of_driver (driver_in plan pass n)) pin.place value (pull_in board n)) Plain
effect_of board plan pass (Short a b kind) n = cond ((n == a) || (n == b)) (effect_of_short board plan pass a b kind) Plain

-- the effect of a fault on net n in the rows of a pass; without a fault, the cells have the expected bits
abbrev pub effect_in : RawBoard → PlanTables → List Ctl → Option Single → ℕ → Effect
effect_in board plan pass None n = Plain
effect_in board plan pass (Some single) n = effect_of board plan pass single n

-- the bit that, in row j, the effect gives the compared cells of the pin at this place; `expected` is the bit that the test expects
abbrev pub effect_bit : Effect → ℕ → ℕ → Bool → Bool
effect_bit Plain j place expected = expected
effect_bit (Constant bit) j place expected = bit
effect_bit (AtPin other bit) j place expected = cond (place == other) bit expected
effect_bit (Shorted kind first second pull) j place expected =
    unwrap_or (bit_or_else (shorted kind (feed_bit first j) (feed_bit second j)) pull) expected
