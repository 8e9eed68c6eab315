-- The nets that the passes of a plan observe, and the pins that these passes test. A pass observes a net if it enables a driver on the net
-- and some compared cell reads another pin of the net.
use Rattle.std.specs.Prelude.{ℕ, nat_lt, Bool, false, true, ◌&&◌, cond, List, [], ◌∷◌, length, map, filter, fold, replicate, slice_index_or, slice_get, slice_set, Option, Some, None}
use Rattle.std.specs.List.{list_any, flat_map, range_with_len}
use Rattle.board_defs.specs.declared.board.Ctl.{Ctl}
use Rattle.board_defs.specs.declared.board.Net.{Net}
use Rattle.board_defs.specs.declared.board.PinRef.{PinRef}
use Rattle.board_defs.specs.declared.board.RawBoard.{RawBoard}
use Rattle.net_pins.specs.declared.nets.NetDriver.{NetDriver}
use Rattle.net_pins.specs.declared.nets.ReaderCell.{ReaderCell}
use Rattle.net_pins.specs.Enabled.{is_read_beside}
use Rattle.plan_tables.specs.declared.tables.PlanTables.{PlanTables}
use Rattle.plan_tables.specs.Assigned.{assigned}
use Rattle.fault_sim.specs.Effects.{driver_in, plan_readers, code_in}

-- the nets below `count` that have a code
abbrev pub coded_nets : PlanTables → ℕ → List ℕ
coded_nets plan count = filter (λ n. nat_lt 0 (code_in plan n)) (range_with_len 0 count)

-- true if a pass that enables this driver observes the driver's net, whose compared cells are given; false if
-- there is no driver
abbrev pub observes_by : Option NetDriver → List ReaderCell → Bool
observes_by None readers = false
observes_by (Some d) readers = is_read_beside readers d

-- true if the pass observes net n
abbrev pub observes_in : PlanTables → List Ctl → ℕ → Bool
observes_in plan pass n = observes_by (driver_in plan pass n) (plan_readers plan n)

-- true if some pass observes both nets
abbrev pub paired_in : PlanTables → ℕ → ℕ → Bool
paired_in plan a b = list_any (λ pass. observes_in plan pass a && observes_in plan pass b) plan.passes

-- `flags`, with the flag of each pin that these cells read set to true
abbrev pub marked_readers : List Bool → List ReaderCell → List Bool
marked_readers flags readers = assigned (λ r. r.place) (λ r. true) flags readers

-- `flags`, with the flag of each pin that a pass tests set to true. If the pass observes the net, it tests the pin of the enabled driver
-- and all pins that the cells read.
abbrev pub marked_by : Option NetDriver → List ReaderCell → List Bool → List Bool
marked_by None readers flags = flags
marked_by (Some d) readers flags = cond (is_read_beside readers d) (marked_readers (slice_set flags d.place true) readers) flags

-- like `marked_by`, for the driver that the pass enables on net n and the cells that read this net
abbrev pub marked_in : PlanTables → ℕ → List Bool → List Ctl → List Bool
marked_in plan n flags pass = marked_by (driver_in plan pass n) (plan_readers plan n) flags

-- for each of the first `count` pins of a net, a flag that is true if some pass tests the pin
abbrev pub tested_flags : PlanTables → ℕ → ℕ → List Bool
tested_flags plan count n = fold (marked_in plan n) (replicate count false) plan.passes

-- a list with only pin `place` of net n if the pin is tested, and otherwise the empty list
abbrev pub pin_where : Bool → ℕ → ℕ → List PinRef
pin_where is_tested n place = cond is_tested (record { net = n; place = place } ∷ []) []

-- the pins whose flags are true, among the first `count` pins of a net
abbrev pub flagged_before : ℕ → List Bool → ℕ → List PinRef
flagged_before n flags count =
    map (λ place. record { net = n; place = place })
    (filter (λ place. slice_index_or flags place false) (range_with_len 0 count))

-- the pins of net n whose flags are true
abbrev pub flagged_pins : ℕ → List Bool → List PinRef
flagged_pins n flags = flagged_before n flags (length flags)

-- the number of pins of a net, or 0 if there is no such net
abbrev pub pin_count_of : Option Net → ℕ
pin_count_of None = 0
pin_count_of (Some net) = length net.pins

abbrev pub pin_count : RawBoard → ℕ → ℕ
pin_count board n = pin_count_of (slice_get board.nets n)

-- the pins of a net that some pass tests
abbrev pub tested_pins_of : RawBoard → PlanTables → ℕ → List PinRef
tested_pins_of board plan n = flagged_pins n (tested_flags plan (pin_count board n) n)

-- the pins that some pass tests, among the pins of the first `count` nets
abbrev pub all_pins : RawBoard → PlanTables → ℕ → List PinRef
all_pins board plan count = flat_map (tested_pins_of board plan) (range_with_len 0 count)
