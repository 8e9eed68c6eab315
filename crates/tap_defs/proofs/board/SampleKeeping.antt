-- Samples of the cells that must keep their safe values, and of wrong tests, each of which breaks a condition of `IsQuiet`.
use Rattle.std.proofs.Common.{◌≡◌, ℕ, zero, suc, ◌==◌, Bool, true, false, not, List, [], ◌∷◌, ◌++◌, map, take, drop, Option, Some, None, refl, inl, inr, arith}
use Rattle.std.specs.Prelude.{codes, cond}
use Rattle.std.specs.List.{list_any, enumerate_from}
use Rattle.board_defs.specs.declared.device.Symbol.{Symbol}
use Rattle.board_defs.specs.declared.device.Symbol.TheVariants.{Zero, One, Any}
use Rattle.board_defs.specs.declared.device.Mode.TheVariants.{Inward, Outward}
use Rattle.board_defs.specs.declared.device.Role.{Role}
use Rattle.board_defs.specs.declared.device.Role.TheVariants.{Input, Output2, Output3, Control as ControlRole, Internal}
use Rattle.board_defs.specs.declared.device.Control.{Control}
use Rattle.board_defs.specs.declared.device.Cell.{Cell}
use Rattle.board_defs.specs.declared.device.RawDevice.{RawDevice}
use Rattle.board_defs.specs.declared.board.PartKind.TheVariants.{Described}
use Rattle.board_defs.specs.declared.board.RawBoard.{RawBoard}
use Rattle.board_defs.specs.Settings.{SwitchesAt}
use Rattle.tap_defs.specs.chain.TestLogic.{Instruction, Extest, Sample}
use Rattle.tap_defs.specs.chain.Part.{PinState}
use Rattle.tap_defs.specs.chain.Chain.{ChainPart, pin_states}
use Rattle.tap_defs.specs.chain.Run.{Clock, choices_after, run, shown}
use Rattle.tap_defs.specs.chain.Codes.{sent, instructs}
use Rattle.tap_defs.specs.chain.Clocks.{test_clocks}
use Rattle.tap_defs.specs.board.FaultSet.{no_faults}
use Rattle.tap_defs.specs.board.OnBoard.{test_logic, board_wiring, IsBoardChain}
use Rattle.tap_defs.specs.board.BoardScans.{svf_scans}
use Rattle.tap_defs.specs.board.Quiet.{controls_driver, drives_unguarded, safe_bit, latched_setting, IsSafelySet, KeepsSafeValues, IsQuiet}
use Rattle.tap_defs.proofs.chain.SampleTexts.{on, off, sdr}
use Rattle.tap_defs.proofs.board.SampleBoards.{port_bit, one_bit, entry, by, device, ts, od, rcv1, pin, foreign, net, board}
use Rattle.tap_defs.proofs.board.SampleQuiet.{moment_at, no_set, resting, choices}

-- an entry with this safe value
abbrev kept : ℕ → Role → Option ℕ → Symbol → Option Control → Cell
kept num role bit safe ctl = record { num = num; role = role; bit = bit; safe = safe; ctl = ctl }

-- Cell 0 drives pin 1. Cell 4 drives pin 2 with control cell 5. Cells 1 and 2 are internal, and cell 3 is a control cell that
-- controls nothing. Cell 6 reads pin 3. Cell 7 is the driving cell of a port without a pin, with control cell 8. Cells 9 and 10
-- drive pins 4 and 5.
abbrev pub keeper : RawDevice
keeper = device
    (port_bit 4 None Outward (codes "1") false ∷ port_bit 5 None Outward (codes "2") false ∷ port_bit 6 None Inward (codes "3") false
    ∷ record (port_bit 7 None Outward [] false) { pin = None } ∷ port_bit 8 None Outward (codes "4")
    false ∷ port_bit 9 None Outward (codes "5") false ∷ [])
    (kept 0 Output2 (Some 4) One None ∷ kept 1 Internal None One None ∷ kept 2 Internal None Zero None ∷ kept 3 ControlRole None One None
    ∷ kept 4 Output3 (Some 5) One (by 5) ∷ kept 5 ControlRole None One None
    ∷ kept 6 Input (Some 6) One None ∷ kept 7 Output3 (Some 7) Any (by 8)
    ∷ kept 8 ControlRole None One None ∷ kept 9 Output2 (Some 8) One None ∷ kept 10 Output2 (Some 9) One None ∷ []) 11

-- Pin 1 is on one unguarded net, and pins 2 and 3 are on another. Pin 4 is on a net with a dark pin (a pin
-- that may drive the net although no setting controls it), and pin 5 is on no net.
abbrev pub keeping : RawBoard
keeping = board (Described keeper ∷ []) (net (pin 0 0 ∷ []) ∷ net (pin 0 1 ∷ pin 0 2 ∷ []) ∷ net (pin 0 4 ∷ foreign ∷ []) ∷ [])

abbrev pub cells : List ℕ
cells = 0 ∷ 1 ∷ 2 ∷ 3 ∷ 4 ∷ 5 ∷ 6 ∷ 7 ∷ 8 ∷ 9 ∷ 10 ∷ []

controlling : map (λ cell. list_any (controls_driver keeping 0 cell) keeper.cells) cells ≡ map (λ cell. cell == 5) cells
controlling = refl

driving_unguarded : map (λ cell. list_any (drives_unguarded keeping 0 cell) keeper.cells) cells
    ≡ true ∷ false ∷ false ∷ false ∷ true ∷ false ∷ false ∷ false ∷ false ∷ false ∷ false ∷ []
driving_unguarded = refl

safe_bits : map (safe_bit keeper) cells ≡
    Some on ∷ Some on ∷ Some off ∷ Some on ∷ Some on ∷ Some on ∷ Some on ∷ None ∷ Some on ∷ Some on ∷ Some on ∷ []
safe_bits = refl

-- The visible state in which the latch of `cell` has the opposite of the cell's safe value. Every other latch has the
-- safe value of its cell, with X as 0.
abbrev but : ℕ → List PinState
but cell = record {
  current = Extest;
  latches = map (λ e. cond (e.0 == cell) (not e.1) e.1) (enumerate_from 0 (on ∷ on ∷ off ∷ on ∷ on ∷ on ∷ on ∷ off ∷ on ∷ on ∷ on ∷ []));
} ∷ []

internal_high : KeepsSafeValues keeping (but 1) → ⊥
internal_high keeps = let low : false ≡ true = keeps 0 1 keeper true refl refl (omega arith) refl refl refl in cc low

internal_low : KeepsSafeValues keeping (but 2) → ⊥
internal_low keeps = let high : true ≡ false = keeps 0 2 keeper false refl refl (omega arith) refl refl refl in cc high

control_of_nothing : KeepsSafeValues keeping (but 3) → ⊥
control_of_nothing keeps = let low : false ≡ true = keeps 0 3 keeper true refl refl (omega arith) refl refl refl in cc low

reading_alone : KeepsSafeValues keeping (but 6) → ⊥
reading_alone keeps = let low : false ≡ true = keeps 0 6 keeper true refl refl (omega arith) refl refl refl in cc low

control_without_pin : KeepsSafeValues keeping (but 8) → ⊥
control_without_pin keeps = let low : false ≡ true = keeps 0 8 keeper true refl refl (omega arith) refl refl refl in cc low

driver_of_guarded : KeepsSafeValues keeping (but 9) → ⊥
driver_of_guarded keeps = let low : false ≡ true = keeps 0 9 keeper true refl refl (omega arith) refl refl refl in cc low

driver_of_no_net : KeepsSafeValues keeping (but 10) → ⊥
driver_of_no_net keeps = let low : false ≡ true = keeps 0 10 keeper true refl refl (omega arith) refl refl refl in cc low

-- For each cell, true if the setting that the latches show contains it, while every latch has this bit. Cell 5 is in
-- the setting if the bit is 0. Cell 8 never is, because its driver has no pin.
abbrev latched : Bool → List Bool
latched bit =
    map
    (λ cell. latched_setting keeping
    (record { current = Extest; latches = map (λ k. bit) cells } ∷ [])
    (record { part = 0; cell = cell })) cells

latched_low : latched off ≡ map (λ cell. cell == 5) cells
latched_low = refl

latched_high : latched on ≡ map (λ cell. false) cells
latched_high = refl

-- The visible state of a part with this instruction and these latches. In `half_in_test` one of two parts has EXTEST
-- and the other does not, which breaks condition (a).
abbrev shows : Instruction → List Bool → PinState
shows instruction latches = record { current = instruction; latches = latches }

abbrev inner : RawDevice
inner = device (one_bit Outward) (entry 0 Output2 4 None ∷ kept 1 Internal None One None ∷ []) 2

abbrev wire : RawBoard
wire = board (Described inner ∷ Described rcv1 ∷ []) (net (pin 0 0 ∷ pin 1 0 ∷ []) ∷ [])

abbrev half_in_test : List PinState
half_in_test = shows Extest (off ∷ on ∷ []) ∷ shows Sample (off ∷ []) ∷ []

half_unsafe : IsSafelySet wire half_in_test → ⊥
half_unsafe (inl none) = let z : true ≡ false = none 0 inner refl in cc z
half_unsafe (inr all) = let z : false ≡ true = all.0 1 rcv1 refl in cc z

-- a board with a controlled driver on a net with a dark pin, which may drive the net although no setting
-- controls it
abbrev dark : RawBoard
dark = board (Described ts ∷ Described rcv1 ∷ []) (net (pin 0 0 ∷ pin 1 0 ∷ foreign ∷ []) ∷ [])

abbrev dark_on : List PinState
dark_on = shows Extest (off ∷ off ∷ []) ∷ shows Extest (off ∷ []) ∷ []

dark_unsafe : IsSafelySet dark dark_on → ⊥
dark_unsafe (inl none) = let z : true ≡ false = none 0 ts refl in cc z
dark_unsafe (inr all) = let z : true ≡ false = all.1.free 0 _ 0 (pin 0 0) (record { part = 0; cell = 1 }) refl refl refl refl in cc z

-- a board on which a one-sided driver, which drives only 0, is on a net without a pull
abbrev unpulled : RawBoard
unpulled = board (Described od ∷ Described rcv1 ∷ []) (net (pin 0 0 ∷ pin 1 0 ∷ []) ∷ [])

abbrev one_sided_on : List PinState
one_sided_on = shows Extest (off ∷ []) ∷ shows Extest (off ∷ []) ∷ []

no_switch : SwitchesAt unpulled (record { part = 0; bit = 4 }) true → ⊥
no_switch (zero, n, i, p, e, f, g, h, pull) = cc (e, pull)
no_switch (suc k, n, i, p, e, f, g, h, pull) = cc e

one_sided_unsafe : IsSafelySet unpulled one_sided_on → ⊥
one_sided_unsafe (inl none) = let z : true ≡ false = none 0 od refl in cc z
one_sided_unsafe (inr all) = no_switch (all.1.own (record { part = 0; bit = 4 }) _ _ refl refl refl refl refl)

-- chains of two parts in Run-Test/Idle, in which all latches are 0
abbrev two_parts : RawDevice → List ChainPart
two_parts first =
    record { logic = test_logic (Described first); state = resting (off ∷ off ∷ []) }
    ∷ record { logic = test_logic (Described rcv1); state = resting (off ∷ []) } ∷ []

wire_start : IsBoardChain wire (two_parts inner)
wire_start = record {
  logics_are = refl;
  states_are = (
    record { ir = refl; boundary = refl; identification = refl; latches = refl },
    (record { ir = refl; boundary = refl; identification = refl; latches = refl }, tt),
  );
}

dark_start : IsBoardChain dark (two_parts ts)
dark_start = record {
  logics_are = refl;
  states_are = (
    record { ir = refl; boundary = refl; identification = refl; latches = refl },
    (record { ir = refl; boundary = refl; identification = refl; latches = refl }, tt),
  );
}

abbrev after_reset : RawBoard → RawDevice → List Clock → List PinState
after_reset b first clocks = pin_states (run (board_wiring b no_faults) (take 5 clocks) choices (two_parts first))

abbrev later_moments : RawBoard → RawDevice → List Clock → List (List PinState)
later_moments b first clocks =
    shown (board_wiring b no_faults) (drop 5 clocks) (choices_after (take 5 clocks) choices)
    (run (board_wiring b no_faults) (take 5 clocks) choices (two_parts first))

-- a test that breaks condition (a) in the update of its third scan, because one part then still has SAMPLE
abbrev one_left : List Clock
one_left = test_clocks (take 2 (svf_scans wire) ++ instructs ((off ∷ off ∷ []) ∷ (off ∷ on ∷ []) ∷ []) ∷ [])

all_in_extest : IsQuiet wire one_left → ⊥
unfolding run shown
all_in_extest quiet =
    let moments = (quiet no_faults (two_parts inner) choices (no_set wire) wire_start).1 in
    half_unsafe (moment_at wire (after_reset wire inner one_left) (later_moments wire inner one_left) moments 27 half_in_test refl).0

-- a test that breaks condition (a) in the update of its fourth scan, because it enables a driver on the dark
-- pin's net
abbrev dark_driven : List Clock
dark_driven = test_clocks (take 3 (svf_scans dark) ++ sdr (sent off ∷ sent off ∷ sent off ∷ []) ∷ [])

dark_nets_are_left : IsQuiet dark dark_driven → ⊥
unfolding run shown
dark_nets_are_left quiet =
    let moments = (quiet no_faults (two_parts ts) choices (no_set dark) dark_start).1 in
    dark_unsafe (moment_at dark (after_reset dark ts dark_driven) (later_moments dark ts dark_driven) moments 35 dark_on refl).0

-- a test that breaks condition (c) in the update that makes EXTEST current, because it preloaded 0 into an internal
-- cell with safe value 1
abbrev zeros_preloaded : List Clock
zeros_preloaded = test_clocks (take 1 (svf_scans wire) ++ sdr (sent off ∷ sent off ∷ sent off ∷ []) ∷ take 1 (drop 2 (svf_scans wire)))

abbrev zeros : List PinState
zeros = shows Extest (off ∷ off ∷ []) ∷ shows Extest (off ∷ []) ∷ []

zeros_unsafe : KeepsSafeValues wire zeros → ⊥
zeros_unsafe keeps = let low : false ≡ true = keeps 0 1 inner true refl refl (omega arith) refl refl refl in cc low

safe_values_are_preloaded : IsQuiet wire zeros_preloaded → ⊥
unfolding run shown
safe_values_are_preloaded quiet =
    let moments = (quiet no_faults (two_parts inner) choices (no_set wire) wire_start).1 in
    zeros_unsafe
    (moment_at wire (after_reset wire inner zeros_preloaded)
    (later_moments wire inner zeros_preloaded) moments 27 zeros refl).1
