-- The passes of a board: the settings in which its test runs, in turn. The first ones together enable every tested driver. Later ones are
-- added until, for every two paired nets, some pass observes both. `Coverage.antt` defines tested drivers and paired nets.
use Rattle.std.specs.Prelude.{◌≡◌, ◌⊎◌, ℕ, Bool, true, false, not, ◌&&◌, List, [], ◌∷◌, ◌++◌, map, filter, filter_map, find, fold, take, length, Option, Some, None, slice_get, cond}
use Rattle.std.specs.List.{list_any, list_all, flat_map, enumerate_from, range_with_len}
use Rattle.board_defs.specs.declared.board.PartKind.{PartKind}
use Rattle.board_defs.specs.declared.board.PartKind.TheVariants.{Described, Bypass}
use Rattle.board_defs.specs.declared.board.Net.{Net}
use Rattle.board_defs.specs.declared.board.Ctl.{Ctl}
use Rattle.board_defs.specs.declared.board.RawBoard.{RawBoard}
use Rattle.board_defs.specs.declared.board.Drive.{Drive}
use Rattle.board_defs.specs.declared.board.Drive.TheVariants.{AlwaysOn, OneSided, By}
use Rattle.board_defs.specs.Settings.{Enabling, holds, inserted, IsSafe, ObservesNet}
use Rattle.board_defs.specs.Coverage.{IsCovered, ArePaired, IsTestedDriver, IsTestedReceiver, TestsDriver, TestsReceiver}
use Rattle.board_defs.specs.Decided.{is_useful, are_together, are_compatible, is_tested_driver, place_drive}

-- the cells of a part as controls, in control order
abbrev pub cells_of : ℕ → PartKind → List Ctl
cells_of part (Described device) = map (λ cell. record { part = part; cell = cell }) (range_with_len 0 device.boundary)
cells_of part (Bypass n) = []

-- the cells of the chain as controls, in control order
abbrev pub all_cells : RawBoard → List Ctl
all_cells board = flat_map (λ part. cells_of part.0 part.1.kind) (enumerate_from 0 board.chain)

-- The useful controls, in control order. A control is useful if it is safe alone and enables a tested driver.
abbrev pub useful_controls : RawBoard → List Ctl
useful_controls board = filter (is_useful board) (all_cells board)

-- the way in which the driver at `place` of the net is enabled, or None if no tested driver is at that place
abbrev pub tested_drive : RawBoard → Net → ℕ → Option Drive
tested_drive board net place = cond (is_tested_driver board net place) (place_drive board net place) None

-- the ways in which the tested drivers of a net are enabled, in pin order
abbrev pub tested_drivers : RawBoard → Net → List Drive
tested_drivers board net = filter_map (tested_drive board net) (range_with_len 0 (length net.pins))

-- The setting enables the driver. A one-sided driver counts as not enabled, since no safe setting enables it.
abbrev pub is_enabled : List Ctl → Drive → Bool
is_enabled setting AlwaysOn = true
is_enabled setting OneSided = false
is_enabled setting (By c) = holds setting c

-- the setting with the driver's control added, or the setting itself if the driver is always on or one-sided
abbrev pub with_driver : List Ctl → Drive → List Ctl
with_driver setting AlwaysOn = setting
with_driver setting OneSided = setting
with_driver setting (By c) = inserted c setting

-- Every control of the setting is together with control `c`. Two controls are together if the setting with just these two is safe.
abbrev pub joins_setting : RawBoard → List Ctl → Ctl → Bool
joins_setting board setting c = list_all (are_together board c) setting

-- no earlier pass has the control, so no earlier pass enables the drivers of that control
abbrev pub is_new : List (List Ctl) → Ctl → Bool
is_new earlier c = not (list_any (λ pass. holds pass c) earlier)

-- Goes through the list `controls`, starting from `setting`, and adds each control that `accepts` accepts for the
-- setting so far. The value is the final setting.
abbrev pub walk : (List Ctl → Ctl → Bool) → List Ctl → List Ctl → List Ctl
walk accepts controls setting = fold (λ s c. cond (accepts s c) (inserted c s) s) setting controls

-- First walk: adds each useful control that no earlier pass has and that is together with every control of the setting so far.
abbrev pub first_walk : RawBoard → List Ctl → List (List Ctl) → List Ctl → List Ctl
first_walk board useful earlier setting = walk (λ s c. is_new earlier c && joins_setting board s c) useful setting

-- Second walk: adds each useful control that is together with every control of the setting so far.
abbrev pub second_walk : RawBoard → List Ctl → List Ctl → List Ctl
second_walk board useful setting = walk (joins_setting board) useful setting

-- the new pass for a tested driver that no earlier pass enables
abbrev pub driver_pass : RawBoard → List Ctl → List (List Ctl) → Drive → List Ctl
driver_pass board useful earlier d = second_walk board useful (first_walk board useful earlier (with_driver [] d))

-- the passes, followed by a new pass for the driver if none of them enables it
abbrev pub add_for_driver : RawBoard → List Ctl → List (List Ctl) → Drive → List (List Ctl)
add_for_driver board useful passes d =
    cond (list_any (λ pass. is_enabled pass d) passes) passes
    (passes ++ driver_pass board useful passes d ∷ [])

-- the passes for a list of tested drivers; for each of these drivers, one of the passes enables it
abbrev pub driver_passes : RawBoard → List Ctl → List Drive → List (List Ctl)
driver_passes board useful drivers = fold (add_for_driver board useful) [] drivers

-- the pass enables one of the net's tested drivers, so the pass observes the net
abbrev pub shows : List Drive → List Ctl → Bool
shows drivers pass = list_any (is_enabled pass) drivers

-- one of the passes observes both nets
abbrev pub are_shown : List (List Ctl) → List Drive → List Drive → Bool
are_shown passes a b = list_any (λ pass. shows a pass && shows b pass) passes

-- the pairs of an item of the first list and an item of the second, ordered by the place of the first item and then by
-- that of the second
abbrev pub pairs_of : {X : Type 0} → List X → List X → List (X × X)
pairs_of xs ys = flat_map (λ x. map (λ y. (x, y)) ys) xs

-- the pairs of an item and a later item of the list, ordered by the place of the first item and then by that of the
-- later one
abbrev pub pairs_within : {X : Type 0} → List X → List (X × X)
pairs_within [] = []
pairs_within (x ∷ xs) = map (λ y. (x, y)) xs ++ pairs_within xs

-- the first pair of tested drivers, one of each net, that one safe setting enables together
abbrev pub first_pair : RawBoard → List Drive → List Drive → Option (Drive × Drive)
first_pair board a b = find (λ pair. are_compatible board (Some pair.0) (Some pair.1)) (pairs_of a b)

-- the new pass for two paired nets that no earlier pass observes together, made from one driver of each net
abbrev pub pair_pass : RawBoard → List Ctl → Drive × Drive → List Ctl
pair_pass board useful pair = second_walk board useful (with_driver (with_driver [] pair.0) pair.1)

-- the passes, followed by a new pass for the pair of drivers if there is a pair
abbrev pub with_pair : RawBoard → List Ctl → List (List Ctl) → Option (Drive × Drive) → List (List Ctl)
with_pair board useful passes None = passes
with_pair board useful passes (Some pair) = passes ++ pair_pass board useful pair ∷ []

-- the passes, followed by a new pass for the two nets if they are paired and none of the passes observes both
abbrev pub add_for_nets : RawBoard → List Ctl → List (List Ctl) → List Drive × List Drive → List (List Ctl)
add_for_nets board useful passes nets =
    cond (are_shown passes nets.0 nets.1) passes
    (with_pair board useful passes (first_pair board nets.0 nets.1))

-- The passes, followed by new ones for pairs of nets. For every two paired nets, some pass then observes both.
abbrev pub pair_passes : RawBoard → List Ctl → List (List Ctl) → List (List Drive) → List (List Ctl)
pair_passes board useful passes nets = fold (add_for_nets board useful) passes (pairs_within nets)

-- the ways in which the tested drivers are enabled, with one list for each net
abbrev pub drivers_by_net : RawBoard → List (List Drive)
drivers_by_net board = map (tested_drivers board) board.nets

-- the passes of the board
abbrev pub passes_of : RawBoard → List (List Ctl)
passes_of board =
    let useful : List Ctl = useful_controls board in
    let nets : List (List Drive) = drivers_by_net board in
    pair_passes board useful (driver_passes board useful (flat_map (λ drivers. drivers) nets)) nets

-- some pass has property `P`
abbrev pub SomePass : List (List Ctl) → (Enabling → Type 0) → Type 0
SomePass passes P = (x : ℕ) × (pass : List Ctl) × (slice_get passes x ≡ Some pass) × P (holds pass)

-- the pass observes a net by a tested driver, and no earlier pass observes the net by this driver
pub record EnablesNew (board : RawBoard) (earlier : List (List Ctl)) (pass : List Ctl) : Type 0 where
  pub net : ℕ
  pub place : ℕ
  pub tested : IsTestedDriver board net place
  pub enables : TestsDriver board (holds pass) net place
  pub first : SomePass earlier (λ setting. TestsDriver board setting net place) → ⊥

-- the pass observes two paired nets that no earlier pass observes together
pub record ObservesNew (board : RawBoard) (earlier : List (List Ctl)) (pass : List Ctl) : Type 0 where
  pub low : ℕ
  pub high : ℕ
  pub paired : ArePaired board low high
  pub observes : ObservesNet board (holds pass) low × ObservesNet board (holds pass) high
  pub first : SomePass earlier (λ setting. ObservesNet board setting low × ObservesNet board setting high) → ⊥

-- The requirements on passes. Each pass is safe. If some safe setting observes a net or two nets, or tests a driver or a receiver, then
-- some pass does so. Each pass observes a net by some tested driver for the first time, or observes two paired nets together for the
-- first time.
pub record ArePasses (board : RawBoard) (passes : List (List Ctl)) : Type 0 where
  pub safe : (x : ℕ) (pass : List Ctl) → slice_get passes x ≡ Some pass → IsSafe board (holds pass)
  pub nets : (n : ℕ) → IsCovered board n → SomePass passes (λ setting. ObservesNet board setting n)
  pub pairs : (a b : ℕ) → ArePaired board a b → SomePass passes (λ setting. ObservesNet board setting a × ObservesNet board setting b)
  pub drivers : (n place : ℕ) → IsTestedDriver board n place → SomePass passes (λ setting. TestsDriver board setting n place)
  pub receivers : (n place : ℕ) → IsTestedReceiver board n place → SomePass passes (λ setting. TestsReceiver board setting n place)
  pub needed : (x : ℕ) (pass : List Ctl) → slice_get passes x ≡ Some pass
      → EnablesNew board (take x passes) pass ⊎ ObservesNew board (take x passes) pass
