-- Settings: the drivers that a setting enables, the nets that a setting observes, and the conditions under which a setting is safe.
-- `Pins.antt` defines drivers, receivers and guarded nets.
use Rattle.std.specs.Prelude.{◌≡◌, ◌≢◌, ℕ, nat_lt, cond, ◌==◌, Bool, true, false, ◌&&◌, ◌||◌, List, [], ◌∷◌, Option, Some, None, slice_get, AllPairs, IsTrue}
use Rattle.std.specs.List.{list_any}
use Rattle.board_defs.specs.declared.device.Control.{Control}
use Rattle.board_defs.specs.declared.device.Cell.{Cell}
use Rattle.board_defs.specs.declared.board.PinAt.{PinAt}
use Rattle.board_defs.specs.declared.board.NetPin.{NetPin}
use Rattle.board_defs.specs.declared.board.Net.{Net}
use Rattle.board_defs.specs.declared.board.RawBoard.{RawBoard}
use Rattle.board_defs.specs.declared.board.Ctl.{Ctl}
use Rattle.board_defs.specs.declared.board.Drive.TheVariants.{By}
use Rattle.board_defs.specs.Pins.{drive, receives, guarded, entry_at, is_pinned}

-- a setting: a set of controls, given as a function that returns whether a control is in the set
abbrev pub Enabling : Type 0
Enabling = Ctl → Bool

-- the two controls are the same
abbrev pub same_ctl : Ctl → Ctl → Bool
same_ctl a b = (a.part == b.part) && (a.cell == b.cell)

-- the setting with the controls of a list
abbrev pub holds : List Ctl → Enabling
holds list c = list_any (same_ctl c) list

-- the setting with one control
abbrev pub just : Ctl → Enabling
just a c = same_ctl c a

-- the setting with two controls
abbrev pub both : Ctl → Ctl → Enabling
both a b c = same_ctl c a || same_ctl c b

-- control order: by the number of the part in the chain, then by the number of the cell
abbrev pub precedes : Ctl → Ctl → Bool
precedes a b = nat_lt a.part b.part || ((a.part == b.part) && nat_lt a.cell b.cell)

-- the controls are in control order and without repeats
abbrev pub IsInControlOrder : List Ctl → Type 0
IsInControlOrder list = AllPairs (λ a b. IsTrue (precedes a b)) list

-- the list with the control inserted at its place in control order, or the list itself if it has the control
abbrev pub inserted : Ctl → List Ctl → List Ctl
inserted c [] = c ∷ []
inserted c (d ∷ list) = cond (precedes d c) (d ∷ inserted c list) (cond (same_ctl c d) (d ∷ list) (c ∷ d ∷ list))

-- A driver without a control is enabled in every setting. Any other driver is enabled if the setting has its
-- control.
abbrev pub enables_by : Enabling → ℕ → Option Control → Bool
enables_by setting part None = true
enables_by setting part (Some control) = setting (record { part = part; cell = control.cell })

-- there is a driving entry, and the setting enables its driver
abbrev pub enables_entry : Enabling → ℕ → Option Cell → Bool
enables_entry setting part None = false
enables_entry setting part (Some cell) = enables_by setting part cell.ctl

-- there is a driver at place `at` of the chain, and the setting enables it
abbrev pub enables_at : RawBoard → Enabling → PinAt → Bool
enables_at board setting at = enables_entry setting at.part (entry_at board at)

-- like `enables_at`, but false if there is no place
abbrev pub enables_where : RawBoard → Enabling → Option PinAt → Bool
enables_where board setting None = false
enables_where board setting (Some at) = enables_at board setting at

-- the pin is a driver, and the setting enables it
abbrev pub enables : RawBoard → Enabling → NetPin → Bool
enables board setting pin = enables_where board setting pin.at

-- the pin at `at` is on an unguarded net that is pulled to `value`
abbrev pub SwitchesAt : RawBoard → PinAt → Bool → Type 0
SwitchesAt board at value =
    (n : ℕ) × (net : Net) × (i : ℕ) × (pin : NetPin) × (slice_get board.nets n ≡ Some net)
    × (slice_get net.pins i ≡ Some pin) × (pin.at ≡ Some at) × (guarded board net ≡ false)
    × (net.pull ≡ Some value)

-- Each net has at most one enabled driver. No controlled driver of a guarded net is enabled. Each enabled driver whose control is its own
-- cell is a switching driver: its net is unguarded and is pulled to the cell's disable value. So no one-sided driver, that is, no other
-- driver whose control is its own cell, is enabled, whether or not the driver is on a net.
pub record IsSafe (board : RawBoard) (setting : Enabling) : Type 0 where
  pub one : (n : ℕ) (net : Net) (i j : ℕ) (p q : NetPin) → slice_get board.nets n ≡ Some net
      → slice_get net.pins i ≡ Some p → slice_get net.pins j ≡ Some q → i ≢ j
      → enables board setting p ≡ true → enables board setting q ≡ true → ⊥
  pub free : (n : ℕ) (net : Net) (i : ℕ) (p : NetPin) (c : Ctl) → slice_get board.nets n ≡ Some net
      → slice_get net.pins i ≡ Some p → guarded board net ≡ true → drive board net p ≡ Some (By c)
      → setting c ≡ false
  pub own : (at : PinAt) (cell : Cell) (control : Control) → is_pinned board at ≡ true
      → entry_at board at ≡ Some cell → cell.ctl ≡ Some control → control.cell ≡ cell.num
      → setting (record { part = at.part; cell = control.cell }) ≡ true
      → SwitchesAt board at control.disable

-- the setting enables the driver at `place` of the net, the net is not guarded, and another pin of the net is a receiver
pub record ObservesBy (board : RawBoard) (setting : Enabling) (net : Net) (place : ℕ) : Type 0 where
  pub pin : NetPin
  pub stands : slice_get net.pins place ≡ Some pin
  pub enabled : enables board setting pin ≡ true
  pub open_net : guarded board net ≡ false
  pub other : ℕ
  pub reader : NetPin
  pub reader_stands : slice_get net.pins other ≡ Some reader
  pub another : other ≢ place
  pub reads : receives board reader ≡ true

-- the setting observes the net by one of the net's drivers
abbrev pub Observes : RawBoard → Enabling → Net → Type 0
Observes board setting net = (place : ℕ) × ObservesBy board setting net place

-- like `Observes`, but takes the number of the net
abbrev pub ObservesNet : RawBoard → Enabling → ℕ → Type 0
ObservesNet board setting n = (net : Net) × (slice_get board.nets n ≡ Some net) × Observes board setting net

-- each control of the setting is safe alone, and any two of its controls are safe together
pub record IsPairwiseSafe (board : RawBoard) (setting : Enabling) : Type 0 where
  pub each : (c : Ctl) → setting c ≡ true → IsSafe board (just c)
  pub each_two : (c d : Ctl) → setting c ≡ true → setting d ≡ true → IsSafe board (both c d)
