-- The rules that every board keeps: rules on its parts, its nets and their pins.
use Rattle.std.specs.Prelude.{◌≡◌, ◌≢◌, ℕ, ◌≤◌, true, false, length, Option, Some, None, slice_get, sum_by, All, AllPairs}
use Rattle.std.specs.List.{list_any}
use Rattle.board_defs.specs.declared.device.PortBit.{PortBit}
use Rattle.board_defs.specs.declared.device.RawDevice.{RawDevice}
use Rattle.board_defs.specs.declared.board.PartKind.{PartKind}
use Rattle.board_defs.specs.declared.board.PartKind.TheVariants.{Described, Bypass}
use Rattle.board_defs.specs.declared.board.Part.{Part}
use Rattle.board_defs.specs.declared.board.PinAt.{PinAt}
use Rattle.board_defs.specs.declared.board.NetPin.{NetPin}
use Rattle.board_defs.specs.declared.board.Net.{Net}
use Rattle.board_defs.specs.declared.board.RawBoard.{RawBoard}
use Rattle.board_defs.specs.declared.board.Drive.TheVariants.{AlwaysOn}
use Rattle.board_defs.specs.Limits.{most_parts, most_bits, most_nets, most_pins, IsInstructionLength}
use Rattle.board_defs.specs.DeviceRules.{IsDevice}
use Rattle.board_defs.specs.Pins.{described, is_test_pin, drive, data_bits}

-- A described part keeps the rules of devices. The instruction register of any other part has 2 to 255 bits.
abbrev pub IsPart : PartKind → Type 0
IsPart (Described device) = IsDevice device
IsPart (Bypass n) = IsInstructionLength n

-- net number `n` of the board is `net`, and the pin at place `place` of that net is `pin`
pub record Stands (board : RawBoard) (n : ℕ) (net : Net) (place : ℕ) (pin : NetPin) : Type 0 where
  pub on_board : slice_get board.nets n ≡ Some net
  pub in_net : slice_get net.pins place ≡ Some pin

-- no two pins of the nets have the same part and the same pin name
abbrev pub PinsDiffer : RawBoard → Type 0
PinsDiffer board =
    (m n i j : ℕ) (first second : Net) (p q : NetPin) → Stands board m first i p
    → Stands board n second j q → p.part ≡ q.part → p.pin ≡ q.pin → (m ≡ n) × (i ≡ j)

-- `at` is the place of the pin in the chain: part number `at.part` has the name of the pin's part, and port bit number `at.bit` of that
-- part's device has this pin
pub record IsPlacedAt (board : RawBoard) (pin : NetPin) (at : PinAt) : Type 0 where
  pub part : Part
  pub in_chain : slice_get board.chain at.part ≡ Some part
  pub named : part.name ≡ pin.part
  pub device : RawDevice
  pub is_described : described part.kind ≡ Some device
  pub bit : PortBit
  pub in_device : slice_get device.bits at.bit ≡ Some bit
  pub has_pin : bit.pin ≡ Some pin.pin

-- If the pin has a place in the chain, the place is right. If it has none, no described part has the name of the pin's part.
abbrev pub IsPlaced : RawBoard → NetPin → Option PinAt → Type 0
IsPlaced board pin None = All (λ part. part.name ≡ pin.part → described part.kind ≡ None) board.chain
IsPlaced board pin (Some at) = IsPlacedAt board pin at

-- No pin of a part in the chain is inert. The pins of one part are either all inert or all not inert. A pin
-- is inert if its part drives no net and connects no two nets.
pub record AreInertAlike (board : RawBoard) : Type 0 where
  pub in_chain : All (λ net. All (λ pin. pin.inert ≡ true → All (λ part. part.name ≢ pin.part) board.chain) net.pins) board.nets
  pub agree : (m n i j : ℕ) (first second : Net) (p q : NetPin) → Stands board m first i p
      → Stands board n second j q → p.part ≡ q.part → p.inert ≡ q.inert

-- a net with a driver that is always on is not a supply net, and has no pin of a test access port and no pin that compliance patterns
-- name
abbrev pub NoGuardedDriver : RawBoard → Type 0
NoGuardedDriver board =
    (n place : ℕ) (net : Net) (pin : NetPin) → Stands board n net place pin
    → drive board net pin ≡ Some AlwaysOn
    → (net.supply ≡ false) × (list_any (is_test_pin board) net.pins ≡ false)

-- no net has two drivers that are always on
abbrev pub OneAlwaysOn : RawBoard → Type 0
OneAlwaysOn board =
    (n : ℕ) (net : Net) (i j : ℕ) (p q : NetPin) → slice_get board.nets n ≡ Some net
    → slice_get net.pins i ≡ Some p → slice_get net.pins j ≡ Some q → i ≢ j
    → drive board net p ≡ Some AlwaysOn → drive board net q ≡ Some AlwaysOn → ⊥

-- all rules of boards
pub record IsBoard (board : RawBoard) : Type 0 where
  pub chain_some : 1 ≤ length board.chain
  pub chain_most : length board.chain ≤ most_parts
  pub names_differ : AllPairs (λ a b. a.name ≢ b.name) board.chain
  pub parts : All (λ part. IsPart part.kind) board.chain
  pub data_most : data_bits board ≤ most_bits
  pub nets_most : length board.nets ≤ most_nets
  pub nets_differ : AllPairs (λ a b. a.name ≢ b.name) board.nets
  pub pins_most : sum_by (λ net. length net.pins) board.nets ≤ most_pins
  pub pins_differ : PinsDiffer board
  pub placed : All (λ net. All (λ pin. IsPlaced board pin pin.at) net.pins) board.nets
  pub inert : AreInertAlike board
  pub no_guarded_driver : NoGuardedDriver board
  pub one_always_on : OneAlwaysOn board
