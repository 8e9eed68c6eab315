-- The terms of coverage: covered and paired nets, tested pins, useful controls, and the reasons why a net is not
-- covered. Most of the terms mean that there is a safe setting with some property. `Settings.antt` defines safe
-- settings and the nets that a setting observes. The place of a pin is its index in the net's list of pins.
use Rattle.std.specs.Prelude.{◌≡◌, ◌≢◌, ◌<◌, ℕ, true, false, Some, None, slice_get}
use Rattle.std.specs.List.{list_any}
use Rattle.board_defs.specs.declared.board.NetPin.{NetPin}
use Rattle.board_defs.specs.declared.board.Net.{Net}
use Rattle.board_defs.specs.declared.board.RawBoard.{RawBoard}
use Rattle.board_defs.specs.declared.board.Ctl.{Ctl}
use Rattle.board_defs.specs.declared.board.Drive.TheVariants.{By}
use Rattle.board_defs.specs.declared.coverage.Reason.{Reason}
use Rattle.board_defs.specs.declared.coverage.Reason.TheVariants.{Supply, TestPort, Dark, NoDriver, Blocked, NoReceiver}
use Rattle.board_defs.specs.Pins.{drive, receives, is_test_pin, is_dark}
use Rattle.board_defs.specs.BoardRules.{Stands}
use Rattle.board_defs.specs.Settings.{Enabling, just, both, enables, IsSafe, ObservesBy, ObservesNet}

-- the setting observes net `n` by the driver at `place`
abbrev pub TestsDriver : RawBoard → Enabling → ℕ → ℕ → Type 0
TestsDriver board setting n place = (net : Net) × (slice_get board.nets n ≡ Some net) × ObservesBy board setting net place

-- the pin at `place` of net `n` is a receiver, and the setting observes the net by a driver on another pin
abbrev pub TestsReceiver : RawBoard → Enabling → ℕ → ℕ → Type 0
TestsReceiver board setting n place =
    (net : Net) × (pin : NetPin) × (driver : ℕ) × (slice_get board.nets n ≡ Some net)
    × (slice_get net.pins place ≡ Some pin) × (receives board pin ≡ true) × (driver ≢ place)
    × ObservesBy board setting net driver

-- some safe setting has property `P`
abbrev pub SomeSafe : RawBoard → (Enabling → Type 0) → Type 0
SomeSafe board P = (setting : Enabling) × IsSafe board setting × P setting

-- the net is covered: some safe setting observes it
abbrev pub IsCovered : RawBoard → ℕ → Type 0
IsCovered board n = SomeSafe board (λ setting. ObservesNet board setting n)

-- the nets are paired: they are two different nets, and one safe setting observes both
abbrev pub ArePaired : RawBoard → ℕ → ℕ → Type 0
ArePaired board a b = (a ≢ b) × SomeSafe board (λ setting. ObservesNet board setting a × ObservesNet board setting b)

-- the driver at `place` of net `n` is tested: some safe setting enables it and observes its net by it
abbrev pub IsTestedDriver : RawBoard → ℕ → ℕ → Type 0
IsTestedDriver board n place = SomeSafe board (λ setting. TestsDriver board setting n place)

-- the receiver at `place` of net `n` is tested: some safe setting observes the net by a driver on another pin
abbrev pub IsTestedReceiver : RawBoard → ℕ → ℕ → Type 0
IsTestedReceiver board n place = SomeSafe board (λ setting. TestsReceiver board setting n place)

-- the control is useful: the setting with this control alone is safe, and the control enables a tested driver
abbrev pub IsUseful : RawBoard → Ctl → Type 0
IsUseful board c =
    IsSafe board (just c) × (n : ℕ) × (net : Net) × (place : ℕ) × (pin : NetPin)
    × (slice_get board.nets n ≡ Some net) × (slice_get net.pins place ≡ Some pin)
    × (drive board net pin ≡ Some (By c)) × IsTestedDriver board n place

-- the two controls are together: the setting with these two controls is safe
abbrev pub AreTogether : RawBoard → Ctl → Ctl → Type 0
AreTogether board a b = IsSafe board (both a b)

-- no pin of the net is a driver
abbrev pub HasNoDriver : RawBoard → ℕ → Net → Type 0
HasNoDriver board n net = (place : ℕ) (pin : NetPin) → Stands board n net place pin → drive board net pin ≡ None

-- the net is blocked: no safe setting enables a driver on it
abbrev pub IsBlocked : RawBoard → ℕ → Net → Type 0
IsBlocked board n net =
    (setting : Enabling) (place : ℕ) (pin : NetPin) → IsSafe board setting
    → Stands board n net place pin → enables board setting pin ≡ false

-- The reason applies to the net. `NoReceiver` is the last reason, and it applies to every net.
abbrev pub ReasonHolds : RawBoard → ℕ → Net → Reason → Type 0
ReasonHolds board n net Supply = net.supply ≡ true
ReasonHolds board n net TestPort = list_any (is_test_pin board) net.pins ≡ true
ReasonHolds board n net Dark = list_any (is_dark board) net.pins ≡ true
ReasonHolds board n net NoDriver = HasNoDriver board n net
ReasonHolds board n net Blocked = IsBlocked board n net
ReasonHolds board n net NoReceiver = Unit {0}

-- the rank of a reason in the order in which the reasons are tried
abbrev pub reason_rank : Reason → ℕ
reason_rank Supply = 0
reason_rank TestPort = 1
reason_rank Dark = 2
reason_rank NoDriver = 3
reason_rank Blocked = 4
reason_rank NoReceiver = 5

-- `reason` is the reason why net `n` is not covered: the first that applies
pub record IsReason (board : RawBoard) (n : ℕ) (net : Net) (reason : Reason) : Type 0 where
  pub uncovered : IsCovered board n → ⊥
  pub holds : ReasonHolds board n net reason
  pub first : (other : Reason) → reason_rank other < reason_rank reason → ReasonHolds board n net other → ⊥
