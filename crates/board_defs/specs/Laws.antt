-- The laws of boards. Each law is the contract of a function of its own, in `src/law.rt`.
use Rattle.std.specs.Prelude.{◌≡◌, ◌≢◌, ◌↔◌, ℕ, true, List, [], Some, slice_get, MatchOption, Contains, AllPairs}
use Rattle.std.specs.Bool.{Decides}
use Rattle.board_defs.specs.declared.board.NetPin.{NetPin}
use Rattle.board_defs.specs.declared.board.Net.{Net}
use Rattle.board_defs.specs.declared.board.Ctl.{Ctl}
use Rattle.board_defs.specs.declared.board.RawBoard.{RawBoard}
use Rattle.board_defs.specs.declared.board.Drive.{Drive}
use Rattle.board_defs.specs.declared.board.Drive.TheVariants.{By}
use Rattle.board_defs.specs.declared.fault.Single.{Single}
use Rattle.board_defs.specs.BoardRules.{Stands, IsBoard}
use Rattle.board_defs.specs.Pins.{drive}
use Rattle.board_defs.specs.Settings.{Enabling, holds, just, enables, IsInControlOrder, IsSafe, IsPairwiseSafe, ObservesNet}
use Rattle.board_defs.specs.Coverage.{IsCovered, ArePaired, IsTestedDriver, IsTestedReceiver, IsUseful, AreTogether, IsReason}
use Rattle.board_defs.specs.Decided.{is_safe_alone, are_together, are_compatible, is_useful, is_covered, are_paired, is_tested_driver, is_tested_receiver, reason_of}
use Rattle.board_defs.specs.Passes.{useful_controls, tested_drivers, is_enabled, with_driver, joins_setting, is_new, shows, passes_of, SomePass, ArePasses}
use Rattle.board_defs.specs.Faults.{singles, SinglePrecedes, IsSingle}

-- on a board that keeps the rules of boards, a setting is safe if and only if each of its controls is safe alone and any two of its
-- controls are safe together
abbrev pub SafeByPairs : Type 0
SafeByPairs = (board : RawBoard) (setting : Enabling) → IsBoard board → IsSafe board setting ↔ IsPairwiseSafe board setting

-- Each Boolean test of `Decided.antt` is true if and only if its term is true. For `are_paired`, the two nets
-- must have different numbers. `reason_of` gives the reason why a net is not covered, or None if the net is
-- covered. The tests look only at single controls and at pairs of controls, while most terms mean that there
-- is a safe setting with some property.
pub record DecidesTerms (board : RawBoard) : Type 0 where
  pub safe : (c : Ctl) → Decides (is_safe_alone board c) (IsSafe board (just c))
  pub together : (a b : Ctl) → Decides (are_together board a b) (AreTogether board a b)
  pub useful : (c : Ctl) → Decides (is_useful board c) (IsUseful board c)
  pub covered : (n : ℕ) (net : Net) → slice_get board.nets n ≡ Some net → Decides (is_covered board net) (IsCovered board n)
  pub paired : (m n : ℕ) (a b : Net) → slice_get board.nets m ≡ Some a
      → slice_get board.nets n ≡ Some b → m ≢ n
      → Decides (are_paired board a b) (ArePaired board m n)
  pub tested_driver : (n : ℕ) (net : Net) (place : ℕ) → slice_get board.nets n ≡ Some net
      → Decides (is_tested_driver board net place) (IsTestedDriver board n place)
  pub reason : (n : ℕ) (net : Net) → slice_get board.nets n ≡ Some net
      → MatchOption (reason_of board net) (IsCovered board n)
      (λ reason. IsReason board n net reason)
  pub tested_receiver : (n : ℕ) (net : Net) (place : ℕ) → slice_get board.nets n ≡ Some net
      → Decides (is_tested_receiver board net place) (IsTestedReceiver board n place)

-- on every board that keeps the rules of boards, the tests agree with the terms
abbrev pub TermsDecided : Type 0
TermsDecided = (board : RawBoard) → IsBoard board → DecidesTerms board

-- net number `n` has a tested driver, and `d` is the way in which this driver is enabled
pub record HasTestedDriver (board : RawBoard) (n : ℕ) (net : Net) (d : Drive) : Type 0 where
  pub place : ℕ
  pub pin : NetPin
  pub stands : Stands board n net place pin
  pub drives : drive board net pin ≡ Some d
  pub tested : IsTestedDriver board n place

-- the control enables a tested driver that no earlier pass enables
pub record ControlsNew (board : RawBoard) (earlier : List (List Ctl)) (c : Ctl) : Type 0 where
  pub n : ℕ
  pub net : Net
  pub place : ℕ
  pub pin : NetPin
  pub stands : Stands board n net place pin
  pub drives : drive board net pin ≡ Some (By c)
  pub tested : IsTestedDriver board n place
  pub new : SomePass earlier (λ setting. enables board setting pin ≡ true) → ⊥

-- The functions that choose the passes agree with the definitions of their terms. `useful_controls` and
-- `tested_drivers` list exactly the useful controls and the ways in which the tested drivers of a net are
-- enabled.
pub record SaysPasses (board : RawBoard) : Type 0 where
  pub useful_in_order : IsInControlOrder (useful_controls board)
  pub useful : (c : Ctl) → Decides (holds (useful_controls board) c) (IsUseful board c)
  pub drivers : (n : ℕ) (net : Net) (d : Drive) → slice_get board.nets n ≡ Some net
      → Contains (tested_drivers board net) d ↔ HasTestedDriver board n net d
  pub enabled : (n : ℕ) (net : Net) (place : ℕ) (pin : NetPin) (d : Drive) (pass : List Ctl)
      → Stands board n net place pin → IsTestedDriver board n place → drive board net pin ≡ Some d
      → is_enabled pass d ≡ enables board (holds pass) pin
  pub fits_all : (setting : List Ctl) (c : Ctl)
      → Decides (joins_setting board setting c)
      ((d : Ctl) → holds setting d ≡ true → AreTogether board c d)
  pub new : (earlier : List (List Ctl)) (c : Ctl) → IsUseful board c → Decides (is_new earlier c) (ControlsNew board earlier c)
  pub shown : (n : ℕ) (net : Net) (pass : List Ctl) → slice_get board.nets n ≡ Some net
      → IsSafe board (holds pass)
      → Decides (shows (tested_drivers board net) pass) (ObservesNet board (holds pass) n)
  pub compatible : (m n : ℕ) (a b : Net) (d e : Drive) → HasTestedDriver board m a d
      → HasTestedDriver board n b e
      → Decides (are_compatible board (Some d) (Some e))
      (IsSafe board (holds (with_driver (with_driver [] d) e)))

-- the functions that choose the passes agree with the definitions of their terms, and `passes_of` meets the
-- requirements on passes
pub record PassesAre (board : RawBoard) : Type 0 where
  pub said : SaysPasses board
  pub kept : ArePasses board (passes_of board)

-- every board that keeps the rules of boards has the property `PassesAre`
abbrev pub PassesKept : Type 0
PassesKept = (board : RawBoard) → IsBoard board → PassesAre board

-- `singles` lists exactly the board's single faults, each once and in order
pub record ListsSingles (board : RawBoard) : Type 0 where
  pub exactly : (single : Single) → Contains (singles board) single ↔ IsSingle board single
  pub in_order : AllPairs SinglePrecedes (singles board)

-- every board that keeps the rules of boards has the property `ListsSingles`
abbrev pub SinglesListed : Type 0
SinglesListed = (board : RawBoard) → IsBoard board → ListsSingles board
