-- The laws about the passes and the terms of a board, stated for one board. Two more laws are about the nets
-- that two controls share and about the drivers of paired nets.
use Rattle.std.specs.Prelude.{◌≡◌, ℕ, false, List, Contains, is_some}
use Rattle.std.specs.Bool.{Decides}
use Rattle.board_defs.specs.declared.board.Ctl.{Ctl}
use Rattle.board_defs.specs.declared.board.RawBoard.{RawBoard}
use Rattle.board_defs.specs.BoardRules.{IsBoard}
use Rattle.board_defs.specs.Decided.{share_net}
use Rattle.board_defs.specs.Settings.{same_ctl}
use Rattle.board_defs.specs.Passes.{first_pair}
use Rattle.board_defs.specs.Laws.{DecidesTerms, PassesAre}
use Rattle.net_facts.specs.Kept.{driven_nets, shared_nets}
use Rattle.net_classes.specs.Pairs.{drivers_at, pairs_with}

-- the board keeps the rules of boards, and the laws about its passes and its terms hold
pub record KeepsLaws (board : RawBoard) : Type 0 where
  pub rules : IsBoard board
  pub passes : PassesAre board
  pub terms : DecidesTerms board

-- the two lists have a number in common
abbrev pub HaveCommon : List ℕ → List ℕ → Type 0
HaveCommon xs ys = (n : ℕ) × Contains xs n × Contains ys n

-- Two controls have drivers on one net if and only if their lists of driven nets have a number in common. For two different controls, the
-- same is true of their lists of shared nets. The driven nets of a control are the nets with a driver of this control. The shared nets of a
-- control are its driven nets that also have a driver of another control. One-sided drivers do not count as drivers of a control.
pub record SaysShared (board : RawBoard) (a b : Ctl) : Type 0 where
  pub by_driven : Decides (share_net board a b) (HaveCommon (driven_nets board a) (driven_nets board b))
  pub by_shared : same_ctl a b ≡ false → Decides (share_net board a b) (HaveCommon (shared_nets board a) (shared_nets board b))

abbrev pub NetsAreShared : Type 0
NetsAreShared = (board : RawBoard) (a b : Ctl) → SaysShared board a b

-- `first_pair` looks for a tested driver of net `a` and one of net `b` such that one safe setting enables both drivers. It finds two such
-- drivers if and only if one safe setting observes both nets.
abbrev pub PairsHaveDrivers : Type 0
PairsHaveDrivers =
    (board : RawBoard) (a b : ℕ)
    → pairs_with board a b ≡ is_some (first_pair board (drivers_at board a) (drivers_at board b))
