-- Each control of a tested driver is useful: it is safe alone and enables a tested driver.
use Rattle.std.proofs.Common.{◌≡◌, ℕ, true, not, ◌&&◌, List, [], get_or, Option, Some, None, refl, sym, ◌∙◌, ap, subst}
use Rattle.std.specs.Prelude.{slice_get, All, Contains}
use Rattle.std.proofs.lemmas.Bool.{and_parts}
use Rattle.std.proofs.lemmas.List.{get_or_default}
use Rattle.std.proofs.lemmas.List.Elements.{All-nil}
use Rattle.board_defs.specs.declared.board.Net.{Net}
use Rattle.board_defs.specs.declared.board.RawBoard.{RawBoard}
use Rattle.board_defs.specs.declared.board.Drive.{Drive}
use Rattle.board_defs.specs.Pins.{guarded, receives}
use Rattle.board_defs.specs.Settings.{just, IsSafe}
use Rattle.board_defs.specs.Decided.{any_other, can_enable, drive_in, place_drive, is_tested_driver}
use Rattle.board_defs.specs.Coverage.{IsUseful}
use Rattle.board_defs.specs.Passes.{tested_drivers}
use Rattle.board_defs.specs.Laws.{PassesAre, DecidesTerms, HasTestedDriver}
use Rattle.net_classes.specs.Pairs.{drivers_at, drivers_there}
use Rattle.net_classes.specs.inner.Pairs.{IsUsefulDriver}

net_useful : (board : RawBoard) (n : ℕ) (net : Net) (drivers : List Drive) → PassesAre board
    → DecidesTerms board → slice_get board.nets n ≡ Some net → drivers ≡ tested_drivers board net
    → All (IsUsefulDriver board) drivers
net_useful board n net drivers are decides e f k d less c by = (are.said.useful c).1 (useful (tested.0 here))
  where
    tested :
        (Contains (tested_drivers board net) (get_or drivers k d)
        → HasTestedDriver board n net (get_or drivers k d))
        × (HasTestedDriver board n net (get_or drivers k d)
        → Contains (tested_drivers board net) (get_or drivers k d))
    tested = are.said.drivers n net (get_or drivers k d) e

    here : Contains (tested_drivers board net) (get_or drivers k d)
    here =
        let P : List Drive → Type 0 = λ v. Contains v (get_or drivers k d) in
        subst P f (k, less, get_or_default drivers k (get_or drivers k d) d less)

    useful : HasTestedDriver board n net (get_or drivers k d) → IsUseful board c
    useful has = (safe, n, net, has.place, has.pin, has.stands.on_board, has.stands.in_net, has.drives ∙ ap Some by, has.tested)
      where
        tests : is_tested_driver board net has.place ≡ true
        tests = (decides.tested_driver n net has.place e).1 has.tested

        enables : can_enable board (place_drive board net has.place) ≡ true
        enables =
            (and_parts (not (guarded board net))
            (can_enable board (place_drive board net has.place))
            (and_parts
            (not (guarded board net) && can_enable board (place_drive board net has.place))
            (any_other (receives board) has.place net.pins) tests).0).1

        safe : IsSafe board (just c)
        safe =
            (decides.safe c).0
            (sym
            (ap (can_enable board)
            (ap (drive_in board net) has.stands.in_net ∙ has.drives ∙ ap Some by)) ∙ enables)

pub tested_useful : (board : RawBoard) (n : ℕ) (drivers : List Drive) → PassesAre board
    → DecidesTerms board → drivers ≡ drivers_at board n → All (IsUsefulDriver board) drivers
tested_useful board n drivers are decides e = by_net (slice_get board.nets n) refl
  where
    by_net : (net : Option Net) → slice_get board.nets n ≡ net → All (IsUsefulDriver board) drivers
    by_net None at =
        let none : drivers ≡ [] = e ∙ ap (drivers_there board) at in
        rw none (All-nil (IsUsefulDriver board))
    by_net (Some net) at = net_useful board n net drivers are decides at (e ∙ ap (drivers_there board) at)
