-- Proofs that the passes made for the tested drivers together enable every tested driver.
use Rattle.std.proofs.Common.{◌≡◌, ℕ, ◌++◌, ◌∷◌, [], List, fold, Some, ◌∙◌, ap, sym, subst}
use Rattle.std.specs.Prelude.{Contains, slice_get}
use Rattle.std.specs.List.{list_any, flat_map}
use Rattle.lists.proofs.ListLemmas.{item_there, list_any_before}
use Rattle.board_defs.specs.declared.board.Ctl.{Ctl}
use Rattle.board_defs.specs.declared.board.RawBoard.{RawBoard}
use Rattle.board_defs.specs.declared.board.Net.{Net}
use Rattle.board_defs.specs.declared.board.Drive.{Drive}
use Rattle.board_defs.specs.Passes.{add_for_driver, drivers_by_net, is_enabled, tested_drivers}
use Rattle.board_defs.proofs.Members.{Has, contains_has}
use Rattle.board_defs.proofs.PassesKept.{all_drivers, fold_makes, on_board_driver, tested_can_drive, tested_has}
use Rattle.board_defs.proofs.PassesReach.{Enabled, driver_keeps, driver_enabled}
use Rattle.driver_passes.specs.inner.Progress.{EnableTested}
use Rattle.driver_passes.proofs.ProgressLemmas.{drivers_are}

net_enabled : (board : RawBoard) (useful : List Ctl) (n : ℕ) (net : Net) (d : Drive)
    → slice_get board.nets n ≡ Some net → Has (tested_drivers board net) d
    → Enabled d (fold (add_for_driver board useful) [] (all_drivers board))
net_enabled board useful n net d e h =
    fold_makes (Enabled d) (add_for_driver board useful)
    (λ passes f k. driver_keeps (λ pass. is_enabled pass d) board useful passes f k)
    (all_drivers board) [] d (on_board_driver board n net d e h)
    (λ passes. driver_enabled board useful passes d (tested_can_drive board net d (tested_has board net d h)))

pub tested_enabled : (board : RawBoard) (useful : List Ctl) (passes : List (List Ctl))
    → passes
    ≡ fold (add_for_driver board useful) [] (flat_map (λ drivers. drivers) (drivers_by_net board))
    → EnableTested board passes
tested_enabled board useful passes e n d less h =
    let there : (net : Net) × (slice_get board.nets n ≡ Some net) = item_there board.nets n less in
    let P : List Drive → Type 0 = λ v. Contains v d in
    let Q : List (List Ctl) → Type 0 = λ v. Enabled d v in
    subst Q (sym e)
    (net_enabled board useful n there.0 d there.1
    (contains_has (tested_drivers board there.0) d
    (subst P (drivers_are board n there.0 there.1) h)))

pub enabled_more : (board : RawBoard) (passes after : List (List Ctl)) (pass : List Ctl)
    → EnableTested board passes → after ≡ passes ++ pass ∷ [] → EnableTested board after
enabled_more board passes after pass are e n d less h =
    ap (list_any (λ pass. is_enabled pass d)) e
    ∙ list_any_before (λ pass. is_enabled pass d) passes pass (are n d less h)
