-- Two nets are paired if and only if one safe setting enables a tested driver of each.
use Rattle.std.proofs.Common.{◌≡◌, Bool, true, ◌&&◌, length, Option, Some, None, sym, ◌∙◌, ap}
use Rattle.std.specs.Prelude.{slice_get}
use Rattle.std.specs.List.{list_any}
use Rattle.std.proofs.lemmas.Bool.{and_from}
use Rattle.lists.proofs.Booleans.{same_truth, and_left, and_right}
use Rattle.board_defs.specs.declared.board.Net.{Net}
use Rattle.board_defs.specs.declared.board.NetPin.{NetPin}
use Rattle.board_defs.specs.declared.board.Ctl.{Ctl}
use Rattle.board_defs.specs.declared.board.RawBoard.{RawBoard}
use Rattle.board_defs.specs.declared.board.Drive.{Drive}
use Rattle.board_defs.specs.declared.board.Drive.TheVariants.{By}
use Rattle.board_defs.specs.BoardRules.{IsBoard}
use Rattle.board_defs.specs.Pins.{IsCell}
use Rattle.board_defs.specs.Decided.{any_below, place_drive, drive_in, is_tested_driver, are_compatible, are_paired_at, are_paired}
use Rattle.board_defs.specs.Passes.{tested_drivers}
use Rattle.board_defs.proofs.BoardLemmas.{control_is_cell}
use Rattle.board_defs.proofs.Members.{Has, any_has, has_any}
use Rattle.board_defs.proofs.Places.{FoundBelow, below_place, below_at}
use Rattle.board_defs.proofs.Covered.{tested_below}
use Rattle.board_defs.proofs.PassesKept.{Tested, tested_has, has_tested, tested_drives}
use Rattle.net_classes.specs.Pairs.{fit, fits_some}
use Rattle.net_classes.specs.inner.Pairs.{IsByCell, some_fit}

place_cell : (board : RawBoard) (net : Net) (pin : Option NetPin) (c : Ctl) → IsBoard board
    → drive_in board net pin ≡ Some (By c) → IsCell board c
place_cell board net None c rules e = cc e
place_cell board net (Some p) c rules e = control_is_cell board net p c rules e

pub has_cells : (board : RawBoard) (net : Net) (d : Drive) → IsBoard board → Has (tested_drivers board net) d → IsByCell board d
has_cells board net d rules h c e =
    let t : Tested board net d = tested_has board net d h in
    place_cell board net (slice_get net.pins t.place) c rules (t.drives ∙ ap Some e)

pub pairs_are : (board : RawBoard) (a b : Net) → some_fit board (tested_drivers board a) (tested_drivers board b) ≡ are_paired board a b
pairs_are board a b = same_truth (some_fit board (tested_drivers board a) (tested_drivers board b)) (are_paired board a b) there back
  where
    fits : Drive → Drive → Bool
    fits = fit board

    some : Drive → Bool
    some = fits_some board (tested_drivers board b)

    there : list_any some (tested_drivers board a) ≡ true → are_paired board a b ≡ true
    there h =
        let x : (d : Drive) × Has (tested_drivers board a) d × (some d ≡ true) = any_has some (tested_drivers board a) h in
        let y : (e : Drive) × Has (tested_drivers board b) e × (fits x.0 e ≡ true) = any_has (fits x.0) (tested_drivers board b) x.2 in
        let s : Tested board a x.0 = tested_has board a x.0 x.1 in
        let t : Tested board b y.0 = tested_has board b y.0 y.1 in
        below_at (length a.pins) (λ i. any_below (length b.pins) (are_paired_at board a b i))
        s.place (tested_below board a s.place s.tested)
        (below_at (length b.pins) (are_paired_at board a b s.place) t.place (tested_below board b t.place t.tested)
        (and_from (is_tested_driver board a s.place && is_tested_driver board b t.place)
        (are_compatible board (place_drive board a s.place) (place_drive board b t.place))
        (and_from (is_tested_driver board a s.place) (is_tested_driver board b t.place) s.tested t.tested)
        (ap (λ v. are_compatible board v (place_drive board b t.place)) s.drives ∙ ap
        (λ v. are_compatible board (Some x.0) v) t.drives ∙ y.2)))

    back : are_paired board a b ≡ true → list_any some (tested_drivers board a) ≡ true
    back h =
        let r : FoundBelow (length a.pins)
        (λ i. any_below (length b.pins) (are_paired_at board a b i)) = below_place
        (length a.pins) (λ i. any_below (length b.pins) (are_paired_at board a b i)) h in
        let s : FoundBelow (length b.pins) (are_paired_at board a b r.number) = below_place
        (length b.pins) (are_paired_at board a b r.number) r.passes in
        let tested : (is_tested_driver board a r.number && is_tested_driver board b s.number)
        ≡ true = and_left
        (is_tested_driver board a r.number && is_tested_driver board b s.number)
        (are_compatible board (place_drive board a r.number) (place_drive board b s.number))
        s.passes in
        let fit : are_compatible board (place_drive board a r.number) (place_drive board b s.number)
        ≡ true = and_right
        (is_tested_driver board a r.number && is_tested_driver board b s.number)
        (are_compatible board (place_drive board a r.number) (place_drive board b s.number))
        s.passes in
        let first : is_tested_driver board a r.number
        ≡ true = and_left (is_tested_driver board a r.number)
        (is_tested_driver board b s.number) tested in
        let second : is_tested_driver board b s.number
        ≡ true = and_right (is_tested_driver board a r.number)
        (is_tested_driver board b s.number) tested in
        let d : (d : Drive) × (place_drive board a r.number ≡ Some d) = tested_drives board a r.number first in
        let e : (e : Drive) × (place_drive board b s.number ≡ Some e) = tested_drives board b s.number second in
        let both : fits d.0 e.0
        ≡ true = sym
        (ap (λ v. are_compatible board v (place_drive board b s.number)) d.1
        ∙ ap (λ v. are_compatible board (Some d.0) v) e.1) ∙ fit in
        has_any some (tested_drivers board a) d.0 (has_tested board a r.number d.0 first d.1)
        (has_any (fits d.0) (tested_drivers board b) e.0 (has_tested board b s.number e.0 second e.1) both)
