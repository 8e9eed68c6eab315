-- Samples of what is known about the controls of two boards, and of the nets that two controls share.
use Rattle.std.proofs.Common.{◌≡◌, true, [], ◌∷◌, Some, refl, arith}
use Rattle.board_defs.proofs.Samples.{bus, crossing, c}
use Rattle.net_facts.specs.Cells.{item_of_cell, table}
use Rattle.net_classes.specs.declared.classes.Classes.{Classes}
use Rattle.net_classes.specs.Laws.{HaveCommon, SaysShared}
use Rattle.net_classes.specs.Kept.{AreClasses}

-- The control of a driver of `bus` has a driver on net 0. It is safe alone, and it is useful.
bus_control : (classes : Classes) → AreClasses bus classes
    → item_of_cell (table classes.controls.items) (c 0 1) ≡ Some (record { nets = 0 ∷ []; safe = true; useful = true })
bus_control classes are = are.controls_are (c 0 1) (omega arith)

-- Control 4 of `crossing` has drivers on nets 0 and 1. It shares only net 1 with another control.
crossing_control : (classes : Classes) → AreClasses crossing classes
    → item_of_cell (table classes.controls.items) (c 0 4) ≡ Some (record { nets = 0 ∷ 1 ∷ []; safe = true; useful = true })
crossing_control classes are = are.controls_are (c 0 4) (omega arith)

crossing_shared : (classes : Classes) → AreClasses crossing classes
    → item_of_cell (table classes.shared.items) (c 0 4) ≡ Some (1 ∷ [])
crossing_shared classes are = are.shared_are (c 0 4) (omega arith)

-- The two controls of `crossing` drive net 1. So their lists of driven nets, which are 0, 1 and 1, 2, have a number in common.
crossing_common : SaysShared crossing (c 0 4) (c 0 5) → HaveCommon (0 ∷ 1 ∷ []) (1 ∷ 2 ∷ [])
crossing_common said = said.by_driven.0 refl
