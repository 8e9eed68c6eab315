-- Samples of what the laws say about the controls of a bus with two drivers and a receiver, and of rooms and passes that are not those of a
-- board.
use Rattle.std.proofs.Common.{◌≡◌, false, true, length, arith}
use Rattle.std.specs.List.{list_any}
use Rattle.board_defs.specs.Decided.{drives_net, is_useful}
use Rattle.board_defs.proofs.Samples.{bus, crossing, c}
use Rattle.plan_tables.specs.declared.tables.PlanTables.{PlanTables}
use Rattle.scan_planner.specs.declared.pass_rows.StackedRows.{StackedRows}
use Rattle.scan_planner.specs.Laws.{PlansUseful}
use Rattle.scan_planner.specs.Plans.{IsRoom}
use Rattle.scan_planner.specs.PassRows.{ArePassRows}

-- Cell 0 of the third part belongs to a receiver, and controls no driver. So no net has a driver of this cell, and it is not useful.
receiver_drives_no_net : PlansUseful bus → list_any (drives_net bus (c 2 0)) bus.nets ≡ true → ⊥
receiver_drives_no_net planned drives = let controls : false ≡ true = planned.of_nets (c 2 0) drives in cc controls

receiver_is_not_useful : PlansUseful bus → is_useful bus (c 2 0) ≡ true → ⊥
receiver_is_not_useful planned useful = let controls : false ≡ true = planned.useful (c 2 0) useful in cc controls

-- An instruction scan of `crossing` has six bits, and a data scan has ten. So nine bits are no room for both.
nine_bits : IsRoom crossing 9 → ⊥
nine_bits room = let most = room.data_row in omega (arith, most)

-- a plan with two passes has no pass with number 2, since the first pass has number 0
no_pass : (plan : PlanTables) (rows : StackedRows) → length plan.passes ≡ 2 → ArePassRows bus plan 2 rows → ⊥
no_pass plan rows two are = let below = are.within in omega (arith, two, below)
