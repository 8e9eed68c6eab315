use Rattle.std.proofs.Common.{sym, refl}
use Rattle.tap_defs.specs.board.BoardScans.{scan_of_row, first_row_scan}
use Rattle.tap_defs.proofs.board.ScanPlaceLemmas.{scans_placed}
use Rattle.scan_planner.proofs.FillLemmas.{fills, row_sized}
use Rattle.scan_planner.proofs.board_plan.BoardPlan.fill_quiet.Goals as goal

pub returns-clause-filled : goal.returns-clause-filled
returns-clause-filled c =
    let board = c.args.self.now.board in
    let plan = c.args.self.now.plan in
    let s = row_sized board c.laws.ensures.rules first_row_scan in
    fills board plan.passes plan.width 1 (scan_of_row board first_row_scan) _ _ _ _
    (scans_placed board plan.passes plan.width).quiet s.some s.most
    (record {
      tdi = c.shift_quiet.ensures.bits first_row_scan refl;
      tdo = (c.compare_nothing.ensures.bits first_row_scan refl).tdo;
      mask = (c.compare_nothing.ensures.bits first_row_scan refl).mask;
    })
    refl (sym c.compare_nothing.ensures.nothing)
