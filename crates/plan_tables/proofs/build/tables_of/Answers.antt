use Rattle.std.proofs.Common.{List, length, refl, subst}
use Rattle.board_defs.specs.declared.board.Ctl.{Ctl}
use Rattle.plan_tables.specs.Tables.{pass_cells_of}
use Rattle.plan_tables.specs.inner.Codes.{AreCodes, seen_in}
use Rattle.plan_tables.specs.inner.Steady.{ArePassTables}
use Rattle.plan_tables.proofs.PlanLemmas.{is_plan, width_most, count_most}
use Rattle.plan_tables.proofs.build.tables_of.Goals as goal

pub width-requires : goal.width-requires
width-requires c =
    let parts = c.in_ok-parts.parts.passes in
    count_most c.args.board.now c.raw.ensures.rules parts.cells.steady parts.cells.by_control
    c.as_slice.result.now parts.codes c.in_ok-parts.ensures.codes

pub returns-clause-plan : goal.returns-clause-plan
returns-clause-plan c =
    let board = c.args.board.now in
    let parts = c.in_ok-parts.parts in
    let cells = parts.passes.cells in
    let are = c.in_ok-parts.ensures.rows in
    is_plan board c.raw.ensures.rules _ c.requires.plannable are.quiet c.requires.pins.nets_are c.requires.pins.finding.firsts
    (subst
    (λ (p : List (List Ctl)). ArePassTables board p cells.steady
    (pass_cells_of board parts.rows.quiet.bits cells.by_control)) c.as_slice.ensures
    c.in_ok-parts.ensures.cells)
    _ refl parts.passes.codes
    (subst
    (λ (p : List (List Ctl)). AreCodes
    (seen_in board (length board.nets) cells.steady cells.by_control p) parts.passes.codes)
    c.as_slice.ensures c.in_ok-parts.ensures.codes)
    refl c.width.ensures.enough c.width.ensures.least are.preload are.extest

pub returns-clause-width : goal.returns-clause-width
returns-clause-width c =
    let parts = c.in_ok-parts.parts.passes in
    width_most parts.codes.count c.width.result
    (count_most c.args.board.now c.raw.ensures.rules parts.cells.steady parts.cells.by_control
    c.as_slice.result.now parts.codes c.in_ok-parts.ensures.codes) c.width.ensures.least
