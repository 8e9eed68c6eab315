use Rattle.std.proofs.Common.{◌≡◌, List, length, get_or, sym, ap, ◌∙◌, subst}
use Rattle.std.proofs.lemmas.Option.{slice_get-get_or}
use Rattle.std.proofs.lemmas.Result.{IfOk-weaker}
use Rattle.plan_tables.specs.declared.controls.DriverTable.{DriverTable}
use Rattle.plan_tables.specs.declared.observers.Observer.{Observer}
use Rattle.plan_tables.specs.declared.tables.DriverCell.{DriverCell}
use Rattle.plan_tables.specs.Tables.{pass_cells_of}
use Rattle.plan_tables.specs.inner.Laid.{quiet_bits}
use Rattle.plan_tables.specs.inner.Building.{observers, table_of}
use Rattle.plan_tables.specs.inner.Steady.{steady_cells, moving, ArePassTables}
use Rattle.plan_tables.proofs.LaidLemmas.{length-laid}
use Rattle.plan_tables.proofs.HeldLemmas.{control_cells}
use Rattle.plan_tables.proofs.SteadyLemmas.{tables_are}
use Rattle.plan_tables.proofs.build.pass_tables.Goals as goal

pub uses_of-requires-clause-quiet : goal.uses_of-requires-clause-quiet
uses_of-requires-clause-quiet c =
    ap (λ l. length l) c.requires.quiet
    ∙ length-laid (quiet_bits c.args.placed.now.board.now) c.args.placed.now.board.now

pub uses_of-requires-clause-cells : goal.uses_of-requires-clause-cells
uses_of-requires-clause-cells c k d less x on =
    control_cells c.args.placed.now.board.now c.raw.ensures.rules x
    (c.requires.plannable.controls k (get_or c.args.passes.now k d) x
    (slice_get-get_or c.args.passes.now k d less) on)

pub returns : goal.returns
returns c =
    let board = c.args.placed.now.board.now in
    let quiet = c.args.quiet.now.bits in
    let passes = c.args.passes.now in
    let uses = c.in_ok-uses.uses in
    let bits = c.dr_bits-bits.result in
    let own : List Observer = c.as_slice.result.now in
    let drivers : own ≡ observers board board.nets = c.as_slice.ensures ∙ c.in_ok-observers.ensures in
    let are : ArePassTables board passes (steady_cells uses (length passes) own)
    (pass_cells_of board quiet (table_of (moving uses (length passes) own) bits)) =
    subst
    (λ (o : List Observer). ArePassTables board passes (steady_cells uses (length passes) o)
    (pass_cells_of board quiet (table_of (moving uses (length passes) o) bits))) (sym drivers)
    (tables_are board c.raw.ensures.rules quiet c.requires.quiet passes c.requires.plannable bits
    c.dr_bits-bits.ensures uses c.in_ok-uses.ensures) in
    IfOk-weaker c.cells_by.result _ _
    (λ tables is.
    subst (λ (s : List DriverCell). ArePassTables board passes s (pass_cells_of board quiet tables.by_control)) (sym is.0)
    (subst
    (λ (t : DriverTable). ArePassTables board passes (steady_cells uses (length passes) own)
    (pass_cells_of board quiet t)) (sym is.1) are))
    c.cells_by.ensures
