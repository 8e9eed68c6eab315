use Rattle.std.proofs.Common.{ℕ, List, sym, ap, ◌∙◌, subst}
use Rattle.board_defs.specs.declared.board.Ctl.{Ctl}
use Rattle.board_defs.specs.declared.board.RawBoard.{RawBoard}
use Rattle.board_defs.specs.BoardRules.{IsBoard}
use Rattle.board_defs.specs.Passes.{ArePasses, passes_of}
use Rattle.tap_defs.specs.board.Explaining.{set_of}
use Rattle.tap_defs.specs.board.TestRows.{code_width, observed_count}
use Rattle.plan_tables.specs.declared.tables.PlanTables.{PlanTables}
use Rattle.fault_sim.specs.declared.fault_lists.FaultLists.{FaultLists}
use Rattle.fault_sim.specs.Suspects.{AreSuspects}
use Rattle.fault_sim.specs.inner.Suspects.{suspects_of}
use Rattle.fault_sim.proofs.ExplainLemmas.{all_suspects}
use Rattle.fault_sim.proofs.differing.ComparedLog.suspects.Goals as goal

pub returns : goal.returns
returns c =
    let board = c.args.self.now.test.board in
    let plan = c.args.self.now.test.plan in
    let log = c.args.self.now.log in
    let is = c.logged-logged.ensures in
    let rules = subst (λ (b : RawBoard). IsBoard b) (rw is at c.board.ensures) c.raw-rules.ensures.rules in
    let plan_is = rw is at c.plan-plan.ensures in
    let rows = rw is at c.log-log.ensures.rows in
    let own = (c.passes_kept.ensures board rules).kept in
    let kept = subst (λ (l : List (List Ctl)). ArePasses board l) (sym plan_is.passes) own in
    let width = code_width (observed_count board (passes_of board)) in
    let lists = c.args.universe.now in
    let nets = c.nets.result.now in
    let all = all_suspects board rules plan plan_is.plan plan_is.passes log
    rows.rows rows.bits
    (c.rows_compared.ensures.passes board (passes_of board) width rules own)
    (c.rows_compared.ensures.shape board (passes_of board) width log rules own) kept
    (c.codes_number_covered.ensures board rules plan.passes kept)
    (λ single is. c.singles_respond.ensures.own board single log rules is)
    (c.expected_bits.ensures.bits board _ log)
    (λ single is expected explains. c.expected_logs.ensures.own_unexplained board rules log expected
    (set_of single) (c.singles_observable.ensures.observable board single is)
    (c.singles_observable.ensures.nonempty single) explains)
    lists c.requires lists.starts_are nets c.nets.ensures in
    subst (λ (l : List ℕ). AreSuspects board plan lists log l)
    (sym
    (c.in_ok-places.ensures
    ∙ ap (λ (p : PlanTables). suspects_of p c.lists.result.now nets)
    plan_is.value
    ∙ ap (λ (l : FaultLists). suspects_of plan l nets) c.lists.ensures)) all
