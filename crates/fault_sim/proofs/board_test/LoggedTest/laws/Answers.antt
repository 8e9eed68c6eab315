use Rattle.std.proofs.Common.{subst}
use Rattle.board_defs.specs.declared.board.RawBoard.{RawBoard}
use Rattle.board_defs.specs.BoardRules.{IsBoard}
use Rattle.board_defs.specs.Passes.{passes_of}
use Rattle.tap_defs.specs.board.TestRows.{code_width, observed_count}
use Rattle.fault_sim.proofs.MatchLemmas.{expected_is, explains_is}
use Rattle.fault_sim.proofs.board_test.LoggedTest.laws.Goals as goal

pub returns-clause-expected : goal.returns-clause-expected
returns-clause-expected c =
    let board = c.args.self.now.test.board in
    let log = c.args.self.now.log in
    let rules = subst (λ (b : RawBoard). IsBoard b) c.board.ensures c.raw-rules.ensures.rules in
    let kept = (c.passes_kept.ensures board rules).kept in
    let width = code_width (observed_count board (passes_of board)) in
    expected_is board rules c.args.self.now.test.plan c.plan-plan.ensures.plan
    c.plan-plan.ensures.passes log c.log-log.ensures.rows.rows c.log-log.ensures.rows.bits
    (c.rows_compared.ensures.passes board (passes_of board) width rules kept)
    (c.rows_compared.ensures.shape board (passes_of board) width log rules kept) (c.expected_bits.ensures.bits board _ log)

pub returns-clause-explains : goal.returns-clause-explains
returns-clause-explains c =
    let board = c.args.self.now.test.board in
    let log = c.args.self.now.log in
    let rules = subst (λ (b : RawBoard). IsBoard b) c.board.ensures c.raw-rules.ensures.rules in
    let kept = (c.passes_kept.ensures board rules).kept in
    let width = code_width (observed_count board (passes_of board)) in
    λ single is. explains_is board rules c.args.self.now.test.plan c.plan-plan.ensures.plan
    c.plan-plan.ensures.passes log c.log-log.ensures.rows.rows c.log-log.ensures.rows.bits
    (c.rows_compared.ensures.passes board (passes_of board) width rules kept)
    (c.rows_compared.ensures.shape board (passes_of board) width log rules kept) single is
    (c.singles_respond.ensures.own board single log rules is)
