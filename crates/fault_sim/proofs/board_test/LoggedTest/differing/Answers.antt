use Rattle.std.proofs.Common.{◌∙◌, ◌+◌, List, ℕ, length, ap, sym, subst, arith}
use Rattle.board_defs.specs.declared.board.RawBoard.{RawBoard}
use Rattle.fault_sim.proofs.DifferLemmas.{DifferBelow, differ_all, differ_more, differ_none}
use Rattle.fault_sim.proofs.board_test.LoggedTest.differing.Goals as goal

pub loop-n-init : goal.loop-n-init
loop-n-init c =
    let log = c.args.self.now in
    subst (λ (l : List ℕ). DifferBelow log.test.board log.test.plan log.log 0 l)
    (sym c.new-nets.ensures.items) (differ_none log.test.board log.test.plan log.log)

pub loop-n-preserved : goal.loop-n-preserved
loop-n-preserved c =
    let log = c.args.self.now in
    subst (λ (l : List ℕ). DifferBelow log.test.board log.test.plan log.log (c.loop-n.n + 1) l) (sym c.in_ok-push_if.ensures)
    (differ_more log.test.board log.test.plan log.log c.loop-n.n c.loop-n.nets.items
    c.shows_expected.result c.shows_expected.ensures c.loop-n.invariant)

pub returns : goal.returns
returns c =
    let log = c.args.self.now in
    let count = c.net_count-n-end.ensures ∙ ap (λ (b : RawBoard). length b.nets) c.board.ensures in
    differ_all log.test.board log.test.plan log.log c.loop-n.n c.loop-n.nets.items (omega (arith, count)) c.loop-n.invariant
