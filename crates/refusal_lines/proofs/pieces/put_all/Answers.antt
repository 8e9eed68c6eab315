use Rattle.bt_base.proofs.Cuts.{puts_cut, puts_err}
use Rattle.refusal_lines.proofs.PieceLemmas.{puts_first, whole-from}
use Rattle.std.proofs.Common.{arith}
use Rattle.refusal_lines.proofs.pieces.put_all.Goals as goal

pub returns-in_err-put : goal.returns-in_err-put
returns-in_err-put g c = puts_err _ c.put.ensures c.in_err-put.was c.from_residual.ensures.0

pub loop-piece-init : goal.loop-piece-init
loop-piece-init g c = puts_first c.put.ensures c.in_ok-put.was

pub returns-in_err-put-2 : goal.returns-in_err-put-2
returns-in_err-put-2 g c =
    puts_cut _ c.loop-piece.invariant c.put-in-loop-piece.ensures c.in_err-put-2.was c.from_residual-in_err-put-2.ensures.0
    (whole-from c.args.first.now c.args.others.now c.loop-piece.piece-index _ (omega arith))
