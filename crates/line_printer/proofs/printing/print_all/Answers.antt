use Rattle.std.proofs.Common.{◌+◌, refl, sym, drop, map, append-nil, arith}
use Rattle.line_printer.specs.Prints.{whole}
use Rattle.line_printer.proofs.PrintLemmas.{prints_ok, prints_err, prints_none, prints_same, prints_done, whole-more, whole-split}
use Rattle.line_printer.proofs.printing.print_all.Goals as goal

pub loop-piece-init : goal.loop-piece-init
loop-piece-init g c = prints_none tt (sym (append-nil c.args.line.now))

pub returns-in_err-print : goal.returns-in_err-print
returns-in_err-print g c =
    prints_same (whole-split c.args.pieces.now c.loop-piece.piece-index _ (omega arith))
    (prints_ok c.loop-piece.invariant refl
    (prints_err (whole (map (λ p. p.now) (drop (c.loop-piece.piece-index + 1) c.args.pieces.now)))
    c.print.ensures c.in_err-print.was c.from_residual.ensures.0))

pub loop-piece-preserved : goal.loop-piece-preserved
loop-piece-preserved g c =
    prints_same (whole-more c.args.pieces.now c.loop-piece.piece-index _ (omega arith))
    (prints_ok c.loop-piece.invariant refl (prints_done c.print.ensures c.in_ok-print.was))
