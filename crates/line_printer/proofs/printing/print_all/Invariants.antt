use Rattle.std.proofs.Common.{take, map, Ok}
use Rattle.bt_base.specs.declared.sink.PutFault.{PutFault}
use Rattle.line_printer.specs.Prints.{Prints, whole}
use Rattle.line_printer.proofs.printing.print_all.Given as goal

-- The pieces before the current one were printed.
abbrev pub invariant-loop-piece : goal.invariant-loop-piece
invariant-loop-piece g l =
    Prints {T = Unit {0}} {E = PutFault} (g.K.Sink.shown l.fn.out) (g.K.Sink.shown l.out) l.fn.line
    l.line (whole (map (λ p. p.now) (take l.piece-index l.pieces))) (Ok tt)
