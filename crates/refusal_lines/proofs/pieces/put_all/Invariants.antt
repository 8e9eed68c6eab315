use Rattle.std.proofs.Common.{Ok, take, map, ◌++◌}
use Rattle.bt_base.specs.Puts.{Puts}
use Rattle.bt_base.specs.declared.sink.PutFault.{PutFault}
use Rattle.line_printer.specs.Prints.{whole}
use Rattle.refusal_lines.proofs.pieces.put_all.Given as goal

-- the sink took the first piece and the other pieces before `piece`
abbrev pub invariant-loop-piece : goal.invariant-loop-piece
invariant-loop-piece g l =
    Puts {T = Unit {0}} {E = PutFault} (g.N.Sink.shown l.fn.notes) (g.N.Sink.shown l.notes)
    (l.first ++ whole (map (λ p. p.now) (take l.piece-index l.others))) (Ok tt)
