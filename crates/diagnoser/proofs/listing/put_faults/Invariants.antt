use Rattle.std.specs.List.{flat_map}
use Rattle.diagnoser.specs.DiagText.{fault_line}
use Rattle.line_printer.proofs.PutLemmas.{Completes, texts_after}
use Rattle.diagnoser.proofs.listing.put_faults.Given as goal

-- The lines written so far, followed by the lines of the remaining faults, are the lines of all faults.
abbrev pub invariant-loop-fault : goal.invariant-loop-fault
invariant-loop-fault g l =
    Completes (g.K.Sink.shown l.fn.out) (g.K.Sink.shown l.out)
    (texts_after (fault_line l.board) l.faults l.fault-index)
    (flat_map (fault_line l.board) l.faults)
