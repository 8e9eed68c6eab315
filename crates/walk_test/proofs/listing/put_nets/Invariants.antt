use Rattle.std.specs.List.{flat_map}
use Rattle.walk_test.specs.GroupText.{net_line}
use Rattle.line_printer.proofs.PutLemmas.{Completes, texts_after}
use Rattle.walk_test.proofs.listing.put_nets.Given as goal

-- The text written so far, followed by the lines of the remaining nets, is the text of the lines of all nets.
abbrev pub invariant-loop-n : goal.invariant-loop-n
invariant-loop-n g l =
    Completes (g.K.Sink.shown l.fn.out) (g.K.Sink.shown l.out)
    (texts_after (net_line l.board) l.nets l.n-index) (flat_map (net_line l.board) l.nets)
