use Rattle.std.specs.List.{flat_map}
use Rattle.walk_test.specs.GroupText.{group_text}
use Rattle.line_printer.proofs.PutLemmas.{Completes, texts_after}
use Rattle.walk_test.proofs.listing.put_groups.Given as goal

-- The text written so far, followed by the texts of the remaining groups, is the text of all groups.
abbrev pub invariant-loop-group : goal.invariant-loop-group
invariant-loop-group g l =
    Completes (g.K.Sink.shown l.fn.out) (g.K.Sink.shown l.out)
    (texts_after (group_text l.board) l.groups l.group-index)
    (flat_map (group_text l.board) l.groups)
