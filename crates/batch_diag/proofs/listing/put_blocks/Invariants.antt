use Rattle.batch_diag.specs.BatchText.{batch_text}
use Rattle.line_printer.proofs.PutLemmas.{Completes}
use Rattle.batch_diag.proofs.TextLemmas.{texts_after}
use Rattle.batch_diag.proofs.listing.put_blocks.Given as goal

-- The text written so far, followed by the texts of the blocks from block `i` on, is the text of the batch.
abbrev pub invariant-loop-i : goal.invariant-loop-i
invariant-loop-i g l =
    Completes (g.K.Sink.shown l.fn.out) (g.K.Sink.shown l.out)
    (texts_after l.board l.blocks l.verdicts l.i) (batch_text l.board l.blocks l.verdicts)
