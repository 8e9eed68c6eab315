use Rattle.std.proofs.Common.{◌≡◌, ◌+◌, ◌<◌, ◌≤◌, ◌++◌, length, map}
use Rattle.std.specs.Prelude.{IfSome}
use Rattle.response_log.specs.LogRows.{row_lines}
use Rattle.batch_diag.specs.Batch.{blocks_of}
use Rattle.batch_diag.specs.inner.Cutting.{blocks_at}
use Rattle.batch_diag.specs.inner.Reading.{lines_of_unread}
use Rattle.batch_diag.proofs.ReadLemmas.{titles_left}
use Rattle.batch_diag.proofs.lines.list_blocks.Given as goal

-- the blocks in `unread`, followed by the blocks from the title `next` on, are the blocks of the text
abbrev pub invariant-loop-next : goal.invariant-loop-next
invariant-loop-next l = record {
  cut : blocks_of (row_lines l.text.items.now) ≡ map lines_of_unread l.unread.items ++ blocks_at l.next;
  few : length l.unread.items ≤ length l.text.items.now;
  count : IfSome l.next (λ title. length l.unread.items < title.line);
  place : IfSome l.next (λ title. title.line + length title.behind.now ≤ length l.text.items.now);
}

abbrev pub decreases-loop-next : goal.decreases-loop-next
decreases-loop-next l = titles_left l.next
