use Rattle.std.proofs.Common.{◌≡◌, ◌*◌, ◌≤◌, length, take}
use Rattle.std.specs.Prelude.{IfSome, min}
use Rattle.bt_bits.specs.Hex.{digit_count}
use Rattle.text_lines.proofs.LineLemmas.{text_left}
use Rattle.response_log.specs.LogRows.{log_rows}
use Rattle.response_log.specs.Kept.{AreWhole, kept_rows, text_at}
use Rattle.response_log.proofs.LineLemmas.{rows_after, lines_left, IsBehind}
use Rattle.response_log.proofs.reader.keep_rows.Given as goal

-- The whole text gives the same log or fault as the rows that were read so far, followed by the remaining lines.
abbrev pub invariant-loop-next : goal.invariant-loop-next
invariant-loop-next l = record {
  said : log_rows l.initial.text l.rows l.len
      ≡ rows_after l.rows l.len (kept_rows l.len l.found (take l.kept l.text))
      (lines_left l.number (text_at l.text l.next));
  count : l.kept ≡ l.found * digit_count l.len;
  whole : AreWhole l.len l.found (take l.kept l.text);
  few : l.found ≤ l.rows;
  places : length l.row.items ≡ min l.width (length l.text);
  within : l.kept ≤ length l.text;
  place : IfSome l.next (IsBehind l.kept (length l.text) l.number);
}

abbrev pub decreases-loop-next : goal.decreases-loop-next
decreases-loop-next l = text_left (text_at l.text l.next)
