use Rattle.std.proofs.Common.{◌≡◌, ◌+◌, ◌-◌, ◌≤◌, length, take, drop, false}
use Rattle.bsdl_lexer.specs.Tokens.{line_feeds}
use Rattle.bsdl_lexer.specs.inner.Lengths.{gap_len}
use Rattle.bsdl_lexer.proofs.lengths.gap_at.Given as goal

abbrev pub invariant-loop-next : goal.invariant-loop-next
invariant-loop-next l = record {
  within : l.length ≤ length l.text.items.now;
  rest : gap_len false l.text.items.now ≡ l.length + gap_len l.in_comment (drop l.length l.text.items.now);
  counted : l.lines ≡ line_feeds (take l.length l.text.items.now);
  few : l.lines ≤ l.length;
}

abbrev pub decreases-loop-next : goal.decreases-loop-next
decreases-loop-next l = length l.text.items.now - l.length
