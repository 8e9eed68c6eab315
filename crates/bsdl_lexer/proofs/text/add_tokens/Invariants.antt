use Rattle.std.proofs.Common.{◌≤◌, ◌+◌, ◌-◌, length}
use Rattle.bsdl_lexer.proofs.Answers.{WalksTo}
use Rattle.bsdl_lexer.proofs.text.add_tokens.Given as goal

abbrev pub invariant-loop-token : goal.invariant-loop-token
invariant-loop-token l = record {
  walks : WalksTo l.text.items.now l.out.items l.place l.line;
  within : l.place ≤ length l.text.items.now;
  few : l.line ≤ 1 + l.place;
}

abbrev pub decreases-loop-token : goal.decreases-loop-token
decreases-loop-token l = length l.text.items.now - l.place
