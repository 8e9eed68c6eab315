use Rattle.std.proofs.Common.{◌∙◌}
use Rattle.commands.proofs.SummaryLemmas.{counts_all}
use Rattle.commands.proofs.board_summary.text_bytes.Goals as goal

pub write_test-requires : goal.write_test-requires
write_test-requires c = record {
  kept = rw c.board.ensures at (c.in_ok-rows.ensures.kept c.args.test.now.plan);
  room = rw c.board.ensures at c.in_ok-rows.ensures.room;
}

pub returns : goal.returns
returns c = c.count.ensures ∙ counts_all c.write_test.result c.write_test.ensures c.new-counter.ensures
