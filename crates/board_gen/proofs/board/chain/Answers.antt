use Rattle.std.proofs.Common.{[], arith}
use Rattle.board_gen.specs.BoardTexts.{chain_file_text, part_line}
use Rattle.board_gen.proofs.EachLemmas.{appended_more, appended_all}
use Rattle.board_gen.proofs.board.chain.Goals as goal

pub loop-part-preserved : goal.loop-part-preserved
loop-part-preserved c = appended_more [] _ _ part_line 1 c.loop-part.part (omega arith) c.loop-part.invariant c.in_ok-push_part.ensures

pub returns : goal.returns
unfolding chain_file_text
returns c = appended_all [] _ part_line 1 c.args.number c.loop-part.part (omega arith) c.loop-part.invariant
