use Rattle.std.proofs.lemmas.Bool.{not-false}
use Rattle.coverage_list.proofs.NetLemmas.{free_pairs_none}
use Rattle.coverage_list.proofs.questions.may_be_unpaired.Goals as goal

pub returns-then-is_covered-clause-free : goal.returns-then-is_covered-clause-free
returns-then-is_covered-clause-free c e net at =
    free_pairs_none c.args.board.now c.args.n net at
    (c.is_paired_with_all.ensures (not-false c.is_paired_with_all.result e))
