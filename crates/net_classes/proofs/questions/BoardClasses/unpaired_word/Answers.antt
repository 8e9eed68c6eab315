use Rattle.std.proofs.Common.{arith}
use Rattle.net_classes.proofs.UnpairedWords.{unpaired_bits}
use Rattle.net_classes.proofs.questions.BoardClasses.unpaired_word.Goals as goal

pub returns : goal.returns
returns c =
    unpaired_bits c.args.self.now c.self.inside.classes.now.pairs c.args.net c.args.word
    c.word-covered.result c.paired_word.result (rw c.self.view_is at c.self.invariant.pairs_are)
    c.word-covered.ensures (omega arith) c.paired_word.ensures
