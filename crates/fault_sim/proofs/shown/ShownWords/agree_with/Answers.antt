use Rattle.std.proofs.Common.{arith}
use Rattle.std.proofs.lemmas.Bool.{eq-eqb, eqb-true}
use Rattle.fault_sim.proofs.ShownLemmas.{agreeing, clashes, clashes_nowhere}
use Rattle.fault_sim.proofs.shown.ShownWords.agree_with.Goals as goal

pub returns : goal.returns
returns c =
    let shown = c.args.self.now in
    let word = c.args.word in (
      λ none. agreeing shown word (omega arith) (eqb-true (clashes shown word) 0 none),
      λ agrees. eq-eqb (clashes shown word) 0 (clashes_nowhere shown word (omega arith) agrees),
    )
