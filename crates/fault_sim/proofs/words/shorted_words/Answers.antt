use Rattle.std.proofs.Common.{Bool, Some, None, ap, cond, ◌∙◌}
use Rattle.fault_sim.specs.inner.Words.{word_bit}
use Rattle.fault_sim.proofs.WordLemmas.{or_word}
use Rattle.fault_sim.proofs.words.shorted_words.Goals as goal

pub returns : goal.returns
returns c j less =
    ap (λ (b : Bool). cond b (Some (word_bit c.shorted_value.result j)) None) (or_word c.args.first.driven c.args.second.driven j)
    ∙ c.shorted_value.ensures j less
