use Rattle.std.proofs.Common.{◌∙◌, ◌-◌, ◌&&◌, ◌||◌, Bool, ap, arith}
use Rattle.std.specs.Prelude.{bit_and}
use Rattle.fault_sim.specs.inner.Words.{word_bit}
use Rattle.fault_sim.proofs.WordLemmas.{and_word, chosen_bit, not_word, or_word}
use Rattle.fault_sim.proofs.words.choose.Goals as goal

pub returns : goal.returns
returns c j less =
    let rows = c.args.rows in
    let inside = c.args.inside in
    let outside = c.args.outside in
    or_word (bit_and inside rows) (bit_and outside (4294967295 - rows)) j
    ∙ ap (λ (b : Bool). b || word_bit (bit_and outside (4294967295 - rows)) j) (and_word inside rows j)
    ∙ ap (λ (b : Bool). (word_bit inside j && word_bit rows j) || b) (and_word outside (4294967295 - rows) j)
    ∙ ap (λ (b : Bool). (word_bit inside j && word_bit rows j) || (word_bit outside j && b)) (not_word rows j (omega arith) less)
    ∙ chosen_bit (word_bit rows j) (word_bit inside j) (word_bit outside j)
