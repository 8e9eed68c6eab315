use Rattle.std.proofs.Common.{Bool, Some, None, ap, cond, true, ◌∙◌, ◌&&◌, ◌||◌}
use Rattle.std.specs.Prelude.{bit_and}
use Rattle.fault_sim.specs.inner.Words.{word_bit}
use Rattle.fault_sim.proofs.WordLemmas.{and_bits, and_word, full_word, or_bits, or_word}
use Rattle.fault_sim.proofs.words.shorted_value.Goals as goal

pub returns-in-And : goal.returns-in-And
returns-in-And c j less =
    let first = c.args.first in
    let second = c.args.second in
    let d = word_bit first.driven j in
    let e = word_bit second.driven j in
    let a = word_bit first.value j in
    let b = word_bit second.value j in
    rw c.in-And.is
    (ap (λ (t : Bool). cond (d || e) (Some t) None)
    (and_word c.choose.result c.choose-in-And.result j
    ∙ ap (λ (t : Bool). t && word_bit c.choose-in-And.result j) (c.choose.ensures j less ∙ ap (λ (t : Bool). cond d a t) (full_word j less))
    ∙ ap (λ (t : Bool). cond d a true && t) (c.choose-in-And.ensures j less ∙ ap (λ (t : Bool). cond e b t) (full_word j less)))
    ∙ and_bits d e a b)

pub returns-in-Or : goal.returns-in-Or
returns-in-Or c j less =
    let first = c.args.first in
    let second = c.args.second in
    let d = word_bit first.driven j in
    let e = word_bit second.driven j in
    let a = word_bit first.value j in
    let b = word_bit second.value j in
    rw c.in-Or.is
    (ap (λ (t : Bool). cond (d || e) (Some t) None)
    (or_word (bit_and first.value first.driven) (bit_and second.value second.driven) j
    ∙ ap (λ (t : Bool). t || word_bit (bit_and second.value second.driven) j) (and_word first.value first.driven j)
    ∙ ap (λ (t : Bool). (a && d) || t) (and_word second.value second.driven j))
    ∙ or_bits d e a b)
