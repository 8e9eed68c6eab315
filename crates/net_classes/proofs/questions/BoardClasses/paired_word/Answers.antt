use Rattle.std.proofs.lemmas.List.{get_or_default}
use Rattle.net_classes.proofs.PairWords.{word_more, word_whole}
use Rattle.net_classes.proofs.WordLemmas.{no_word}
use Rattle.net_classes.proofs.questions.BoardClasses.paired_word.Goals as goal

pub loop-d-init : goal.loop-d-init
loop-d-init c = no_word c.args.word

pub loop-d-preserved : goal.loop-d-preserved
loop-d-preserved c =
    let drivers = c.tested_drivers-d-items.result.now in
    word_more c.args.self.now c.self.inside.classes.now.pairs c.args.net c.args.word drivers
    c.loop-d.d-index _ c.loop-d.bits c.word-bits.result
    (rw c.self.view_is at c.raw-rules.ensures.rules)
    (rw c.self.view_is at c.self.invariant.pairs_are) c.tested_drivers-d-items.ensures.drivers
    c.loop-d-test.true (get_or_default drivers c.loop-d.d-index _ _ c.loop-d-test.true) c.word-bits.ensures c.loop-d.invariant

pub returns : goal.returns
returns c =
    word_whole c.args.self.now c.args.net c.args.word c.tested_drivers-d-items.result.now
    c.loop-d.d-index c.loop-d.bits c.tested_drivers-d-items.ensures.drivers c.loop-d-test.false
    c.loop-d.invariant
