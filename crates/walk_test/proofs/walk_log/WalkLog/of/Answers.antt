use Rattle.walk_test.proofs.ReadLemmas.{all_logged}
use Rattle.walk_test.proofs.walk_log.WalkLog.of.Goals as goal

pub invariant_of-result : goal.invariant_of-result
invariant_of-result c =
    all_logged c.args.log.now c.args.nets.now c.args.len c.in_ok-mask.mask.bits c.requires.few
    c.requires.size c.requires.places c.in_ok-mask.ensures
