-- Each step of the loop marks one more word.
use Rattle.std.specs.Prelude.{is_some}
use Rattle.indexmap.specs.IndexMap.{get_by}
use Rattle.board_files.specs.Names.{same_word}
use Rattle.board_lines.specs.NetWords.{lent_pin}
use Rattle.board_lines.specs.ChainParts.{pin_places, place_of_pin}
use Rattle.board_build.specs.inner.Marked.{mark_by}
use Rattle.board_build.proofs.GroupLemmas.{mark_step}
use Rattle.board_build.proofs.marked.mark_each.Goals as goal

pub loop-i-preserved : goal.loop-i-preserved
loop-i-preserved c =
    mark_step
    (mark_by c.args.parts.now
    (λ q. is_some (get_by (λ n. same_word q.now n.now) c.args.described.now))
    (λ q. place_of_pin (pin_places c.args.places.now) (lent_pin q))
    (λ q. is_some (get_by (λ n. same_word q.now n.now) c.args.inerts.now))) c.args.words.now
    c.loop-i.i c.loop-i.marked.items _ c.loop-i-test.true c.in_ok-mark_at.ensures c.loop-i.invariant
