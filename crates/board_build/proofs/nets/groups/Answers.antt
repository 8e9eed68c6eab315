-- Each step of the loop adds the pin of one more word to the group of the word's net.
use Rattle.std.proofs.Common.{◌≡◌, length, map, vec_len, sym, ◌∙◌}
use Rattle.std.proofs.lemmas.List.{length-map}
use Rattle.board_build.proofs.GroupLemmas.{groups_more}
use Rattle.board_build.proofs.nets.groups.Goals as goal

pub loop-i-preserved : goal.loop-i-preserved
loop-i-preserved c =
    let size : length (map (λ g. g.items) c.loop-i.groups.items)
    ≡ vec_len c.loop-i.groups = length-map c.loop-i.groups.items (λ g. g.items)
    ∙ sym c.loop-i.groups.ok.0 in
    record {
      count = c.in_ok-add_at.ensures.count ∙ c.loop-i.invariant.count;
      groups =
          groups_more c.args.words.now c.loop-i.i c.args.count _
          (map (λ g. g.items) c.loop-i.groups.items) _ c.loop-i-test.true c.loop-i.invariant.count
          size c.in_ok-add_at.ensures.groups c.loop-i.invariant.groups;
    }
