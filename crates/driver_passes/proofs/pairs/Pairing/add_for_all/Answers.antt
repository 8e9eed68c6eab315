use Rattle.std.proofs.Common.{◌∙◌, ◌<◌, length, ap, arith}
use Rattle.board_defs.specs.Passes.{useful_controls}
use Rattle.driver_passes.proofs.PairLemmas.{net_done}
use Rattle.driver_passes.proofs.pairs.Pairing.add_for_all.Goals as goal

pub loop-a-preserved : goal.loop-a-preserved
loop-a-preserved c =
    let board = c.args.board.now in
    let less : c.loop-a.a
    < length board.nets = omega
    (arith, c.net_count-a-end.ensures.value, ap (λ b. length b.nets) c.classes.ensures.same)
    in
    record {
      pairing = c.in_ok-add_for_later.ensures.pairing;
      done = c.in_ok-add_for_later.ensures.done;
      few = c.in_ok-add_for_later.ensures.few;
      rest =
          net_done board (useful_controls board) c.loop-a.self.passes.items
          c.add_for_later.new.self.passes.items c.loop-a.a less
          c.in_ok-add_for_later.ensures.added ∙ c.loop-a.invariant.rest;
    }
