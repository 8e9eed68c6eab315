use Rattle.std.proofs.Common.{◌+◌, not, ◌&&◌, length, take, ◌∙◌, ap}
use Rattle.net_classes.specs.NetRows.{stands_in}
use Rattle.net_classes.proofs.PairRowLemmas.{nothing_out, out_now, out_still}
use Rattle.net_classes.proofs.pair_rows.row_without.Goals as goal

pub loop-net-init : goal.loop-net-init
loop-net-init c =
    record {
      size = ap length c.in_ok-less.ensures;
      bits = λ passes are. nothing_out passes c.args.row.now
          c.in_ok-less.less c.in_ok-less.ensures are;
    }

pub loop-net-preserved : goal.loop-net-preserved
loop-net-preserved c =
    let nets = c.args.nets.now in
    let i = c.loop-net.net-index in
    record {
      size = c.put.ensures.size ∙ c.loop-net.invariant.size;
      bits =
          λ passes are. c.put.ensures.bits (λ n. passes n && not (stands_in (take i nets) n))
          (λ n. passes n && not (stands_in (take (i + 1) nets) n))
          (c.loop-net.invariant.bits passes are) (out_now passes nets i c.loop-net-test.true)
          (out_still passes nets i c.loop-net-test.true);
    }
