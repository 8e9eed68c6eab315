use Rattle.std.proofs.Common.{◌+◌, ◌/◌, false, ◌&&◌, nat_lt, length, sym, ◌∙◌, ap, subst}
use Rattle.std.proofs.lemmas.List.{length-replicate}
use Rattle.board_defs.specs.declared.board.Drive.TheVariants.{AlwaysOn}
use Rattle.net_classes.specs.NetRows.{AreRowBits}
use Rattle.net_classes.specs.Pairs.{fits_at}
use Rattle.net_classes.proofs.PairRowLemmas.{below_now, below_still, covered_bit, none_below}
use Rattle.net_classes.proofs.WordLemmas.{blank_bits, same_row}
use Rattle.net_classes.proofs.pair_rows.covered_row.Goals as goal

pub loop-net-init : goal.loop-net-init
loop-net-init c =
    let board = c.args.known.now.board in
    let words = c.net_count.result / 64 + 1 in
    record {
      size = ap length c.in_ok-row.ensures ∙ length-replicate words 0 ∙ ap (λ n. n / 64 + 1) c.net_count.ensures;
      bits =
          same_row (λ n. false) (λ n. nat_lt n 0 && fits_at board AlwaysOn n)
          (none_below (fits_at board AlwaysOn)) c.in_ok-row.row
          (subst (AreRowBits (λ n. false)) (sym c.in_ok-row.ensures) (blank_bits words));
    }

pub loop-net-preserved : goal.loop-net-preserved
loop-net-preserved c =
    let board = c.args.known.now.board in
    let k = c.loop-net.net in
    record {
      size = c.put.ensures.size ∙ c.loop-net.invariant.size;
      bits =
          c.put.ensures.bits (λ n. nat_lt n k && fits_at board AlwaysOn n)
          (λ n. nat_lt n (k + 1) && fits_at board AlwaysOn n) c.loop-net.invariant.bits
          (below_now (fits_at board AlwaysOn) k _
          (ap (λ ds. nat_lt 0 (length ds)) c.drivers.ensures ∙ covered_bit board k))
          (below_still (fits_at board AlwaysOn) k);
    }
