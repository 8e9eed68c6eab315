use Rattle.std.proofs.Common.{◌≡◌, ◌+◌, ◌-◌, ◌≤◌, ◌++◌, ◌∷◌, true, false, drop, get_or, length, replicate, set, sum, sym, ap, ◌∙◌, arith, length-set}
use Rattle.tap_defs.specs.chain.Scan.{tdo_bits, mask_bits}
use Rattle.svf_writer.specs.inner.Chain.{bypass_bits}
use Rattle.svf_writer.proofs.ChainLemmas.{tdo_step, mask_step, drop_before, sum_before, room_before}
use Rattle.svf_writer.proofs.chain.set_captures.Goals as goal

pub set_capture-requires-clause-few : goal.set_capture-requires-clause-few
set_capture-requires-clause-few c =
    omega (
      arith,
      room_before c.args.lengths.now c.loop-i.i c.loop-i.at (omega arith) (omega arith)
          c.loop-i.invariant.at,
    )

pub set_capture-requires-clause-tdo : goal.set_capture-requires-clause-tdo
set_capture-requires-clause-tdo c =
    omega (
      arith,
      room_before c.args.lengths.now c.loop-i.i c.loop-i.at (omega arith) (omega arith)
          c.loop-i.invariant.at,
      c.requires.each (c.loop-i.i - 1) 0 (omega arith),
      c.loop-i.invariant.tdo_length,
    )

pub set_capture-requires-clause-mask : goal.set_capture-requires-clause-mask
set_capture-requires-clause-mask c =
    omega (
      arith,
      room_before c.args.lengths.now c.loop-i.i c.loop-i.at (omega arith) (omega arith)
          c.loop-i.invariant.at,
      c.requires.each (c.loop-i.i - 1) 0 (omega arith),
      c.loop-i.invariant.mask_length,
    )

pub overflow_add-at : goal.overflow_add-at
overflow_add-at c = omega (arith, room_before c.args.lengths.now c.loop-i.i c.loop-i.at (omega arith) (omega arith) c.loop-i.invariant.at)

pub loop-i-preserved : goal.loop-i-preserved
loop-i-preserved c =
    let lengths = c.args.lengths.now in
    let i = c.loop-i.i in
    let at = c.loop-i.at in
    let n = get_or lengths (i - 1) 0 in
    let next : drop (i - 1) lengths ≡ n ∷ drop i lengths = drop_before lengths i (omega arith) (omega arith) in
    let within : at + n ≤ sum lengths = room_before lengths i at (omega arith) (omega arith) c.loop-i.invariant.at in
    let long : 2 ≤ n = c.requires.each (i - 1) 0 (omega arith) in
    record {
      at = omega (arith, sum_before lengths i (omega arith) (omega arith));
      tdo =
          c.set_capture.ensures.tdo
          ∙ tdo_step (drop i lengths) n at (sum lengths) c.loop-i.tdo.bits long
          c.loop-i.invariant.at within c.loop-i.invariant.tdo
          ∙ ap (λ xs. tdo_bits (bypass_bits xs) ++ replicate (sum lengths - (at + n)) false) (sym next);
      mask =
          c.set_capture.ensures.mask
          ∙ mask_step (drop i lengths) n at (sum lengths) c.loop-i.mask.bits long
          c.loop-i.invariant.at within c.loop-i.invariant.mask
          ∙ ap (λ xs. mask_bits (bypass_bits xs) ++ replicate (sum lengths - (at + n)) false) (sym next);
      tdo_length = ap length c.set_capture.ensures.tdo ∙ length-set c.loop-i.tdo.bits at true ∙ c.loop-i.invariant.tdo_length;
      mask_length =
          ap length c.set_capture.ensures.mask
          ∙ length-set (set c.loop-i.mask.bits at true) (at + 1) true
          ∙ length-set c.loop-i.mask.bits at true ∙ c.loop-i.invariant.mask_length;
      tdo_kept = c.set_capture.ensures.tdo_kept ∙ c.loop-i.invariant.tdo_kept;
      mask_kept = c.set_capture.ensures.mask_kept ∙ c.loop-i.invariant.mask_kept;
    }
