-- The loop goes from the last bit to the first, so the first bit with a pin replaces the later ones
-- in the map.
use Rattle.std.proofs.Common.{◌∙◌, arith}
use Rattle.board_lines.proofs.PinLemmas.{bits_all, bits_step}
use Rattle.board_lines.proofs.pin_rows.bits_by_pin.Goals as goal

pub loop-i-preserved : goal.loop-i-preserved
loop-i-preserved c = record {
  within = omega (arith, c.loop-i.invariant.within);
  places =
      λ q. bits_step c.args.bits.items.now c.loop-i.i c.index-bits-i.result q.now _ _ c.loop-i-test.true
      c.loop-i.invariant.within (c.loop-i.invariant.places q) (c.in_ok-put_pin.ensures q);
}

pub returns : goal.returns
returns c = λ q. c.loop-i.invariant.places q ∙ bits_all c.args.bits.items.now c.loop-i.i q.now (omega (arith, c.loop-i-test.false))
