use Rattle.std.proofs.Common.{ℕ, arith, get_or, length-set}
use Rattle.std.specs.Int.Bits.{bit_and, bit_xor}
use Rattle.fault_sim.proofs.MarkLemmas.{marked_more, unmarked_left}
use Rattle.fault_sim.proofs.marks.mark_digits.Goals as goal

pub loop-k-preserved : goal.loop-k-preserved
loop-k-preserved c =
    let wrong : ℕ
    → ℕ = λ i. bit_and (bit_xor (get_or c.args.log.now i 0) (get_or c.args.expected.now i 0))
    (get_or c.args.compared.now i 0) in
    record {
      long = omega (arith, length-set {A = ℕ}, c.loop-k.invariant.long);
      done = marked_more c.args.marks.now c.loop-k.marks wrong c.loop-k.k c.loop-k.invariant.left (omega arith) c.loop-k.invariant.done;
      left = unmarked_left c.args.marks.now c.loop-k.marks wrong c.loop-k.k c.loop-k.invariant.left _;
    }
