use Rattle.std.proofs.Common.{◌==◌, ◌∙◌, ℕ, ap, sym, arith}
use Rattle.std.proofs.lemmas.Bool.{le-ltb}
use Rattle.std.proofs.lemmas.Nat.Bits.{bit_at_above}
use Rattle.fault_sim.proofs.feed.code_bit.Goals as goal

pub returns-else-j-lt32 : goal.returns-else-j-lt32
returns-else-j-lt32 c =
    le-ltb c.args.j 32 c.if-j-lt32.false
    ∙ sym
    (ap (λ (n : ℕ). n == 1) (bit_at_above c.args.code 32 c.args.j (omega arith) c.if-j-lt32.false))
