use Rattle.std.proofs.Common.{◌≡◌, ◌∙◌, sym, replicate}
use Rattle.std.proofs.lemmas.Grind.{common_steps}
use Rattle.std.proofs.Common.{arith}
use Rattle.bt_bits.specs.Hex.{digit_count}
use Rattle.bt_bits.proofs.DigitLemmas.{digits_of-zeros}
use Rattle.bt_bits.proofs.digits.make_zeros.Goals as goal

pub returns-clause-value : goal.returns-clause-value
returns-clause-value c =
    let zeros : c.resize.new.self.items ≡ replicate (digit_count c.args.len) 0 = grind (arith, common_steps) in
    zeros ∙ sym (digits_of-zeros c.args.len)
