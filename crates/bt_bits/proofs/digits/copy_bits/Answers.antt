use Rattle.std.proofs.Common.{◌∙◌, ap, length, false, replicate}
use Rattle.std.proofs.lemmas.List.{length-replicate}
use Rattle.bt_bits.specs.Hex.{digit_count}
use Rattle.bt_bits.proofs.DigitLemmas.{length-digits_of}
use Rattle.bt_bits.proofs.digits.copy_bits.Goals as goal

pub fill_values-requires : goal.fill_values-requires
fill_values-requires c =
    ap length (c.deref_mut.ensures.value ∙ c.make_zeros.ensures.value)
    ∙ length-digits_of (replicate (length c.args.bits.now) false)
    ∙ ap digit_count (length-replicate (length c.args.bits.now) false)
