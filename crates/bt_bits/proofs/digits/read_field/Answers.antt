use Rattle.std.proofs.Common.{◌∙◌, ap, length, false, replicate}
use Rattle.std.proofs.lemmas.List.{length-replicate}
use Rattle.bt_bits.specs.Hex.{digit_count}
use Rattle.bt_bits.proofs.DigitLemmas.{digits_of-row, length-digits_of}
use Rattle.bt_bits.proofs.digits.read_field.Goals as goal

pub fill_field-requires-clause-places : goal.fill_field-requires-clause-places
fill_field-requires-clause-places c =
    ap length (c.deref_mut.ensures.value ∙ c.make_zeros.ensures.value)
    ∙ length-digits_of (replicate c.args.len false)
    ∙ ap digit_count (length-replicate c.args.len false)

pub returns-clause-kept : goal.returns-clause-kept
returns-clause-kept c =
    digits_of-row (replicate c.args.len false) c.args.len c.make_zeros-2.new.digits.items
    (length-replicate c.args.len false) c.make_zeros-2.ensures.value
