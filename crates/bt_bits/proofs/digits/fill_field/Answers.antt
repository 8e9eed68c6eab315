use Rattle.std.proofs.Common.{◌∙◌}
use Rattle.bt_bits.proofs.TextLemmas.{field_bits-read, field_kept}
use Rattle.bt_bits.proofs.digits.fill_field.Goals as goal

pub returns-then-fill_digits-clause-bits : goal.returns-then-fill_digits-clause-bits
returns-then-fill_digits-clause-bits c =
    field_bits-read c.args.len c.args.text.now c.fill_digits.new.digits c.is_cut.result
    c.requires.text (c.if-fill_digits.ensures.0) c.is_cut.ensures

pub returns-then-fill_digits-clause-kept : goal.returns-then-fill_digits-clause-kept
returns-then-fill_digits-clause-kept c =
    field_kept c.args.len c.fill_digits.new.digits c.is_cut.result
    (c.fill_digits.auto.digits ∙ c.requires.places) (c.if-fill_digits.ensures.1)
    c.is_cut.ensures
