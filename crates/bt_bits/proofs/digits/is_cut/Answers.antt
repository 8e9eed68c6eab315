use Rattle.std.proofs.Common.{arith, not, sym, ap, ◌∙◌, eq-eqb, ◌%◌}
use Rattle.std.specs.List.{list_all}
use Rattle.bt_bits.proofs.DigitLemmas.{drop-bits_of, drop-bits_of-whole}
use Rattle.bt_bits.proofs.digits.is_cut.Goals as goal

pub returns-then-count-eq0 : goal.returns-then-count-eq0
returns-then-count-eq0 c =
    eq-eqb (c.args.len % 4) 0 c.if-count-eq0.true
    ∙ ap (list_all not)
    (sym (drop-bits_of-whole c.args.digits.now c.args.len c.requires c.if-count-eq0.true))

pub returns-else-count-eq0 : goal.returns-else-count-eq0
returns-else-count-eq0 c =
    c.is_digit_cut.ensures ∙ ap (list_all not) (sym (drop-bits_of c.args.digits.now c.args.len c.requires (omega arith)))
