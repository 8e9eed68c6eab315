use Rattle.std.proofs.Common.{◌∙◌, ◌&&◌, ◌%◌, not, ap, sym}
use Rattle.std.proofs.Math.Bool.{and-true}
use Rattle.driver_passes.specs.inner.NumberSets.{has_bit, is_in}
use Rattle.driver_passes.proofs.shown.take_shown.Goals as goal

pub returns-then-has_bit-clause-nets : goal.returns-then-has_bit-clause-nets
unfolding is_in
returns-then-has_bit-clause-nets c = λ n from.
    c.take_out.ensures.numbers n from
    ∙ ap (λ t. is_in c.args.left.now n && not (t && is_in c.args.row.now n))
    (c.if-has_bit.ensures ∙ ap (λ w. has_bit w (c.args.a % 64)) c.requires)

pub returns-else-has_bit-clause-nets : goal.returns-else-has_bit-clause-nets
unfolding is_in
returns-else-has_bit-clause-nets c = λ n from.
    sym (and-true (is_in c.args.left.now n))
    ∙ ap (λ t. is_in c.args.left.now n && not (t && is_in c.args.row.now n))
    (c.if-has_bit.ensures ∙ ap (λ w. has_bit w (c.args.a % 64)) c.requires)
