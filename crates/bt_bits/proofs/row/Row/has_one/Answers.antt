use Rattle.std.proofs.Common.{ap, ◌∙◌, not}
use Rattle.std.specs.Prelude.{◌==◌}
use Rattle.std.specs.List.{list_any}
use Rattle.bt_bits.proofs.DigitLemmas.{any_digit, seen_digits}
use Rattle.bt_bits.proofs.row.Row.has_one.Goals as goal

pub returns : goal.returns
returns c =
    let are = seen_digits _ c.args.self.now.bits c.self.inside.len c.self.inside.digits.items
    c.self.invariant.0 (ap (λ r. r.bits) c.self.view_is) in
    c.has_one.ensures ∙ ap (list_any (λ x. not (x == 0))) (c.deref.ensures.value ∙ are.values) ∙ any_digit c.args.self.now.bits
