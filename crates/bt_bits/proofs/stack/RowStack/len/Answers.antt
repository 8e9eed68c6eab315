use Rattle.std.proofs.Common.{ap, ◌∙◌, sym, length}
use Rattle.bt_bits.specs.Stacks.{stacked}
use Rattle.bt_bits.proofs.stack.RowStack.len.Goals as goal

pub returns-clause-each : goal.returns-clause-each
returns-clause-each c j less = ap (λ s. length (stacked s j)) (sym c.self.view_is) ∙ (c.self.invariant.0 j less).count
