use Rattle.std.proofs.Common.{length, sum_by, ap, ◌∙◌, arith}
use Rattle.std.proofs.lemmas.List.{take_all}
use Rattle.ident_test.specs.Patterns.{register_pattern}
use Rattle.ident_test.proofs.RowLemmas.{bits_are}
use Rattle.ident_test.proofs.ident.scan_length.Goals as goal

pub returns : goal.returns
returns c =
    c.loop-part.invariant.bits
    ∙ ap (sum_by (λ part. length (register_pattern part))) (take_all c.loop-part.part-index c.args.parts.now (omega arith))
    ∙ bits_are c.args.parts.now
