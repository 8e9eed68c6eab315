use Rattle.std.proofs.Common.{arith, rules}
use Rattle.batch_diag.proofs.ReadLemmas.{read_of_pieces}
use Rattle.batch_diag.proofs.reader.read_pieces.Goals as goal

pub returns : goal.returns
returns g c =
    read_of_pieces c.args.reading.now (λ v. v.items) c.count-count.result c.number.result
    (omega (arith, c.number.ensures.some)) c.count-count.ensures _ c.in_pieces.result
    c.in_pieces.ensures
    (λ number answer gives. search rules)
