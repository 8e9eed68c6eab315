use Rattle.std.proofs.Common.{length, ap, arith}
use Rattle.walk_test.proofs.FillLemmas.{past_codes}
use Rattle.walk_test.proofs.filling.fill_scan.Goals as goal

pub of-requires-clause-some : goal.of-requires-clause-some
of-requires-clause-some c = (past_codes c.args.tables.now c.args.k (omega arith) c.requires.scan).0

pub fill-requires-else-k-lt3-clause-row : goal.fill-requires-else-k-lt3-clause-row
fill-requires-else-k-lt3-clause-row c =
    omega (
      arith,
      (past_codes c.args.tables.now c.args.k (omega arith) c.requires.scan).1,
      ap (λ it. length it.tables.nets) c.of.ensures,
    )
