use Rattle.response_log.proofs.KeptLemmas.{kept_rows-size}
use Rattle.response_log.proofs.kept.Log.of.Goals as goal

pub returns-clause-size : goal.returns-clause-size
returns-clause-size c =
    kept_rows-size c.args.len c.args.rows c.args.digits.items c.requires.count
