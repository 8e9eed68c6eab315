use Rattle.board_defs.proofs.Pairwise.{safe_from_pairs, pairs_from_safe}
use Rattle.board_defs.proofs.law.safe_by_pairs.Goals as goal

pub returns : goal.returns
returns c board setting rules = (pairs_from_safe board setting, safe_from_pairs board setting rules.one_always_on)
