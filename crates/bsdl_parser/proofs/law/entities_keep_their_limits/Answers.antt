use Rattle.bsdl_parser.proofs.AttributeKinds.{have_kinds}
use Rattle.bsdl_parser.proofs.Sizes.{is_small}
use Rattle.bsdl_parser.proofs.law.entities_keep_their_limits.Goals as goal

pub returns-clause-kinds : goal.returns-clause-kinds
returns-clause-kinds c = have_kinds

pub returns-clause-small : goal.returns-clause-small
returns-clause-small c = is_small
