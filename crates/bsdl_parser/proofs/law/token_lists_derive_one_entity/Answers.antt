use Rattle.bsdl_parser.proofs.Answers.{one_entity}
use Rattle.bsdl_parser.proofs.law.token_lists_derive_one_entity.Goals as goal

pub returns : goal.returns
returns c = one_entity
