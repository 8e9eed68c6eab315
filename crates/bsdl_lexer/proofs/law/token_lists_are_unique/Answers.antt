use Rattle.std.proofs.Common.{Ok}
use Rattle.bsdl_lexer.proofs.Answers.{one_answer}
use Rattle.bsdl_lexer.proofs.law.token_lists_are_unique.Goals as goal

pub returns : goal.returns
returns c = λ text tokens others h k. (one_answer text tokens others (Ok tt) (Ok tt) h k).0
