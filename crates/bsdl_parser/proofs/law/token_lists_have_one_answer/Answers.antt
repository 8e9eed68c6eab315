use Rattle.std.proofs.Common.{sym, ◌∙◌}
use Rattle.grammars.specs.Grammar.{reader_of_grammar}
use Rattle.bsdl_parser.specs.Bsdl.{file}
use Rattle.bsdl_parser.specs.inner.Judged.{judged}
use Rattle.bsdl_parser.proofs.Answers.{is_answer, one_answer}
use Rattle.bsdl_parser.proofs.law.token_lists_have_one_answer.Goals as goal

pub returns-clause-some : goal.returns-clause-some
returns-clause-some c = λ text tokens. (judged text tokens (reader_of_grammar file tokens), is_answer text tokens)

pub returns-clause-one : goal.returns-clause-one
returns-clause-one c = λ text tokens answer other h k. one_answer text tokens answer h ∙ sym (one_answer text tokens other k)
