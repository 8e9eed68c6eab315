use Rattle.bsdl_lexer.proofs.Answers.{only_answer}
use Rattle.bsdl_lexer.proofs.text.lex.Goals as goal

pub returns-clause-only : goal.returns-clause-only
returns-clause-only c = only_answer c.args.bytes.now _ c.add_tokens.result c.add_tokens.ensures.answer
