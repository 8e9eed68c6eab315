use Rattle.bsdl_parser.specs.Lexeme.{lexemes}
use Rattle.bsdl_parser.proofs.Answers.{answer_holds, only_answer, kinds_hold, small_holds}
use Rattle.bsdl_parser.proofs.answer.parse.Goals as goal

pub returns-clause-answer : goal.returns-clause-answer
returns-clause-answer c = answer_holds c.args.bytes.now (lexemes c.args.bytes.now c.args.tokens.now) c.judge.result c.judge.ensures

pub returns-clause-only : goal.returns-clause-only
returns-clause-only c = only_answer c.args.bytes.now (lexemes c.args.bytes.now c.args.tokens.now) c.judge.result c.judge.ensures

pub returns-clause-kinds : goal.returns-clause-kinds
returns-clause-kinds c = kinds_hold c.args.bytes.now (lexemes c.args.bytes.now c.args.tokens.now) c.judge.result c.judge.ensures

pub returns-clause-small : goal.returns-clause-small
returns-clause-small c = small_holds c.args.bytes.now c.args.tokens.now c.judge.result c.requires.short c.requires.tokens c.judge.ensures
