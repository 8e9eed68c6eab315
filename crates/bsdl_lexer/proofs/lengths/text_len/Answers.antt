use Rattle.std.proofs.Common.{sym}
use Rattle.bsdl_lexer.proofs.TextEnds.{no_end, first_end}
use Rattle.bsdl_lexer.proofs.lengths.text_len.Goals as goal

pub returns-in-Some-clause-value : goal.returns-in-Some-clause-value
returns-in-Some-clause-value c = sym (first_end c.args.bytes.now c.in-Some.end c.in-Some.ensures.0 c.in-Some.ensures.1)

pub returns-in-None-clause-value : goal.returns-in-None-clause-value
returns-in-None-clause-value c = sym (no_end c.args.bytes.now c.in-None.ensures)
