use Rattle.std.proofs.Common.{◌≡◌, length}
use Rattle.grammars.specs.Grammar.{turns, reader_of_grammar}
use Rattle.bsdl_parser.specs.Bsdl.{skipped_token}
use Rattle.bsdl_parser.proofs.cursor.Cursor.skipped.Given as goal

-- skipping the rest of the tokens gives the same result as skipping all tokens
abbrev pub invariant-tokens : goal.invariant-tokens
invariant-tokens l = reader_of_grammar (turns skipped_token tt) l.self ≡ reader_of_grammar (turns skipped_token tt) l.fn.self

abbrev pub decreases-tokens : goal.decreases-tokens
decreases-tokens l = length l.self
