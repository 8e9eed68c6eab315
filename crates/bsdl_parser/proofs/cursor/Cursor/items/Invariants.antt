use Rattle.std.proofs.Common.{◌≡◌, length}
use Rattle.grammars.specs.Grammar.{turns, reader_of_grammar}
use Rattle.bsdl_parser.specs.Bsdl.{item, no_items}
use Rattle.bsdl_parser.specs.inner.Views.{items_of}
use Rattle.bsdl_parser.proofs.cursor.Cursor.items.Given as goal

-- Reading the remaining tokens, with the items read so far as the start value, gives the same result as reading all
-- tokens.
abbrev pub invariant-loop-draft : goal.invariant-loop-draft
invariant-loop-draft l = reader_of_grammar (turns item (items_of l.draft)) l.self ≡ reader_of_grammar (turns item no_items) l.fn.self

abbrev pub decreases-loop-draft : goal.decreases-loop-draft
decreases-loop-draft l = length l.self
