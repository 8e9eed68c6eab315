-- The limit on the lengths of the texts of a generated board.
use Rattle.std.specs.Prelude.{◌≤◌, length}
use Rattle.board_gen.specs.declared.Made.{Made}

-- Each text is within the limit for a chain file, a net file or a BSDL text.
pub record AreShortTexts (made : Made) : Type 0 where
  pub chain : length made.chain.items ≤ 4194304
  pub nets : length made.nets.items ≤ 4194304
  pub bsdl : length made.bsdl.items ≤ 4194304
