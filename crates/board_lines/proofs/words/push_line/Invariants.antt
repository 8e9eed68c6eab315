use Rattle.std.proofs.Common.{◌≡◌, ◌+◌, ◌++◌, map, drop}
use Rattle.board_lines.specs.NetWords.{lent_word, line_words}
use Rattle.board_lines.proofs.words.push_line.Given as goal

-- The current words, followed by the words for the remaining pins, are the words before the call,
-- followed by the words for all pins of the line. Pin `j` of the line, counted from 0, is word
-- `j + 3`.
abbrev pub invariant-loop-pin : goal.invariant-loop-pin
invariant-loop-pin l = record {
  number : l.word ≡ l.pin-index + 3;
  words : map lent_word l.fn.words.items ++ line_words l.net l.line 3 l.pins
      ≡ map lent_word l.words.items ++ line_words l.net l.line l.word (drop l.pin-index l.pins);
}
