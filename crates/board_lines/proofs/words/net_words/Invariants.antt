use Rattle.std.proofs.Common.{◌≡◌, ◌++◌, map, drop}
use Rattle.board_lines.specs.NetWords.{lent_word, net_names, net_words, words_of_nets}
use Rattle.board_lines.proofs.words.net_words.Given as goal

-- The words found so far, followed by the words on the remaining lines, are the words on all lines.
abbrev pub invariant-loop-i : goal.invariant-loop-i
invariant-loop-i l = net_words l.lines ≡ map lent_word l.words.items ++ words_of_nets (net_names l.lines) (drop l.i l.lines)
