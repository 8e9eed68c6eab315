use Rattle.std.proofs.Common.{◌≡◌, drop}
use Rattle.text_lines.specs.Words.{words_of}
use Rattle.text_lines.proofs.behind_blanks.Given as goal

abbrev pub invariant-loop-i : goal.invariant-loop-i
invariant-loop-i l = words_of (drop l.i l.line) ≡ words_of l.line
