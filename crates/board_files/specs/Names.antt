-- Equality of names, and the names on the lines of a net file.
use Rattle.std.specs.Prelude.{Bool, List, map, nat_eq}
use Rattle.std.specs.Cmp.Lexicographic.{pointwise}
use Rattle.text_lines.specs.Words.{Word}
use Rattle.board_files.specs.declared.net_file.NetLine.{NetLine}

abbrev pub same_word : Word → Word → Bool
same_word = pointwise nat_eq

-- the name on each line, in the order of the lines
abbrev pub line_names : List NetLine → List Word
line_names lines = map (λ line. line.name) lines
