-- The text of a set of groups. Each group consists of walk nets that are shorted together. The walk nets are
-- the nets that the walking test observes.
use Rattle.board_defs.specs.Pins.{name_of, net_name}
use Rattle.std.specs.Prelude.{ℕ, List, [], ◌∷◌, ◌++◌, length, codes, decimal, Option, Some, None, slice_get}
use Rattle.std.specs.List.{flat_map}
use Rattle.line_printer.specs.Prints.{line_of}
use Rattle.board_defs.specs.declared.board.Net.{Net}
use Rattle.board_defs.specs.declared.board.RawBoard.{RawBoard}

-- the line of a net of a group
abbrev pub net_line : RawBoard → ℕ → List ℕ
net_line board n = line_of (codes "NET " ∷ net_name board n ∷ [])

-- the line with the number of nets of a group
abbrev pub size_line : ℕ → List ℕ
size_line size = line_of (codes "GROUP " ∷ decimal size ∷ [])

-- the lines of a group: the line with its size, and then the lines of its nets
abbrev pub group_text : RawBoard → List ℕ → List ℕ
group_text board group = size_line (length group) ++ flat_map (net_line board) group

-- the line with the number of groups
abbrev pub group_count_line : ℕ → List ℕ
group_count_line count = line_of (codes "GROUPS " ∷ decimal count ∷ [])

-- the text of the groups that explain a log, or the line that says that no set of groups does
unfoldable pub groups_text : RawBoard → Option (List (List ℕ)) → List ℕ
groups_text board None = line_of (codes "GROUPS none" ∷ [])
groups_text board (Some groups) = group_count_line (length groups) ++ flat_map (group_text board) groups
