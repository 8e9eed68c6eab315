-- The graph of a net file. The points of the graph are the lines of the file, by their indices. An
-- edge leads from each line to the first line with the same name. For each LINK line, an edge leads
-- from the first line with its first pin to the first line with its second pin, if each is on a line.
use Rattle.std.specs.Prelude.{ℕ, ◌+◌, List, [], ◌∷◌, ◌++◌, filter_map, get_or, Option, Some, None, option_map, option_and_then, unwrap_or}
use Rattle.std.specs.List.{position_from}
use Rattle.first_places.specs.Places.{first_place}
use Rattle.board_files.specs.declared.chain_file.ChainLine.{ChainLine}
use Rattle.board_files.specs.declared.chain_file.ChainStatement.{ChainStatement}
use Rattle.board_files.specs.declared.chain_file.ChainStatement.TheVariants.{Device, Bypass, Inert, Supply, Pull, Link}
use Rattle.board_files.specs.declared.net_file.NetLine.{NetLine}
use Rattle.board_files.specs.Names.{same_word, line_names}
use Rattle.series_parts.specs.Nets.{Word, has_pin}
use Rattle.series_parts.specs.inner.Labels.{Edges}

-- the index of the first line with this name
abbrev pub name_place : List Word → Word → Option ℕ
name_place names name = first_place same_word names name

-- the index of the first line with this pin
abbrev pub pin_place : List NetLine → Word → Word → Option ℕ
pin_place nets part pin = position_from (has_pin part pin) 0 nets

abbrev pub edge_of : Option ℕ → Option ℕ → Option (ℕ × ℕ)
edge_of a b = option_and_then (λ a. option_map (λ b. (a, b)) b) a

-- the edge between the first line with pin `first` of a part and the first line with pin `second`,
-- if each of these pins is on a line
unfoldable pub edge_between : List NetLine → Word → Word → Word → Option (ℕ × ℕ)
edge_between nets part first second = edge_of (pin_place nets part first) (pin_place nets part second)

-- the edge between the first lines of the two pins of a LINK line; None if one of the pins is on no
-- line, and for any other line
abbrev pub edge_on : List NetLine → ChainStatement → Option (ℕ × ℕ)
edge_on nets (Link part first second) = edge_between nets part first second
edge_on nets (Device part entity pack) = None
edge_on nets (Bypass part bits) = None
edge_on nets (Inert part) = None
edge_on nets (Supply net) = None
edge_on nets (Pull net value) = None

abbrev pub link_edges : List NetLine → List ChainLine → Edges
link_edges nets chain = filter_map (λ line. edge_on nets line.statement) chain

-- An edge from each of these lines, which are numbered from `n` on and have the names `names`. It
-- leads to the first line of `all`, the names on all lines, that has the same name, or to the line
-- itself if no name in `all` is the same.
abbrev pub name_edges : List Word → ℕ → List Word → Edges
name_edges all n [] = []
name_edges all n (name ∷ names) = (n, unwrap_or (name_place all name) n) ∷ name_edges all (n + 1) names

abbrev pub edges : List NetLine → List ChainLine → Edges
edges nets chain = name_edges (line_names nets) 0 (line_names nets) ++ link_edges nets chain

abbrev pub at_place : List Word → Word → Option ℕ → Word
at_place least name None = name
at_place least name (Some place) = get_or least place name

-- the new name of a net; `least` has, for each line, the new name of the line's net; a net that is
-- on no line keeps its name
unfoldable pub renamed : List Word → List Word → Word → Word
renamed names least name = at_place least name (name_place names name)
