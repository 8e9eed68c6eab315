-- The board that a chain file, a net file and devices denote. The place of a pin is the number of
-- its part and the number of its port bit.
use Rattle.std.specs.Prelude.{ℕ, ◌+◌, List, [], ◌∷◌, map}
use Rattle.board_files.specs.declared.chain_file.ChainLine.{ChainLine}
use Rattle.board_files.specs.declared.net_file.NetLine.{NetLine}
use Rattle.board_defs.specs.declared.device.RawDevice.{RawDevice}
use Rattle.board_defs.specs.declared.board.Part.{Part}
use Rattle.board_defs.specs.declared.board.NetPin.{NetPin}
use Rattle.board_defs.specs.declared.board.Net.{Net}
use Rattle.board_defs.specs.declared.board.RawBoard.{RawBoard}
use Rattle.board_lines.specs.declared.names.Naming.TheVariants.{Inert, Supply}
use Rattle.board_lines.specs.Names.{named, names_of}
use Rattle.board_lines.specs.NetWords.{Pin, NetWord, is_among, net_names, standing_words, pins_on_net}
use Rattle.board_lines.specs.ChainParts.{PinPlace, chain_parts, pin_places, place_of_pin}
use Rattle.board_lines.specs.LineRules.{Pulled, pulls_of, pull_of_net}

-- the facts that determine the nets of a board, besides the words and the names of the nets: the
-- places of the described parts' pins, the names on the INERT and SUPPLY lines, and the nets and
-- values of the PULL lines
pub record NetMarks : Type 0 where
  pub places : List PinPlace
  pub inerts : List (List ℕ)
  pub supplies : List (List ℕ)
  pub pulls : List Pulled

abbrev pub marks_of : List ChainLine → List Part → NetMarks
marks_of lines parts = record {
  places = pin_places parts;
  inerts = names_of (named Inert lines);
  supplies = names_of (named Supply lines);
  pulls = pulls_of lines;
}

-- a pin of a net, with its place if it has one, and with a flag that says whether an INERT line
-- names its part
abbrev pub net_pin : NetMarks → Pin → NetPin
net_pin marks pin = record {
  part = pin.0;
  pin = pin.1;
  at = place_of_pin marks.places pin;
  inert = is_among marks.inerts pin.0;
}

-- net `n`, which has this name
abbrev pub board_net : NetMarks → List NetWord → ℕ → List ℕ → Net
board_net marks words n name = record {
  name = name;
  supply = is_among marks.supplies name;
  pull = pull_of_net marks.pulls name;
  pins = map (net_pin marks) (pins_on_net words n);
}

-- the nets with these names, numbered from `n` on
abbrev pub nets_from : NetMarks → List NetWord → ℕ → List (List ℕ) → List Net
nets_from marks words n [] = []
nets_from marks words n (name ∷ names) = board_net marks words n name ∷ nets_from marks words (n + 1) names

abbrev pub board_nets : NetMarks → List NetWord → List (List ℕ) → List Net
board_nets marks words names = nets_from marks words 0 names

-- the board of these parts, chain lines and net lines
abbrev pub board_with : List ChainLine → List NetLine → List Part → RawBoard
board_with chain nets parts = record { chain = parts; nets = board_nets (marks_of chain parts) (standing_words nets) (net_names nets) }

-- the board that the files and the devices denote if they break no rule
abbrev pub raw_board : List ChainLine → List NetLine → List RawDevice → RawBoard
raw_board chain nets devices = board_with chain nets (chain_parts chain devices)
