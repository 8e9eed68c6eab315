-- The nets of a net file, and the net of a pin.
use Rattle.std.specs.Prelude.{ℕ, ◌&&◌, Bool, List, find, Option, option_map}
use Rattle.std.specs.List.{list_any}
use Rattle.board_files.specs.declared.net_file.NetLine.{NetLine}
use Rattle.board_files.specs.declared.net_file.PinWord.{PinWord}
use Rattle.board_files.specs.Names.{same_word}

abbrev pub Word : Type 0
Word = List ℕ

abbrev pub has_word : Word → Word → List PinWord → Bool
has_word part pin words = list_any (λ word. same_word word.part part && same_word word.pin pin) words

abbrev pub has_pin : Word → Word → NetLine → Bool
has_pin part pin line = has_word part pin line.pins

-- the net of a pin: the name on the first line that has the pin, or None if no line has it
abbrev pub net_of_pin : List NetLine → Word → Word → Option Word
net_of_pin nets part pin = option_map (λ line. line.name) (find (has_pin part pin) nets)
