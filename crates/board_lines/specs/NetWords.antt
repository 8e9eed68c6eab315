-- The words of a net file that name pins.
use Rattle.std.specs.Prelude.{ℕ, ◌+◌, ◌==◌, Bool, ◌&&◌, List, [], ◌∷◌, ◌++◌, map, filter, unwrap_or, is_some}
use Rattle.std.proofs.Common.{Bor}
use Rattle.first_places.specs.Places.{first_place, once}
use Rattle.board_files.specs.declared.net_file.NetLine.{NetLine}
use Rattle.board_files.specs.declared.net_file.PinWord.{PinWord}
use Rattle.board_defs.specs.declared.spot.Spot.{Spot}
use Rattle.board_files.specs.Names.{same_word, line_names}

-- a pin: the name of its part, and its own name
abbrev pub Pin : Type 0
Pin = List ℕ × List ℕ

abbrev pub same_pin : Pin → Pin → Bool
same_pin a b = same_word a.0 b.0 && same_word a.1 b.1

-- a word that names a pin: the number of the word's net, the pin, and the line of the word and its
-- number in this line
abbrev pub NetWord : Type 0
NetWord = (ℕ × Pin) × Spot

abbrev pub word_net : NetWord → ℕ
word_net word = word.0.0

abbrev pub word_pin : NetWord → Pin
word_pin word = word.0.1

abbrev pub spot_of : NetWord → Spot
spot_of word = word.1

-- the pin with these two borrowed names
abbrev pub lent_pin : Bor (List ℕ) × Bor (List ℕ) → Pin
lent_pin p = (p.0.now, p.1.now)

abbrev pub lent_word : (ℕ × (Bor (List ℕ) × Bor (List ℕ))) × Spot → NetWord
lent_word w = ((w.0.0, lent_pin w.0.1), w.1)

-- both words are on lines of the same net and name the same pin
abbrev pub same_place : NetWord → NetWord → Bool
same_place a b = (word_net a == word_net b) && same_pin (word_pin a) (word_pin b)

abbrev pub is_among : List (List ℕ) → List ℕ → Bool
is_among names name = is_some (first_place same_word names name)

-- the names of the nets in the order of their first lines; a net's number is the index of its name
-- in this list
abbrev pub net_names : List NetLine → List (List ℕ)
net_names lines = once same_word (line_names lines)

abbrev pub net_number : List (List ℕ) → List ℕ → ℕ
net_number names name = unwrap_or (first_place same_word names name) 0

-- the words for these pins of a line; the first pin is word `n` of the line
abbrev pub line_words : ℕ → ℕ → ℕ → List PinWord → List NetWord
line_words net line n [] = []
line_words net line n (p ∷ pins) = ((net, (p.part, p.pin)), record { line = line; word = n }) ∷ line_words net line (n + 1) pins

-- the words that name pins, on all lines; the first pin of a line is word 3 of the line
abbrev pub words_of_nets : List (List ℕ) → List NetLine → List NetWord
words_of_nets names [] = []
words_of_nets names (line ∷ lines) = line_words (net_number names line.name) line.line 3 line.pins ++ words_of_nets names lines

abbrev pub net_words : List NetLine → List NetWord
net_words lines = words_of_nets (net_names lines) lines

-- the words that name pins, leaving out each word that repeats a pin of its net from an earlier
-- word
abbrev pub standing_words : List NetLine → List NetWord
standing_words lines = once same_place (net_words lines)

-- the pins that the words name on net `n`, in the order of the words
abbrev pub pins_on_net : List NetWord → ℕ → List Pin
pins_on_net words n = map word_pin (filter (λ word. word_net word == n) words)

-- both words name the same pin
abbrev pub have_same_pin : NetWord → NetWord → Bool
have_same_pin a b = same_pin (word_pin a) (word_pin b)
