-- The grammar of the command line: the commands and their words, in the order of the usage line.
use Rattle.std.specs.Prelude.{ℕ, Bool, true, false, List, [], ◌∷◌, ◌++◌, codes, map}

-- A command: its name, the words after the name, and whether any number of BSDL file names follow
-- these words. The words are in capitals, and are the ids of the command's arguments in `clap`.
pub record Entry : Type 0 where
  pub name : List ℕ
  pub words : List (List ℕ)
  pub has_names : Bool

-- the words for a board: its chain file and its net file
abbrev pub board_words : List (List ℕ)
board_words = codes "CHAIN" ∷ codes "NETS" ∷ []

abbrev pub grammar : List Entry
grammar =
    record { name = codes "chain"; words = codes "CHAIN" ∷ []; has_names = true }
    ∷ record { name = codes "device"; words = codes "BSDL" ∷ []; has_names = false }
    ∷ record { name = codes "cover"; words = board_words; has_names = true }
    ∷ record { name = codes "svf"; words = board_words; has_names = true }
    ∷ record { name = codes "diagnose"; words = codes "WORKERS" ∷ codes "LOG" ∷ board_words; has_names = true }
    ∷ record { name = codes "make"; words = codes "NUMBER" ∷ []; has_names = false }
    ∷ record { name = codes "ident"; words = codes "CHAIN" ∷ []; has_names = true }
    ∷ record { name = codes "walk"; words = board_words; has_names = true }
    ∷ record { name = codes "groups"; words = codes "LOG" ∷ board_words; has_names = true }
    ∷ record { name = codes "batch"; words = codes "WORKERS" ∷ codes "LOG" ∷ board_words; has_names = true }
    ∷ []

-- the names as a list in a sentence: with commas, and `or` before the last name
abbrev pub list_in_words : List (List ℕ) → List ℕ
list_in_words [] = []
list_in_words (last ∷ []) = last
list_in_words (name ∷ last ∷ []) = name ++ codes " or " ++ last
list_in_words (name ∷ second ∷ third ∷ others) = name ++ codes ", " ++ list_in_words (second ∷ third ∷ others)

-- the usage line, which names every command
abbrev pub usage : List ℕ
usage = codes "usage: btest " ++ list_in_words (map (λ entry. entry.name) grammar) ++ codes "\n"
