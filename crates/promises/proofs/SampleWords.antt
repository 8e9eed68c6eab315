-- Samples of words, worked out by hand: words that ask for each of the commands, and words that ask for no command.
use Rattle.std.proofs.Common.{ℕ, List, [], ◌∷◌, replicate, codes, refl, arith}
use Rattle.command_line.specs.declared.command.Command.TheVariants.{Chain, Ident, Device, Cover, Svf, Walk, Make, Diagnose, Groups, Batch}
use Rattle.command_line.specs.Words.{Text, ChainNames, BoardNames, LogNames, board_called, log_called}
use Rattle.btest_cli.specs.declared.status.Status.{Status}
use Rattle.promises.specs.Runs.{HasWordsOf, AsksNothing, Ends, Run}
use Rattle.promises.proofs.WordLemmas.{none_asked}

abbrev chain_names : ChainNames
chain_names = record { chain = codes "c"; bsdl = codes "b" ∷ codes "d" ∷ [] }

abbrev board_names : BoardNames
board_names = record { chain = codes "c"; nets = codes "n"; bsdl = codes "b" ∷ [] }

-- the names of a file of response logs and of the files of its board
abbrev log_names : LogNames
log_names = record { log = codes "g"; board = board_names }

-- the names of a board's files, as words
abbrev board_words : List Text
board_words = codes "c" ∷ codes "n" ∷ codes "b" ∷ []

-- the words of `svf` with `count` BSDL files
abbrev tested : ℕ → List Text
tested count = codes "svf" ∷ codes "c" ∷ codes "n" ∷ replicate count (codes "b")

module _ (old new : Ends) (status : Status) where
  abbrev run_with : List Text → Run
  run_with words = record { words = words; old = old; new = new; status = status }

  chain_asked : HasWordsOf (run_with (codes "chain" ∷ codes "c" ∷ codes "b" ∷ codes "d" ∷ [])) (Chain chain_names)
  chain_asked = ((refl, omega arith), refl)

  ident_asked : HasWordsOf (run_with (codes "ident" ∷ codes "c" ∷ codes "b" ∷ codes "d" ∷ [])) (Ident chain_names)
  ident_asked = ((refl, omega arith), refl)

  device_asked : HasWordsOf (run_with (codes "device" ∷ codes "b" ∷ [])) (Device (codes "b"))
  device_asked = (refl, refl)

  cover_asked : HasWordsOf (run_with (codes "cover" ∷ board_words)) (Cover board_names)
  cover_asked = ((refl, omega arith), refl)

  svf_asked : HasWordsOf (run_with (codes "svf" ∷ board_words)) (Svf board_names)
  svf_asked = ((refl, omega arith), refl)

  walk_asked : HasWordsOf (run_with (codes "walk" ∷ board_words)) (Walk board_names)
  walk_asked = ((refl, omega arith), refl)

  make_asked : HasWordsOf (run_with (codes "make" ∷ codes "002" ∷ [])) (Make 2)
  make_asked = ((codes "002", refl, refl), refl)

  most_made_asked : HasWordsOf (run_with (codes "make" ∷ codes "255" ∷ [])) (Make 255)
  most_made_asked = ((codes "255", refl, refl), refl)

  diagnose_asked : HasWordsOf (run_with (codes "diagnose" ∷ codes "64" ∷ codes "g" ∷ board_words)) (Diagnose 64 log_names)
  diagnose_asked = ((codes "64", refl, (refl, omega arith)), refl)

  groups_asked : HasWordsOf (run_with (codes "groups" ∷ codes "g" ∷ board_words)) (Groups log_names)
  groups_asked = ((refl, omega arith), refl)

  batch_asked : HasWordsOf (run_with (codes "batch" ∷ codes "1" ∷ codes "g" ∷ board_words)) (Batch 1 log_names)
  batch_asked = ((codes "1", refl, (refl, omega arith)), refl)

  most_files_asked : HasWordsOf (run_with (tested 255))
      (Svf (record { chain = codes "c"; nets = codes "n"; bsdl = replicate 255 (codes "b") }))
  most_files_asked = ((refl, omega arith), refl)

  no_words : AsksNothing (run_with [])
  no_words = none_asked (run_with _) refl

  no_parts : AsksNothing (run_with (codes "make" ∷ codes "0" ∷ []))
  unfolding board_called
  no_parts = none_asked (run_with _) refl

  too_many_parts : AsksNothing (run_with (codes "make" ∷ codes "256" ∷ []))
  unfolding board_called
  too_many_parts = none_asked (run_with _) refl

  too_many_workers : AsksNothing (run_with (codes "batch" ∷ codes "65" ∷ codes "g" ∷ board_words))
  unfolding board_called log_called
  too_many_workers = none_asked (run_with _) refl

  no_nets : AsksNothing (run_with (codes "svf" ∷ codes "c" ∷ []))
  unfolding board_called
  no_nets = none_asked (run_with _) refl

  dash : AsksNothing (run_with (codes "chain" ∷ codes "-c" ∷ []))
  dash = none_asked (run_with _) refl

  too_many_files : AsksNothing (run_with (tested 256))
  unfolding board_called
  too_many_files = none_asked (run_with _) refl
