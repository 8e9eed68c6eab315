-- Samples of the blocks and faults that the definition gives for small texts, and of the text of a small batch.
use Rattle.std.proofs.Common.{◌≡◌, ℕ, true, false, Ok, Err, List, [], ◌∷◌, ◌++◌, map, replicate, None, refl}
use Rattle.std.specs.Prelude.{codes, alloc_error}
use Rattle.std.specs.Fmt.{digits}
use Rattle.text_lines.specs.Words.{words_of}
use Rattle.response_log.specs.declared.fault.LogFault.TheVariants.{Digit, Length, Missing, Extra, Memory as LogMemory}
use Rattle.board_defs.specs.declared.board.Net.{Net}
use Rattle.board_defs.specs.declared.board.RawBoard.{RawBoard}
use Rattle.board_defs.specs.declared.fault.Single.TheVariants.{StuckNet}
use Rattle.diagnoser.specs.DiagText.{diag_text}
use Rattle.batch_diag.specs.declared.block.Block.{Block}
use Rattle.batch_diag.specs.declared.fault.BatchFault.TheVariants.{Start, Title, Inner}
use Rattle.batch_diag.specs.Batch.{BatchAnswer, IsOfLines, blocks_of_text}
use Rattle.batch_diag.specs.BatchText.{title_line, batch_text}

-- a text with a comment line, a block with one row, and a block with the same id whose title has a comment
two_blocks : blocks_of_text (codes "# 0\nBOARD A\n1\n\r\n BOARD\tA # B\n2") 1 2
    ≡ Ok
    (record { id = codes "A"; log = (true ∷ false ∷ []) ∷ [] }
    ∷ record { id = codes "A"; log = (false ∷ true ∷ []) ∷ [] } ∷ [])
unfolding words_of
two_blocks = refl

no_blocks : blocks_of_text (codes "#\n") 1 2 ≡ Ok []
unfolding words_of
no_blocks = refl

no_board_yet : blocks_of_text (codes "\n1\nBOARD A B") 1 2 ≡ Err (Start 2)
unfolding words_of
no_board_yet = refl

-- a wrong title is reported before the fault of a block, even if the block comes before the title
wrong_title : blocks_of_text (codes "BOARD A\nBOARD B\n1\nBOARD #C\n1") 1 2 ≡ Err (Title 4)
unfolding words_of
wrong_title = refl

-- if several blocks have faults, the fault of the first such block is reported
first_block : blocks_of_text (codes "BOARD A\nBOARD B\n4") 1 2 ≡ Err (Inner 1 (Missing 0))
unfolding words_of
first_block = refl

-- the line number in a fault is the number of the line in the whole text
line_of_text : blocks_of_text (codes "BOARD A\n1\nBOARD B\n#\n4") 1 2 ≡ Err (Inner 2 (Digit 5))
unfolding words_of
line_of_text = refl

-- the blocks of a text, each with a log of one row of two bits, or the fault of the text
abbrev of_one_row : List ℕ → BatchAnswer
of_one_row text = blocks_of_text text 1 2

-- the fault has the number of the block whose log has too few rows
second_block : of_one_row (codes "BOARD A\n1\nBOARD B") ≡ Err (Inner 2 (Missing 0))
unfolding words_of
second_block = refl

wrong_logs : map of_one_row
    (codes "BOARD A\n1\n1" ∷ codes "BOARD A\n11" ∷ codes "BOARD A\n1 1" ∷ [])
    ≡ Err (Inner 1 (Extra 3)) ∷ Err (Inner 1 (Length 2)) ∷ Err (Inner 1 (Length 2)) ∷ []
unfolding words_of
wrong_logs = refl

-- wrong titles: a title with two ids, a title without an id, and an id with a byte that no word may have
wrong_titles : map of_one_row
    (codes "BOARD A B\n1" ∷ codes "BOARD" ∷ (codes "BOARD " ++ 127 ∷ codes "\n1") ∷ [])
    ≡ Err (Title 1) ∷ Err (Title 1) ∷ Err (Title 1) ∷ []
unfolding words_of
wrong_titles = refl

first_wrong_title : of_one_row (codes "BOARD A B\n1\nBOARD\n1") ≡ Err (Title 1)
unfolding words_of
first_wrong_title = refl

no_titles : map of_one_row (codes "board A\n1" ∷ codes "BOARDS A\n1" ∷ []) ≡ Err (Start 1) ∷ Err (Start 1) ∷ []
unfolding words_of
no_titles = refl

-- a block whose log has no rows
abbrev rowless : List ℕ → Block
rowless id = record { id = id; log = [] }

without_rows : blocks_of_text (codes "BOARD A\nBOARD B") 0 2 ≡ Ok (rowless (codes "A") ∷ rowless (codes "B") ∷ [])
unfolding words_of
without_rows = refl

longest_id : blocks_of_text (codes "BOARD " ++ replicate 255 65) 0 2 ≡ Ok (rowless (replicate 255 65) ∷ [])
unfolding words_of
longest_id = refl

too_long_id : blocks_of_text (codes "BOARD " ++ replicate 256 65) 0 2 ≡ Err (Title 1)
unfolding words_of
too_long_id = refl

-- a net with this name and no pins, for the board of the samples
abbrev named : List ℕ → Net
named name = record { name = name; supply = false; pull = None; pins = [] }

abbrev pub two_nets : RawBoard
two_nets = record { chain = []; nets = named (codes "A") ∷ named (codes "B") ∷ [] }

title : title_line (codes "A") ≡ codes "BOARD A\n"
title = refl

two_verdicts : batch_text two_nets (rowless (codes "A") ∷ rowless (codes "B") ∷ [])
    (record { pass = true; faults = [] } ∷ record { pass = false; faults = StuckNet 0 false ∷ [] }
    ∷ []) ≡ codes "BOARD A\nPASS\nBOARD B\nFAIL 1\nstuck A 0\n"
unfolding diag_text digits
two_verdicts = refl

-- lack of memory is never the fault of a block
never_memory : IsOfLines (Inner 1 (LogMemory alloc_error)) ≡ ⊥
never_memory = refl
