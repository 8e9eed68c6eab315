-- The text of the diagnoses of a batch.
use Rattle.std.specs.Prelude.{◌≡◌, ℕ, List, [], ◌∷◌, ◌++◌, codes}
use Rattle.line_printer.specs.Prints.{line_of}
use Rattle.board_defs.specs.declared.board.RawBoard.{RawBoard}
use Rattle.diagnoser.specs.DiagText.{diag_text, IsDiagText}
use Rattle.batch_diag.specs.declared.block.Block.{Block}
use Rattle.batch_diag.specs.Verdicts.{Verdict}

-- the title of a block
abbrev pub title_line : List ℕ → List ℕ
title_line id = line_of (codes "BOARD " ∷ id ∷ [])

-- a block's title, followed by the text of the diagnosis that the verdict gives
abbrev pub block_text : RawBoard → Block → Verdict → List ℕ
block_text board block verdict = title_line block.id ++ diag_text board verdict.pass verdict.faults

-- the texts of the blocks with their verdicts, in order; if the lists have different lengths, the rest of the
-- longer list is left out
abbrev pub batch_text : RawBoard → List Block → List Verdict → List ℕ
batch_text board [] verdicts = []
batch_text board (block ∷ blocks) [] = []
batch_text board (block ∷ blocks) (verdict ∷ verdicts) = block_text board block verdict ++ batch_text board blocks verdicts

-- the text consists of each block's title and a diagnosis of the block's log, in the order of the blocks
abbrev pub IsBatchText : RawBoard → List Block → List ℕ → Type 0
IsBatchText board [] text = text ≡ []
IsBatchText board (block ∷ blocks) text =
    (diagnosis : List ℕ) × (later : List ℕ) × IsDiagText board block.log diagnosis
    × IsBatchText board blocks later × (text ≡ title_line block.id ++ (diagnosis ++ later))
