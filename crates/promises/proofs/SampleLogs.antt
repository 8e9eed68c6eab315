-- Samples of texts that hold a log of a small board's test or a batch of logs, and of texts that hold
-- neither. They are worked out by hand. The board has four data bits, and the board's test has two SDR
-- statements that compare bits.
use Rattle.std.proofs.Common.{◌≡◌, ◌∙◌, ℕ, Bool, true, false, List, [], ◌∷◌, length, Some, refl, sym, ap, arith}
use Rattle.std.specs.Prelude.{All, codes}
use Rattle.std.proofs.lemmas.List.{length-map}
use Rattle.std.proofs.lemmas.List.Elements.{All-nil, All-from_recursion}
use Rattle.board_defs.specs.Pins.{data_bits}
use Rattle.tap_defs.specs.board.BoardScans.{svf_row_scans}
use Rattle.tap_defs.specs.board.Explaining.{HasShape}
use Rattle.tap_defs.proofs.board.SampleBoards.{wires}
use Rattle.text_lines.specs.Words.{words_of}
use Rattle.batch_diag.specs.declared.block.Block.{Block}
use Rattle.batch_diag.specs.OwnTexts.{BlockText, IsNoTitle, IsTitle}
use Rattle.command_line.specs.Words.{Text}
use Rattle.promises.specs.Logs.{HoldsBoardBlock, HoldsBoardBlocks, HoldsLog}

abbrev Holds : Text → List (List Bool) → Type 0
Holds text log = HoldsLog wires (svf_row_scans wires) text log

abbrev HoldsNone : Text → Type 0
HoldsNone text = (log : List (List Bool)) → Holds text log → ⊥

-- the row of the digit 1
abbrev row_1 : List Bool
row_1 = true ∷ false ∷ false ∷ false ∷ []

abbrev row_2 : List Bool
row_2 = false ∷ true ∷ false ∷ false ∷ []

abbrev both : List (List Bool)
both = row_1 ∷ row_2 ∷ []

both_shaped : HasShape wires (svf_row_scans wires) both
both_shaped = record { rows = refl; bits = All-from_recursion (λ (r : List Bool). length r ≡ data_bits wires) both (refl, (refl, tt)) }

two_rows : Holds (codes "1\n2\n") both
unfolding words_of
two_rows = record { lines = refl; shape = both_shaped }

-- a text with comments, an empty line and a carriage return, and with no newline after the last row
with_comments : Holds (codes "# x\n\n1 # y\r\n2") both
unfolding words_of
with_comments = record { lines = refl; shape = both_shaped }

one_row : HoldsNone (codes "1\n")
unfolding words_of
one_row log holds =
    let count : length log ≡ 1 = sym (length-map log Some) ∙ sym (ap length holds.lines) in
    let wanted : length log ≡ 2 = holds.shape.rows in
    absurd (omega (arith, count, wanted))

three_rows : HoldsNone (codes "1\n2\n2\n")
unfolding words_of
three_rows log holds =
    let count : length log ≡ 3 = sym (length-map log Some) ∙ sym (ap length holds.lines) in
    let wanted : length log ≡ 2 = holds.shape.rows in
    absurd (omega (arith, count, wanted))

-- a block with this id and the log `both`
abbrev block : Text → Block
block id = record { id = id; log = both }

abbrev first : BlockText
first = record { title = codes "BOARD A"; below = codes "1" ∷ codes "2" ∷ [] }

abbrev second : BlockText
second = record { title = codes " BOARD\tA # B\r"; below = codes "1" ∷ codes "# 3" ∷ [] ∷ codes "2" ∷ [] }

first_holds : HoldsBoardBlock wires first (block (codes "A"))
unfolding words_of
first_holds = record { title = refl; id = refl; log = record { lines = refl; shape = both_shaped } }

second_holds : HoldsBoardBlock wires second (block (codes "A"))
unfolding words_of
second_holds = record { title = refl; id = refl; log = record { lines = refl; shape = both_shaped } }

two_blocks : HoldsBoardBlocks wires (codes "# 0\nBOARD A\n1\n2\n BOARD\tA # B\r\n1\n# 3\n\n2") (block (codes "A") ∷ block (codes "A") ∷ [])
unfolding words_of
two_blocks = record {
  front = codes "# 0" ∷ [];
  texts = first ∷ second ∷ [];
  cut = record {
    lines = refl;
    blank = All-from_recursion (λ (line : Text). words_of line ≡ []) (codes "# 0" ∷ []) (refl, tt);
    titles = All-from_recursion (λ (b : BlockText). IsTitle b.title) (first ∷ second ∷ []) (refl, (refl, tt));
    below = All-from_recursion (λ (b : BlockText). All IsNoTitle b.below) (first ∷ second ∷ []) (
      All-from_recursion IsNoTitle first.below (refl, (refl, tt)),
      (All-from_recursion IsNoTitle second.below (refl, (refl, (refl, (refl, tt)))), tt),
    );
  };
  each = (first_holds, (second_holds, tt));
}

no_blocks : HoldsBoardBlocks wires (codes "#\n") []
unfolding words_of
no_blocks = record {
  front = codes "#" ∷ [] ∷ [];
  texts = [];
  cut = record {
    lines = refl;
    blank = All-from_recursion (λ (line : Text). words_of line ≡ []) (codes "#" ∷ [] ∷ []) (refl, (refl, tt));
    titles = All-nil (λ (b : BlockText). IsTitle b.title);
    below = All-nil (λ (b : BlockText). All IsNoTitle b.below);
  };
  each = tt;
}

-- a block of one row does not hold a log of two rows
block_of_one_row : (found : Block) → HoldsBoardBlock wires (record { title = codes "BOARD A"; below = codes "1" ∷ [] }) found → ⊥
unfolding words_of
block_of_one_row found holds =
    let count : length found.log ≡ 1 = sym (length-map found.log Some) ∙ sym (ap length holds.log.lines) in
    let wanted : length found.log ≡ 2 = holds.log.shape.rows in
    absurd (omega (arith, count, wanted))

wrong_title : (found : Block) → HoldsBoardBlock wires (record { title = codes "BOARD A B"; below = codes "1" ∷ codes "2" ∷ [] }) found → ⊥
unfolding words_of
wrong_title found holds =
    let count : ◌≡◌ {A = ℕ} 3 2 = ap length holds.title in
    absurd (omega (arith, count))
