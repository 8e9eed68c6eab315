-- Samples of the faults and the diagnoses of blocks' own texts. Except in the last sample, a log has one row of two bits.
use Rattle.std.proofs.Common.{◌≡◌, ℕ, ◌+◌, Bool, true, false, Ok, Err, List, [], ◌∷◌, ◌++◌, length, refl, sym, ap, ◌∙◌, subst, arith, append-nil}
use Rattle.std.specs.Prelude.{codes, All}
use Rattle.std.specs.List.{slice_split, flat_map}
use Rattle.std.proofs.lemmas.List.Elements.{All-nil, All-head, All-tail}
use Rattle.text_lines.specs.Words.{is_newline, words_of}
use Rattle.response_log.specs.declared.fault.LogFault.{LogFault}
use Rattle.response_log.specs.declared.fault.LogFault.TheVariants.{Digit, Missing}
use Rattle.response_log.specs.LogRows.{LogAnswer, log_rows}
use Rattle.board_defs.specs.Pins.{data_bits}
use Rattle.tap_defs.specs.board.BoardScans.{svf_row_scans}
use Rattle.tap_defs.specs.board.Explaining.{IsExpected}
use Rattle.diagnoser.specs.DiagText.{diag_text}
use Rattle.batch_diag.specs.Batch.{is_title}
use Rattle.batch_diag.specs.OwnTexts.{BlockText, lines_of_block, own_text, IsNoTitle, IsCutTo, FailsInBlock, IsDiagnosisOf, moved_fault}
use Rattle.batch_diag.proofs.OwnLemmas.{HasTitle, HasRows}
use Rattle.batch_diag.proofs.SampleTests.{two_nets}

-- the lines before the first title, and the blocks
abbrev Parts : Type 0
Parts = List (List ℕ) × List BlockText

-- the parts of some lines, given the parts of all lines but the first; `title` is true if the first line is a title
abbrev with_first : Bool → List ℕ → Parts → Parts
with_first true line (front, blocks) = ([], record { title = line; below = front } ∷ blocks)
with_first false line (front, blocks) = (line ∷ front, blocks)

abbrev parts_of : List (List ℕ) → Parts
parts_of [] = ([], [])
parts_of (line ∷ lines) = with_first (is_title (words_of line)) line (parts_of lines)

abbrev parts_in : List ℕ → Parts
parts_in text = parts_of (slice_split is_newline text)

-- A text has only one cut: the parts that `parts_in` computes.
front_parts : (front lines : List (List ℕ)) → All IsNoTitle front
    → parts_of (front ++ lines) ≡ (front ++ (parts_of lines).0, (parts_of lines).1)
front_parts [] lines none = refl
front_parts (line ∷ front) lines none =
    ap (λ (title : Bool). with_first title line (parts_of (front ++ lines))) (All-head IsNoTitle line front none)
    ∙ ap (with_first false line) (front_parts front lines (All-tail IsNoTitle line front none))

blocks_parts : (blocks : List BlockText) → All HasTitle blocks → All HasRows blocks
    → parts_of (flat_map lines_of_block blocks) ≡ ([], blocks)
blocks_parts [] titles below = refl
blocks_parts (block ∷ blocks) titles below =
    let later = flat_map lines_of_block blocks in
    ap (λ (title : Bool). with_first title block.title (parts_of (block.below ++ later))) (All-head HasTitle block blocks titles)
    ∙ ap (with_first true block.title)
    (front_parts block.below later (All-head HasRows block blocks below)
    ∙ ap (λ (parts : Parts). (block.below ++ parts.0, parts.1))
    (blocks_parts blocks (All-tail HasTitle block blocks titles) (All-tail HasRows block blocks below))
    ∙ ap (λ (front : List (List ℕ)). (front, blocks)) (append-nil block.below))

one_cut : (text : List ℕ) (front : List (List ℕ)) (blocks : List BlockText) → IsCutTo text front blocks → parts_in text ≡ (front, blocks)
one_cut text front blocks cut =
    ap parts_of cut.lines
    ∙ front_parts front (flat_map lines_of_block blocks) (λ k line less. ap is_title (cut.blank k line less))
    ∙ ap (λ (parts : Parts). (front ++ parts.0, parts.1)) (blocks_parts blocks cut.titles cut.below)
    ∙ ap (λ (lines : List (List ℕ)). (lines, blocks)) (append-nil front)

-- a block with this title and these lines below the title
abbrev block : List ℕ → List (List ℕ) → BlockText
block title below = record { title = title; below = below }

-- If no block comes before the failing block, it is the first of two blocks. If one block comes before it, it is the second.
first_of : (first second failing : BlockText) (earlier later : List BlockText) → first ∷ second ∷ [] ≡ earlier ++ failing ∷ later
    → length earlier ≡ 0 → first ≡ failing
first_of first second failing [] later same none = cc
first_of first second failing (one ∷ earlier) later same none = absurd (omega (arith, none))

second_of : (first second failing : BlockText) (earlier later : List BlockText) → first ∷ second ∷ [] ≡ earlier ++ failing ∷ later
    → length earlier ≡ 1 → (first ∷ [] ≡ earlier) × (second ≡ failing)
second_of first second failing [] later same one = absurd (omega (arith, one))
second_of first second failing (other ∷ []) later same one = (cc, cc)
second_of first second failing (other ∷ more ∷ earlier) later same one = absurd (omega (arith, one))

-- A text with two blocks. The first block's own text holds a log. The second block's own text has a wrong digit in its first line.
abbrev wrong_second : List ℕ
wrong_second = codes "BOARD A\n1\nBOARD B\n4"

abbrev block_a : BlockText
block_a = block (codes "BOARD A") (codes "1" ∷ [])

abbrev block_b : BlockText
block_b = block (codes "BOARD B") (codes "4" ∷ [])

two_parts : parts_in wrong_second ≡ ([], block_a ∷ block_b ∷ [])
unfolding words_of
two_parts = refl

log_a : log_rows (own_text block_a) 1 2 ≡ Ok ((true ∷ false ∷ []) ∷ [])
unfolding words_of
log_a = refl

fault_b : log_rows (own_text block_b) 1 2 ≡ Err (Digit 1)
unfolding words_of
fault_b = refl

two_blocks : (front : List (List ℕ)) (blocks : List BlockText) → IsCutTo wrong_second front blocks
    → ([] ≡ front) × (block_a ∷ block_b ∷ [] ≡ blocks)
two_blocks front blocks cut =
    let same = sym two_parts ∙ one_cut wrong_second front blocks cut in
    (ap (λ (parts : Parts). parts.0) same, ap (λ (parts : Parts). parts.1) same)

-- the fault is not in the first block, since this block's own text holds a log
right_block : (fault : LogFault) → FailsInBlock wrong_second 1 2 1 fault → ⊥
right_block fault failed =
    let cut = two_blocks failed.front (failed.earlier ++ failed.block ∷ failed.later) failed.cut in
    let number = failed.number in
    let same = first_of block_a block_b failed.block failed.earlier failed.later cut.1 (omega (arith, number)) in
    let clash : ◌≡◌ {A = LogAnswer} (Ok ((true ∷ false ∷ []) ∷ [])) (Err failed.own)
    = sym log_a ∙ ap (λ (b : BlockText). log_rows (own_text b) 1 2) same ∙ failed.fails in
    cc clash

-- The fault of the second block is a wrong digit in line 4 of the whole text. It has neither the line number in the block's own text nor
-- another kind.
digit_in_line_4 : (fault : LogFault) → FailsInBlock wrong_second 1 2 2 fault → fault ≡ Digit 4
digit_in_line_4 fault failed =
    let cut = two_blocks failed.front (failed.earlier ++ failed.block ∷ failed.later) failed.cut in
    let number = failed.number in
    let same = second_of block_a block_b failed.block failed.earlier failed.later cut.1 (omega (arith, number)) in
    let own : ◌≡◌ {A = LogAnswer} (Err failed.own) (Err (Digit 1))
    = sym failed.fails ∙ ap (λ (b : BlockText). log_rows (own_text b) 1 2) (sym same.1) ∙ fault_b in
    let digit : failed.own ≡ Digit 1 = cc own in
    failed.line
    ∙ ap (moved_fault (length (failed.front ++ flat_map lines_of_block failed.earlier) + 1)) digit
    ∙ ap (λ (front : List (List ℕ)). moved_fault (length (front ++ flat_map lines_of_block failed.earlier) + 1) (Digit 1)) (sym cut.0)
    ∙ ap (λ (earlier : List BlockText). moved_fault (length (flat_map lines_of_block earlier) + 1) (Digit 1)) (sym same.0)

line_of_own_text : FailsInBlock wrong_second 1 2 2 (Digit 1) → ⊥
line_of_own_text failed = let clash : Digit 1 ≡ Digit 4 = digit_in_line_4 (Digit 1) failed in cc clash

other_kind : FailsInBlock wrong_second 1 2 2 (Missing 0) → ⊥
other_kind failed = let clash : Missing 0 ≡ Digit 4 = digit_in_line_4 (Missing 0) failed in cc clash

-- a text with a word before the first title
abbrev word_in_front : List ℕ
word_in_front = codes "1\nBOARD A\n4"

front_word : parts_in word_in_front ≡ (codes "1" ∷ [], block (codes "BOARD A") (codes "4" ∷ []) ∷ [])
unfolding words_of
front_word = refl

-- no block of this text has the fault, since the text has a word before its first title
no_block_fails : (board : ℕ) (fault : LogFault) → FailsInBlock word_in_front 1 2 board fault → ⊥
unfolding words_of
no_block_fails board fault failed =
    let same = sym front_word ∙ one_cut word_in_front failed.front (failed.earlier ++ failed.block ∷ failed.later) failed.cut in
    let front : codes "1" ∷ [] ≡ failed.front = ap (λ (parts : Parts). parts.0) same in
    let blank = subst (All (λ (line : List ℕ). words_of line ≡ [])) (sym front) failed.cut.blank in
    let none : codes "1" ∷ [] ≡ [] = blank 0 [] (omega arith) in
    cc none

-- A text with two blocks. The first block has no rows, and the second block has a wrong digit.
abbrev both_wrong : List ℕ
both_wrong = codes "BOARD A\nBOARD B\n4"

abbrev empty_a : BlockText
empty_a = block (codes "BOARD A") []

wrong_parts : parts_in both_wrong ≡ ([], empty_a ∷ block_b ∷ [])
unfolding words_of
wrong_parts = refl

no_rows : log_rows (own_text empty_a) 1 2 ≡ Err (Missing 0)
unfolding words_of
no_rows = refl

-- the fault is not in the second block, since the first block has a fault, too
later_fault : (fault : LogFault) → FailsInBlock both_wrong 1 2 2 fault → ⊥
later_fault fault failed =
    let same = sym wrong_parts ∙ one_cut both_wrong failed.front (failed.earlier ++ failed.block ∷ failed.later) failed.cut in
    let number = failed.number in
    let cut = second_of empty_a block_b failed.block failed.earlier failed.later (ap (λ (parts : Parts). parts.1) same)
    (omega (arith, number)) in
    let logs = subst (All (λ (other : BlockText). (log : List (List Bool)) × (log_rows (own_text other) 1 2 ≡ Ok log))) (sym cut.0)
    failed.logs in
    let (log, holds) = logs 0 empty_a (omega arith) in
    let clash : ◌≡◌ {A = LogAnswer} (Err (Missing 0)) (Ok log) = sym no_rows ∙ holds in
    cc clash

-- a text that holds no log has no diagnosis
undiagnosed : (diagnosis : List ℕ) → IsDiagnosisOf two_nets 1 2 (codes "4") diagnosis → ⊥
unfolding words_of
undiagnosed diagnosis is = let clash : ◌≡◌ {A = LogAnswer} (Err (Digit 1)) (Ok is.log) = is.holds in cc clash

-- The test of this board has no rows, and the log without rows is the expected one. So the diagnosis of a text without words is PASS.
no_rows_expected : IsExpected two_nets (svf_row_scans two_nets) []
no_rows_expected = record {
  shape = record { rows = refl; bits = All-nil (λ (row : List Bool). length row ≡ data_bits two_nets) };
  bits = refl;
}

without_rows : (diagnosis : List ℕ) → IsDiagnosisOf two_nets 0 2 (codes "#\n") diagnosis → diagnosis ≡ codes "PASS\n"
unfolding words_of diag_text
without_rows diagnosis is =
    let holds : ◌≡◌ {A = LogAnswer} (Ok []) (Ok is.log) = is.holds in
    let log : [] ≡ is.log = cc holds in
    let expected = subst (IsExpected two_nets (svf_row_scans two_nets)) log no_rows_expected in
    let pass : is.is.pass ≡ true = is.is.passes.1 expected in
    is.is.is_text ∙ ap (λ (p : Bool). diag_text two_nets p is.is.faults) pass
