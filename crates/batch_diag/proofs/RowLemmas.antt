-- Lemmas about the numbered lines of a batch. A row is a line that is not a title.
use Rattle.std.proofs.Common.{◌≡◌, Bool, true, false, cond, not, Some, None, List, [], ◌∷◌, ◌++◌, get_or, refl, sym, ap, ◌∙◌, append-nil}
use Rattle.std.specs.Prelude.{All, ◌&&◌}
use Rattle.std.proofs.lemmas.List.Elements.{All-head, All-tail}
use Rattle.std.proofs.lemmas.List.Sums.{take_while-cons}
use Rattle.text_lines.specs.Words.{Word}
use Rattle.response_log.specs.LogRows.{NumberedLine}
use Rattle.batch_diag.specs.declared.fault.BatchFault.TheVariants.{Title}
use Rattle.batch_diag.specs.Batch.{is_title, begins_block, id_of, names_board, is_wrong_title, title_fault, up_to_title, blocks_of}

abbrev pub IsRow : NumberedLine → Type 0
IsRow line = begins_block line ≡ false

abbrev pub IsRight : NumberedLine → Type 0
IsRight line = is_wrong_title line ≡ false

row_not_wrong : (line : NumberedLine) → IsRow line → IsRight line
row_not_wrong line row = ap (λ (b : Bool). b && not (names_board line.words)) row

-- a title that is not wrong names a board
pub named : (words : List Word) (names : Bool) → names_board words ≡ names → is_title words ≡ true
    → (is_title words && not (names_board words)) ≡ false → names_board words ≡ true
named words true is title right = is
named words false is title right =
    let wrong : (is_title words && not (names_board words)) ≡ true = ap (λ (b : Bool). b && not (names_board words)) title ∙ ap not is in
    let clash : true ≡ false = sym wrong ∙ right in
    absurd cc

pub right_before : (own later : List NumberedLine) → All IsRight own → title_fault (own ++ later) ≡ title_fault later
right_before [] later right = refl
right_before (line ∷ own) later right =
    ap (λ (b : Bool). cond b (Some (Title line.number)) (title_fault (own ++ later))) (All-head IsRight line own right)
    ∙ right_before own later (All-tail IsRight line own right)

pub none_wrong : (lines : List NumberedLine) → All IsRight lines → title_fault lines ≡ None
none_wrong lines right = ap title_fault (sym (append-nil lines)) ∙ right_before lines [] right

pub rows_right : (own later : List NumberedLine) → All IsRow own → title_fault (own ++ later) ≡ title_fault later
rows_right own later rows = right_before own later (λ k d within. row_not_wrong (get_or own k d) (rows k d within))

pub rows_blocks : (own later : List NumberedLine) → All IsRow own → blocks_of (own ++ later) ≡ blocks_of later
rows_blocks [] later rows = refl
rows_blocks (line ∷ own) later rows =
    ap
    (λ (b : Bool). cond b
    (record { id = id_of line.words; lines = up_to_title (own ++ later) }
    ∷ blocks_of (own ++ later)) (blocks_of (own ++ later))) (All-head IsRow line own rows)
    ∙ rows_blocks own later (All-tail IsRow line own rows)

pub first_block : (line : NumberedLine) (lines : List NumberedLine) → begins_block line ≡ true
    → blocks_of (line ∷ lines)
    ≡ record { id = id_of line.words; lines = up_to_title lines } ∷ blocks_of lines
first_block line lines title =
    ap
    (λ (b : Bool). cond b
    (record { id = id_of line.words; lines = up_to_title lines } ∷ blocks_of lines)
    (blocks_of lines)) title

pub up_to_row : (line : NumberedLine) (lines : List NumberedLine) → begins_block line ≡ false
    → up_to_title (line ∷ lines) ≡ line ∷ up_to_title lines
up_to_row line lines row =
    take_while-cons (λ l. not (begins_block l)) line lines
    ∙ ap (λ (b : Bool). cond (not b) (line ∷ up_to_title lines) []) row

pub up_to_first : (line : NumberedLine) (lines : List NumberedLine) → begins_block line ≡ true → up_to_title (line ∷ lines) ≡ []
up_to_first line lines title =
    take_while-cons (λ l. not (begins_block l)) line lines
    ∙ ap (λ (b : Bool). cond (not b) (line ∷ up_to_title lines) []) title

pub rows_before : (own later : List NumberedLine) → All IsRow own → up_to_title (own ++ later) ≡ own ++ up_to_title later
rows_before [] later rows = refl
rows_before (line ∷ own) later rows =
    up_to_row line (own ++ later) (All-head IsRow line own rows)
    ∙ ap (λ (ls : List NumberedLine). line ∷ ls)
    (rows_before own later (All-tail IsRow line own rows))

pub rows_up_to : (own later : List NumberedLine) → All IsRow own → up_to_title later ≡ [] → up_to_title (own ++ later) ≡ own
rows_up_to own later rows none =
    rows_before own later rows ∙ ap (λ (ls : List NumberedLine). own ++ ls) none ∙ append-nil own
