-- Lemmas which say that each block of a batch is read and diagnosed as if it were alone.
use Rattle.std.proofs.Common.{◌≡◌, ℕ, ◌+◌, Bool, true, false, cond, not, Option, Some, None, Ok, Err, List, [], ◌∷◌, ◌++◌, length, suc, refl, sym, ap, ◌∙◌, subst, arith, append-nil, length-append}
use Rattle.std.specs.Prelude.{All, ◌&&◌}
use Rattle.std.specs.List.{slice_split, onto_first, join_with_byte, flat_map}
use Rattle.std.proofs.lemmas.List.Elements.{All-nil, All-cons, All-head, All-tail}
use Rattle.std.proofs.lemmas.List.Splits.{slice_split_none, slice_split_at}
use Rattle.text_lines.specs.Words.{Word, is_newline, words_of}
use Rattle.text_lines.proofs.LineLemmas.{words_of_empty}
use Rattle.response_log.specs.declared.fault.LogFault.{LogFault}
use Rattle.response_log.specs.LogRows.{LogAnswer, NumberedLine, row_lines, log_rows, rows_of_lines}
use Rattle.board_defs.specs.declared.board.RawBoard.{RawBoard}
use Rattle.batch_diag.specs.declared.block.Block.{Block}
use Rattle.batch_diag.specs.declared.fault.BatchFault.{BatchFault}
use Rattle.batch_diag.specs.declared.fault.BatchFault.TheVariants.{Start, Title, Inner}
use Rattle.batch_diag.specs.Batch.{BatchAnswer, BlockLines, begins_block, is_title, id_of, names_board, is_wrong_title, start_fault, title_fault, up_to_title, blocks_of, onto, block_then, logs_from, unless_wrong, blocks_of_text}
use Rattle.batch_diag.specs.BatchText.{title_line, IsBatchText}
use Rattle.batch_diag.specs.Verdicts.{EachPair}
use Rattle.batch_diag.specs.OwnTexts.{BlockText, lines_of_block, own_text, IsTitle, IsNoTitle, IsCutTo, HoldsBlock, HoldsBlocks, BlocksByThemselves, moved_fault, FaultByItself, AreDiagnosesOf, DiagnosesByThemselves}
use Rattle.batch_diag.specs.inner.Cutting.{rows_from}
use Rattle.batch_diag.proofs.CutLemmas.{rows_at, with_line, worded, title_right, title_wrong, title_words, rows_append}
use Rattle.batch_diag.proofs.RowLemmas.{IsRow, named, rows_right, rows_blocks, first_block, up_to_first, rows_before}
use Rattle.batch_diag.proofs.FaultLemmas.{moved, said_at_place}
use Rattle.batch_diag.proofs.LawLemmas.{title_words as named_words, no_fault}

abbrev lines_in : List BlockText → List (List ℕ)
lines_in texts = flat_map lines_of_block texts

abbrev IsBlank : List ℕ → Type 0
IsBlank line = words_of line ≡ []

abbrev pub HasTitle : BlockText → Type 0
HasTitle text = IsTitle text.title

abbrev pub HasRows : BlockText → Type 0
HasRows text = All IsNoTitle text.below

abbrev Names : BlockText → Type 0
Names text = names_board (words_of text.title) ≡ true

-- the lines are some lines that are not titles, followed by blocks; each block is a title and the lines below
-- it, none of which is a title
record Cut (lines : List (List ℕ)) : Type 0 where
  front : List (List ℕ)
  texts : List BlockText
  all : lines ≡ front ++ lines_in texts
  none : All IsNoTitle front
  titles : All HasTitle texts
  below : All HasRows texts

cut_at : (line : List ℕ) (lines : List (List ℕ)) (title : Bool) → is_title (words_of line) ≡ title → Cut lines → Cut (line ∷ lines)
cut_at line lines true is rest = record {
  front = [];
  texts = record { title = line; below = rest.front } ∷ rest.texts;
  all = ap (λ (ls : List (List ℕ)). line ∷ ls) rest.all;
  none = All-nil IsNoTitle;
  titles = All-cons HasTitle (record { title = line; below = rest.front }) rest.texts is rest.titles;
  below = All-cons HasRows (record { title = line; below = rest.front }) rest.texts rest.none rest.below;
}
cut_at line lines false is rest = record {
  front = line ∷ rest.front;
  texts = rest.texts;
  all = ap (λ (ls : List (List ℕ)). line ∷ ls) rest.all;
  none = All-cons IsNoTitle line rest.front is rest.none;
  titles = rest.titles;
  below = rest.below;
}

cut : (lines : List (List ℕ)) → Cut lines
cut [] = record { front = []; texts = []; all = refl; none = All-nil IsNoTitle; titles = All-nil HasTitle; below = All-nil HasRows }
cut (line ∷ lines) = cut_at line lines (is_title (words_of line)) refl (cut lines)

with_row : (n : ℕ) (words : List Word) (rows : List NumberedLine) → is_title words ≡ false → All IsRow rows
    → All IsRow (with_line n words rows)
with_row n [] rows row rest = rest
with_row n (word ∷ words) rows row rest = All-cons IsRow (record { number = n; words = word ∷ words }) rows row rest

no_titles : (n : ℕ) (lines : List (List ℕ)) → All IsNoTitle lines → All IsRow (rows_at n lines)
no_titles n [] none = All-nil IsRow
no_titles n (line ∷ lines) none =
    with_row n (words_of line) (rows_at (n + 1) lines) (All-head IsNoTitle line lines none)
    (no_titles (n + 1) lines (All-tail IsNoTitle line lines none))

-- A title is the first of the numbered lines, and `later` follows it.
titled : (n : ℕ) (title : List ℕ) (later : List NumberedLine) → IsTitle title
    → with_line n (words_of title) later ≡ record { number = n; words = words_of title } ∷ later
titled n title later is = worded n (words_of title) later (title_words (words_of title) is)

-- No byte of the line is a newline. Each line of a text has this property.
abbrev IsClean : List ℕ → Type 0
IsClean line = All (λ b. is_newline b ≡ false) line

clean_onto : (b : ℕ) (parts : List (List ℕ)) → is_newline b ≡ false → All IsClean parts → All IsClean (onto_first b parts)
clean_onto b [] other clean =
    All-cons IsClean (b ∷ []) []
    (All-cons (λ (c : ℕ). is_newline c ≡ false) b [] other
    (All-nil (λ (c : ℕ). is_newline c ≡ false))) (All-nil IsClean)
clean_onto b (part ∷ parts) other clean =
    All-cons IsClean (b ∷ part) parts
    (All-cons (λ (c : ℕ). is_newline c ≡ false) b part other (All-head IsClean part parts clean))
    (All-tail IsClean part parts clean)

clean_parts : (text : List ℕ) → All IsClean (slice_split is_newline text)
clean_parts [] = All-cons IsClean [] [] (All-nil (λ (c : ℕ). is_newline c ≡ false)) (All-nil IsClean)
clean_parts (b ∷ bs) = by_test (is_newline b) refl (clean_parts bs)
  where
    by_test : (t : Bool) → is_newline b ≡ t → All IsClean (slice_split is_newline bs)
        → All IsClean
        (cond t ([] ∷ slice_split is_newline bs) (onto_first b (slice_split is_newline bs)))
    by_test true is below = All-cons IsClean [] (slice_split is_newline bs) (All-nil (λ (c : ℕ). is_newline c ≡ false)) below
    by_test false is below = clean_onto b (slice_split is_newline bs) is below

all_behind : {A : Type 0} (P : A → Type 0) (xs ys : List A) → All P (xs ++ ys) → All P ys
all_behind P [] ys all = all
all_behind P (x ∷ xs) ys all = all_behind P xs ys (All-tail P x (xs ++ ys) all)

all_before : {A : Type 0} (P : A → Type 0) (xs ys : List A) → All P (xs ++ ys) → All P xs
all_before P [] ys all = All-nil P
all_before P (x ∷ xs) ys all = All-cons P x xs (All-head P x (xs ++ ys) all) (all_before P xs ys (All-tail P x (xs ++ ys) all))

abbrev IsCleanBelow : BlockText → Type 0
IsCleanBelow text = All IsClean text.below

clean_below : (texts : List BlockText) → All IsClean (lines_in texts) → All IsCleanBelow texts
clean_below [] clean = All-nil IsCleanBelow
clean_below (text ∷ texts) clean =
    let behind = All-tail IsClean text.title (text.below ++ lines_in texts) clean in
    All-cons IsCleanBelow text texts (all_before IsClean text.below (lines_in texts) behind)
    (clean_below texts (all_behind IsClean text.below (lines_in texts) behind))

split_join : (line : List ℕ) (lines : List (List ℕ)) → All IsClean (line ∷ lines)
    → slice_split is_newline (join_with_byte 10 (line ∷ lines)) ≡ line ∷ lines
split_join line [] clean = slice_split_none is_newline line (All-head IsClean line [] clean)
split_join line (next ∷ lines) clean =
    slice_split_at is_newline line 10 (join_with_byte 10 (next ∷ lines)) (All-head IsClean line (next ∷ lines) clean) refl
    ∙ ap (λ (ls : List (List ℕ)). line ∷ ls) (split_join next lines (All-tail IsClean line (next ∷ lines) clean))

own_rows_at : (n : ℕ) (lines : List (List ℕ)) → All IsClean lines → rows_at n lines ≡ rows_from n (join_with_byte 10 lines)
own_rows_at n [] clean = let none : words_of [] ≡ [] = words_of_empty [] refl in sym (ap (λ words. with_line n words []) none)
own_rows_at n (line ∷ lines) clean = ap (rows_at n) (sym (split_join line lines clean))

-- The lines of each block, with their numbers in the whole text. The title of the first block is line `m`.
abbrev placed : ℕ → List BlockText → List BlockLines
placed m [] = []
placed m (text ∷ texts) =
    record { id = id_of (words_of text.title); lines = rows_at (m + 1) text.below }
    ∷ placed (m + 1 + length text.below) texts

up_to_texts : (m : ℕ) (texts : List BlockText) → All HasTitle texts → up_to_title (rows_at m (lines_in texts)) ≡ []
up_to_texts m [] titles = refl
up_to_texts m (text ∷ texts) titles =
    let later = rows_at (m + 1) (text.below ++ lines_in texts) in
    let title = All-head HasTitle text texts titles in
    ap up_to_title (titled m text.title later title)
    ∙ up_to_first (record { number = m; words = words_of text.title }) later title

below_title : (m : ℕ) (text : BlockText) (texts : List BlockText) → All HasTitle texts
    → All IsNoTitle text.below
    → up_to_title (rows_at (m + 1) (text.below ++ lines_in texts)) ≡ rows_at (m + 1) text.below
below_title m text texts titles below =
    ap up_to_title (rows_append (m + 1) text.below (lines_in texts))
    ∙ rows_before (rows_at (m + 1) text.below) (rows_at (m + 1 + length text.below) (lines_in texts))
    (no_titles (m + 1) text.below below)
    ∙ ap (λ (ls : List NumberedLine). rows_at (m + 1) text.below ++ ls)
    (up_to_texts (m + 1 + length text.below) texts titles)
    ∙ append-nil (rows_at (m + 1) text.below)

blocks_placed : (n : ℕ) (front : List (List ℕ)) (texts : List BlockText) → All IsNoTitle front
    → All HasTitle texts → All HasRows texts
    → blocks_of (rows_at n (front ++ lines_in texts)) ≡ placed (n + length front) texts
blocks_placed n front [] none titles below =
    ap blocks_of (rows_append n front [])
    ∙ rows_blocks (rows_at n front) [] (no_titles n front none)
blocks_placed n front (text ∷ texts) none titles below =
    let m = n + length front in
    let title = All-head HasTitle text texts titles in
    let later = All-tail HasTitle text texts titles in
    let own = All-head HasRows text texts below in
    ap blocks_of (rows_append n front (lines_in (text ∷ texts)))
    ∙ rows_blocks (rows_at n front) (rows_at m (lines_in (text ∷ texts))) (no_titles n front none)
    ∙ ap blocks_of (titled m text.title (rows_at (m + 1) (text.below ++ lines_in texts)) title)
    ∙ first_block (record { number = m; words = words_of text.title })
    (rows_at (m + 1) (text.below ++ lines_in texts)) title
    ∙ ap
    (λ (ls : List NumberedLine). record { id = id_of (words_of text.title); lines = ls }
    ∷ blocks_of (rows_at (m + 1) (text.below ++ lines_in texts)))
    (below_title m text texts later own)
    ∙ ap
    (λ (bs : List BlockLines). record
    { id = id_of (words_of text.title); lines = rows_at (m + 1) text.below } ∷ bs)
    (blocks_placed (m + 1) text.below texts own later (All-tail HasRows text texts below))

titles_after : (n : ℕ) (lines : List (List ℕ)) (texts : List BlockText) → All IsNoTitle lines
    → title_fault (rows_at n (lines ++ lines_in texts))
    ≡ title_fault (rows_at (n + length lines) (lines_in texts))
titles_after n lines texts none =
    ap title_fault (rows_append n lines (lines_in texts))
    ∙ rows_right (rows_at n lines) (rows_at (n + length lines) (lines_in texts)) (no_titles n lines none)

titles_named : (m : ℕ) (texts : List BlockText) → All HasTitle texts → All HasRows texts
    → title_fault (rows_at m (lines_in texts)) ≡ None → All Names texts
titles_named m [] titles below none = All-nil Names
titles_named m (text ∷ texts) titles below none =
    by_wrong (is_title words && not (names_board words)) refl
    (λ later. titles_named (m + 1 + length text.below) texts
    (All-tail HasTitle text texts titles) (All-tail HasRows text texts below)
    (sym (titles_after (m + 1) text.below texts (All-head HasRows text texts below)) ∙ later))
  where
    words : List Word
    words = words_of text.title

    later : List NumberedLine
    later = rows_at (m + 1) (text.below ++ lines_in texts)

    by_wrong : (wrong : Bool) → (is_title words && not (names_board words)) ≡ wrong
        → (title_fault later ≡ None → All Names texts) → All Names (text ∷ texts)
    by_wrong true wrong rest = let clash : Some (Title m) ≡ None = sym (title_wrong m words later wrong) ∙ none in absurd cc
    by_wrong false right rest =
        All-cons Names text texts
        (named words (names_board words) refl (All-head HasTitle text texts titles) right)
        (rest (sym (title_right m words later right) ∙ none))

right_words : (words : List Word) → names_board words ≡ true → (is_title words && not (names_board words)) ≡ false
right_words words names = by_title (is_title words)
  where
    by_title : (title : Bool) → (title && not (names_board words)) ≡ false
    by_title true = ap not names
    by_title false = refl

titles_none : (m : ℕ) (texts : List BlockText) → All HasRows texts → All Names texts → title_fault (rows_at m (lines_in texts)) ≡ None
titles_none m [] below names = refl
titles_none m (text ∷ texts) below names =
    title_right m (words_of text.title) (rows_at (m + 1) (text.below ++ lines_in texts))
    (right_words (words_of text.title) (All-head Names text texts names))
    ∙ titles_after (m + 1) text.below texts (All-head HasRows text texts below)
    ∙ titles_none (m + 1 + length text.below) texts (All-tail HasRows text texts below) (All-tail Names text texts names)

-- if the first line with words is a title, or if no line has words, the lines before the first title have no
-- words
blank_front : (n : ℕ) (front later : List (List ℕ)) → All IsNoTitle front
    → start_fault (rows_at n (front ++ later)) ≡ None → All IsBlank front
blank_front n [] later none start = All-nil IsBlank
blank_front n (line ∷ front) later none start =
    by_words (words_of line) refl start (blank_front (n + 1) front later (All-tail IsNoTitle line front none))
  where
    by_words : (words : List Word) → words_of line ≡ words
        → start_fault (with_line n words (rows_at (n + 1) (front ++ later))) ≡ None
        → (start_fault (rows_at (n + 1) (front ++ later)) ≡ None → All IsBlank front)
        → All IsBlank (line ∷ front)
    by_words [] are start rest = All-cons IsBlank line front are (rest start)
    by_words (word ∷ words) are start rest =
        let row : is_title (word ∷ words) ≡ false = ap is_title (sym are) ∙ All-head IsNoTitle line front none in
        let clash : Some (Start n) ≡ None = sym (ap (λ (b : Bool). cond b None (Some (Start n))) row) ∙ start in
        absurd cc

blank_rows : (n : ℕ) (front : List (List ℕ)) → All IsBlank front → rows_at n front ≡ []
blank_rows n [] blank = refl
blank_rows n (line ∷ front) blank =
    ap (λ (words : List Word). with_line n words (rows_at (n + 1) front))
    (All-head IsBlank line front blank)
    ∙ blank_rows (n + 1) front (All-tail IsBlank line front blank)

blank_no_titles : (front : List (List ℕ)) → All IsBlank front → All IsNoTitle front
blank_no_titles [] blank = All-nil IsNoTitle
blank_no_titles (line ∷ front) blank =
    All-cons IsNoTitle line front (ap is_title (All-head IsBlank line front blank))
    (blank_no_titles front (All-tail IsBlank line front blank))

texts_start : (m : ℕ) (texts : List BlockText) → All HasTitle texts → start_fault (rows_at m (lines_in texts)) ≡ None
texts_start m [] titles = refl
texts_start m (text ∷ texts) titles =
    let title = All-head HasTitle text texts titles in
    ap start_fault (titled m text.title (rows_at (m + 1) (text.below ++ lines_in texts)) title)
    ∙ ap (λ (b : Bool). cond b None (Some (Start m))) title

start_none : (n : ℕ) (front : List (List ℕ)) (texts : List BlockText) → All IsBlank front
    → All HasTitle texts → start_fault (rows_at n (front ++ lines_in texts)) ≡ None
start_none n front texts blank titles =
    ap start_fault (rows_append n front (lines_in texts))
    ∙ ap
    (λ (ls : List NumberedLine). start_fault
    (ls ++ rows_at (n + length front) (lines_in texts))) (blank_rows n front blank)
    ∙ texts_start (n + length front) texts titles

onto_said : (block : Block) (rest : BatchAnswer) (blocks : List Block) → onto block rest ≡ Ok blocks
    → (more : List Block) × (rest ≡ Ok more) × (block ∷ more ≡ blocks)
onto_said block (Ok more) blocks is = (more, refl, cc)
onto_said block (Err fault) blocks is = absurd cc

onto_fails : (block : Block) (rest : BatchAnswer) (fault : BatchFault) → onto block rest ≡ Err fault → rest ≡ Err fault
onto_fails block (Ok more) fault is = absurd cc
onto_fails block (Err other) fault is = cc

-- Lemmas which say that the logs of all blocks, or the first fault, follow from the log or the fault that each block's own text gives.
module _ (rows len : ℕ) where
  abbrev Rest : ℕ → ℕ → BlockText → List BlockText → BatchAnswer
  Rest k m text texts = logs_from rows len (k + 1) (placed (m + 1 + length text.below) texts)

  first_said : (k m : ℕ) (text : BlockText) (texts : List BlockText) (said : LogAnswer)
      → All IsClean text.below → log_rows (own_text text) rows len ≡ said →
      logs_from rows len k (placed m (text ∷ texts)) ≡ block_then (id_of (words_of text.title)) k (moved m said) (Rest k m text texts)
  first_said k m text texts said clean is =
      ap
      (λ (answer : LogAnswer). block_then (id_of (words_of text.title)) k answer
      (Rest k m text texts))
      (ap (rows_of_lines rows len) (own_rows_at (m + 1) text.below clean)
      ∙ said_at_place (own_text text) m rows len ∙ ap (moved m) is)

  abbrev Each : List BlockText → List Block → Type 0
  Each texts blocks = EachPair (HoldsBlock rows len) texts blocks

  no_more : (blocks : List Block) → ◌≡◌ {A = BatchAnswer} (Ok []) (Ok blocks) → Each [] blocks
  no_more [] is = tt
  no_more (block ∷ blocks) is = absurd cc

  to_each : (k m : ℕ) (texts : List BlockText) (blocks : List Block) → All IsCleanBelow texts
      → All HasTitle texts → All Names texts → logs_from rows len k (placed m texts) ≡ Ok blocks
      → Each texts blocks
  to_each k m [] blocks clean titles names is = no_more blocks is
  to_each k m (text ∷ texts) blocks clean titles names is =
      by_said (log_rows (own_text text) rows len) refl
      (λ more said. to_each (k + 1) (m + 1 + length text.below) texts more
      (All-tail IsCleanBelow text texts clean) (All-tail HasTitle text texts titles)
      (All-tail Names text texts names) said)
    where
      by_said : (said : LogAnswer) → log_rows (own_text text) rows len ≡ said
          → ((more : List Block) → Rest k m text texts ≡ Ok more → Each texts more)
          → Each (text ∷ texts) blocks
      by_said (Ok log) own below =
          let block : Block = record { id = id_of (words_of text.title); log = log } in
          let words = named_words (words_of text.title) (All-head HasTitle text texts titles) (All-head Names text texts names) in
          let more = onto_said block (Rest k m text texts) blocks
          (sym (first_said k m text texts (Ok log) (All-head IsCleanBelow text texts clean) own)
          ∙ is) in
          subst (Each (text ∷ texts)) more.2 (record { words = words.0; id = words.1; log = own }, below more.0 more.1)
      by_said (Err fault) own below =
          let clash : ◌≡◌ {A = BatchAnswer} (Err (Inner k (moved_fault m fault))) (Ok blocks) = sym
          (first_said k m text texts (Err fault) (All-head IsCleanBelow text texts clean) own)
          ∙ is in
          absurd cc

  from_each : (k m : ℕ) (texts : List BlockText) (blocks : List Block) → All IsCleanBelow texts
      → Each texts blocks → logs_from rows len k (placed m texts) ≡ Ok blocks
  from_each k m [] [] clean each = refl
  from_each k m [] (block ∷ blocks) clean each = absurd each
  from_each k m (text ∷ texts) [] clean each = absurd each
  from_each k m (text ∷ texts) (block ∷ blocks) clean each =
      first_said k m text texts (Ok block.log) (All-head IsCleanBelow text texts clean) each.0.log
      ∙ ap (λ (words : List Word). onto (record { id = id_of words; log = block.log }) (Rest k m text texts)) each.0.words
      ∙ ap (onto block) (from_each (k + 1) (m + 1 + length text.below) texts blocks (All-tail IsCleanBelow text texts clean) each.1)

  each_named : (texts : List BlockText) (blocks : List Block) → Each texts blocks → All Names texts
  each_named [] [] each = All-nil Names
  each_named [] (block ∷ blocks) each = absurd each
  each_named (text ∷ texts) [] each = absurd each
  each_named (text ∷ texts) (block ∷ blocks) each =
      All-cons Names text texts (ap names_board each.0.words ∙ each.0.id)
      (each_named texts blocks each.1)

  -- the block's own text holds a log
  abbrev HasLog : BlockText → Type 0
  HasLog text = (log : List (List Bool)) × (log_rows (own_text text) rows len ≡ Ok log)

  record Fails (k m : ℕ) (texts : List BlockText) (fault : BatchFault) : Type 0 where
    earlier : List BlockText
    block : BlockText
    later : List BlockText
    all : texts ≡ earlier ++ block ∷ later
    logs : All HasLog earlier
    own : LogFault
    fails : log_rows (own_text block) rows len ≡ Err own
    is : fault ≡ Inner (length earlier + k) (moved_fault (length (lines_in earlier) + m) own)

  fails_later : (k m : ℕ) (text : BlockText) (texts : List BlockText) (fault : BatchFault)
      → HasLog text → Fails (k + 1) (m + 1 + length text.below) texts fault
      → Fails k m (text ∷ texts) fault
  fails_later k m text texts fault log found =
      let count : length found.earlier + (k + 1) ≡ suc (length found.earlier) + k = omega arith in
      let line : length (lines_in found.earlier) + (m + 1 + length text.below)
      ≡ suc (length (text.below ++ lines_in found.earlier)) + m = omega
      (arith, length-append text.below (lines_in found.earlier)) in
      record {
        earlier = text ∷ found.earlier;
        block = found.block;
        later = found.later;
        all = ap (λ (ts : List BlockText). text ∷ ts) found.all;
        logs = All-cons HasLog text found.earlier log found.logs;
        own = found.own;
        fails = found.fails;
        is =
            found.is
            ∙ ap
            (λ n. Inner n
            (moved_fault (length (lines_in found.earlier) + (m + 1 + length text.below))
            found.own)) count
            ∙ ap (λ n. Inner (suc (length found.earlier) + k) (moved_fault n found.own)) line;
      }

  fails_here : (k m : ℕ) (text : BlockText) (texts : List BlockText) (own : LogFault)
      → log_rows (own_text text) rows len ≡ Err own
      → Fails k m (text ∷ texts) (Inner k (moved_fault m own))
  fails_here k m text texts own is = record {
    earlier = [];
    block = text;
    later = texts;
    all = refl;
    logs = All-nil HasLog;
    own = own;
    fails = is;
    is = ap (λ n. Inner n (moved_fault m own)) (omega arith) ∙ ap (λ n. Inner (0 + k) (moved_fault n own)) (omega arith);
  }

  find_fault : (k m : ℕ) (texts : List BlockText) (fault : BatchFault) → All IsCleanBelow texts
      → logs_from rows len k (placed m texts) ≡ Err fault → Fails k m texts fault
  find_fault k m [] fault clean is = absurd cc
  find_fault k m (text ∷ texts) fault clean is =
      by_said (log_rows (own_text text) rows len) refl
      (λ said. find_fault (k + 1) (m + 1 + length text.below) texts fault
      (All-tail IsCleanBelow text texts clean) said)
    where
      by_said : (said : LogAnswer) → log_rows (own_text text) rows len ≡ said
          → (Rest k m text texts ≡ Err fault → Fails (k + 1) (m + 1 + length text.below) texts fault)
          → Fails k m (text ∷ texts) fault
      by_said (Ok log) own below =
          let block : Block = record { id = id_of (words_of text.title); log = log } in
          fails_later k m text texts fault (log, own)
          (below
          (onto_fails block (Rest k m text texts) fault
          (sym
          (first_said k m text texts (Ok log)
          (All-head IsCleanBelow text texts clean) own) ∙ is)))
      by_said (Err why) own below =
          let both : ◌≡◌ {A = BatchAnswer} (Err (Inner k (moved_fault m why))) (Err fault) = sym
          (first_said k m text texts (Err why) (All-head IsCleanBelow text texts clean) own)
          ∙ is in
          let same : Inner k (moved_fault m why) ≡ fault = cc in
          subst (Fails k m (text ∷ texts)) same (fails_here k m text texts why own)

  -- Lemmas about the blocks of a whole text.
  module _ (text : List ℕ) where
    text_cut : Cut (slice_split is_newline text)
    text_cut = cut (slice_split is_newline text)

    text_rows : row_lines text ≡ rows_at 1 (text_cut.front ++ lines_in text_cut.texts)
    text_rows = ap (rows_at 1) text_cut.all

    text_clean : All IsCleanBelow text_cut.texts
    text_clean =
        clean_below text_cut.texts
        (all_behind IsClean text_cut.front (lines_in text_cut.texts)
        (subst (All IsClean) text_cut.all (clean_parts text)))

    is_cut : start_fault (row_lines text) ≡ None → IsCutTo text text_cut.front text_cut.texts
    is_cut start = record {
      lines = text_cut.all;
      blank = blank_front 1 text_cut.front (lines_in text_cut.texts) text_cut.none (ap start_fault (sym text_rows) ∙ start);
      titles = text_cut.titles;
      below = text_cut.below;
    }

    blocks_in : blocks_of (row_lines text) ≡ placed (1 + length text_cut.front) text_cut.texts
    blocks_in = ap blocks_of text_rows ∙ blocks_placed 1 text_cut.front text_cut.texts text_cut.none text_cut.titles text_cut.below

    to : (blocks : List Block) → blocks_of_text text rows len ≡ Ok blocks → HoldsBlocks text rows len blocks
    to blocks is =
        let none = no_fault rows len (row_lines text) blocks (start_fault (row_lines text)) (title_fault (row_lines text)) refl refl is in
        let names = titles_named (1 + length text_cut.front) text_cut.texts text_cut.titles
        text_cut.below
        (sym
        (ap title_fault text_rows
        ∙ titles_after 1 text_cut.front text_cut.texts text_cut.none) ∙ none.titles) in
        record {
          front = text_cut.front;
          texts = text_cut.texts;
          cut = is_cut none.start;
          each =
              to_each 1 (1 + length text_cut.front) text_cut.texts blocks text_clean text_cut.titles
              names (sym (ap (logs_from rows len 1) blocks_in) ∙ none.logs);
        }

    from : (blocks : List Block) → HoldsBlocks text rows len blocks → blocks_of_text text rows len ≡ Ok blocks
    from blocks holds =
        let c = holds.cut in
        let none = blank_no_titles holds.front c.blank in
        let is : row_lines text ≡ rows_at 1 (holds.front ++ lines_in holds.texts) = ap (rows_at 1) c.lines in
        let clean = clean_below holds.texts
        (all_behind IsClean holds.front (lines_in holds.texts)
        (subst (All IsClean) c.lines (clean_parts text))) in
        let start = ap start_fault is ∙ start_none 1 holds.front holds.texts c.blank c.titles in
        let titles = ap title_fault is ∙ titles_after 1 holds.front holds.texts none
        ∙ titles_none (1 + length holds.front) holds.texts c.below
        (each_named holds.texts blocks holds.each) in
        let logs = ap (λ (ls : List NumberedLine). logs_from rows len 1 (blocks_of ls)) is
        ∙ ap (logs_from rows len 1)
        (blocks_placed 1 holds.front holds.texts none c.titles c.below)
        ∙ from_each 1 (1 + length holds.front) holds.texts blocks clean holds.each in
        ap
        (λ (o : Option BatchFault). unless_wrong o
        (unless_wrong (title_fault (row_lines text))
        (logs_from rows len 1 (blocks_of (row_lines text))))) start
        ∙ ap (λ (o : Option BatchFault). unless_wrong o (logs_from rows len 1 (blocks_of (row_lines text)))) titles ∙ logs

no_inner_start : (lines : List NumberedLine) (board : ℕ) (fault : LogFault) → start_fault lines ≡ Some (Inner board fault) → ⊥
no_inner_start [] board fault is = absurd cc
no_inner_start (line ∷ lines) board fault is = by_test (begins_block line) is
  where
    by_test : (t : Bool) → cond t None (Some (Start line.number)) ≡ Some (Inner board fault) → ⊥
    by_test true is = absurd cc
    by_test false is = absurd cc

no_inner_title : (lines : List NumberedLine) (board : ℕ) (fault : LogFault) → title_fault lines ≡ Some (Inner board fault) → ⊥
no_inner_title [] board fault is = absurd cc
no_inner_title (line ∷ lines) board fault is = by_test (is_wrong_title line) is (no_inner_title lines board fault)
  where
    by_test : (t : Bool)
        → cond t (Some (Title line.number)) (title_fault lines) ≡ Some (Inner board fault)
        → (title_fault lines ≡ Some (Inner board fault) → ⊥) → ⊥
    by_test true is below = absurd cc
    by_test false is below = below is

-- There is no fault of a line before the first title (`start`) and no fault of a title (`title`). The answer for the blocks is the fault
-- `fault`.
record ToldOfBlock (start title : Option BatchFault) (answer : BatchAnswer) (fault : BatchFault) : Type 0 where
  start_is : start ≡ None
  title_is : title ≡ None
  says : answer ≡ Err fault

told_of_block : (start title : Option BatchFault) (answer : BatchAnswer) (fault : BatchFault)
    → (start ≡ Some fault → ⊥) → (title ≡ Some fault → ⊥)
    → unless_wrong start (unless_wrong title answer) ≡ Err fault
    → ToldOfBlock start title answer fault
told_of_block None None answer fault no_start no_title is = record { start_is = refl; title_is = refl; says = is }
told_of_block None (Some other) answer fault no_start no_title is = let same : other ≡ fault = cc in absurd (no_title (ap Some same))
told_of_block (Some other) title answer fault no_start no_title is = let same : other ≡ fault = cc in absurd (no_start (ap Some same))

inner_same : (b c : ℕ) (f g : LogFault) → Inner b f ≡ Inner c g → (b ≡ c) × (f ≡ g)
inner_same b c f g is = (cc, cc)

pub blocks_by_themselves : BlocksByThemselves
blocks_by_themselves text rows len blocks = (to rows len text blocks, from rows len text blocks)

pub fault_by_itself : FaultByItself
fault_by_itself text rows len board fault is =
    let told = told_of_block (start_fault (row_lines text)) (title_fault (row_lines text))
    (logs_from rows len 1 (blocks_of (row_lines text))) (Inner board fault)
    (no_inner_start (row_lines text) board fault) (no_inner_title (row_lines text) board fault)
    is in
    let c = text_cut rows len text in
    let found = find_fault rows len 1 (1 + length c.front) c.texts (Inner board fault)
    (text_clean rows len text)
    (sym (ap (logs_from rows len 1) (blocks_in rows len text)) ∙ told.says) in
    let same = inner_same board (length found.earlier + 1) fault
    (moved_fault (length (lines_in found.earlier) + (1 + length c.front)) found.own) found.is in
    let line : length (lines_in found.earlier) + (1 + length c.front)
    ≡ length (c.front ++ lines_in found.earlier) + 1 = omega
    (arith, length-append c.front (lines_in found.earlier)) in
    record {
      front = c.front;
      earlier = found.earlier;
      block = found.block;
      later = found.later;
      cut = subst (IsCutTo text c.front) found.all (is_cut rows len text told.start_is);
      logs = found.logs;
      number = same.0;
      own = found.own;
      fails = found.fails;
      line = same.1 ∙ ap (λ n. moved_fault n found.own) line;
    }

diagnosed : (board : RawBoard) (rows len : ℕ) (texts : List BlockText) (blocks : List Block)
    (out : List ℕ) → EachPair (HoldsBlock rows len) texts blocks → IsBatchText board blocks out
    → AreDiagnosesOf board rows len texts out
diagnosed board rows len [] [] out each is = is
diagnosed board rows len [] (block ∷ blocks) out each is = absurd each
diagnosed board rows len (text ∷ texts) [] out each is = absurd each
diagnosed board rows len (text ∷ texts) (block ∷ blocks) out each (diagnosis, later, is, are, all) = (
  diagnosis,
  later,
  record { log = block.log; holds = each.0.log; is = is },
  diagnosed board rows len texts blocks later each.1 are,
  all ∙ ap (λ (words : List Word). title_line (id_of words) ++ (diagnosis ++ later)) (sym each.0.words),
)

pub diagnoses_by_themselves : DiagnosesByThemselves
diagnoses_by_themselves board text rows len blocks out is are =
    let holds = to rows len text blocks is in
    (holds.front, holds.texts, holds.cut, diagnosed board rows len holds.texts blocks out holds.each are)
