-- Lemmas about the first line of a kind in the text of a batch, and about cutting the text at its titles.
use Rattle.std.proofs.Common.{◌≡◌, ℕ, suc, ◌+◌, ◌-◌, ◌<◌, ◌≤◌, Bool, true, false, cond, not, Option, Some, None, List, [], ◌∷◌, ◌++◌, length, take, refl, sym, ap, ◌∙◌, subst, arith, append_assoc, append-nil, length-append, Bor}
use Rattle.std.specs.Prelude.{filter, take_while, codes, IfSome, IfNone, option_copied, ◌&&◌, ◌==◌}
use Rattle.std.specs.Str.{bytes_eq}
use Rattle.std.specs.List.{slice_split, onto_first, join_with_byte}
use Rattle.std.proofs.lemmas.List.Splits.{slice_split-cons_yes, slice_split-cons_no, length-slice_split, join_with_byte-slice_split}
use Rattle.std.proofs.lemmas.List.Elements.{All-nil, All-cons, All-append}
use Rattle.std.proofs.lemmas.List.Sums.{take_while-cons}
use Rattle.std.proofs.Math.Seq.{take-append-add}
use Rattle.text_lines.specs.Words.{Word, words_of, is_newline, is_line_blank, is_filled, begins_no_comment, lines_of}
use Rattle.text_lines.proofs.LineLemmas.{words_of_empty}
use Rattle.response_log.specs.LogRows.{NumberedLine, numbered_lines, holds_word, has_words}
use Rattle.batch_diag.specs.declared.fault.BatchFault.TheVariants.{Title}
use Rattle.batch_diag.specs.Batch.{is_title, id_of, names_board, start_fault, title_fault, up_to_title, blocks_of}
use Rattle.batch_diag.specs.declared.lines.FoundLine.{FoundLine}
use Rattle.batch_diag.specs.declared.lines.LineKind.{LineKind}
use Rattle.batch_diag.specs.declared.lines.LineKind.TheVariants.{WithWords, AnyTitle, WrongTitle}
use Rattle.batch_diag.specs.inner.Cutting.{IsFirstLine, NoneIs, rows_from, begins_row, is_of_kind, or_nothing}
use Rattle.batch_diag.proofs.RowLemmas.{right_before, none_wrong, rows_blocks, first_block, up_to_first, rows_up_to}

-- The lines of `lines` that have words, with their numbers. The first of `lines` has the number `n`.
abbrev pub rows_at : ℕ → List (List ℕ) → List NumberedLine
rows_at n lines = filter has_words (numbered_lines n lines)

-- the numbered lines `later`, with line `n` in front of them if it has words
abbrev pub with_line : ℕ → List Word → List NumberedLine → List NumberedLine
with_line n words later = cond (holds_word words) (record { number = n; words = words } ∷ later) later

-- the lines with words in the rest of a text, or no lines if there is no rest
abbrev pub left_at : ℕ → Option (List ℕ) → List NumberedLine
left_at n left = rows_at n (lines_of left)

pub title_right : (n : ℕ) (words : List Word) (later : List NumberedLine)
    → (is_title words && not (names_board words)) ≡ false
    → title_fault (with_line n words later) ≡ title_fault later
title_right n [] later right = refl
title_right n (word ∷ words) later right = ap (λ b. cond b (Some (Title n)) (title_fault later)) right

pub title_wrong : (n : ℕ) (words : List Word) (later : List NumberedLine)
    → (is_title words && not (names_board words)) ≡ true
    → title_fault (with_line n words later) ≡ Some (Title n)
title_wrong n [] later wrong = absurd cc
title_wrong n (word ∷ words) later wrong = ap (λ b. cond b (Some (Title n)) (title_fault later)) wrong

-- A line that has words is the first of the numbered lines, and `later` follows it.
pub worded : (n : ℕ) (words : List Word) (later : List NumberedLine) → holds_word words ≡ true
    → with_line n words later ≡ record { number = n; words = words } ∷ later
worded n [] later none = absurd cc
worded n (word ∷ words) later some = refl

pub worded_line : (line : List ℕ) → holds_word (words_of line) ≡ true → 0 < length line
worded_line [] some =
    let none : holds_word (words_of []) ≡ false = ap holds_word (words_of_empty [] refl) in
    absurd cc
worded_line (b ∷ bs) some = omega arith

pub title_words : (words : List Word) → is_title words ≡ true → holds_word words ≡ true
title_words [] is = absurd cc
title_words (word ∷ words) is = refl

wrong_title_words : (words : List Word) → (is_title words && not (names_board words)) ≡ true → holds_word words ≡ true
wrong_title_words [] is = absurd cc
wrong_title_words (word ∷ words) is = refl

pub kind_words : (kind : LineKind) (words : List Word) → is_of_kind kind words ≡ true → holds_word words ≡ true
kind_words WithWords words is = is
kind_words AnyTitle words is = title_words words is
kind_words WrongTitle words is = wrong_title_words words is

-- if the first byte of a line's first word is not `B`, the line is not a title
other_first : (b : ℕ) (piece : List ℕ) (pieces : List (List ℕ)) (comment : Bool) → (b == 66) ≡ false
    → is_title (cond comment ((b ∷ piece) ∷ pieces) []) ≡ false
other_first b piece pieces true other = ap (λ (t : Bool). t && bytes_eq piece (codes "OARD")) other
other_first b piece pieces false other = refl

other_pieces : (b : ℕ) (pieces : List (List ℕ)) → (b == 66) ≡ false
    → is_title (take_while begins_no_comment (filter is_filled (onto_first b pieces))) ≡ false
other_pieces b [] other =
    ap is_title (take_while-cons begins_no_comment (b ∷ []) [])
    ∙ other_first b [] (take_while begins_no_comment []) (begins_no_comment (b ∷ [])) other
other_pieces b (piece ∷ pieces) other =
    ap is_title (take_while-cons begins_no_comment (b ∷ piece) (filter is_filled pieces))
    ∙ other_first b piece (take_while begins_no_comment (filter is_filled pieces))
    (begins_no_comment (b ∷ piece)) other

no_title_at : (b : ℕ) (bs : List ℕ) → is_line_blank b ≡ false → (b == 66) ≡ false → is_title (words_of (b ∷ bs)) ≡ false
unfolding words_of
no_title_at b bs blank other =
    ap (λ pieces. is_title (take_while begins_no_comment (filter is_filled pieces)))
    (slice_split-cons_no is_line_blank b bs blank)
    ∙ other_pieces b (slice_split is_line_blank bs) other

pub row_line : (line : List ℕ) → begins_row line ≡ true → is_title (words_of line) ≡ false
row_line [] begins = absurd cc
row_line (b ∷ bs) begins = by_tests (b == 66) (is_line_blank b) refl refl begins
  where
    by_tests : (first blank : Bool) → (b == 66) ≡ first → is_line_blank b ≡ blank
        → (not first && not blank) ≡ true → is_title (words_of (b ∷ bs)) ≡ false
    by_tests true blank is is' begins = absurd cc
    by_tests false true is is' begins = absurd cc
    by_tests false false is is' begins = no_title_at b bs is' is

no_part : (text : List ℕ) → slice_split is_newline text ≡ [] → ⊥
no_part text none =
    let count : length (slice_split is_newline text) ≡ 0 = ap length none in
    omega (arith, count, length-slice_split is_newline text)

-- The text `line`, a newline and `behind` has the first line `line`. Its other lines are the lines of `behind`.
abbrev Stays : List ℕ → List ℕ → Type 0
Stays line behind = slice_split is_newline (line ++ 10 ∷ behind) ≡ line ∷ slice_split is_newline behind

stays_onto : (b : ℕ) (bs line behind part : List ℕ) (parts rest : List (List ℕ))
    → is_newline b ≡ false → slice_split is_newline bs ≡ rest
    → onto_first b rest ≡ line ∷ part ∷ parts →
    ((first : List ℕ) → slice_split is_newline bs ≡ first ∷ part ∷ parts → Stays first behind) → Stays line behind
stays_onto b bs line behind part parts [] other split onto below = absurd cc
stays_onto b bs line behind part parts (first ∷ rest) other split onto below =
    let line_is : b ∷ first ≡ line = cc in
    let rest_is : rest ≡ part ∷ parts = cc in
    let stays : Stays first behind = below first (split ∙ ap (λ (ps : List (List ℕ)). first ∷ ps) rest_is) in
    ap (λ l. slice_split is_newline (l ++ 10 ∷ behind)) (sym line_is)
    ∙ slice_split-cons_no is_newline b (first ++ 10 ∷ behind) other
    ∙ ap (onto_first b) stays
    ∙ ap (λ (l : List ℕ). l ∷ slice_split is_newline behind) line_is

stays_byte : (b : ℕ) (bs line behind part : List ℕ) (parts : List (List ℕ)) (t : Bool)
    → is_newline b ≡ t → slice_split is_newline (b ∷ bs) ≡ line ∷ part ∷ parts →
    ((first : List ℕ) → slice_split is_newline bs ≡ first ∷ part ∷ parts → Stays first behind) → Stays line behind
stays_byte b bs line behind part parts true newline is below =
    let front : [] ∷ slice_split is_newline bs ≡ line ∷ part ∷ parts = sym (slice_split-cons_yes is_newline b bs newline) ∙ is in
    let line_is : [] ≡ line = cc in
    ap (λ l. slice_split is_newline (l ++ 10 ∷ behind)) (sym line_is) ∙ ap (λ (l : List ℕ). l ∷ slice_split is_newline behind) line_is
stays_byte b bs line behind part parts false other is below =
    stays_onto b bs line behind part parts (slice_split is_newline bs) other refl
    (sym (slice_split-cons_no is_newline b bs other) ∙ is) below

first_stays : (text line behind part : List ℕ) (parts : List (List ℕ))
    → slice_split is_newline text ≡ line ∷ part ∷ parts → Stays line behind
first_stays [] line behind part parts is = absurd cc
first_stays (b ∷ bs) line behind part parts is =
    stays_byte b bs line behind part parts (is_newline b) refl is
    (λ first split. first_stays bs first behind part parts split)

follows : (text line left behind : List ℕ)
    → slice_split is_newline text ≡ line ∷ slice_split is_newline left
    → slice_split is_newline (line ++ 10 ∷ behind) ≡ line ∷ slice_split is_newline behind
follows text line left behind is = by_parts (slice_split is_newline left) refl is
  where
    by_parts : (parts : List (List ℕ)) → slice_split is_newline left ≡ parts
        → slice_split is_newline text ≡ line ∷ parts
        → slice_split is_newline (line ++ 10 ∷ behind) ≡ line ∷ slice_split is_newline behind
    by_parts [] none split = absurd (no_part left none)
    by_parts (part ∷ parts) some split = first_stays text line behind part parts split

text_of_first : (text line left : List ℕ) → slice_split is_newline text ≡ line ∷ slice_split is_newline left → text ≡ line ++ 10 ∷ left
text_of_first text line left is =
    sym (join_with_byte-slice_split 10 text)
    ∙ ap (join_with_byte 10) (is ∙ sym (follows text line left left is))
    ∙ join_with_byte-slice_split 10 (line ++ 10 ∷ left)

front_append : (n : ℕ) (words : List Word) (rows later all : List NumberedLine)
    → all ≡ rows ++ later → with_line n words all ≡ with_line n words rows ++ later
front_append n [] rows later all is = is
front_append n (word ∷ words) rows later all is = ap (λ (ls : List NumberedLine). record { number = n; words = word ∷ words } ∷ ls) is

pub rows_append : (n : ℕ) (lines later : List (List ℕ)) → rows_at n (lines ++ later) ≡ rows_at n lines ++ rows_at (n + length lines) later
rows_append n [] later = ap (λ m. rows_at m later) (omega arith)
rows_append n (line ∷ lines) later =
    let next : n + 1 + length lines ≡ n + suc (length lines) = omega arith in
    front_append n (words_of line) (rows_at (n + 1) lines) (rows_at (n + suc (length lines)) later)
    (rows_at (n + 1) (lines ++ later))
    (rows_append (n + 1) lines later ∙ ap (λ m. rows_at (n + 1) lines ++ rows_at m later) next)

-- The first line of the text has number `n`, and the first line of its rest `left` has number `k`. No line before the rest satisfies `test`.
pub record Passed (test : List Word → Bool) (text : List ℕ) (n k : ℕ) (left : List ℕ) : Type 0 where
  pub done : List ℕ
  pub rows : List NumberedLine
  pub text_is : text ≡ done ++ left
  pub whole : (behind : List ℕ) → rows_from n (done ++ behind) ≡ rows ++ rows_from k behind
  pub none : NoneIs test rows

-- Like `Passed`, if there is a rest. Otherwise no line of the whole text satisfies `test`.
abbrev pub Passes : (List Word → Bool) → List ℕ → ℕ → ℕ → Option (List ℕ) → Type 0
Passes test text n k None = NoneIs test (rows_from n text)
Passes test text n k (Some left) = Passed test text n k left

pub passed_none : (test : List Word → Bool) (text : List ℕ) (n : ℕ) → Passed test text n n text
passed_none test text n = record {
  done = [];
  rows = [];
  text_is = refl;
  whole = λ behind. refl;
  none = All-nil (λ (line : NumberedLine). test line.words ≡ false);
}

pub passed_at : (test : List Word → Bool) (text : List ℕ) (n k : ℕ) (rest : Option (List ℕ)) (left : List ℕ)
    → Passes test text n k rest → rest ≡ Some left → Passed test text n k left
passed_at test text n k rest left passes is = subst (λ (o : Option (List ℕ)). Passes test text n k o) is passes

none_line : (test : List Word → Bool) (n : ℕ) (words : List Word) → test words ≡ false → NoneIs test (with_line n words [])
none_line test n [] here = All-nil (λ (line : NumberedLine). test line.words ≡ false)
none_line test n (word ∷ words) here =
    All-cons (λ (line : NumberedLine). test line.words ≡ false) (record { number = n; words = word ∷ words }) [] here
    (All-nil (λ (line : NumberedLine). test line.words ≡ false))

none_more : (test : List Word → Bool) (rows : List NumberedLine) (k : ℕ) (words : List Word)
    → NoneIs test rows → test words ≡ false → NoneIs test (rows ++ with_line k words [])
none_more test rows k words none here =
    All-append (λ (line : NumberedLine). test line.words ≡ false) rows (with_line k words []) none (none_line test k words here)

pub passed_line : (test : List Word → Bool) (text : List ℕ) (n k : ℕ) (left line : List ℕ) (after : Option (List ℕ))
    → Passed test text n k left → slice_split is_newline left ≡ line ∷ lines_of after
    → test (words_of line) ≡ false → Passes test text n (k + 1) after
passed_line test text n k left line None passed split here =
    let all : rows_from n text
    ≡ passed.rows
    ++ with_line k (words_of line) [] = ap (rows_from n) passed.text_is ∙ passed.whole left
    ∙ ap (λ ls. passed.rows ++ rows_at k ls) split in
    subst (NoneIs test) (sym all) (none_more test passed.rows k (words_of line) passed.none here)
passed_line test text n k left line (Some more) passed split here = record {
  done = passed.done ++ (line ++ 10 ∷ []);
  rows = passed.rows ++ with_line k (words_of line) [];
  text_is =
      passed.text_is
      ∙ ap (λ t. passed.done ++ t)
      (text_of_first left line more split ∙ sym (append_assoc line (10 ∷ []) more))
      ∙ sym (append_assoc passed.done (line ++ 10 ∷ []) more);
  whole =
      λ behind. ap (rows_from n)
      (append_assoc passed.done (line ++ 10 ∷ []) behind
      ∙ ap (λ t. passed.done ++ t) (append_assoc line (10 ∷ []) behind))
      ∙ passed.whole (line ++ 10 ∷ behind)
      ∙ ap (λ ls. passed.rows ++ rows_at k ls) (follows left line more behind split)
      ∙ ap (λ rows. passed.rows ++ rows)
      (front_append k (words_of line) [] (rows_from (k + 1) behind) (rows_from (k + 1) behind) refl)
      ∙ sym (append_assoc passed.rows (with_line k (words_of line) []) (rows_from (k + 1) behind));
  none = none_more test passed.rows k (words_of line) passed.none here;
}

own_is : (text done left : List ℕ) → text ≡ done ++ left → take (length text - length left) text ≡ done
own_is text done left is =
    let len : length text - length left ≡ length done + 0 = omega (arith, ap length is, length-append done left) in
    ap (λ n. take n text) len ∙ ap (take (length done + 0)) is ∙ take-append-add done left 0 ∙ append-nil done

-- a text without bytes has no line with words
bare_rows : (n : ℕ) → rows_from n [] ≡ []
bare_rows n = let none : words_of [] ≡ [] = words_of_empty [] refl in ap (λ words. with_line n words []) none

behind_rows : (n : ℕ) (after : Option (List ℕ)) → left_at n after ≡ rows_from n (or_nothing after)
behind_rows n None = sym (bare_rows n)
behind_rows n (Some text) = refl

module _ (test : List Word → Bool) (text : List ℕ) (n k : ℕ) (left line : List ℕ) (after : Option (List ℕ))
    (passed : Passed test text n k left) (split : slice_split is_newline left ≡ line ∷ lines_of after) where
  own_rows : rows_from n (take (length text - length left) text) ≡ passed.rows
  own_rows =
      ap (rows_from n) (own_is text passed.done left passed.text_is ∙ sym (append-nil passed.done))
      ∙ passed.whole [] ∙ ap (λ rows. passed.rows ++ rows) (bare_rows k)
      ∙ append-nil passed.rows

  pub found_all : holds_word (words_of line) ≡ true → rows_from n text
      ≡ rows_from n (take (length text - length left) text)
      ++ record { number = k; words = words_of line } ∷ rows_from (k + 1) (or_nothing after)
  found_all some =
      ap (rows_from n) passed.text_is ∙ passed.whole left
      ∙ ap (λ ls. passed.rows ++ rows_at k ls) split
      ∙ ap (λ rows. passed.rows ++ rows) (worded k (words_of line) (left_at (k + 1) after) some)
      ∙ ap (λ rows. passed.rows ++ record { number = k; words = words_of line } ∷ rows) (behind_rows (k + 1) after)
      ∙ ap (λ rows. rows ++ record { number = k; words = words_of line } ∷ rows_from (k + 1) (or_nothing after)) (sym own_rows)

  pub found_earlier : NoneIs test (rows_from n (take (length text - length left) text))
  found_earlier = subst (NoneIs test) (sym own_rows) passed.none

-- If no line has words, the text has no numbered lines.
wordless : (n : ℕ) (lines : List (List ℕ)) → NoneIs holds_word (rows_at n lines) → rows_at n lines ≡ []
wordless n [] none = refl
wordless n (line ∷ lines) none = by_words (words_of line) none (wordless (n + 1) lines)
  where
    by_words : (words : List Word) → NoneIs holds_word (with_line n words (rows_at (n + 1) lines))
        → (NoneIs holds_word (rows_at (n + 1) lines) → rows_at (n + 1) lines ≡ [])
        → with_line n words (rows_at (n + 1) lines) ≡ []
    by_words [] none below = below none
    by_words (word ∷ words) none below = let clash : true ≡ false = none 0 (record { number = n; words = [] }) (omega arith) in absurd cc

-- Lemmas that give the faults and the blocks of a text, first if no line is of a kind, then from the first line of the kind.
module _ (n : ℕ) (text : List ℕ) where
  pub no_start : NoneIs (is_of_kind WithWords) (rows_from n text) → start_fault (rows_from n text) ≡ None
  no_start none = ap start_fault (wordless n (slice_split is_newline text) none)

  pub no_wrong : NoneIs (is_of_kind WrongTitle) (rows_from n text) → title_fault (rows_from n text) ≡ None
  no_wrong none = none_wrong (rows_from n text) none

  pub uncut_own : NoneIs (is_of_kind AnyTitle) (rows_from n text) → up_to_title (rows_from n text) ≡ rows_from n text
  uncut_own none = ap up_to_title (sym (append-nil (rows_from n text))) ∙ rows_up_to (rows_from n text) [] none refl

  pub uncut_blocks : NoneIs (is_of_kind AnyTitle) (rows_from n text) → blocks_of (rows_from n text) ≡ []
  uncut_blocks none = ap blocks_of (sym (append-nil (rows_from n text))) ∙ rows_blocks (rows_from n text) [] none

  module _ (found : FoundLine) where
    abbrev row : NumberedLine
    row = record { number = found.number; words = words_of found.line.now }

    abbrev before : List NumberedLine
    before = rows_from n found.before.now

    abbrev behind : List NumberedLine
    behind = rows_from (found.number + 1) found.behind.now

    pub start_found : IsFirstLine (is_of_kind WithWords) n text found
        → start_fault (rows_from n text)
        ≡ start_fault (record { number = found.number; words = words_of found.line.now } ∷ [])
    start_found first =
        ap start_fault first.all
        ∙ ap (λ rows. start_fault (rows ++ row ∷ behind))
        (wordless n (slice_split is_newline found.before.now) first.earlier)

    pub wrong_found : IsFirstLine (is_of_kind WrongTitle) n text found → title_fault (rows_from n text) ≡ Some (Title found.number)
    wrong_found first =
        ap title_fault first.all ∙ right_before before (row ∷ behind) first.earlier
        ∙ ap (λ b. cond b (Some (Title found.number)) (title_fault behind)) first.here

    pub cut_own : IsFirstLine (is_of_kind AnyTitle) n text found → up_to_title (rows_from n text) ≡ rows_from n found.before.now
    cut_own first =
        ap up_to_title first.all
        ∙ rows_up_to before (row ∷ behind) first.earlier (up_to_first row behind first.here)

    pub cut_blocks : IsFirstLine (is_of_kind AnyTitle) n text found
        → blocks_of (rows_from n text)
        ≡ record
        { id = id_of (words_of found.line.now); lines = up_to_title (rows_from (found.number + 1) found.behind.now) }
        ∷ blocks_of (rows_from (found.number + 1) found.behind.now)
    cut_blocks first =
        ap blocks_of first.all ∙ rows_blocks before (row ∷ behind) first.earlier
        ∙ first_block row behind first.here

-- if the first line of `left` is not empty, the rest after the line is shorter than `left`
pub behind_less : (after : Option (Bor (List ℕ))) (line left : List ℕ)
    → IfSome after (λ rest. length line + length rest.now + 1 ≡ length left)
    → IfNone after (length line ≡ length left) → 0 < length line
    → length (or_nothing (option_copied after)) + 1 ≤ length left
behind_less None line left shorter whole filled = omega arith
behind_less (Some rest) line left shorter whole filled = omega arith

pub next_within : (after : Option (Bor (List ℕ))) (line left : List ℕ) (k b : ℕ)
    → IfSome after (λ rest. length line + length rest.now + 1 ≡ length left) → k + length left ≤ b
    → IfSome after (λ rest. k + 1 + length rest.now ≤ b)
next_within None line left k b shorter within = tt
next_within (Some rest) line left k b shorter within = omega arith
