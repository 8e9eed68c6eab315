-- A net file has at most as many lines as bytes. Each of its lines has at most as many words as the
-- file has bytes.
use Rattle.std.proofs.Common.{◌≡◌, ℕ, ◌+◌, ◌<◌, ◌≤◌, ◌^◌, Bool, true, false, cond, List, [], ◌∷◌, length, Result, Ok, Err, refl, sym, ap, ◌∙◌, subst, arith, min}
use Rattle.std.specs.Prelude.{filter, take_while, if◌then◌else◌, codes}
use Rattle.std.specs.List.{AllByRecursion, slice_split, onto_first, prefix_len}
use Rattle.std.proofs.lemmas.List.{length-take}
use Rattle.std.specs.Str.{bytes_eq}
use Rattle.board_files.specs.declared.fault.LineFault.{LineFault}
use Rattle.board_files.specs.declared.net_file.NetLine.{NetLine}
use Rattle.board_files.specs.declared.net_file.PinWord.{PinWord}
use Rattle.text_lines.specs.Words.{Word, words_of, is_newline, is_line_blank, is_filled, begins_no_comment, is_word}
use Rattle.board_files.specs.Files.{HasFewPins, IsNetFile}
use Rattle.board_files.specs.Reading.{◌>>=◌, line_then, lines_from}
use Rattle.board_files.specs.NetLines.{read_pin_word, read_pins, read_net, read_net_line, net_lines}

-- the number of pieces that are not empty; the pieces are the parts between the separators of a
-- text
filled : List (List ℕ) → ℕ
filled pieces = length (filter is_filled pieces)

empty_first : (pieces : List (List ℕ)) → filled ([] ∷ pieces) ≡ filled pieces
unfolding filled
empty_first pieces = refl

onto_filled : (x : ℕ) (pieces : List (List ℕ)) → filled (onto_first x pieces) ≤ 1 + filled pieces
unfolding filled
onto_filled x [] = omega arith
onto_filled x ([] ∷ pieces) = omega arith
onto_filled x ((b ∷ bs) ∷ pieces) = omega arith

filled_by : (p : ℕ → Bool) (x : ℕ) (xs : List ℕ) (b : Bool) → filled (slice_split p xs) ≤ length xs
    → filled (cond b ([] ∷ slice_split p xs) (onto_first x (slice_split p xs))) ≤ length (x ∷ xs)
filled_by p x xs true few = omega (arith, few, empty_first (slice_split p xs))
filled_by p x xs false few = omega (arith, few, onto_filled x (slice_split p xs))

few_filled : (p : ℕ → Bool) (xs : List ℕ) → filled (slice_split p xs) ≤ length xs
unfolding filled
few_filled p [] = omega arith
few_filled p (x ∷ xs) = filled_by p x xs (p x) (few_filled p xs)

few_words_taken : (words : List Word) → length (take_while begins_no_comment words) ≤ length words
few_words_taken words =
    let taken : length (take_while begins_no_comment words)
    ≡ min (prefix_len begins_no_comment words) (length words) = length-take
    (prefix_len begins_no_comment words) words in
    omega (arith, taken)

few_words : (line : List ℕ) → length (words_of line) ≤ length line
unfolding words_of filled
few_words line =
    let taken = few_words_taken (filter is_filled (slice_split is_line_blank line)) in
    omega (arith, taken, few_filled is_line_blank line)

-- no piece has more than `n` bytes
AllWithin : ℕ → List (List ℕ) → Type 0
AllWithin n pieces = AllByRecursion (λ piece. length piece ≤ n) pieces

wider : (m n : ℕ) (pieces : List (List ℕ)) → m ≤ n → AllWithin m pieces → AllWithin n pieces
unfolding AllWithin
wider m n [] more all = tt
wider m n (piece ∷ pieces) more all =
    let here : length piece ≤ m = all.0 in
    (omega (arith, more, here), wider m n pieces more all.1)

onto_within : (n x : ℕ) (pieces : List (List ℕ)) → AllWithin n pieces → AllWithin (1 + n) (onto_first x pieces)
unfolding AllWithin
onto_within n x [] all = (omega arith, tt)
onto_within n x (piece ∷ pieces) all =
    let here : length piece ≤ n = all.0 in
    (omega (arith, here), wider n (1 + n) pieces (omega arith) all.1)

within_by : (p : ℕ → Bool) (x : ℕ) (xs : List ℕ) (b : Bool)
    → AllWithin (length xs) (slice_split p xs)
    → AllWithin (1 + length xs) (cond b ([] ∷ slice_split p xs) (onto_first x (slice_split p xs)))
unfolding AllWithin
within_by p x xs true all = (omega arith, wider (length xs) (1 + length xs) (slice_split p xs) (omega arith) all)
within_by p x xs false all = onto_within (length xs) x (slice_split p xs) all

pieces_within : (p : ℕ → Bool) (xs : List ℕ) → AllWithin (length xs) (slice_split p xs)
unfolding AllWithin
pieces_within p [] = (omega arith, tt)
pieces_within p (x ∷ xs) =
    wider (1 + length xs) (length (x ∷ xs)) (slice_split p (x ∷ xs)) (omega arith)
    (within_by p x xs (p x) (pieces_within p xs))

-- one step of the induction over the words: each word gives one pin
more_pins : (n : ℕ) (word : Word) (words : List Word) (pin : Result PinWord LineFault)
    (rest : Result (List PinWord) LineFault) (pins : List PinWord)
    → (pin >>= (λ p. rest >>= (λ ps. Ok (p ∷ ps)))) ≡ Ok pins
    → ((ps : List PinWord) → rest ≡ Ok ps → length ps ≡ length words)
    → length pins ≡ length (word ∷ words)
more_pins n word words (Ok p) (Ok ps) pins is same =
    let here : p ∷ ps ≡ pins = cc in
    let count : length pins ≡ length (p ∷ ps) = ap length (sym here) in
    omega (arith, count, same ps refl)
more_pins n word words (Ok p) (Err e) pins is same = absurd cc
more_pins n word words (Err e) rest pins is same = absurd cc

count_pins : (n : ℕ) (words : List Word) (pins : List PinWord) → read_pins n words ≡ Ok pins → length pins ≡ length words
count_pins n [] pins is =
    let none : [] ≡ pins = cc in
    ap length (sym none)
count_pins n (word ∷ words) pins is = more_pins n word words (read_pin_word n word) (read_pins n words) pins is (count_pins n words)

line_pins : (n : ℕ) (name : Word) (words : List Word) (pins : Result (List PinWord) LineFault)
    (line : NetLine) → (pins >>= (λ ps. Ok (record { line = n; name = name; pins = ps }))) ≡ Ok line
    → ((ps : List PinWord) → pins ≡ Ok ps → length ps ≡ length words)
    → length line.pins ≡ length words
line_pins n name words (Ok ps) line is same =
    let here : ◌≡◌ {A = NetLine} (record { line = n; name = name; pins = ps }) line = cc in
    ap (λ (l : NetLine). length l.pins) (sym here) ∙ same ps refl
line_pins n name words (Err e) line is same = absurd cc

net_pins : (n : ℕ) (words : List Word) (line : NetLine) → read_net n words ≡ Ok line → length line.pins + 1 ≡ length words
unfolding read_net
net_pins n [] line is = absurd cc
net_pins n (name ∷ words) line is = by_test (is_word name) is
  where
    by_test : (b : Bool)
        → (if b
        then (read_pins n words >>=
        (λ pins. Ok (record { line = n; name = name; pins = pins })))
        else Err (Rattle.board_files.specs.declared.fault.LineFault.TheVariants.Word n)) ≡ Ok line
        → length line.pins + 1 ≡ length (name ∷ words)
    by_test true found = omega (arith, line_pins n name words (read_pins n words) line found (count_pins n words))
    by_test false found = absurd cc

-- besides its pins, a net line has two words: `NET` and the name
statement_pins : (n : ℕ) (words : List Word) (line : NetLine) → read_net_line n words ≡ Ok line → length line.pins + 2 ≡ length words
statement_pins n [] line is = absurd cc
statement_pins n (keyword ∷ words) line is = by_test (bytes_eq keyword (codes "NET")) is
  where
    by_test : (b : Bool)
        → (if b then read_net n words
        else Err (Rattle.board_files.specs.declared.fault.LineFault.TheVariants.Statement n))
        ≡ Ok line → length line.pins + 2 ≡ length (keyword ∷ words)
    by_test true found = omega (arith, net_pins n words line found)
    by_test false found = absurd cc

-- each line has at most `n - 2` pins, and there are at most `count` lines
pub record HasCounts (n : ℕ) (count : ℕ) (lines : List NetLine) : Type 0 where
  pub lines_few : length lines ≤ count
  pub pins_few : AllByRecursion (λ line. length line.pins + 2 ≤ n) lines

filled_line : (line : List ℕ) → 1 ≤ length line → filled (line ∷ []) ≡ 1
unfolding filled
filled_line [] some = absurd (omega (arith, some))
filled_line (b ∷ bs) some = refl

filled_cons : (line : List ℕ) (lines : List (List ℕ)) → filled (line ∷ lines) ≡ filled lines + filled (line ∷ [])
unfolding filled
filled_cons [] lines = omega arith
filled_cons (b ∷ bs) lines = omega arith

counts_more : (n number : ℕ) (line : List ℕ) (words : List Word)
    (rest : Result (List NetLine) LineFault) (count : ℕ) → length line ≤ n → words ≡ words_of line
    → ((values : List NetLine) → rest ≡ Ok values → HasCounts n count values)
    → (values : List NetLine) → line_then read_net_line number words rest ≡ Ok values → HasCounts n (count + filled (line ∷ [])) values
counts_more n number line [] rest count within are counts values is =
    let more = counts values is in
    record { lines_few = omega (arith, more.lines_few); pins_few = more.pins_few }
counts_more n number line (word ∷ words) rest count within are counts values is =
    by_value (read_net_line number (word ∷ words)) rest refl counts is
  where
    by_value : (value : Result NetLine LineFault) (rest : Result (List NetLine) LineFault)
        → read_net_line number (word ∷ words) ≡ value
        → ((values : List NetLine) → rest ≡ Ok values → HasCounts n count values)
        → (value >>= (λ v. rest >>= (λ vs. Ok (v ∷ vs)))) ≡ Ok values
        → HasCounts n (count + filled (line ∷ [])) values
    by_value (Ok v) (Ok vs) read more found =
        let here : v ∷ vs ≡ values = cc in
        let rests = more vs refl in
        let count_words : length (words_of line) ≤ length line = few_words line in
        let same : length (word ∷ words) ≡ length (words_of line) = ap length are in
        let pins : length v.pins + 2 ≤ n = omega (arith, statement_pins number (word ∷ words) v read, count_words, same, within) in
        let some : filled (line ∷ []) ≡ 1 = filled_line line (omega (arith, same, count_words)) in
        subst (HasCounts n (count + filled (line ∷ []))) here
        (record {
          lines_few = omega (arith, rests.lines_few, some);
          pins_few =
              (pins, rests.pins_few);
        })
    by_value (Ok v) (Err e) read more found = absurd cc
    by_value (Err e) rest read more found = absurd cc

counts_from : (n number : ℕ) (lines : List (List ℕ)) → AllWithin n lines → (values : List NetLine)
    → lines_from read_net_line number lines ≡ Ok values → HasCounts n (filled lines) values
unfolding AllWithin
counts_from n number [] all values is =
    let none : [] ≡ values = cc in
    subst (HasCounts n (filled [])) none (record { lines_few = omega arith; pins_few = tt })
counts_from n number (line ∷ lines) all values is =
    subst (λ (count : ℕ). HasCounts n count values) (sym (filled_cons line lines))
    (counts_more n number line (words_of line) (lines_from read_net_line (number + 1) lines)
    (filled lines) all.0 refl (counts_from n (number + 1) lines all.1) values is)

-- the number of lines, and the number of words on each line, are at most the number of bytes of the
-- text
pub net_counts : (text : List ℕ) (values : List NetLine) → net_lines text ≡ Ok values → HasCounts (length text) (length text) values
net_counts text values is =
    let counts = counts_from (length text) 1 (slice_split is_newline text) (pieces_within is_newline text) values is in
    record { lines_few = omega (arith, counts.lines_few, few_filled is_newline text); pins_few = counts.pins_few }

few_pins : (n : ℕ) → n < 2 ^ 32 → (lines : List NetLine)
    → AllByRecursion (λ line. length line.pins + 2 ≤ n) lines → AllByRecursion HasFewPins lines
few_pins n few [] pins = tt
few_pins n few (line ∷ lines) pins =
    let narrow : length line.pins + 2 ≤ n = pins.0 in
    (omega (arith, few, narrow), few_pins n few lines pins.1)

pub is_net_file : (text : List ℕ) (values : List NetLine) → length text < 2 ^ 32 → net_lines text ≡ Ok values → IsNetFile values
is_net_file text values few is =
    let counts = net_counts text values is in
    record { few = omega (arith, few, counts.lines_few); pins = few_pins (length text) few values counts.pins_few }
