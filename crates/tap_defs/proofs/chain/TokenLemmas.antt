-- The tokens of the text of a scan.
use Rattle.std.proofs.Common.{◌≡◌, ℕ, zero, suc, ◌+◌, ◌^◌, ◌<◌, ◌%◌, ◌==◌, Bool, true, false, cond, not, ◌&&◌, List, [], ◌∷◌, ◌++◌, length, refl, sym}
use Rattle.std.proofs.Common.{◌∙◌, ap, append_assoc, length-append, arith}
use Rattle.std.proofs.lemmas.Bool.{and_parts, and_from, not-true}
use Rattle.std.proofs.lemmas.Fmt.{decimal_by_steps, decimal_nonempty}
use Rattle.std.proofs.lemmas.List.{append-nil, length-map}
use Rattle.std.proofs.lemmas.List.Folds.{list_all-append}
use Rattle.std.specs.Char.{is_ascii_digit}
use Rattle.std.specs.List.{list_all}
use Rattle.std.specs.Prelude.{codes, decimal, is_some, unwrap_or}
use Rattle.bt_bits.specs.Hex.{hex_digit, hex_text}
use Rattle.lists.proofs.Booleans.{gt-eqb, lt-eqb}
use Rattle.tap_defs.specs.chain.Scan.{ScanBit, Scan, tdi_bits, tdo_bits, mask_bits, compares}
use Rattle.tap_defs.specs.chain.Text.{command_word, gap, broken, laid, compare_text, form}
use Rattle.tap_defs.specs.chain.SvfTokens.{Token, Word, Open, Close, End, is_svf_blank, ended, tokens_from}

-- true if the byte belongs to a word
abbrev pub is_solid : ℕ → Bool
is_solid b = not (is_svf_blank b) && (not (b == 40) && (not (b == 41) && not (b == 59)))

-- true if the byte does not begin a comment
abbrev pub is_bare : ℕ → Bool
is_bare b = not (b == 33) && not (b == 47)

abbrev pub is_plain : ℕ → Bool
is_plain b = is_solid b && is_bare b

pub all_by : (p q : ℕ → Bool) → ((b : ℕ) → p b ≡ true → q b ≡ true) → (bs : List ℕ) → list_all p bs ≡ true → list_all q bs ≡ true
all_by p q f [] h = refl
all_by p q f (b ∷ bs) h =
    let both = and_parts (p b) (list_all p bs) h in
    and_from (q b) (list_all q bs) (f b both.0) (all_by p q f bs both.1)

pub all_append : (p : ℕ → Bool) (xs ys : List ℕ) → list_all p xs ≡ true → list_all p ys ≡ true → list_all p (xs ++ ys) ≡ true
all_append p xs ys h k = list_all-append p xs ys ∙ and_from (list_all p xs) (list_all p ys) h k

pub one_more : (p : ℕ → Bool) (xs : List ℕ) (b : ℕ) → list_all p xs ≡ true → p b ≡ true → list_all p (xs ++ b ∷ []) ≡ true
one_more p xs b h k = all_append p xs (b ∷ []) h (and_from (p b) true k refl)

plain_solid : (b : ℕ) → is_plain b ≡ true → is_solid b ≡ true
plain_solid b h = (and_parts (is_solid b) (is_bare b) h).0

plain_bare : (b : ℕ) → is_plain b ≡ true → is_bare b ≡ true
plain_bare b h = (and_parts (is_solid b) (is_bare b) h).1

pub all_solid : (bs : List ℕ) → list_all is_plain bs ≡ true → list_all is_solid bs ≡ true
all_solid bs h = all_by is_plain is_solid plain_solid bs h

pub all_bare : (bs : List ℕ) → list_all is_plain bs ≡ true → list_all is_bare bs ≡ true
all_bare bs h = all_by is_plain is_bare plain_bare bs h

-- hexadecimal and decimal digits belong to words and begin no comment
hex_digit_plain : (a b c d : Bool) → is_plain (hex_digit a b c d) ≡ true
hex_digit_plain false false false false = refl
hex_digit_plain true false false false = refl
hex_digit_plain false true false false = refl
hex_digit_plain true true false false = refl
hex_digit_plain false false true false = refl
hex_digit_plain true false true false = refl
hex_digit_plain false true true false = refl
hex_digit_plain true true true false = refl
hex_digit_plain false false false true = refl
hex_digit_plain true false false true = refl
hex_digit_plain false true false true = refl
hex_digit_plain true true false true = refl
hex_digit_plain false false true true = refl
hex_digit_plain true false true true = refl
hex_digit_plain false true true true = refl
hex_digit_plain true true true true = refl

pub hex_text_plain : (bits : List Bool) → list_all is_plain (hex_text bits) ≡ true
hex_text_plain [] = refl
hex_text_plain (a ∷ []) = one_more is_plain [] (hex_digit a false false false) refl (hex_digit_plain a false false false)
hex_text_plain (a ∷ b ∷ []) = one_more is_plain [] (hex_digit a b false false) refl (hex_digit_plain a b false false)
hex_text_plain (a ∷ b ∷ c ∷ []) = one_more is_plain [] (hex_digit a b c false) refl (hex_digit_plain a b c false)
hex_text_plain (a ∷ b ∷ c ∷ d ∷ bits) =
    one_more is_plain (hex_text bits) (hex_digit a b c d) (hex_text_plain bits)
    (hex_digit_plain a b c d)

hex_text_some : (bits : List Bool) → 0 < length bits → 0 < length (hex_text bits)
hex_text_some [] h = h
hex_text_some (a ∷ []) h = omega arith
hex_text_some (a ∷ b ∷ []) h = omega arith
hex_text_some (a ∷ b ∷ c ∷ []) h = omega arith
hex_text_some (a ∷ b ∷ c ∷ d ∷ bits) h = omega (arith, length-append (hex_text bits) (hex_digit a b c d ∷ []))

digit_is : (d : ℕ) → d < 10 → is_ascii_digit (48 + d) ≡ true
digit_is d h = grind arith

pub decimal_digits : (n : ℕ) → n < 2 ^ 64 → list_all is_ascii_digit (decimal n) ≡ true
decimal_digits n h =
    decimal_by_steps (λ m ds. list_all is_ascii_digit ds ≡ true)
    (λ m k. one_more is_ascii_digit [] (48 + m) refl (digit_is m k))
    (λ m ds k q. one_more is_ascii_digit ds (48 + m % 10) q (digit_is (m % 10) (omega arith)))
    n h

plain_by : (b : ℕ) → (b == 32) ≡ false → (b == 9) ≡ false → (b == 10) ≡ false → (b == 13) ≡ false → (b == 40) ≡ false → (b == 41) ≡ false →
    (b == 59) ≡ false → (b == 33) ≡ false → (b == 47) ≡ false → is_plain b ≡ true
plain_by b p q r s t u v w x = rw (p, q, r, s, t, u, v, w, x) refl

digit_plain : (b : ℕ) → is_ascii_digit b ≡ true → is_plain b ≡ true
digit_plain b h =
    let low : 48 < b + 1 = grind arith in
    let high : b < 58 = grind arith in
    plain_by b (gt-eqb b 32 (omega arith)) (gt-eqb b 9 (omega arith)) (gt-eqb b 10 (omega arith)) (gt-eqb b 13 (omega arith))
    (gt-eqb b 40 (omega arith)) (gt-eqb b 41 (omega arith)) (lt-eqb b 59 (omega arith))
    (gt-eqb b 33 (omega arith)) (gt-eqb b 47 (omega arith))

pub decimal_plain : (n : ℕ) → n < 2 ^ 64 → list_all is_plain (decimal n) ≡ true
decimal_plain n h = all_by is_ascii_digit is_plain digit_plain (decimal n) (decimal_digits n h)

solid_goes_on : (word : List ℕ) (b : ℕ) (rest : List ℕ) → is_solid b ≡ true →
    tokens_from word (b ∷ rest) ≡ tokens_from (word ++ b ∷ []) rest
unfolding tokens_from
solid_goes_on word b rest h =
    let x = and_parts (not (is_svf_blank b)) (not (b == 40) && (not (b == 41) && not (b == 59))) h in
    let y = and_parts (not (b == 40)) (not (b == 41) && not (b == 59)) x.1 in
    let z = and_parts (not (b == 41)) (not (b == 59)) y.1 in
    let stop : List Token = cond (b == 59) (ended word (End ∷ tokens_from [] rest)) (tokens_from (word ++ b ∷ []) rest) in
    let close : List Token = cond (b == 41) (ended word (Close ∷ tokens_from [] rest)) stop in
    let open_ : List Token = cond (b == 40) (ended word (Open ∷ tokens_from [] rest)) close in
    ap (λ (t : Bool). cond t (ended word (tokens_from [] rest)) open_) (not-true (is_svf_blank b) x.0)
    ∙ ap (λ (t : Bool). cond t (ended word (Open ∷ tokens_from [] rest)) close) (not-true (b == 40) y.0)
    ∙ ap (λ (t : Bool). cond t (ended word (Close ∷ tokens_from [] rest)) stop) (not-true (b == 41) z.0)
    ∙ ap (λ (t : Bool). cond t (ended word (End ∷ tokens_from [] rest)) (tokens_from (word ++ b ∷ []) rest)) (not-true (b == 59) z.1)

word_goes_on : (word more rest : List ℕ) → list_all is_solid more ≡ true → tokens_from word (more ++ rest) ≡ tokens_from (word ++ more) rest
word_goes_on word [] rest h = ap (λ (r : List ℕ). tokens_from r rest) (sym (append-nil word))
word_goes_on word (b ∷ more) rest h =
    let both = and_parts (is_solid b) (list_all is_solid more) h in
    solid_goes_on word b (more ++ rest) both.0
    ∙ word_goes_on (word ++ b ∷ []) more rest both.1
    ∙ ap (λ (r : List ℕ). tokens_from r rest) (append_assoc word (b ∷ []) more)

word_ends : (word : List ℕ) (tokens : List Token) → 0 < length word → ended word tokens ≡ Word word ∷ tokens
word_ends [] tokens h = absurd (omega (arith, h))
word_ends (b ∷ word) tokens h = refl

-- these words as tokens, followed by other tokens
abbrev pub worded : List (List ℕ) → List Token → List Token
worded [] tokens = tokens
worded (w ∷ words) tokens = Word w ∷ worded words tokens

-- the bytes of the words, joined
abbrev pub run_on : List (List ℕ) → List ℕ
run_on [] = []
run_on (w ∷ words) = w ++ run_on words

-- The words into which line ends divide the digits. `word` is the part of a word before them, and its line has room for
-- `room` more digits.
abbrev pub pieces : List ℕ → ℕ → List ℕ → List (List ℕ)
pieces word room [] = word ∷ []
pieces word zero (d ∷ digits) = word ∷ pieces (d ∷ []) 63 digits
pieces word (suc room) (d ∷ digits) = pieces (word ++ d ∷ []) room digits

abbrev pub first_pieces : List ℕ → List (List ℕ)
first_pieces [] = []
first_pieces (d ∷ digits) = pieces (d ∷ []) 63 digits

abbrev pub words_of : Bool → List ℕ → List (List ℕ)
words_of true digits = first_pieces digits
words_of false digits = digits ∷ []

run_on-pieces : (word : List ℕ) (room : ℕ) (digits : List ℕ) → run_on (pieces word room digits) ≡ word ++ digits
run_on-pieces word room [] = refl
run_on-pieces word zero (d ∷ digits) = ap (λ (r : List ℕ). word ++ r) (run_on-pieces (d ∷ []) 63 digits)
run_on-pieces word (suc room) (d ∷ digits) = run_on-pieces (word ++ d ∷ []) room digits ∙ append_assoc word (d ∷ []) digits

pub run_on-words_of : (long : Bool) (digits : List ℕ) → run_on (words_of long digits) ≡ digits
run_on-words_of true [] = refl
run_on-words_of true (d ∷ digits) = run_on-pieces (d ∷ []) 63 digits
run_on-words_of false digits = append-nil digits

pub worded-append : (words : List (List ℕ)) (ts us : List Token) → worded words ts ++ us ≡ worded words (ts ++ us)
worded-append [] ts us = refl
worded-append (w ∷ words) ts us = ap (λ (r : List Token). Word w ∷ r) (worded-append words ts us)

pieces_read : (word : List ℕ) (room : ℕ) (digits rest : List ℕ) → 0 < length word → list_all is_solid digits ≡ true →
    tokens_from word (broken room digits ++ 41 ∷ rest) ≡ worded (pieces word room digits) (Close ∷ tokens_from [] rest)
unfolding tokens_from
pieces_read word room [] rest some h = word_ends word (Close ∷ tokens_from [] rest) some
pieces_read word zero (d ∷ digits) rest some h =
    let both = and_parts (is_solid d) (list_all is_solid digits) h in
    word_ends word (tokens_from [] (d ∷ (broken 63 digits ++ 41 ∷ rest))) some
    ∙ ap (λ (r : List Token). Word word ∷ r)
    (solid_goes_on [] d (broken 63 digits ++ 41 ∷ rest) both.0 ∙ pieces_read (d ∷ []) 63 digits rest (omega arith) both.1)
pieces_read word (suc room) (d ∷ digits) rest some h =
    let both = and_parts (is_solid d) (list_all is_solid digits) h in
    solid_goes_on word d (broken room digits ++ 41 ∷ rest) both.0
    ∙ pieces_read (word ++ d ∷ []) room digits rest (omega (arith, length-append word (d ∷ []))) both.1

laid_read : (long : Bool) (digits rest : List ℕ) → 0 < length digits → list_all is_solid digits ≡ true →
    tokens_from [] (laid long digits ++ 41 ∷ rest) ≡ worded (words_of long digits) (Close ∷ tokens_from [] rest)
unfolding tokens_from
laid_read true [] rest some h = absurd (omega (arith, some))
laid_read true (d ∷ digits) rest some h =
    let both = and_parts (is_solid d) (list_all is_solid digits) h in
    solid_goes_on [] d (broken 63 digits ++ 41 ∷ rest) both.0 ∙ pieces_read (d ∷ []) 63 digits rest (omega arith) both.1
laid_read false digits rest some h = word_goes_on [] digits (41 ∷ rest) h ∙ word_ends digits (Close ∷ tokens_from [] rest) some

bits_read : (long : Bool) (bits : List Bool) (rest : List ℕ) → 0 < length bits →
    tokens_from [] (laid long (hex_text bits) ++ 41 ∷ rest) ≡ worded (words_of long (hex_text bits)) (Close ∷ tokens_from [] rest)
bits_read long bits rest h = laid_read long (hex_text bits) rest (hex_text_some bits h) (all_solid (hex_text bits) (hex_text_plain bits))

gap_ends : (long : Bool) (word rest : List ℕ) → 0 < length word → tokens_from word (gap long ∷ rest) ≡ Word word ∷ tokens_from [] rest
unfolding tokens_from
gap_ends true word rest h = word_ends word (tokens_from [] rest) h
gap_ends false word rest h = word_ends word (tokens_from [] rest) h

gap_first : (long : Bool) (rest : List ℕ) → tokens_from [] (gap long ∷ rest) ≡ tokens_from [] rest
unfolding tokens_from
gap_first true rest = refl
gap_first false rest = refl

number_read : (long : Bool) (n : ℕ) (rest : List ℕ) → n < 2 ^ 64 →
    tokens_from [] (decimal n ++ gap long ∷ rest) ≡ Word (decimal n) ∷ tokens_from [] rest
number_read long n rest h =
    word_goes_on [] (decimal n) (gap long ∷ rest) (all_solid (decimal n) (decimal_plain n h))
    ∙ gap_ends long (decimal n) rest (decimal_nonempty n h)

-- the tokens of a field, followed by other tokens
abbrev pub field_tokens : Bool → List ℕ → List Bool → List Token → List Token
field_tokens long name bits tokens = Word name ∷ Open ∷ worded (words_of long (hex_text bits)) (Close ∷ tokens)

abbrev pub compare_tokens : Bool → List ScanBit → Bool → List Token
compare_tokens long bits true = field_tokens long (codes "TDO") (tdo_bits bits) (field_tokens long (codes "MASK") (mask_bits bits) [])
compare_tokens long bits false = []

-- the tokens of a scan's statement without the semicolon
abbrev pub scan_tokens : Bool → Scan → List Token
scan_tokens long scan =
    Word (command_word scan.ir) ∷ Word (decimal (length scan.bits))
    ∷ field_tokens long (codes "TDI") (tdi_bits scan.bits) (compare_tokens long scan.bits (compares scan.bits))

field_tokens-append : (long : Bool) (name : List ℕ) (bits : List Bool) (ts us : List Token) →
    field_tokens long name bits ts ++ us ≡ field_tokens long name bits (ts ++ us)
field_tokens-append long name bits ts us =
    ap (λ (r : List Token). Word name ∷ Open ∷ r)
    (worded-append (words_of long (hex_text bits)) (Close ∷ ts) us)

mask_read : (long : Bool) (bits : List Bool) (rest : List ℕ) → 0 < length bits →
    tokens_from [] (gap long ∷ codes "MASK (" ++ (laid long (hex_text bits) ++ (codes ");" ++ rest)))
    ≡ field_tokens long (codes "MASK") bits (End ∷ tokens_from [] rest)
unfolding tokens_from
mask_read long bits rest h =
    gap_first long (codes "MASK (" ++ (laid long (hex_text bits) ++ (codes ");" ++ rest)))
    ∙ ap (λ (r : List Token). Word (codes "MASK") ∷ Open ∷ r) (bits_read long bits (59 ∷ rest) h)

tdo_read : (long : Bool) (bits : List Bool) (rest : List ℕ) (tokens : List Token) → 0 < length bits → tokens_from [] rest ≡ tokens →
    tokens_from [] (gap long ∷ codes "TDO (" ++ (laid long (hex_text bits) ++ 41 ∷ rest)) ≡ field_tokens long (codes "TDO") bits tokens
unfolding tokens_from
tdo_read long bits rest tokens h e =
    gap_first long (codes "TDO (" ++ (laid long (hex_text bits) ++ 41 ∷ rest))
    ∙ ap (λ (r : List Token). Word (codes "TDO") ∷ Open ∷ r)
    (bits_read long bits rest h ∙ ap (λ (r : List Token). worded (words_of long (hex_text bits)) (Close ∷ r)) e)

compare_read : (long : Bool) (bits : List ScanBit) (b : Bool) (rest : List ℕ) → 0 < length bits →
    tokens_from [] (laid long (hex_text (tdi_bits bits)) ++ (compare_text long bits b ++ 10 ∷ rest))
    ≡ worded (words_of long (hex_text (tdi_bits bits))) (Close ∷ (compare_tokens long bits b ++ End ∷ tokens_from [] rest))
unfolding tokens_from
compare_read long bits false rest h =
    let some : 0 < length (tdi_bits bits) = omega (arith, length-map bits (λ (b : ScanBit). b.tdi)) in
    bits_read long (tdi_bits bits) (59 ∷ 10 ∷ rest) some
compare_read long bits true rest h =
    let tdo : List ℕ = laid long (hex_text (tdo_bits bits)) in
    let mask : List ℕ = laid long (hex_text (mask_bits bits)) in
    let some : 0 < length (tdi_bits bits) = omega (arith, length-map bits (λ (b : ScanBit). b.tdi)) in
    let some_tdo : 0 < length (tdo_bits bits) = omega (arith, length-map bits (λ (b : ScanBit). unwrap_or b.expect false)) in
    let some_mask : 0 < length (mask_bits bits) = omega (arith, length-map bits (λ (b : ScanBit). is_some b.expect)) in
    let mask_field : List ℕ = gap long ∷ codes "MASK (" ++ (mask ++ codes ");") in
    let mask_long : List ℕ = gap long ∷ codes "MASK (" ++ (mask ++ (codes ");" ++ 10 ∷ rest)) in
    let end : List Token = End ∷ tokens_from [] rest in
    let mask_tokens : List Token = field_tokens long (codes "MASK") (mask_bits bits) end in
    let regroup : (gap long ∷ codes "TDO (" ++ (tdo ++ 41 ∷ mask_field)) ++ 10 ∷ rest
    ≡ gap long ∷ codes "TDO (" ++ (tdo ++ 41 ∷ mask_long) =
    ap (λ (r : List ℕ). gap long ∷ codes "TDO (" ++ r)
    (append_assoc tdo (41 ∷ mask_field) (10 ∷ rest)
    ∙ ap (λ (r : List ℕ). tdo ++ (41 ∷ gap long ∷ codes "MASK (" ++ r)) (append_assoc mask (codes ");") (10 ∷ rest))) in
    let tokens_are : compare_tokens long bits true ++ end ≡ field_tokens long (codes "TDO") (tdo_bits bits) mask_tokens =
    field_tokens-append long (codes "TDO") (tdo_bits bits) (field_tokens long (codes "MASK") (mask_bits bits) []) end
    ∙ ap (λ (r : List Token). field_tokens long (codes "TDO") (tdo_bits bits) r)
    (field_tokens-append long (codes "MASK") (mask_bits bits) [] end) in
    bits_read long (tdi_bits bits) ((gap long ∷ codes "TDO (" ++ (tdo ++ 41 ∷ mask_field)) ++ 10 ∷ rest) some
    ∙ ap (λ (r : List Token). worded (words_of long (hex_text (tdi_bits bits))) (Close ∷ r))
    (ap (λ (r : List ℕ). tokens_from [] r) regroup
    ∙ tdo_read long (tdo_bits bits) mask_long mask_tokens some_tdo (mask_read long (mask_bits bits) (10 ∷ rest) some_mask)
    ∙ sym tokens_are)

command_read : (ir : Bool) (rest : List ℕ) → tokens_from [] (command_word ir ++ (32 ∷ rest)) ≡ Word (command_word ir) ∷ tokens_from [] rest
unfolding tokens_from
command_read true rest = refl
command_read false rest = refl

command-append : (ir : Bool) (more rest : List ℕ) → (command_word ir ++ (32 ∷ more)) ++ rest ≡ command_word ir ++ (32 ∷ (more ++ rest))
command-append true more rest = refl
command-append false more rest = refl

pub form_read : (long : Bool) (scan : Scan) (rest : List ℕ) → 0 < length scan.bits → length scan.bits < 2 ^ 64 →
    tokens_from [] (form long scan ++ 10 ∷ rest) ≡ scan_tokens long scan ++ End ∷ tokens_from [] rest
unfolding tokens_from
form_read long scan rest h fits =
    let n : List ℕ = decimal (length scan.bits) in
    let tdi : List ℕ = laid long (hex_text (tdi_bits scan.bits)) in
    let tail : List ℕ = compare_text long scan.bits (compares scan.bits) in
    let before : List Token → List Token = λ (r : List Token). Word (command_word scan.ir) ∷ Word n ∷ Word (codes "TDI") ∷ Open ∷ r in
    ap (λ (r : List ℕ). tokens_from [] r) (command-append scan.ir (n ++ (gap long ∷ codes "TDI (" ++ (tdi ++ tail))) (10 ∷ rest))
    ∙ command_read scan.ir ((n ++ (gap long ∷ codes "TDI (" ++ (tdi ++ tail))) ++ 10 ∷ rest)
    ∙ ap (λ (r : List ℕ). Word (command_word scan.ir) ∷ tokens_from [] r)
    (append_assoc n (gap long ∷ codes "TDI (" ++ (tdi ++ tail)) (10 ∷ rest))
    ∙ ap (λ (r : List Token). Word (command_word scan.ir) ∷ r)
    (number_read long (length scan.bits) (codes "TDI (" ++ ((tdi ++ tail) ++ 10 ∷ rest)) fits)
    ∙ ap (λ (r : List ℕ). before (tokens_from [] r)) (append_assoc tdi tail (10 ∷ rest))
    ∙ ap before (compare_read long scan.bits (compares scan.bits) rest h)
    ∙ ap before
    (sym
    (worded-append (words_of long (hex_text (tdi_bits scan.bits))) (Close ∷ compare_tokens long scan.bits (compares scan.bits))
    (End ∷ tokens_from [] rest)))
