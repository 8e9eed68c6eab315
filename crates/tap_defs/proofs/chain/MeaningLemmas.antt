-- Proof that the text of scans means the clocks of the head, of the scans and of the tail.
use Rattle.std.proofs.Common.{◌≡◌, ℕ, zero, suc, ◌^◌, ◌<◌, ◌==◌, Bool, true, false, cond, not, ◌&&◌, ◌||◌, List, [], ◌∷◌, ◌++◌, length, map, Option}
use Rattle.std.proofs.Common.{Some, None, refl, sym, ◌∙◌, ap, append_assoc}
use Rattle.std.proofs.lemmas.Bool.{and_parts, and_from, not-true}
use Rattle.std.proofs.lemmas.List.{append-nil}
use Rattle.std.specs.List.{list_all}
use Rattle.std.specs.Prelude.{codes, decimal, option_and_then, option_map, nat_lt}
use Rattle.bt_bits.specs.Hex.{hex_text}
use Rattle.tap_defs.specs.chain.Scan.{ScanBit, Scan, tdi_bits, tdo_bits, mask_bits, compares}
use Rattle.tap_defs.specs.chain.Text.{command_word, gap, broken, laid, compare_text, form, scan_text, scan_texts, head_text, tail_text, svf_text, AllSized}
use Rattle.tap_defs.specs.chain.Run.{Clock}
use Rattle.tap_defs.specs.chain.Clocks.{scan_clocks, all_clocks, reset_clocks, head_clocks, test_clocks}
use Rattle.tap_defs.specs.chain.SvfTokens.{Token, Word, Open, Close, End, without_comments, tokens_from, pieces_from}
use Rattle.tap_defs.specs.chain.SvfStatements.{Statement, TrstOff, EndIrIdle, EndDrIdle, StateReset, StateIdle, ScanOf, svf_statement, statements_of}
use Rattle.tap_defs.specs.chain.Svf.{Standing, may_scan, followed_by, clocks_of, at_start, text_statements, meaning}
use Rattle.tap_defs.proofs.chain.ListLemmas.{cons_path}
use Rattle.tap_defs.proofs.chain.TokenLemmas.{is_bare, all_append, all_bare, hex_text_plain, decimal_plain, worded, words_of, field_tokens, compare_tokens}
use Rattle.tap_defs.proofs.chain.TokenLemmas.{scan_tokens, form_read}
use Rattle.tap_defs.proofs.chain.StatementLemmas.{statement_is}

-- the statements that these tokens form
abbrev statements_in : List Token → Option (List Statement)
statements_in tokens = option_and_then statements_of (pieces_from [] tokens)

-- true if the token does not end a statement
abbrev is_inner : Token → Bool
is_inner (Word w) = true
is_inner Open = true
is_inner Close = true
is_inner End = false

piece_ends : (piece body rest : List Token) → list_all is_inner body ≡ true →
    pieces_from piece (body ++ End ∷ rest) ≡ option_map (λ pieces. (piece ++ body) ∷ pieces) (pieces_from [] rest)
piece_ends piece [] rest h = ap (λ (r : List Token). option_map (λ pieces. r ∷ pieces) (pieces_from [] rest)) (sym (append-nil piece))
piece_ends piece (End ∷ body) rest h = cc h
piece_ends piece (Word w ∷ body) rest h =
    piece_ends (piece ++ Word w ∷ []) body rest h
    ∙ ap (λ (r : List Token). option_map (λ pieces. r ∷ pieces) (pieces_from [] rest)) (append_assoc piece (Word w ∷ []) body)
piece_ends piece (Open ∷ body) rest h =
    piece_ends (piece ++ Open ∷ []) body rest h
    ∙ ap (λ (r : List Token). option_map (λ pieces. r ∷ pieces) (pieces_from [] rest)) (append_assoc piece (Open ∷ []) body)
piece_ends piece (Close ∷ body) rest h =
    piece_ends (piece ++ Close ∷ []) body rest h
    ∙ ap (λ (r : List Token). option_map (λ pieces. r ∷ pieces) (pieces_from [] rest)) (append_assoc piece (Close ∷ []) body)

one_statement : (statement : Statement) (body rest : List Token) → list_all is_inner body ≡ true → svf_statement body ≡ Some statement →
    statements_in (body ++ End ∷ rest) ≡ option_map (λ more. statement ∷ more) (statements_in rest)
one_statement statement body rest h e =
    ap (λ (o : Option (List (List Token))). option_and_then statements_of o) (piece_ends [] body rest h) ∙ by_rest (pieces_from [] rest)
  where
    by_rest : (o : Option (List (List Token))) →
        option_and_then statements_of (option_map (λ pieces. body ∷ pieces) o)
        ≡ option_map (λ more. statement ∷ more) (option_and_then statements_of o)
    by_rest None = refl
    by_rest (Some pieces) = ap (λ (o : Option Statement). option_and_then (λ s. option_map (λ more. s ∷ more) (statements_of pieces)) o) e

worded_inner : (words : List (List ℕ)) (tokens : List Token) → list_all is_inner (worded words tokens) ≡ list_all is_inner tokens
worded_inner [] tokens = refl
worded_inner (w ∷ words) tokens = worded_inner words tokens

field_inner : (long : Bool) (name : List ℕ) (bits : List Bool) (tokens : List Token) →
    list_all is_inner (field_tokens long name bits tokens) ≡ list_all is_inner tokens
field_inner long name bits tokens = worded_inner (words_of long (hex_text bits)) (Close ∷ tokens)

scan_inner : (long : Bool) (scan : Scan) → list_all is_inner (scan_tokens long scan) ≡ true
scan_inner long scan =
    field_inner long (codes "TDI") (tdi_bits scan.bits)
    (compare_tokens long scan.bits (compares scan.bits)) ∙ by_compares (compares scan.bits)
  where
    by_compares : (b : Bool) → list_all is_inner (compare_tokens long scan.bits b) ≡ true
    by_compares false = refl
    by_compares true =
        field_inner long (codes "TDO") (tdo_bits scan.bits) (field_tokens long (codes "MASK") (mask_bits scan.bits) [])
        ∙ field_inner long (codes "MASK") (mask_bits scan.bits) []

one_scan : (scan : Scan) (rest : List ℕ) → 0 < length scan.bits → length scan.bits < 2 ^ 64 →
    statements_in (tokens_from [] (scan_text scan ++ rest)) ≡ option_map (λ more. ScanOf scan ∷ more) (statements_in (tokens_from [] rest))
one_scan scan rest some fits =
    let long : Bool = nat_lt 80 (length (form false scan)) in
    ap (λ (r : List ℕ). statements_in (tokens_from [] r)) (append_assoc (form long scan) (10 ∷ []) rest)
    ∙ ap statements_in (form_read long scan rest some fits)
    ∙ one_statement (ScanOf scan) (scan_tokens long scan) (tokens_from [] rest) (scan_inner long scan) (statement_is long scan some fits)

abbrev scan_statements : List Scan → List Statement
scan_statements scans = map ScanOf scans

scans_read : (scans : List Scan) (rest : List ℕ) (more : List Statement) → AllSized scans →
    statements_in (tokens_from [] rest) ≡ Some more →
    statements_in (tokens_from [] (scan_texts scans ++ rest)) ≡ Some (scan_statements scans ++ more)
scans_read [] rest more h e = e
scans_read (s ∷ scans) rest more h e =
    ap (λ (r : List ℕ). statements_in (tokens_from [] r)) (append_assoc (scan_text s) (scan_texts scans) rest)
    ∙ one_scan s (scan_texts scans ++ rest) h.0.0 h.0.1
    ∙ ap (λ (o : Option (List Statement)). option_map (λ more. ScanOf s ∷ more) o) (scans_read scans rest more h.1 e)

bare_stays : (text : List ℕ) → list_all is_bare text ≡ true → without_comments false text ≡ text
bare_stays [] h = refl
bare_stays (b ∷ []) h =
    let both = and_parts (is_bare b) true h in
    ap (λ (t : Bool). cond t [] (b ∷ [])) (not-true (b == 33) (and_parts (not (b == 33)) (not (b == 47)) both.0).0)
bare_stays (b ∷ c ∷ text) h =
    let both = and_parts (is_bare b) (list_all is_bare (c ∷ text)) h in
    let neither = and_parts (not (b == 33)) (not (b == 47)) both.0 in
    let kept : List ℕ = b ∷ without_comments false (c ∷ text) in
    let cut : List ℕ = without_comments true (c ∷ text) in
    ap (λ (t : Bool). cond (t || ((b == 47) && (c == 47))) cut kept) (not-true (b == 33) neither.0)
    ∙ ap (λ (t : Bool). cond (t && (c == 47)) cut kept) (not-true (b == 47) neither.1)
    ∙ cons_path refl (bare_stays (c ∷ text) both.1)

all_more : (x : ℕ) (xs ys : List ℕ) → (list_all is_bare xs ≡ true → list_all is_bare ys ≡ true) → list_all is_bare (x ∷ xs) ≡ true →
    list_all is_bare (x ∷ ys) ≡ true
all_more x xs ys f h =
    let both = and_parts (is_bare x) (list_all is_bare xs) h in
    and_from (is_bare x) (list_all is_bare ys) both.0 (f both.1)

broken_bare : (room : ℕ) (digits : List ℕ) → list_all is_bare digits ≡ true → list_all is_bare (broken room digits) ≡ true
broken_bare room [] h = refl
broken_bare zero (d ∷ digits) h = all_more d digits (broken 63 digits) (broken_bare 63 digits) h
broken_bare (suc room) (d ∷ digits) h = all_more d digits (broken room digits) (broken_bare room digits) h

laid_bare : (long : Bool) (bits : List Bool) → list_all is_bare (laid long (hex_text bits)) ≡ true
laid_bare true bits = broken_bare 64 (hex_text bits) (all_bare (hex_text bits) (hex_text_plain bits))
laid_bare false bits = all_bare (hex_text bits) (hex_text_plain bits)

gap_bare : (long : Bool) (rest : List ℕ) → list_all is_bare rest ≡ true → list_all is_bare (gap long ∷ rest) ≡ true
gap_bare true rest h = h
gap_bare false rest h = h

compare_bare : (long : Bool) (bits : List ScanBit) (b : Bool) → list_all is_bare (compare_text long bits b) ≡ true
compare_bare long bits false = refl
compare_bare long bits true =
    let mask : List ℕ = laid long (hex_text (mask_bits bits)) in
    let tdo : List ℕ = laid long (hex_text (tdo_bits bits)) in
    let mask_field : List ℕ = gap long ∷ codes "MASK (" ++ (mask ++ codes ");") in
    let mask_field_bare : list_all is_bare mask_field ≡ true =
    gap_bare long (codes "MASK (" ++ (mask ++ codes ");")) (all_append is_bare mask (codes ");") (laid_bare long (mask_bits bits)) refl) in
    gap_bare long (codes "TDO (" ++ (tdo ++ 41 ∷ mask_field))
    (all_append is_bare tdo (41 ∷ mask_field) (laid_bare long (tdo_bits bits)) mask_field_bare)

form_bare : (long : Bool) (scan : Scan) → length scan.bits < 2 ^ 64 → list_all is_bare (form long scan) ≡ true
form_bare long scan fits =
    let n : List ℕ = decimal (length scan.bits) in
    let tdi : List ℕ = laid long (hex_text (tdi_bits scan.bits)) in
    let tail : List ℕ = compare_text long scan.bits (compares scan.bits) in
    by_command scan.ir (n ++ (gap long ∷ codes "TDI (" ++ (tdi ++ tail)))
    ∙ all_append is_bare n (gap long ∷ codes "TDI (" ++ (tdi ++ tail)) (all_bare n (decimal_plain (length scan.bits) fits))
    (gap_bare long (codes "TDI (" ++ (tdi ++ tail))
    (all_append is_bare tdi tail (laid_bare long (tdi_bits scan.bits)) (compare_bare long scan.bits (compares scan.bits))))
  where
    by_command : (ir : Bool) (rest : List ℕ) → list_all is_bare (command_word ir ++ (32 ∷ rest)) ≡ list_all is_bare rest
    by_command true rest = refl
    by_command false rest = refl

scans_bare : (scans : List Scan) → AllSized scans → list_all is_bare (scan_texts scans) ≡ true
scans_bare [] h = refl
scans_bare (s ∷ scans) h =
    let long : Bool = nat_lt 80 (length (form false s)) in
    all_append is_bare (scan_text s) (scan_texts scans)
    (all_append is_bare (form long s) (10 ∷ []) (form_bare long s h.0.1) refl)
    (scans_bare scans h.1)

text_bare : (scans : List Scan) → AllSized scans → list_all is_bare (head_text ++ (scan_texts scans ++ tail_text)) ≡ true
text_bare scans h = all_append is_bare (scan_texts scans) tail_text (scans_bare scans h) refl

-- the statements of the head, and those of the tail
abbrev head_statements : List Statement
head_statements = TrstOff ∷ EndIrIdle ∷ EndDrIdle ∷ StateReset ∷ StateIdle ∷ []

abbrev tail_statements : List Statement
tail_statements = StateReset ∷ []

-- the tokens of a statement of two words, before the tokens of later statements
abbrev said : List ℕ → List ℕ → Option (List (List Token)) → Option (List (List Token))
said a b pieces = option_map (λ more. (Word a ∷ Word b ∷ []) ∷ more) pieces

abbrev after_head : Option (List (List Token)) → Option (List (List Token))
after_head pieces =
    said (codes "TRST") (codes "OFF") (said (codes "ENDIR") (codes "IDLE") (said (codes "ENDDR") (codes "IDLE")
    (said (codes "STATE") (codes "RESET") (said (codes "STATE") (codes "IDLE") pieces))))

abbrev head_then : Option (List Statement) → Option (List Statement)
head_then statements = option_map (λ more. head_statements ++ more) statements

head_pieces : (o : Option (List (List Token))) → option_and_then statements_of (after_head o) ≡ head_then (option_and_then statements_of o)
head_pieces None = refl
head_pieces (Some pieces) = by_statements (statements_of pieces)
  where
    by_statements : (o : Option (List Statement)) →
        option_map (λ more. TrstOff ∷ more) (option_map (λ more. EndIrIdle ∷ more) (option_map (λ more. EndDrIdle ∷ more)
        (option_map (λ more. StateReset ∷ more) (option_map (λ more. StateIdle ∷ more) o)))) ≡ head_then o
    by_statements None = refl
    by_statements (Some more) = refl

head_read : (rest : List ℕ) → statements_in (tokens_from [] (head_text ++ rest)) ≡ head_then (statements_in (tokens_from [] rest))
unfolding tokens_from
head_read rest = head_pieces (pieces_from [] (tokens_from [] rest))

tail_read : statements_in (tokens_from [] tail_text) ≡ Some tail_statements
unfolding tokens_from
tail_read = refl

pub text_read : (scans : List Scan) → AllSized scans →
    text_statements (svf_text scans) ≡ Some (head_statements ++ (scan_statements scans ++ tail_statements))
unfolding text_statements svf_text
text_read scans h =
    ap (λ (text : List ℕ). statements_in (tokens_from [] text))
    (bare_stays (head_text ++ (scan_texts scans ++ tail_text)) (text_bare scans h))
    ∙ head_read (scan_texts scans ++ tail_text)
    ∙ ap head_then (scans_read scans tail_text tail_statements h tail_read)

-- The state after the head: the controllers are in Run-Test/Idle, and scans end there.
abbrev idle : Standing
idle = record { idle = true; ends_ir = true; ends_dr = true }

scans_mean : (scans : List Scan) → clocks_of idle (scan_statements scans ++ tail_statements) ≡ Some (all_clocks scans ++ reset_clocks)
scans_mean [] = refl
scans_mean (s ∷ scans) =
    by_command s.ir
    ∙ ap (λ (o : Option (List Clock)). followed_by (scan_clocks s) o) (scans_mean scans)
    ∙ ap (λ (r : List Clock). Some r) (sym (append_assoc (scan_clocks s) (all_clocks scans) reset_clocks))
  where
    by_command : (ir : Bool) →
        cond (may_scan idle ir) (followed_by (scan_clocks s) (clocks_of idle (scan_statements scans ++ tail_statements))) None
        ≡ followed_by (scan_clocks s) (clocks_of idle (scan_statements scans ++ tail_statements))
    by_command true = refl
    by_command false = refl

pub text_means : (scans : List Scan) → AllSized scans → meaning (svf_text scans) ≡ Some (test_clocks scans)
unfolding meaning
text_means scans h =
    ap (λ (o : Option (List Statement)). option_and_then (clocks_of at_start) o) (text_read scans h)
    ∙ ap (λ (o : Option (List Clock)). followed_by head_clocks o) (scans_mean scans)
