-- Proof that the tokens of a scan form its statement.
use Rattle.std.proofs.Common.{◌≡◌, ℕ, ◌^◌, ◌<◌, Bool, true, false, cond, ◌&&◌, ◌||◌, List, [], ◌∷◌, ◌++◌, length, map, Option, Some, None, refl, sym}
use Rattle.std.proofs.Common.{◌∙◌, ap, append_assoc}
use Rattle.std.proofs.lemmas.Bool.{lt-ltb, and_from}
use Rattle.std.proofs.lemmas.Fmt.{decimal_is_IsNumeral}
use Rattle.std.proofs.lemmas.List.{append-nil, length-map}
use Rattle.std.specs.Char.{is_ascii_digit}
use Rattle.std.specs.List.{list_all}
use Rattle.std.specs.Prelude.{codes, decimal, is_some, unwrap_or, option_and_then, option_map, nat_lt}
use Rattle.std.specs.Str.Parse.{digits_value}
use Rattle.bt_bits.specs.Hex.{hex_text, field_bits}
use Rattle.tap_defs.specs.chain.Scan.{ScanBit, Scan, tdi_bits, tdo_bits, mask_bits, compares}
use Rattle.tap_defs.specs.chain.Codes.{sent}
use Rattle.tap_defs.specs.chain.Text.{command_word}
use Rattle.tap_defs.specs.chain.SvfTokens.{Token, Close}
use Rattle.tap_defs.specs.chain.SvfStatements.{ScanOf, Field, fields_from, field_bits_of, bits_of_three, bits_of_fields, length_word, scan_command, scan_by, svf_statement}
use Rattle.tap_defs.proofs.chain.ListLemmas.{cons_path}
use Rattle.tap_defs.proofs.chain.FieldLemmas.{field_bits-hex_text}
use Rattle.tap_defs.proofs.chain.TokenLemmas.{decimal_digits, worded, run_on, words_of, run_on-words_of, field_tokens, compare_tokens, scan_tokens}
use Rattle.tap_defs.proofs.chain.RowLemmas.{scan_bits-rows}

length_is : (n : ℕ) → 0 < n → n < 2 ^ 64 → length_word (decimal n) ≡ Some n
length_is n some fits =
    let value : digits_value 10 (decimal n) ≡ n = (decimal_is_IsNumeral n fits).1 in
    ap (λ (m : ℕ). cond (list_all is_ascii_digit (decimal n) && nat_lt 0 m) (Some m) None) value
    ∙ ap (λ (b : Bool). cond b (Some n) None)
    (and_from (list_all is_ascii_digit (decimal n)) (nat_lt 0 n) (decimal_digits n fits)
    (lt-ltb 0 n some))

command_is : (ir : Bool) → scan_command (command_word ir) ≡ Some ir
command_is true = refl
command_is false = refl

-- a field with the digits of these bits
abbrev field : List ℕ → List Bool → Field
field name bits = record { name = name; digits = hex_text bits }

field_goes_on : (f : Field) (words : List (List ℕ)) (tokens : List Token) →
    fields_from (Some f) (worded words (Close ∷ tokens))
    ≡ option_map (λ fields. record f { digits = f.digits ++ run_on words } ∷ fields) (fields_from None tokens)
field_goes_on f [] tokens =
    ap
    (λ (d : List ℕ). option_map (λ fields. record f { digits = d } ∷ fields)
    (fields_from None tokens)) (sym (append-nil f.digits))
field_goes_on f (w ∷ words) tokens =
    field_goes_on (record f { digits = f.digits ++ w }) words tokens
    ∙ ap
    (λ (d : List ℕ). option_map (λ fields. record f { digits = d } ∷ fields)
    (fields_from None tokens)) (append_assoc f.digits w (run_on words))

field_is : (long : Bool) (name : List ℕ) (bits : List Bool) (tokens : List Token) →
    fields_from None (field_tokens long name bits tokens) ≡ option_map (λ fields. field name bits ∷ fields) (fields_from None tokens)
field_is long name bits tokens =
    field_goes_on (record { name = name; digits = [] }) (words_of long (hex_text bits)) tokens
    ∙ ap
    (λ (d : List ℕ). option_map (λ fields. record { name = name; digits = d } ∷ fields)
    (fields_from None tokens)) (run_on-words_of long (hex_text bits))

abbrev compare_fields : List ScanBit → Bool → List Field
compare_fields bits true = field (codes "TDO") (tdo_bits bits) ∷ field (codes "MASK") (mask_bits bits) ∷ []
compare_fields bits false = []

compare_fields_are : (long : Bool) (bits : List ScanBit) (b : Bool) →
    fields_from None (compare_tokens long bits b) ≡ Some (compare_fields bits b)
compare_fields_are long bits false = refl
compare_fields_are long bits true =
    field_is long (codes "TDO") (tdo_bits bits) (field_tokens long (codes "MASK") (mask_bits bits) [])
    ∙ ap
    (λ (o : Option (List Field)). option_map
    (λ fields. field (codes "TDO") (tdo_bits bits) ∷ fields) o)
    (field_is long (codes "MASK") (mask_bits bits) [])

fields_are : (long : Bool) (bits : List ScanBit) (b : Bool) →
    fields_from None (field_tokens long (codes "TDI") (tdi_bits bits) (compare_tokens long bits b))
    ≡ Some (field (codes "TDI") (tdi_bits bits) ∷ compare_fields bits b)
fields_are long bits b =
    field_is long (codes "TDI") (tdi_bits bits) (compare_tokens long bits b)
    ∙ ap
    (λ (o : Option (List Field)). option_map
    (λ fields. field (codes "TDI") (tdi_bits bits) ∷ fields) o) (compare_fields_are long bits b)

digits_are : (bits : List ScanBit) (f : ScanBit → Bool) → field_bits (length bits) (hex_text (map f bits)) ≡ Some (map f bits)
digits_are bits f = ap (λ (n : ℕ). field_bits n (hex_text (map f bits))) (sym (length-map bits f)) ∙ field_bits-hex_text (map f bits)

sent_are : (bits : List ScanBit) → compares bits ≡ false → map sent (tdi_bits bits) ≡ bits
sent_are [] h = refl
sent_are (b ∷ bits) h = by_expect b.tdi b.expect (sent_are bits) h
  where
    by_expect : (tdi : Bool) (expect : Option Bool) → (compares bits ≡ false → map sent (tdi_bits bits) ≡ bits) →
        (is_some expect || compares bits) ≡ false →
        sent tdi ∷ map sent (tdi_bits bits) ≡ record { tdi = tdi; expect = expect } ∷ bits
    by_expect tdi None ih q = cons_path refl (ih q)
    by_expect tdi (Some e) ih q = cc q

bits_are : (bits : List ScanBit) (b : Bool) → compares bits ≡ b →
    bits_of_fields (length bits) (field (codes "TDI") (tdi_bits bits) ∷ compare_fields bits b) ≡ Some bits
bits_are bits false h =
    ap (λ (o : Option (List Bool)). option_map (map sent) o) (digits_are bits (λ b. b.tdi))
    ∙ ap (λ (r : List ScanBit). Some r) (sent_are bits h)
bits_are bits true h =
    let n : ℕ = length bits in
    let tdo : Option (List Bool) = field_bits_of (codes "TDO") n (field (codes "TDO") (tdo_bits bits)) in
    let mask : Option (List Bool) = field_bits_of (codes "MASK") n (field (codes "MASK") (mask_bits bits)) in
    ap (λ (o : Option (List Bool)). bits_of_three o tdo mask) (digits_are bits (λ b. b.tdi))
    ∙ ap (λ (o : Option (List Bool)). bits_of_three (Some (tdi_bits bits)) o mask) (digits_are bits (λ b. unwrap_or b.expect false))
    ∙ ap (λ (o : Option (List Bool)). bits_of_three (Some (tdi_bits bits)) (Some (tdo_bits bits)) o)
    (digits_are bits (λ b. is_some b.expect))
    ∙ ap (λ (r : List ScanBit). Some r) (scan_bits-rows bits)

pub statement_is : (long : Bool) (scan : Scan) → 0 < length scan.bits → length scan.bits < 2 ^ 64 →
    svf_statement (scan_tokens long scan) ≡ Some (ScanOf scan)
statement_is long scan some fits =
    let n : ℕ = length scan.bits in
    let tokens : List Token = field_tokens long (codes "TDI") (tdi_bits scan.bits) (compare_tokens long scan.bits (compares scan.bits)) in
    let bits_by : Option ℕ
    → Option (List ScanBit) = λ (o : Option ℕ). option_and_then
    (λ m. option_and_then (bits_of_fields m) (fields_from None tokens)) o in
    ap (λ (o : Option Bool). scan_by o (bits_by (length_word (decimal n)))) (command_is scan.ir)
    ∙ ap (λ (o : Option ℕ). scan_by (Some scan.ir) (bits_by o)) (length_is n some fits)
    ∙ ap
    (λ (o : Option (List Field)). scan_by (Some scan.ir) (option_and_then (bits_of_fields n) o))
    (fields_are long scan.bits (compares scan.bits))
    ∙ ap (λ (o : Option (List ScanBit)). scan_by (Some scan.ir) o) (bits_are scan.bits (compares scan.bits) refl)
