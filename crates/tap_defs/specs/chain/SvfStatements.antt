-- The SVF statements that this program writes (SVF Revision E). Any other statement has no meaning here.
use Rattle.std.specs.Prelude.{ℕ, Bool, true, false, ◌&&◌, List, [], ◌∷◌, ◌++◌, map, Option, Some, None, option_map, option_and_then, codes, bytes_eq}
use Rattle.std.specs.Prelude.{if◌then◌else◌, nat_lt}
use Rattle.std.specs.Char.{is_ascii_digit}
use Rattle.std.specs.List.{list_all}
use Rattle.std.specs.Str.Parse.{digits_value}
use Rattle.bt_bits.specs.Hex.{field_bits}
use Rattle.tap_defs.specs.chain.Scan.{ScanBit, Scan, scan_bits}
use Rattle.tap_defs.specs.chain.Codes.{sent}
use Rattle.tap_defs.specs.chain.Text.{command_word}
use Rattle.tap_defs.specs.chain.SvfTokens.{Token, Word, Open, Close}

-- a statement: TRST OFF, ENDIR IDLE, ENDDR IDLE, STATE RESET, STATE IDLE, or one of the scans SIR and SDR
pub data Statement : Type 0 where
  TrstOff : Statement
  EndIrIdle : Statement
  EndDrIdle : Statement
  StateReset : Statement
  StateIdle : Statement
  ScanOf : Scan → Statement

-- a field: its name, and its hexadecimal digits, which are in parentheses
pub record Field : Type 0 where
  pub name : List ℕ
  pub digits : List ℕ

-- The fields in these tokens, or None if the tokens do not form fields. The first argument is the part of a field that
-- has been read. Blanks may separate the digits of a field, so the digits may be several words.
abbrev pub fields_from : Option Field → List Token → Option (List Field)
fields_from None [] = Some []
fields_from None (Word name ∷ Open ∷ tokens) = fields_from (Some (record { name = name; digits = [] })) tokens
fields_from None _ = None
fields_from (Some f) (Word more ∷ tokens) = fields_from (Some (record f { digits = f.digits ++ more })) tokens
fields_from (Some f) (Close ∷ tokens) = option_map (λ fields. f ∷ fields) (fields_from None tokens)
fields_from (Some f) _ = None

-- the `n` bits of the field, or None if the field has another name or does not hold `n` bits
abbrev pub field_bits_of : List ℕ → ℕ → Field → Option (List Bool)
field_bits_of name n field = if bytes_eq field.name name then field_bits n field.digits else None

-- the bits of a scan from the bits of its fields TDI, TDO and MASK, or None if one of the three has no value
abbrev pub bits_of_three : Option (List Bool) → Option (List Bool) → Option (List Bool) → Option (List ScanBit)
bits_of_three (Some tdi) (Some tdo) (Some mask) = Some (scan_bits tdi tdo mask)
bits_of_three _ _ _ = None

-- the bits of a scan of `n` bits, whose fields are TDI alone, or TDI, TDO and MASK; None for other fields
abbrev pub bits_of_fields : ℕ → List Field → Option (List ScanBit)
bits_of_fields n (tdi ∷ []) = option_map (map sent) (field_bits_of (codes "TDI") n tdi)
bits_of_fields n (tdi ∷ tdo ∷ mask ∷ []) =
    bits_of_three (field_bits_of (codes "TDI") n tdi) (field_bits_of (codes "TDO") n tdo) (field_bits_of (codes "MASK") n mask)
bits_of_fields n _ = None

-- the length of a scan, which is a decimal number other than 0; None if the word is no such number
abbrev pub length_word : List ℕ → Option ℕ
length_word word = if list_all is_ascii_digit word && nat_lt 0 (digits_value 10 word) then Some (digits_value 10 word) else None

-- true for the word SIR, false for the word SDR, and None for any other word
abbrev pub scan_command : List ℕ → Option Bool
scan_command word =
    if bytes_eq word (command_word true) then Some true else (
    if bytes_eq word (command_word false) then Some false else None)

-- the statement of a scan of this kind with these bits, or None if the kind or the bits have no value
abbrev pub scan_by : Option Bool → Option (List ScanBit) → Option Statement
scan_by (Some ir) (Some bits) = Some (ScanOf (record { ir = ir; bits = bits }))
scan_by _ _ = None

-- the statement of two words, if there is one
abbrev pub two_words : List ℕ → List ℕ → Option Statement
two_words a b =
    if bytes_eq a (codes "TRST") && bytes_eq b (codes "OFF") then Some TrstOff else (
    if bytes_eq a (codes "ENDIR") && bytes_eq b (codes "IDLE") then Some EndIrIdle else (
    if bytes_eq a (codes "ENDDR") && bytes_eq b (codes "IDLE") then Some EndDrIdle else (
    if bytes_eq a (codes "STATE") && bytes_eq b (codes "RESET") then Some StateReset else (
    if bytes_eq a (codes "STATE") && bytes_eq b (codes "IDLE") then Some StateIdle else None))))

-- the statement that these tokens before a semicolon form, if they form one
abbrev pub svf_statement : List Token → Option Statement
svf_statement (Word a ∷ Word b ∷ []) = two_words a b
svf_statement (Word command ∷ Word n ∷ t ∷ tokens) =
    scan_by (scan_command command)
    (option_and_then (λ m. option_and_then (bits_of_fields m) (fields_from None (t ∷ tokens)))
    (length_word n))
svf_statement _ = None

-- the statements of these lists of tokens, or None if one of the lists is not a statement
abbrev pub statements_of : List (List Token) → Option (List Statement)
statements_of [] = Some []
statements_of (piece ∷ pieces) = option_and_then (λ s. option_map (λ more. s ∷ more) (statements_of pieces)) (svf_statement piece)
