-- The parts of the text of a scan statement, made from the rows of the scan.
use Rattle.std.specs.Prelude.{ℕ, ◌+◌, ◌*◌, Bool, true, false, List, ◌∷◌, ◌++◌, length, codes, decimal}
use Rattle.bt_bits.specs.Hex.{hex_text}
use Rattle.tap_defs.specs.chain.Text.{command_word, gap, laid, broken}

-- the command of a scan statement, followed by the length of the scan in bits
abbrev pub command_text : Bool → List Bool → List ℕ
command_text ir tdi = command_word ir ++ 32 ∷ decimal (length tdi)

-- The text after the digits of TDI. It contains the fields TDO and MASK if the scan compares some
-- bit.
abbrev pub rest_text : Bool → List Bool → List Bool → Bool → List ℕ
rest_text long tdo mask false = codes ");"
rest_text long tdo mask true =
    41 ∷ gap long ∷ codes "TDO ("
    ++ (laid long (hex_text tdo)
    ++ (41 ∷ gap long ∷ codes "MASK (" ++ (laid long (hex_text mask) ++ codes ");")))

-- the text of all fields of a scan
abbrev pub fields_text : Bool → List Bool → List Bool → List Bool → Bool → List ℕ
fields_text long tdi tdo mask compare = gap long ∷ codes "TDI (" ++ (laid long (hex_text tdi) ++ rest_text long tdo mask compare)

-- the number of characters of the fields in one line; each field has `digits` digits
abbrev pub fields_length : Bool → ℕ → ℕ
fields_length true digits = 3 * digits + 23
fields_length false digits = digits + 8

-- the text of the fields, each in lines of its own
abbrev pub fields_lines : List Bool → List Bool → List Bool → Bool → List ℕ
fields_lines tdi tdo mask false = codes "TDI (" ++ (broken 64 (hex_text tdi) ++ codes ");\n")
fields_lines tdi tdo mask true =
    (codes "TDI (" ++ (broken 64 (hex_text tdi) ++ codes ")\n"))
    ++ ((codes "TDO (" ++ (broken 64 (hex_text tdo) ++ codes ")\n"))
    ++ (codes "MASK (" ++ (broken 64 (hex_text mask) ++ codes ");\n")))
