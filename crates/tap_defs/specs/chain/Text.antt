-- The SVF text of a list of scans (SVF Revision E).
use Rattle.std.specs.Prelude.{ℕ, zero, suc, ◌^◌, ◌<◌, Bool, true, false, List, [], ◌∷◌, ◌++◌, length, codes, decimal, nat_lt}
use Rattle.bt_bits.specs.Hex.{hex_text}
use Rattle.tap_defs.specs.chain.Scan.{ScanBit, Scan, tdi_bits, tdo_bits, mask_bits, compares}

abbrev pub command_word : Bool → List ℕ
command_word true = codes "SIR"
command_word false = codes "SDR"

-- the character before a field: a line feed if the statement takes several lines, otherwise a space
abbrev pub gap : Bool → ℕ
gap true = 10
gap false = 32

-- The digits, with a line feed before each digit that does not fit into its line. The first line has room for `room`
-- digits, and later lines have room for 64.
abbrev pub broken : ℕ → List ℕ → List ℕ
broken room [] = []
broken zero (d ∷ ds) = 10 ∷ d ∷ broken 63 ds
broken (suc room) (d ∷ ds) = d ∷ broken room ds

-- the digits of a field, broken into lines of 64 if the statement takes several lines
abbrev pub laid : Bool → List ℕ → List ℕ
laid true digits = broken 64 digits
laid false digits = digits

-- The text after the digits of TDI. The last argument says whether the scan compares some bit. If it does, the text has
-- the fields TDO and MASK.
abbrev pub compare_text : Bool → List ScanBit → Bool → List ℕ
compare_text long bits false = codes ");"
compare_text long bits true =
    41 ∷ gap long ∷ codes "TDO ("
    ++ (laid long (hex_text (tdo_bits bits))
    ++ (41 ∷ gap long ∷ codes "MASK ("
    ++ (laid long (hex_text (mask_bits bits)) ++ codes ");")))

-- a scan statement in one line or in several lines, without the last line feed
abbrev pub form : Bool → Scan → List ℕ
form long scan =
    command_word scan.ir
    ++ (32 ∷ decimal (length scan.bits)
    ++ (gap long ∷ codes "TDI ("
    ++ (laid long (hex_text (tdi_bits scan.bits))
    ++ compare_text long scan.bits (compares scan.bits))))

-- the statement of a scan, in one line if that line has at most 80 characters, otherwise in several lines
abbrev pub scan_text : Scan → List ℕ
scan_text scan = form (nat_lt 80 (length (form false scan))) scan ++ 10 ∷ []

abbrev pub scan_texts : List Scan → List ℕ
scan_texts [] = []
scan_texts (s ∷ scans) = scan_text s ++ scan_texts scans

abbrev pub line : List ℕ → List ℕ
line words = words ++ 10 ∷ []

-- the head: the statements before the scans
abbrev pub head_text : List ℕ
head_text =
    line (codes "TRST OFF;")
    ++ (line (codes "ENDIR IDLE;")
    ++ (line (codes "ENDDR IDLE;")
    ++ (line (codes "STATE RESET;") ++ line (codes "STATE IDLE;"))))

-- the tail: the statement after the scans
abbrev pub tail_text : List ℕ
tail_text = line (codes "STATE RESET;")

-- the text of the head, of the scans and of the tail
unfoldable pub svf_text : List Scan → List ℕ
svf_text scans = head_text ++ (scan_texts scans ++ tail_text)

-- each scan has at least one and fewer than `2 ^ 64` bits
abbrev pub AllSized : List Scan → Type 0
AllSized [] = Unit {0}
AllSized (s ∷ scans) = ((0 < length s.bits) × (length s.bits < 2 ^ 64)) × AllSized scans
