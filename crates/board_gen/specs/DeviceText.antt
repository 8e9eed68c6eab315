-- The BSDL text of GEN, the device of generated boards. GEN has 32 outputs with one control for each 8 outputs, 32
-- inputs, and 8 bus pins with one control.
use Rattle.std.specs.Prelude.{ℕ, ◌+◌, ◌-◌, ◌/◌, ◌==◌, List, ◌++◌, codes, decimal, nat_lt, if◌then◌else◌}
use Rattle.board_gen.specs.BoardTexts.{each}

-- `count` consecutive numbers with commas between them, from `first` on; `count` is at least 1
abbrev pub numbers : ℕ → ℕ → List ℕ
numbers first count = decimal first ++ each (λ n. codes "," ++ decimal n) (first + 1) (count - 1)

-- the boundary register's entry for a cell, without the cell's number
abbrev pub cell_text : ℕ → List ℕ
cell_text cell =
    if nat_lt cell 5 then codes " (BC_1, *, control, 1)" else (
    if nat_lt cell 37 then codes " (BC_1, Q(" ++ decimal (cell - 5) ++ codes "), output3, X, " ++
    decimal ((cell - 5) / 8) ++ codes ", 1, Z)" else (
    if nat_lt cell 69 then codes " (BC_1, D(" ++ decimal (cell - 37) ++ codes "), input, X)"
    else codes " (BC_7, B(" ++ decimal (cell - 69) ++ codes "), bidir, X, 4, 1, Z)"))

-- The line of a cell. The line of the last cell ends the string.
abbrev pub device_cell_line : ℕ → List ℕ
device_cell_line cell = codes "\"" ++ decimal cell ++ cell_text cell ++ (if cell == 76 then codes "\";\n" else codes ",\" &\n")

-- the lines before the pin map
unfoldable pub device_head : List ℕ
device_head =
    codes "entity GEN is\n"
    ++ codes "generic (PHYSICAL_PIN_MAP : string := \"P\");\n"
    ++ codes "port (TDI, TMS, TCK : in bit; TDO : out bit; "
    ++ codes "Q : out bit_vector(0 to 31); D : in bit_vector(0 to 31); B : inout bit_vector(0 to 7));\n"
    ++ codes "use STD_1149_1_1994.all;\n"
    ++ codes "attribute PIN_MAP of GEN : entity is PHYSICAL_PIN_MAP;\n"

-- the line of the pin map, which lists the pins of the ports
unfoldable pub map_line : List ℕ
map_line =
    codes "constant P : PIN_MAP_STRING := \"TDI:T1, TDO:T2, TMS:T3, TCK:T4, "
    ++ codes "Q:(" ++ numbers 1 32 ++ codes "), D:(" ++ numbers 33 32 ++ codes "), B:(" ++ numbers 65 8 ++ codes ")\";\n"

-- the lines between the pin map and the entries of the boundary register
unfoldable pub attributes_text : List ℕ
attributes_text =
    codes "attribute TAP_SCAN_IN of TDI : signal is true;\n"
    ++ codes "attribute TAP_SCAN_OUT of TDO : signal is true;\n"
    ++ codes "attribute TAP_SCAN_MODE of TMS : signal is true;\n"
    ++ codes "attribute TAP_SCAN_CLOCK of TCK : signal is (10.0e6, BOTH);\n"
    ++ codes "attribute INSTRUCTION_LENGTH of GEN : entity is 2;\n"
    ++ codes "attribute INSTRUCTION_OPCODE of GEN : entity is \"BYPASS (11), EXTEST (00), SAMPLE (10)\";\n"
    ++ codes "attribute INSTRUCTION_CAPTURE of GEN : entity is \"01\";\n"
    ++ codes "attribute BOUNDARY_LENGTH of GEN : entity is 77;\n"
    ++ codes "attribute BOUNDARY_REGISTER of GEN : entity is\n"

-- the whole BSDL text
unfoldable pub bsdl_text : List ℕ
bsdl_text = device_head ++ map_line ++ attributes_text ++ each device_cell_line 0 77 ++ codes "end GEN;\n"
