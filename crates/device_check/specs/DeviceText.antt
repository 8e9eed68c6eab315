-- The listing of a device: a line for its entity, its package, its instruction register, each port,
-- and each entry of its boundary register.
use Rattle.std.specs.Prelude.{ℕ, ◌==◌, Bool, true, false, List, [], ◌∷◌, ◌++◌, length, codes, decimal, filter, Option, None, Some, is_some, slice_get, slice_index_or, if◌then◌else◌}
use Rattle.std.specs.List.{flat_map, list_any, range_with_len}
use Rattle.line_printer.specs.Prints.{whole, line_of, bit_word}
use Rattle.board_defs.specs.declared.device.Symbol.{Symbol}
use Rattle.board_defs.specs.declared.device.Symbol.TheVariants.{Zero, One, Any}
use Rattle.board_defs.specs.declared.device.Mode.{Mode}
use Rattle.board_defs.specs.declared.device.Mode.TheVariants.{Inward, Outward, Both, Buffer, Linkage}
use Rattle.board_defs.specs.declared.device.Role.{Role}
use Rattle.board_defs.specs.declared.device.Role.TheVariants.{Input, Output2, Output3, Control as ControlRole, ControlR, Internal, Clock, Bidir, ObserveOnly}
use Rattle.board_defs.specs.declared.device.Edition.{Edition}
use Rattle.board_defs.specs.declared.device.Edition.TheVariants.{Old, Of2001}
use Rattle.board_defs.specs.declared.device.Control.{Control}
use Rattle.board_defs.specs.declared.device.Cell.{Cell}
use Rattle.board_defs.specs.declared.device.PortBit.{PortBit}
use Rattle.board_defs.specs.declared.device.RawDevice.{RawDevice}

-- the words that the listing uses for the modes of ports
abbrev pub mode_word : Mode → List ℕ
mode_word Inward = codes "IN"
mode_word Outward = codes "OUT"
mode_word Both = codes "INOUT"
mode_word Buffer = codes "BUFFER"
mode_word Linkage = codes "LINKAGE"

abbrev pub role_word : Role → List ℕ
role_word Input = codes "INPUT"
role_word Output2 = codes "OUTPUT2"
role_word Output3 = codes "OUTPUT3"
role_word ControlRole = codes "CONTROL"
role_word ControlR = codes "CONTROLR"
role_word Internal = codes "INTERNAL"
role_word Clock = codes "CLOCK"
role_word Bidir = codes "BIDIR"
role_word ObserveOnly = codes "OBSERVE_ONLY"

abbrev pub symbol_word : Symbol → List ℕ
symbol_word Zero = codes "0"
symbol_word One = codes "1"
symbol_word Any = codes "X"

-- the text of a code: its symbols in reverse, so that the first symbol of the code, the one nearest
-- TDO, is the last
abbrev pub code_text : List Symbol → List ℕ
code_text [] = []
code_text (symbol ∷ symbols) = code_text symbols ++ symbol_word symbol

-- The names and codes of the instructions. Before the 2001 edition, SAMPLE/PRELOAD is one instruction, and the standard
-- prescribes the code of EXTEST, so the listing has only the code of SAMPLE. The 2001 edition splits SAMPLE/PRELOAD in
-- two and does not prescribe the code of EXTEST, so the listing has the codes of PRELOAD and EXTEST.
abbrev pub instructions_text : Edition → List Symbol → List Symbol → List ℕ
instructions_text Old sample extest = whole (codes " SAMPLE " ∷ code_text sample ∷ [])
instructions_text Of2001 sample extest = whole (codes " PRELOAD " ∷ code_text sample ∷ codes " EXTEST " ∷ code_text extest ∷ [])

-- the text of the identification pattern, or `-` if there is none
abbrev pub pattern_text : Option (List Symbol) → List ℕ
pattern_text None = codes "-"
pattern_text (Some code) = code_text code

abbrev pub instruction_line : RawDevice → List ℕ
instruction_line device =
    line_of
    (codes "IR " ∷ decimal device.ir
    ∷ instructions_text device.edition device.sample device.extest ∷ codes " IDCODE "
    ∷ pattern_text device.idcode ∷ [])

-- a space and the pin of a port bit, or no text if the bit has no pin
abbrev pub pin_text : Option (List ℕ) → List ℕ
pin_text None = []
pin_text (Some pin) = whole (codes " " ∷ pin ∷ [])

-- the pins of the bits of a port, each after a space, or ` -` if no bit has a pin
abbrev pub pins_text : List PortBit → List ℕ
pins_text bits = if list_any (λ bit. is_some bit.pin) bits then flat_map (λ bit. pin_text bit.pin) bits else codes " -"

-- the line of a port with this name and these bits, which all have the mode of the first; a port
-- without bits has no line
abbrev pub port_line : List ℕ → List PortBit → List ℕ
port_line name [] = []
port_line name (bit ∷ bits) = line_of (codes "PORT " ∷ name ∷ codes " " ∷ mode_word bit.mode ∷ pins_text (bit ∷ bits) ∷ [])

abbrev pub name_of_port : List (List ℕ) → ℕ → List ℕ
name_of_port ports port = slice_index_or ports port []

abbrev pub port_lines : List (List ℕ) → List PortBit → List ℕ
port_lines ports bits =
    flat_map (λ port. port_line (name_of_port ports port) (filter (λ bit. bit.port == port) bits)) (range_with_len 0 (length ports))

-- the index of a vector's bit in parentheses, or no text if the bit's port is not a vector
abbrev pub index_text : Option ℕ → List ℕ
index_text None = []
index_text (Some index) = whole (codes "(" ∷ decimal index ∷ codes ")" ∷ [])

-- a port bit: the name of its port, followed by its index; no text if there is no bit
abbrev pub bit_text : List (List ℕ) → Option PortBit → List ℕ
bit_text ports None = []
bit_text ports (Some bit) = name_of_port ports bit.port ++ index_text bit.index

-- the port bit of an entry, or `*` if the entry has none; no text if there is no bit with the entry's bit number
abbrev pub place_text : List (List ℕ) → List PortBit → Option ℕ → List ℕ
place_text ports bits None = codes "*"
place_text ports bits (Some bit) = bit_text ports (slice_get bits bit)

-- the control cell of an entry and the disable value, each after a space, or no text if the entry has no
-- control
abbrev pub control_text : Option Control → List ℕ
control_text None = []
control_text (Some control) = whole (codes " " ∷ decimal control.cell ∷ codes " " ∷ bit_word control.disable ∷ [])

-- the line of an entry of a cell
abbrev pub cell_line : List (List ℕ) → List PortBit → Cell → List ℕ
cell_line ports bits cell =
    line_of
    (codes "CELL " ∷ decimal cell.num ∷ codes " " ∷ role_word cell.role ∷ codes " "
    ∷ place_text ports bits cell.bit ∷ codes " " ∷ symbol_word cell.safe
    ∷ control_text cell.ctl ∷ [])

-- the entries of a cell, in the order of the list
abbrev pub entries_of_cell : ℕ → List Cell → List Cell
entries_of_cell num cells = filter (λ cell. cell.num == num) cells

-- the lines of the entries of `count` cells from `from` on, in the order of the cells
abbrev pub cell_lines : List (List ℕ) → List PortBit → List Cell → ℕ → ℕ → List ℕ
cell_lines ports bits cells from count =
    flat_map (λ num. flat_map (cell_line ports bits) (entries_of_cell num cells)) (range_with_len from count)

-- the listing of a device
unfoldable pub device_text : RawDevice → List ℕ
device_text device =
    line_of (codes "ENTITY " ∷ device.entity ∷ [])
    ++ (line_of (codes "PACKAGE " ∷ device.package ∷ [])
    ++
    (instruction_line device ++
    (port_lines device.ports device.bits ++ cell_lines device.ports device.bits device.cells 0
    device.boundary)))
