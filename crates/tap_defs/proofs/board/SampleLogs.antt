-- Logs of the tests of small boards, and the single faults that explain them.
use Rattle.std.proofs.Common.{◌≡◌, ℕ, Bool, true, false, ◌&&◌, ◌+◌, List, [], ◌∷◌, ◌++◌, map, Option, Some, None, refl, arith, length}
use Rattle.std.specs.Prelude.{codes, filter, slice_index_or}
use Rattle.std.specs.Bool.{beq}
use Rattle.std.specs.List.{list_all, enumerate_from, range_with_len}
use Rattle.std.proofs.lemmas.Bool.{both_ways}
use Rattle.std.proofs.lemmas.List.Elements.{All-from_recursion}
use Rattle.board_defs.specs.declared.device.RawDevice.{RawDevice}
use Rattle.board_defs.specs.declared.device.Mode.TheVariants.{Outward}
use Rattle.board_defs.specs.declared.device.PortBit.{PortBit}
use Rattle.board_defs.specs.declared.device.Cell.{Cell}
use Rattle.board_defs.specs.declared.device.Role.TheVariants.{Output3, Control as ControlRole}
use Rattle.board_defs.specs.declared.device.Symbol.TheVariants.{One, Any}
use Rattle.board_defs.specs.declared.board.PartKind.{PartKind}
use Rattle.board_defs.specs.declared.board.PartKind.TheVariants.{Described, Bypass}
use Rattle.board_defs.specs.declared.board.Part.{Part}
use Rattle.board_defs.specs.declared.board.NetPin.{NetPin}
use Rattle.board_defs.specs.declared.board.Net.{Net}
use Rattle.board_defs.specs.declared.board.RawBoard.{RawBoard}
use Rattle.board_defs.specs.declared.fault.Kind.TheVariants.{And, Or, First, Second}
use Rattle.board_defs.specs.declared.fault.Single.{Single}
use Rattle.board_defs.specs.declared.fault.Single.TheVariants.{StuckNet, OpenPin, Short}
use Rattle.board_defs.specs.BoardRules.{IsBoard}
use Rattle.board_defs.specs.Pins.{data_bits}
use Rattle.board_defs.specs.Faults.{singles}
use Rattle.board_defs.proofs.BoardChecks.{board_of}
use Rattle.tap_defs.specs.chain.Run.{Choice}
use Rattle.tap_defs.specs.chain.Scan.{Scan}
use Rattle.tap_defs.specs.chain.Transport.{scan_passes}
use Rattle.tap_defs.specs.board.FaultSet.{FaultSet}
use Rattle.tap_defs.specs.board.NetBits.{Place}
use Rattle.tap_defs.specs.board.TestRows.{TestRow, quiet_row, expect_bit}
use Rattle.tap_defs.specs.board.BoardScans.{RowScan, scan_of_row, svf_row_scans}
use Rattle.tap_defs.specs.board.RowCaptures.{row_captured}
use Rattle.tap_defs.specs.board.Explaining.{set_of, scans_by_log, HasShape, ExplainedBy, Explains, IsExpected, compared_scans, cell_position, read_place}
use Rattle.tap_defs.specs.board.SingleBits.{single_bit}
use Rattle.tap_defs.proofs.board.CaptureLemmas.{log_captured}
use Rattle.tap_defs.proofs.chain.SampleTexts.{on, off}
use Rattle.tap_defs.proofs.board.SampleBoards.{drv, rcv, rcv1, od, pin, pulled}

-- the choice in which all free bits are `bit`
abbrev pub free : Bool → Choice
free bit =
    record {
      parts = λ k. record
          { ir = λ i. bit; cells = λ i. bit; latches = λ i. bit; tdo = bit; other = bit };
      shorts = λ
          k. bit;
      tdi = bit;
    }

-- true if each scan passes with the captured bits, for this choice of the free bits; the cells capture while the row of
-- the previous scan is in the latches
abbrev captures_pass : RawBoard → FaultSet → Choice → TestRow → List RowScan → List Scan → Bool
captures_pass board faults choice row [] scans = true
captures_pass board faults choice row (t ∷ more) [] = true
captures_pass board faults choice row (t ∷ more) (scan ∷ scans) =
    scan_passes scan.bits (row_captured board faults row choice)
    && captures_pass board faults choice t.now more scans

abbrev captures : RawBoard → List (List Bool) → Single → Bool → Bool
captures board log single bit =
    let scans : List RowScan = svf_row_scans board in
    captures_pass board (set_of single) (free bit) quiet_row scans (scans_by_log (map (scan_of_row board) scans) log)

-- the single faults that explain a log, in the order of `singles`, computed from the bits that the cells capture if all
-- free bits are 0 and if all are 1
abbrev explaining : RawBoard → List (List Bool) → List Single
explaining board log = filter (λ single. captures board log single off && captures board log single on) (singles board)

-- True if a cell is not compared, or if the log has in this cell the bit that `single_bit` gives for the fault. The next
-- three definitions extend this to the cells of a part, to all rows, and to the list of the single faults that explain a
-- log.
abbrev agrees : RawBoard → Single → TestRow → Bool → Option Place → Option Bool → Bool
agrees board single row logged place None = true
agrees board single row logged None (Some expected) = false
agrees board single row logged (Some place) (Some expected) = beq logged (single_bit board single row place expected)

abbrev cells_agree : RawBoard → Single → TestRow → List Bool → ℕ → PartKind → Bool
cells_agree board single row logged part (Described device) =
    list_all
    (λ cell. agrees board single row (slice_index_or logged (cell_position board part cell) off)
    (read_place board part device cell) (expect_bit board row part device cell))
    (range_with_len 0 device.boundary)
cells_agree board single row logged part (Bypass n) = true

abbrev rows_agree : RawBoard → Single → List RowScan → List (List Bool) → Bool
rows_agree board single [] log = true
rows_agree board single (t ∷ more) [] = true
rows_agree board single (t ∷ more) (logged ∷ log) =
    list_all (λ part. cells_agree board single t.before logged part.0 part.1.kind)
    (enumerate_from 0 board.chain) && rows_agree board single more log

abbrev predicted : RawBoard → List (List Bool) → List Single
predicted board log = filter (λ single. rows_agree board single (compared_scans board (svf_row_scans board)) log) (singles board)

-- parts and nets with given names
abbrev pub named_part : List ℕ → RawDevice → Part
named_part name device = record { name = name; kind = Described device }

abbrev pub named : List ℕ → Net → Net
named name net = record net { name = name }

-- a pin whose names are made from its numbers; the four port bits of the test access port are not counted
abbrev pub pin_of : ℕ → ℕ → NetPin
pin_of part bit = record (pin part bit) { part = 85 ∷ (49 + part) ∷ []; pin = (49 + bit) ∷ [] }

abbrev pub open_pin : ℕ → ℕ → Bool → Single
open_pin net place value = OpenPin (record { net = net; place = place }) value

-- A board with two nets, each from a driver to a receiver. The nets have the codes 1 and 2. A log has two rows, and the
-- first two bits of a row are those of the nets.
abbrev pub two_nets : RawBoard
two_nets = record {
  chain = named_part (codes "U1") drv ∷ named_part (codes "U2") rcv ∷ [];
  nets =
      named (codes "N1") (pulled None (pin_of 0 0 ∷ pin_of 1 0 ∷ []))
      ∷ named (codes "N2") (pulled None (pin_of 0 1 ∷ pin_of 1 1 ∷ [])) ∷ [];
}

pub two_nets_rules : IsBoard two_nets
two_nets_rules = board_of two_nets refl

abbrev pub row : Bool → Bool → List Bool
row first second = first ∷ second ∷ off ∷ off ∷ []

abbrev expected_log : List (List Bool)
expected_log = row on off ∷ row off on ∷ []

-- no single fault explains the expected log
expected_is : explaining two_nets expected_log ≡ []
expected_is = refl

expected_cells : predicted two_nets expected_log ≡ []
expected_cells = refl

-- the faults that explain a log in which the first net has 0 in both rows
constant_is : explaining two_nets (row off off ∷ row off on ∷ []) ≡ StuckNet 0 off ∷ open_pin 0 0 off ∷ open_pin 0 1 off ∷ []
constant_is = refl

constant_cells : predicted two_nets (row off off ∷ row off on ∷ []) ≡ StuckNet 0 off ∷ open_pin 0 0 off ∷ open_pin 0 1 off ∷ []
constant_cells = refl

-- bits that are not compared are ignored
ignored_is : explaining two_nets ((off ∷ off ∷ on ∷ on ∷ []) ∷ (off ∷ on ∷ on ∷ off ∷ []) ∷ [])
    ≡ StuckNet 0 off ∷ open_pin 0 0 off ∷ open_pin 0 1 off ∷ []
ignored_is = refl

-- In each of these four logs, both nets have the same bit in each row: the And of their bits, the Or of their bits, the
-- bit of the first net, or the bit of the second net. Only the short of this kind explains the log.
and_is : explaining two_nets (row off off ∷ row off off ∷ []) ≡ Short 0 1 And ∷ []
and_is = refl

or_is : explaining two_nets (row on on ∷ row on on ∷ []) ≡ Short 0 1 Or ∷ []
or_is = refl

first_is : explaining two_nets (row on on ∷ row off off ∷ []) ≡ Short 0 1 First ∷ []
first_is = refl

second_is : explaining two_nets (row off off ∷ row on on ∷ []) ≡ Short 0 1 Second ∷ []
second_is = refl

shorted_cells : map (predicted two_nets) (
    (row off off ∷ row off off ∷ []) ∷ (row on on ∷ row on on ∷ []) ∷ (row on on ∷ row off off ∷ []) ∷ (row off off ∷ row on on ∷ []) ∷ [])
    ≡ (Short 0 1 And ∷ []) ∷ (Short 0 1 Or ∷ []) ∷ (Short 0 1 First ∷ []) ∷ (Short 0 1 Second ∷ []) ∷ []
shorted_cells = refl

-- no single fault explains a log in which both nets are wrong in different ways
no_single_is : explaining two_nets (row on off ∷ row on off ∷ []) ≡ []
no_single_is = refl

no_single_cells : predicted two_nets (row on off ∷ row on off ∷ []) ≡ []
no_single_cells = refl

-- by definition, the fault "first net stuck at 0" explains a log in which the first net has 0 in both rows
pub explained : Explains two_nets (StuckNet 0 off) (row off off ∷ row off on ∷ [])
explained = record {
  shape =
      record {
        rows = refl;
        bits = All-from_recursion (λ (r : List Bool). length r ≡ data_bits two_nets)
            (row off off ∷ row off on ∷ []) (refl, (refl, tt));
      };
  passes = (log_captured two_nets two_nets_rules (set_of (StuckNet 0 off)) (svf_row_scans two_nets) (row off off ∷ row off on ∷ [])).1
      (λ choice. refl, (λ choice. refl, (λ choice. refl, tt)));
}

-- A log that differs from the expected log only in bits that are not compared is expected, too. A log that differs from
-- it in a compared bit is not.
is_expected : IsExpected two_nets (svf_row_scans two_nets) ((on ∷ off ∷ on ∷ off ∷ []) ∷ (off ∷ on ∷ off ∷ on ∷ []) ∷ [])
is_expected = record {
  shape =
      record {
        rows = refl;
        bits = All-from_recursion (λ (r : List Bool). length r ≡ data_bits two_nets)
            ((on ∷ off ∷ on ∷ off ∷ []) ∷ (off ∷ on ∷ off ∷ on ∷ []) ∷ []) (refl, (refl, tt));
      };
  bits = refl;
}

is_unexpected : IsExpected two_nets (svf_row_scans two_nets) (row on off ∷ row on on ∷ []) → ⊥
is_unexpected h = both_ways _ refl h.bits

-- Logs that do not have the shape of a log of this test: with too few rows, with too many rows, or with a row that is
-- too short. No fault explains them, and they are not expected.
abbrev NoLog : List (List Bool) → Type 0
NoLog log = HasShape two_nets (svf_row_scans two_nets) log → ⊥

no_rows : NoLog []
no_rows h = let z : ◌≡◌ {A = ℕ} 0 2 = h.rows in absurd (omega (arith, z))

one_row : NoLog (row off off ∷ [])
one_row h = let z : ◌≡◌ {A = ℕ} 1 2 = h.rows in absurd (omega (arith, z))

three_rows : NoLog (row off off ∷ row off on ∷ row off on ∷ [])
three_rows h = let z : ◌≡◌ {A = ℕ} 3 2 = h.rows in absurd (omega (arith, z))

short_row : NoLog (row off off ∷ (off ∷ on ∷ off ∷ []) ∷ [])
short_row h = let z : ◌≡◌ {A = ℕ} 3 4 = h.bits 1 [] (omega arith) in absurd (omega (arith, z))

unexplained : (faults : FaultSet) → ExplainedBy two_nets faults (svf_row_scans two_nets) [] → ⊥
unexplained faults h = no_rows h.shape

-- A net that is pulled up, with a driver that drives only low. If the driver's pin is open, the net has the value of its pull.
abbrev pulled_net : RawBoard
pulled_net = record {
  chain = named_part (codes "U1") od ∷ named_part (codes "U2") rcv1 ∷ [];
  nets = named (codes "N") (pulled (Some on) (pin_of 0 0 ∷ pin_of 1 0 ∷ [])) ∷ [];
}

pulled_is : map (explaining pulled_net) (((on ∷ off ∷ []) ∷ (on ∷ off ∷ []) ∷ []) ∷ ((off ∷ off ∷ []) ∷ (off ∷ off ∷ []) ∷ []) ∷ [])
    ≡ (StuckNet 0 on ∷ open_pin 0 0 off ∷ open_pin 0 0 on ∷ open_pin 0 1 on ∷ []) ∷ (StuckNet 0 off ∷ open_pin 0 1 off ∷ []) ∷ []
pulled_is = refl

pulled_cells : map (predicted pulled_net) (((on ∷ off ∷ []) ∷ (on ∷ off ∷ []) ∷ []) ∷ ((off ∷ off ∷ []) ∷ (off ∷ off ∷ []) ∷ []) ∷ [])
    ≡ (StuckNet 0 on ∷ open_pin 0 0 off ∷ open_pin 0 0 on ∷ open_pin 0 1 on ∷ []) ∷ (StuckNet 0 off ∷ open_pin 0 1 off ∷ []) ∷ []
pulled_cells = refl

-- four three-state outputs; cell 4 controls the first two, and cell 5 controls the others
abbrev output : ℕ → ℕ → Cell
output num control =
    record {
      num = num;
      role = Output3;
      bit = Some (4 + num);
      safe = Any;
      ctl = Some
          (record { cell = control; disable = true });
    }

abbrev control : ℕ → Cell
control num = record { num = num; role = ControlRole; bit = None; safe = One; ctl = None }

abbrev more_bit : ℕ → PortBit
more_bit index = record { port = 4; index = Some index; mode = Outward; pin = Some (codes "Q"); tap = false; compliance = false }

abbrev two : RawDevice
two = record drv {
  bits = drv.bits ++ more_bit 3 ∷ more_bit 4 ∷ [];
  cells = output 0 4 ∷ output 1 4 ∷ output 2 5 ∷ output 3 5 ∷ control 4 ∷ control 5 ∷ [];
  boundary = 6;
}

-- A board with a bus of two drivers. Each of them is enabled together with the driver of one other net. The codes are 1, 2
-- and 3, and the bus is the second net.
abbrev bus : RawBoard
bus = record {
  chain = named_part (codes "U1") two ∷ named_part (codes "U2") rcv ∷ named_part (codes "U3") rcv ∷ [];
  nets = named (codes "A") (pulled None (pin_of 0 0 ∷ pin_of 1 0 ∷ []))
      ∷ named (codes "X") (pulled None (pin_of 0 1 ∷ pin_of 0 2 ∷ pin_of 1 1 ∷ []))
      ∷ named (codes "B") (pulled None (pin_of 0 3 ∷ pin_of 2 0 ∷ [])) ∷ [];
}

-- a row of a log in the first pass, with the bits of nets A and X, and one in the second pass, with the bits of X and B
abbrev with_a : Bool → Bool → List Bool
with_a a x = off ∷ off ∷ a ∷ x ∷ off ∷ off ∷ off ∷ off ∷ off ∷ off ∷ []

abbrev with_b : Bool → Bool → List Bool
with_b x b = b ∷ off ∷ off ∷ x ∷ off ∷ off ∷ off ∷ off ∷ off ∷ off ∷ []

-- If A dominates X, both have the bits of A in the first pass. In the second pass A is not driven, and X has its own bits.
abbrev a_dominates : List (List Bool)
a_dominates = with_a on on ∷ with_a off off ∷ with_a off off ∷ with_b off on ∷ with_b on on ∷ with_b off off ∷ []

-- if X dominates A, both have the bits of X
abbrev x_dominates : List (List Bool)
x_dominates = with_a off off ∷ with_a on on ∷ with_a off off ∷ with_b off on ∷ with_b on on ∷ with_b off off ∷ []

-- If X and B are shorted, the first pass is as expected. In the second pass B has a 1 wherever X has one, so their Or
-- is the bit of B.
abbrev b_dominates : List (List Bool)
b_dominates = with_a on off ∷ with_a off on ∷ with_a off off ∷ with_b on on ∷ with_b on on ∷ with_b off off ∷ []

bus_is : map (explaining bus) (a_dominates ∷ x_dominates ∷ b_dominates ∷ [])
    ≡ (Short 0 1 First ∷ []) ∷ (Short 0 1 Second ∷ []) ∷ (Short 1 2 Or ∷ Short 1 2 Second ∷ []) ∷ []
bus_is = refl

bus_cells : map (predicted bus) (a_dominates ∷ x_dominates ∷ b_dominates ∷ [])
    ≡ (Short 0 1 First ∷ []) ∷ (Short 0 1 Second ∷ []) ∷ (Short 1 2 Or ∷ Short 1 2 Second ∷ []) ∷ []
bus_cells = refl
