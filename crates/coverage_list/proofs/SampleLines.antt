-- Samples of the lines of the coverage list, worked out by hand.
use Rattle.std.proofs.Common.{◌≡◌, ℕ, false, List, [], ◌∷◌, map, Some, None, codes, decimal, refl}
use Rattle.std.specs.Fmt.{digits}
use Rattle.line_printer.specs.Prints.{line_of, whole}
use Rattle.board_defs.specs.declared.board.NetPin.{NetPin}
use Rattle.board_defs.specs.declared.board.Net.{Net}
use Rattle.board_defs.specs.declared.coverage.Reason.TheVariants.{Supply, TestPort, Dark, NoDriver, Blocked, NoReceiver}
use Rattle.coverage_list.specs.declared.lines.PinUse.TheVariants.{Driver, Receiver}
use Rattle.coverage_list.specs.CoverText.{reason_line, pin_line, pair_line}

counts : line_of (codes "NETS " ∷ decimal 16382 ∷ codes " COVERED " ∷ decimal 0 ∷ []) ≡ codes "NETS 16382 COVERED 0\n"
unfolding digits
counts = refl

-- the line of each reason; a covered net has no reason and no line
reasons : whole
    (map (reason_line (codes "A"))
    (None ∷ Some Supply ∷ Some TestPort ∷ Some Dark ∷ Some NoDriver ∷ Some Blocked
    ∷ Some NoReceiver ∷ []))
    ≡ codes "NET A SUPPLY\nNET A TESTPORT\nNET A DARK\nNET A NODRIVER\nNET A BLOCKED\nNET A NORECEIVER\n"
reasons = refl

abbrev pin : NetPin
pin = record { part = codes "U1"; pin = codes "1"; at = None; inert = false }

pins : whole (pin_line Driver (Some pin) ∷ pin_line Receiver (Some pin) ∷ []) ≡ codes "DRIVER U1.1\nRECEIVER U1.1\n"
pins = refl

abbrev net : List ℕ → Net
net name = record { name = name; supply = false; pull = None; pins = [] }

pairs : pair_line (net (codes "A")) (net (codes "B")) ≡ codes "PAIR A B\n"
pairs = refl
