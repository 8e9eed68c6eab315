-- Sample drafts. One draft keeps the rules V2 to V14. Each of the others differs from it, and breaks one of these rules.
use Rattle.std.proofs.Common.{◌≡◌, ℕ, true, false, List, [], ◌∷◌, ◌++◌, Option, Some, None, refl}
use Rattle.std.specs.Prelude.{codes}
use Rattle.board_defs.specs.declared.device.Symbol.TheVariants.{Zero, One, Any}
use Rattle.board_defs.specs.declared.device.Mode.{Mode}
use Rattle.board_defs.specs.declared.device.Mode.TheVariants.{Inward, Outward}
use Rattle.board_defs.specs.declared.device.Role.{Role}
use Rattle.board_defs.specs.declared.device.Role.TheVariants.{Input, Output2, Output3, Control as ControlRole}
use Rattle.board_defs.specs.declared.device.Edition.TheVariants.{Old}
use Rattle.board_defs.specs.declared.device.Control.{Control}
use Rattle.bsdl_parser.specs.declared.entity.Port.{Port}
use Rattle.bsdl_strings.specs.declared.values.MapEntry.{MapEntry}
use Rattle.bsdl_strings.specs.declared.values.Opcode.{Opcode}
use Rattle.bsdl_strings.specs.declared.values.Entry.{Entry}
use Rattle.bsdl_strings.specs.declared.values.PortWord.{PortWord}
use Rattle.bsdl_strings.specs.declared.values.PortWord.TheVariants.{Star, Plain}
use Rattle.instruction_rules.specs.Instructions.{v5, v6, v7}
use Rattle.device_rules.specs.declared.draft.Draft.{Draft}
use Rattle.device_rules.specs.Ports.{v2}
use Rattle.device_rules.specs.Taps.{v3}
use Rattle.device_rules.specs.PinMap.{v4}
use Rattle.device_rules.specs.Cells.{v8, v10, v11, v12}
use Rattle.device_rules.specs.Places.{v9, v13, v14}
use Rattle.device_rules.specs.Rules.{KeepsRules}

-- a port of one bit
abbrev port : List ℕ → Mode → Port
port name mode = record { name = name; mode = mode; range = None }

abbrev mapped : List ℕ → List ℕ → MapEntry
mapped port pin = record { port = port; pins = pin ∷ [] }

abbrev opcodes : List Opcode
opcodes =
    record { name = codes "BYPASS"; codes = (One ∷ One ∷ []) ∷ [] }
    ∷ record { name = codes "EXTEST"; codes = (Zero ∷ Zero ∷ []) ∷ [] }
    ∷ record { name = codes "SAMPLE"; codes = (Zero ∷ One ∷ []) ∷ [] } ∷ []

abbrev entry : ℕ → PortWord → Role → Option Control → Entry
entry num port role ctl = record { num = num; port = port; role = role; safe = Any; ctl = ctl }

-- cell 0 has an input entry on port D
abbrev first : Entry
first = entry 0 (Plain (codes "D")) Input None

-- cell 1 has an output entry on port Q
abbrev second : Entry
second = entry 1 (Plain (codes "Q")) Output2 None

-- a draft with the four ports of the test access port, an input D and two outputs Q and R
abbrev draft : Draft
draft = record {
  entity = codes "E";
  «package» = codes "P";
  edition = Old;
  ports = port (codes "TDI") Inward ∷ port (codes "TDO") Outward ∷ port (codes "TMS") Inward ∷ port (codes "TCK") Inward
      ∷ port (codes "D") Inward ∷ port (codes "Q") Outward ∷ port (codes "R") Outward ∷ [];
  taps = record { scan_in = codes "TDI"; scan_out = codes "TDO"; mode = codes "TMS"; clock = codes "TCK"; reset = None };
  ir = 2;
  opcodes = opcodes;
  capture = One ∷ Zero ∷ [];
  idcode = None;
  compliance = None;
  boundary = 2;
  map = mapped (codes "D") (codes "5") ∷ mapped (codes "Q") (codes "6") ∷ [];
  entries = first ∷ second ∷ [];
}

-- this draft with other entries, and with this number of cells
abbrev with_entries : ℕ → List Entry → Draft
with_entries boundary entries = record draft { boundary = boundary; entries = entries }

-- an OUTPUT3 entry of this cell, on this port, with this control cell and disable value
abbrev controlled : ℕ → List ℕ → Control → Entry
controlled num name control = entry num (Plain name) Output3 (Some control)

-- the entry of a control cell
abbrev control : ℕ → Entry
control num = entry num Star ControlRole None

draft_keeps : KeepsRules draft
unfolding v2 v3 v4 v5 v6 v7 v8 v9 v10 v11 v12 v13 v14
draft_keeps = record {
  v2 = refl;
  v3 = refl;
  v4 = refl;
  v5 = refl;
  v6 = refl;
  v7 = refl;
  v8 = refl;
  v9 = refl;
  v10 = refl;
  v11 = refl;
  v12 = refl;
  v13 = refl;
  v14 = refl;
}

-- two ports with the same name
port_twice : KeepsRules (record draft { ports = draft.ports ++ port (codes "D") Inward ∷ [] }) → ⊥
unfolding v2
port_twice keeps = let broken : Some 8 ≡ None = keeps.v2 in cc broken

-- the TAP attribute for TCK names no port
no_clock : KeepsRules (record draft { taps = record (draft.taps) { clock = codes "C" } }) → ⊥
unfolding v3
no_clock keeps = let broken : Some 5 ≡ None = keeps.v3 in cc broken

-- two ports on one pin
pin_twice : KeepsRules (record draft { map = mapped (codes "D") (codes "5") ∷ mapped (codes "Q") (codes "5") ∷ [] }) → ⊥
unfolding v4
pin_twice keeps = let broken : Some 2 ≡ None = keeps.v4 in cc broken

-- a code with three symbols for two bits
long_code : KeepsRules
    (record draft { opcodes = opcodes ++ record { name = codes "CLAMP"; codes = (One ∷ Zero ∷ Zero ∷ []) ∷ [] } ∷ [] }) → ⊥
unfolding v5
long_code keeps = let broken : Some 4 ≡ None = keeps.v5 in cc broken

-- no code for SAMPLE
no_sample : KeepsRules (record draft { opcodes = [] }) → ⊥
unfolding v6
no_sample keeps = let broken : Some 1 ≡ None = keeps.v6 in cc broken

-- a capture pattern that does not end in 01
wrong_capture : KeepsRules (record draft { capture = Zero ∷ One ∷ [] }) → ⊥
unfolding v7
wrong_capture keeps = let broken : Some 1 ≡ None = keeps.v7 in cc broken

-- a cell without an entry
no_entry : KeepsRules (with_entries 3 (first ∷ second ∷ [])) → ⊥
unfolding v8
no_entry keeps = let broken : Some 2 ≡ None = keeps.v8 in cc broken

-- an entry on a port that does not exist
no_port : KeepsRules (with_entries 2 (first ∷ entry 1 (Plain (codes "S")) Output2 None ∷ [])) → ⊥
unfolding v9
no_port keeps = let broken : Some 2 ≡ None = keeps.v9 in cc broken

-- an OUTPUT3 entry without a control
no_control : KeepsRules (with_entries 2 (first ∷ entry 1 (Plain (codes "Q")) Output3 None ∷ [])) → ⊥
unfolding v10
no_control keeps = let broken : Some 2 ≡ None = keeps.v10 in cc broken

-- two disable values of one control cell
two_values : KeepsRules
    (with_entries 3
    (controlled 0 (codes "Q") (record { cell = 2; disable = true })
    ∷ controlled 1 (codes "R") (record { cell = 2; disable = false }) ∷ control 2 ∷ [])) → ⊥
unfolding v11
two_values keeps = let broken : Some 2 ≡ None = keeps.v11 in cc broken

-- two entries that take their values from the update latch of one cell
two_latches : KeepsRules (with_entries 2 (first ∷ second ∷ control 1 ∷ [])) → ⊥
unfolding v12
two_latches keeps = let broken : Some 1 ≡ None = keeps.v12 in cc broken

-- two entries that drive one port bit
two_drivers : KeepsRules (with_entries 3 (first ∷ second ∷ entry 2 (Plain (codes "Q")) Output2 None ∷ [])) → ⊥
unfolding v13
two_drivers keeps = let broken : Some 3 ≡ None = keeps.v13 in cc broken

-- an entry that drives an input port
driven_input : KeepsRules (with_entries 2 (first ∷ entry 1 (Plain (codes "D")) Output2 None ∷ [])) → ⊥
unfolding v14
driven_input keeps = let broken : Some 2 ≡ None = keeps.v14 in cc broken
