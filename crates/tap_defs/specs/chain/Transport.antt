-- The effect of a scan on a chain: the captured bits come out in order, and the chain then holds the bits that were shifted in.
use Rattle.std.specs.Prelude.{◌≡◌, ◌<◌, take, drop, Bool, true, ◌&&◌, List, [], ◌∷◌, ◌++◌, length, map}
use Rattle.tap_defs.specs.declared.tap.TapState.TheVariants.{RunTestIdle}
use Rattle.tap_defs.specs.chain.TestLogic.{TestLogic, Instruction, instruction_of}
use Rattle.tap_defs.specs.chain.Chain.{ChainPart}
use Rattle.tap_defs.specs.chain.Run.{Choices, Wiring, run, tdos, bit_passes, run_passes}
use Rattle.tap_defs.specs.chain.Scan.{ScanBit, tdi_bits, joined}
use Rattle.tap_defs.specs.chain.Clocks.{sdr_clocks, sir_clocks}
use Rattle.tap_defs.specs.chain.ChainRegisters.{all_held, ir_registers, data_captured, codes_captured, AllIn, AllSelectingIn}

-- true if the bits `out` at TDO are the expected ones wherever the scan compares a bit
abbrev pub scan_passes : List ScanBit → List Bool → Bool
scan_passes [] out = true
scan_passes (b ∷ bits) [] = true
scan_passes (b ∷ bits) (o ∷ out) = bit_passes b.expect o && scan_passes bits out

-- the properties of a part that a data scan does not change
pub record DataFrame : Type 0 where
  pub logic : TestLogic
  pub current : Instruction
  pub ir : List Bool

-- the properties of a part of a chain that a data scan does not change
abbrev pub data_frame : ChainPart → DataFrame
data_frame p = record { logic = p.logic; current = p.state.current; ir = p.state.ir }

-- The effect of a data scan that captures the bits `captured`. Its shift clocks output `leaving` at TDO, and its other
-- clocks compare nothing. Afterwards the chain holds `staying`, and each part holds as many bits as it captured. The
-- test logic, the current instruction and the instruction register of each part do not change, and the controllers are
-- in Run-Test/Idle again. `tdo` has the bit at TDO in each clock.
pub record ScansData (bits : List ScanBit) (captured : List (List Bool))
    (leaving staying tdo : List Bool) (before after : List ChainPart) : Type 0 where
  pub leaves : take (length bits) (drop 3 tdo) ≡ leaving
  pub compares : run_passes (sdr_clocks bits) tdo ≡ scan_passes bits leaving
  pub stays : joined (all_held after) ≡ staying
  pub lengths : map length (all_held after) ≡ map length captured
  pub frames : map data_frame after ≡ map data_frame before
  pub idle : AllSelectingIn RunTestIdle after

-- the properties of a part that an instruction scan does not change
pub record CodeFrame : Type 0 where
  pub logic : TestLogic
  pub boundary : List Bool
  pub bypass : Bool
  pub identification : List Bool
  pub latches : List Bool

-- the properties of a part of a chain that an instruction scan does not change
abbrev pub code_frame : ChainPart → CodeFrame
code_frame p = record {
  logic = p.logic;
  boundary = p.state.boundary;
  bypass = p.state.bypass;
  identification = p.state.identification;
  latches = p.state.latches;
}

-- The effect of an instruction scan. Its shift clocks output `leaving` at TDO, and its other clocks compare nothing.
-- Afterwards the instruction registers hold `staying`, and each part has the instruction of the code in its register.
-- No other register, no latch and no length changes, and the controllers are in Run-Test/Idle again. `tdo` has the bit
-- at TDO in each clock.
pub record ScansCodes (bits : List ScanBit) (leaving staying tdo : List Bool) (before after : List ChainPart) : Type 0 where
  pub leaves : take (length bits) (drop 4 tdo) ≡ leaving
  pub compares : run_passes (sir_clocks bits) tdo ≡ scan_passes bits leaving
  pub stays : joined (ir_registers after) ≡ staying
  pub lengths : map length (ir_registers after) ≡ map length (ir_registers before)
  pub currents : map (λ p. p.state.current) after ≡ map (λ p. instruction_of p.logic p.state.ir) after
  pub frames : map code_frame after ≡ map code_frame before
  pub idle : AllIn RunTestIdle after

-- Let a data scan begin in Run-Test/Idle, have at least one bit, and be exactly as long as the selected registers
-- together. The instruction of each part must select a register of the model. Then all captured bits come out, and the
-- chain holds the bits that were shifted in.
abbrev pub DataTransport : Type 0
DataTransport =
    (wiring : Wiring) (bits : List ScanBit) (choices : Choices) (parts : List ChainPart) →
    AllSelectingIn RunTestIdle parts → 0 < length bits →
    let captured : List (List Bool) = data_captured wiring choices parts in
    length bits ≡ length (joined captured) →
    ScansData bits captured (joined captured) (tdi_bits bits)
    (tdos wiring (sdr_clocks bits) choices parts) parts
    (run wiring (sdr_clocks bits) choices parts)

-- Let a data scan begin in Run-Test/Idle and have any length `n` except 0. The instruction of each part must select a
-- register of the model. Let `stream` be the captured bits followed by the bits that are shifted in. Then its first `n`
-- bits come out, and the chain holds the others.
abbrev pub LongDataTransport : Type 0
LongDataTransport =
    (wiring : Wiring) (bits : List ScanBit) (choices : Choices) (parts : List ChainPart) →
    AllSelectingIn RunTestIdle parts → 0 < length bits →
    let captured : List (List Bool) = data_captured wiring choices parts in
    let stream : List Bool = joined captured ++ tdi_bits bits in
    ScansData bits captured (take (length bits) stream) (drop (length bits) stream)
    (tdos wiring (sdr_clocks bits) choices parts) parts (run wiring (sdr_clocks bits) choices parts)

-- Let an instruction scan begin in Run-Test/Idle, under any current instructions, have at least one bit, and be exactly
-- as long as the instruction registers together. Then all captured bits come out, and each part has the instruction of
-- the code that was shifted into it.
abbrev pub CodeTransport : Type 0
CodeTransport =
    (wiring : Wiring) (bits : List ScanBit) (choices : Choices) (parts : List ChainPart) →
    AllIn RunTestIdle parts → 0 < length bits → length bits ≡ length (joined (ir_registers parts)) →
    ScansCodes bits (joined (codes_captured choices parts)) (tdi_bits bits)
    (tdos wiring (sir_clocks bits) choices parts) parts (run wiring (sir_clocks bits) choices parts)

-- Let an instruction scan begin in Run-Test/Idle, under any current instructions, and have any length `n` except 0. Let
-- `stream` be the captured bits followed by the bits that are shifted in. Then its first `n` bits come out, and the
-- instruction registers hold the others.
abbrev pub LongCodeTransport : Type 0
LongCodeTransport =
    (wiring : Wiring) (bits : List ScanBit) (choices : Choices) (parts : List ChainPart) →
    AllIn RunTestIdle parts → 0 < length bits →
    let stream : List Bool = joined (codes_captured choices parts) ++ tdi_bits bits in
    ScansCodes bits (take (length bits) stream) (drop (length bits) stream)
    (tdos wiring (sir_clocks bits) choices parts) parts (run wiring (sir_clocks bits) choices parts)
