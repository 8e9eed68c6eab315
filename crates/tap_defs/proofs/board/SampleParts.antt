-- One part in one cycle, state by state and instruction by instruction (IEEE 1149.1-1990, sections 5 to 11).
use Rattle.std.proofs.Common.{◌≡◌, Bool, true, false, List, [], ◌∷◌, map, replicate, Some, None, refl}
use Rattle.board_defs.specs.declared.device.Symbol.TheVariants.{One}
use Rattle.board_defs.specs.declared.device.RawDevice.{RawDevice}
use Rattle.board_defs.specs.declared.board.PartKind.TheVariants.{Described, Bypass as WithoutDescription}
use Rattle.tap_defs.specs.declared.tap.TapState.{TapState}
use Rattle.tap_defs.specs.declared.tap.TapState.TheVariants.{TestLogicReset, RunTestIdle, SelectDR, CaptureDR, ShiftDR, Exit1DR, PauseDR, Exit2DR}
use Rattle.tap_defs.specs.declared.tap.TapState.TheVariants.{UpdateDR, SelectIR, CaptureIR, ShiftIR, Exit1IR, PauseIR, Exit2IR, UpdateIR}
use Rattle.tap_defs.specs.chain.TestLogic.{Instruction, Extest, Sample, Bypass, Idcode, Other, TestLogic, instruction_of}
use Rattle.tap_defs.specs.chain.Part.{PartState, FreeBits, part_after, part_tdo}
use Rattle.tap_defs.specs.board.OnBoard.{test_logic}
use Rattle.tap_defs.proofs.chain.SampleTexts.{on, off}
use Rattle.tap_defs.proofs.board.SampleBoards.{ts}

-- test logics: of a device without IDCODE, of a device with IDCODE, and of a part without a description
abbrev plain : TestLogic
plain = test_logic (Described ts)

abbrev with_idcode : RawDevice
with_idcode = record ts { idcode = Some (replicate 32 One) }

abbrev identified : TestLogic
identified = test_logic (Described with_idcode)

abbrev unknown : TestLogic
unknown = test_logic (WithoutDescription 2)

-- the free bits of a part, all with this value
abbrev free : Bool → FreeBits
free bit = record { ir = λ k. bit; cells = λ k. bit; latches = λ k. bit; tdo = bit; other = bit }

-- A part in this TAP state with this instruction. The instruction register and the boundary register have 1
-- nearest TDO and 0 above it. The bypass register has 1, there is no identification register, and the latches
-- have 0 and 1.
abbrev part : TapState → Instruction → PartState
part tap instruction = record {
  tap = tap;
  ir = on ∷ off ∷ [];
  current = instruction;
  boundary = on ∷ off ∷ [];
  bypass = on;
  identification = [];
  latches = off ∷ on ∷ [];
}

-- the part after a cycle with this TMS and TDI; its pins give the boundary cells 0 and 1, and each free bit
-- is `bit`
abbrev after : TestLogic → Bool → Bool → Bool → PartState → PartState
after logic bit tms tdi s = part_after logic (off ∷ on ∷ []) (free bit) tms tdi s

-- The instruction in Test-Logic-Reset. Without IDCODE it is BYPASS. With IDCODE it is Other, since the identification code is not known. In
-- a part without a description it may be either.
abbrev reset_to : TestLogic → Bool → Instruction
reset_to logic other = (after logic other true off (part SelectIR Extest)).current

reset_plain : map (reset_to plain) (off ∷ on ∷ []) ≡ Bypass ∷ Bypass ∷ []
reset_plain = refl

reset_identified : map (reset_to identified) (off ∷ on ∷ []) ≡ Other ∷ Other ∷ []
reset_identified = refl

reset_unknown : map (reset_to unknown) (off ∷ on ∷ []) ≡ Bypass ∷ Other ∷ []
reset_unknown = refl

-- in a part without IDCODE that stays in Test-Logic-Reset, the latches become any bits and the instruction becomes
-- BYPASS; nothing else changes
reset_bits : map (λ bit. after plain bit true off (part TestLogicReset Sample)) (off ∷ on ∷ []) ≡
    record (part TestLogicReset Bypass) { latches = off ∷ off ∷ [] } ∷ record (part TestLogicReset Bypass) { latches = on ∷ on ∷ [] } ∷ []
reset_bits = refl

-- The instructions that codes mean. A code of ones means BYPASS. In a described part, the codes of the description mean
-- EXTEST and SAMPLE/PRELOAD. Any other code means an instruction outside the model (`Other`).
abbrev codes : List (List Bool)
codes = (on ∷ on ∷ []) ∷ (off ∷ off ∷ []) ∷ (off ∷ on ∷ []) ∷ (on ∷ off ∷ []) ∷ []

described_codes : map (instruction_of plain) codes ≡ Bypass ∷ Extest ∷ Sample ∷ Other ∷ []
described_codes = refl

unknown_codes : map (instruction_of unknown) codes ≡ Bypass ∷ Other ∷ Other ∷ Other ∷ []
unknown_codes = refl

-- Update-IR makes the instruction of the code current, and does not change the latches
update_ir : after plain on true off (record (part Exit1IR Sample) { ir = off ∷ off ∷ [] })
    ≡ record (part UpdateIR Extest) { ir = off ∷ off ∷ [] }
update_ir = refl

-- Capture-IR loads 1 nearest TDO, 0 next to it, and free bits above. Shift-IR shifts, and outputs the first bit.
abbrev four_bits : TapState → PartState
four_bits tap = record (part tap Sample) { ir = off ∷ on ∷ off ∷ on ∷ [] }

capture_ir : map (λ bit. (after plain bit false off (four_bits CaptureIR)).ir) (off ∷ on ∷ [])
    ≡ (on ∷ off ∷ off ∷ off ∷ []) ∷ (on ∷ off ∷ on ∷ on ∷ []) ∷ []
capture_ir = refl

shift_ir : (after plain on false on (four_bits ShiftIR)).ir ≡ on ∷ off ∷ on ∷ on ∷ []
shift_ir = refl

shift_ir_tdo : part_tdo (free on) on (four_bits ShiftIR) ≡ off
shift_ir_tdo = refl

-- Capture-DR loads the pins' bits under EXTEST, free bits under SAMPLE, and 0 under BYPASS. Under an instruction outside
-- the model (`Other`) it loads nothing.
abbrev captured : Bool → Instruction → PartState
captured bit instruction = after plain bit false on (part CaptureDR instruction)

capture_extest : captured on Extest ≡ record (part ShiftDR Extest) { boundary = off ∷ on ∷ [] }
capture_extest = refl

capture_sample : map (λ bit. captured bit Sample) (off ∷ on ∷ []) ≡
    record (part ShiftDR Sample) { boundary = off ∷ off ∷ [] } ∷ record (part ShiftDR Sample) { boundary = on ∷ on ∷ [] } ∷ []
capture_sample = refl

capture_bypass : captured on Bypass ≡ record (part ShiftDR Bypass) { bypass = off }
capture_bypass = refl

capture_other : captured on Other ≡ part ShiftDR Other
capture_other = refl

-- Shift-DR shifts the boundary bits under EXTEST and SAMPLE, and the bypass bit under BYPASS. Under an instruction
-- outside the model (`Other`) it shifts no register of the model, and TDO is free.
abbrev shifted : Instruction → PartState
shifted instruction = after plain on false on (part ShiftDR instruction)

shift_extest : shifted Extest ≡ record (part ShiftDR Extest) { boundary = off ∷ on ∷ [] }
shift_extest = refl

shift_sample : shifted Sample ≡ record (part ShiftDR Sample) { boundary = off ∷ on ∷ [] }
shift_sample = refl

shift_bypass : (after plain on false off (part ShiftDR Bypass)) ≡ record (part ShiftDR Bypass) { bypass = off }
shift_bypass = refl

shift_other : shifted Other ≡ part ShiftDR Other
shift_other = refl

abbrev shift_tdo : Bool → Instruction → Bool
shift_tdo bit instruction = part_tdo (free bit) off (part ShiftDR instruction)

shift_tdos : map (shift_tdo off) (Extest ∷ Sample ∷ Bypass ∷ Other ∷ []) ≡ on ∷ on ∷ on ∷ off ∷ []
shift_tdos = refl

other_tdo : shift_tdo on Other ≡ on
other_tdo = refl

-- In Update-DR the latches take the boundary bits under EXTEST and SAMPLE, and are unchanged under BYPASS. Under an
-- instruction outside the model (`Other`) they become any bits.
abbrev updated : Bool → Instruction → PartState
updated bit instruction = after plain bit true on (part Exit1DR instruction)

update_extest : updated off Extest ≡ record (part UpdateDR Extest) { latches = on ∷ off ∷ [] }
update_extest = refl

update_sample : updated off Sample ≡ record (part UpdateDR Sample) { latches = on ∷ off ∷ [] }
update_sample = refl

update_bypass : updated off Bypass ≡ part UpdateDR Bypass
update_bypass = refl

update_other : map (λ bit. updated bit Other) (off ∷ on ∷ []) ≡
    record (part UpdateDR Other) { latches = off ∷ off ∷ [] } ∷ record (part UpdateDR Other) { latches = on ∷ on ∷ [] } ∷ []
update_other = refl

-- In all other states, a cycle with TMS 0 changes only the TAP state. TDO is a free bit in these states, in
-- Test-Logic-Reset, and in the capture states.
abbrev calm : List TapState
calm = RunTestIdle ∷ SelectDR ∷ Exit1DR ∷ PauseDR ∷ Exit2DR ∷ UpdateDR ∷ SelectIR ∷ Exit1IR ∷ PauseIR ∷ Exit2IR ∷ UpdateIR ∷ []

calm_stays : map (λ tap. record (after plain on false off (part tap Extest)) { tap = RunTestIdle })
    calm ≡ map (λ tap. part RunTestIdle Extest) calm
calm_stays = refl

abbrev silent : List TapState
silent = TestLogicReset ∷ CaptureDR ∷ CaptureIR ∷ calm

silent_tdo : map (λ tap. part_tdo (free on) off (part tap Extest)) silent ≡ map (λ tap. on) silent
silent_tdo = refl

silent_tdo_low : map (λ tap. part_tdo (free off) on (part tap Extest)) silent ≡ map (λ tap. off) silent
silent_tdo_low = refl

-- The lengths and codes of a described part come from its description. For any other part, only the instruction length
-- is known.
described_logic : identified ≡
    record {
      ir_length = 2;
      boundary_length = 2;
      extest = Some (off ∷ off ∷ []);
      preload = Some
          (off ∷ on ∷ []);
      at_reset = Some Other;
      idcode = [];
    }
described_logic = refl

unknown_logic : unknown ≡ record { ir_length = 2; boundary_length = 0; extest = None; preload = None; at_reset = None; idcode = [] }
unknown_logic = refl

-- In a part with a known identification code, a reset selects IDCODE, Capture-DR loads the code, Shift-DR shifts it, and Update-DR does not
-- change the latches.
abbrev coded : TestLogic
coded = record plain { at_reset = Some Idcode; idcode = on ∷ off ∷ on ∷ [] }

abbrev identifying : TapState → PartState
identifying tap = record (part tap Idcode) { identification = off ∷ on ∷ on ∷ [] }

reset_coded : map (reset_to coded) (off ∷ on ∷ []) ≡ Idcode ∷ Idcode ∷ []
reset_coded = refl

capture_idcode : after coded off false on (identifying CaptureDR) ≡ record (identifying ShiftDR) { identification = on ∷ off ∷ on ∷ [] }
capture_idcode = refl

shift_idcode : after coded on false off (identifying ShiftDR) ≡ record (identifying ShiftDR) { identification = on ∷ on ∷ off ∷ [] }
shift_idcode = refl

shift_idcode_tdo : part_tdo (free on) on (identifying ShiftDR) ≡ off
shift_idcode_tdo = refl

update_idcode : after coded off true on (identifying Exit1DR) ≡ identifying UpdateDR
update_idcode = refl
