-- The listings of small devices, found by computation.
use Rattle.std.proofs.Common.{◌≡◌, ℕ, Bool, true, false, List, [], ◌∷◌, ◌++◌, Option, None, Some, refl}
use Rattle.std.specs.Prelude.{codes}
use Rattle.std.specs.Fmt.{digits}
use Rattle.board_defs.specs.declared.device.Symbol.{Symbol}
use Rattle.board_defs.specs.declared.device.Symbol.TheVariants.{Zero, One, Any}
use Rattle.board_defs.specs.declared.device.Mode.{Mode}
use Rattle.board_defs.specs.declared.device.Mode.TheVariants.{Inward, Outward, Linkage}
use Rattle.board_defs.specs.declared.device.Role.TheVariants.{Input, Output2, Output3, Control as ControlRole}
use Rattle.board_defs.specs.declared.device.Edition.TheVariants.{Old, Of2001}
use Rattle.board_defs.specs.declared.device.PortBit.{PortBit}
use Rattle.board_defs.specs.declared.device.RawDevice.{RawDevice}
use Rattle.device_check.specs.DeviceText.{device_text}

abbrev port_bit : ℕ → Option ℕ → Mode → List ℕ → Bool → PortBit
port_bit port index mode pin tap = record { port = port; index = index; mode = mode; pin = Some pin; tap = tap; compliance = false }

abbrev unmapped : ℕ → PortBit
unmapped port = record { port = port; index = None; mode = Linkage; pin = None; tap = false; compliance = false }

-- a device with two outputs
abbrev drivers : RawDevice
drivers = record {
  entity = codes "DRV";
  «package» = codes "P";
  edition = Old;
  ports = codes "TDI" ∷ codes "TMS" ∷ codes "TCK" ∷ codes "TDO" ∷ codes "Q" ∷ [];
  ir = 2;
  sample = Zero ∷ One ∷ [];
  extest = Zero ∷ Zero ∷ [];
  idcode = None;
  boundary = 2;
  bits =
      port_bit 0 None Inward (codes "T1") true ∷ port_bit 1 None Inward (codes "T3") true
      ∷ port_bit 2 None Inward (codes "T4") true ∷ port_bit 3 None Outward (codes "T2") true
      ∷ port_bit 4 (Some 1) Outward (codes "1") false ∷ port_bit 4 (Some 2) Outward (codes "2") false ∷ [];
  cells =
      record { num = 0; role = Output2; bit = Some 4; safe = Any; ctl = None }
      ∷ record { num = 1; role = Output2; bit = Some 5; safe = Any; ctl = None } ∷ [];
}

-- a device of the 2001 edition: a three-state output, the input that enables this output, and a
-- port without a pin. The entry of the last cell is the first in the list.
abbrev buffer : List Symbol → RawDevice
buffer idcode = record {
  entity = codes "BUF";
  «package» = codes "P";
  edition = Of2001;
  ports = codes "OE_N" ∷ codes "Y" ∷ codes "NC" ∷ codes "TDI" ∷ codes "TMS" ∷ codes "TCK" ∷ codes "TDO" ∷ [];
  ir = 2;
  sample = Zero ∷ Zero ∷ [];
  extest = One ∷ Zero ∷ [];
  idcode = Some idcode;
  boundary = 2;
  bits =
      port_bit 0 None Inward (codes "1") false ∷ port_bit 1 (Some 0) Outward (codes "2") false ∷ unmapped 2
      ∷ port_bit 3 None Inward (codes "8") true ∷ port_bit 4 None Inward (codes "9") true
      ∷ port_bit 5 None Inward (codes "10") true ∷ port_bit 6 None Outward (codes "11") true
      ∷ [];
  cells =
      record { num = 1; role = Input; bit = Some 0; safe = Any; ctl = None }
      ∷ record { num = 1; role = ControlRole; bit = None; safe = One; ctl = None }
      ∷ record { num = 0; role = Output3; bit = Some 1; safe = Any; ctl = Some (record { cell = 1; disable = true }) } ∷ [];
}

-- the identification pattern: 29 zeros followed by XX1; a code begins with the symbol nearest TDO
abbrev sample_pattern : List Symbol
sample_pattern =
    One ∷ Any ∷ Any ∷ Zero ∷ Zero ∷ Zero ∷ Zero ∷ Zero ∷ Zero ∷ Zero ∷ Zero ∷ Zero ∷ Zero ∷ Zero ∷ Zero ∷ Zero
    ∷ Zero ∷ Zero ∷ Zero ∷ Zero ∷ Zero ∷ Zero ∷ Zero ∷ Zero ∷ Zero ∷ Zero ∷ Zero ∷ Zero ∷ Zero ∷ Zero ∷ Zero ∷ Zero ∷ []

drivers_listed : device_text drivers
    ≡ codes
    "ENTITY DRV\nPACKAGE P\nIR 2 SAMPLE 10 IDCODE -\nPORT TDI IN T1\nPORT TMS IN T3\nPORT TCK IN T4\nPORT TDO OUT T2\nPORT Q OUT 1 2\nCELL 0 OUTPUT2 Q(1) X\nCELL 1 OUTPUT2 Q(2) X\n"
unfolding device_text digits
drivers_listed = refl

buffer_listed : device_text (buffer sample_pattern)
    ≡ codes
    "ENTITY BUF\nPACKAGE P\nIR 2 PRELOAD 00 EXTEST 01 IDCODE 00000000000000000000000000000XX1\nPORT OE_N IN 1\nPORT Y OUT 2\nPORT NC LINKAGE -\n"
    ++ codes
    "PORT TDI IN 8\nPORT TMS IN 9\nPORT TCK IN 10\nPORT TDO OUT 11\nCELL 0 OUTPUT3 Y(0) X 1 1\nCELL 1 INPUT OE_N X\nCELL 1 CONTROL * 1\n"
unfolding device_text digits
buffer_listed = refl
