-- The port bits from which a part can receive.
use Rattle.std.specs.Prelude.{Bool, false, Option, Some, None}
use Rattle.board_defs.specs.declared.device.PortBit.{PortBit}
use Rattle.board_defs.specs.DeviceRules.{may_receive}

-- there is a port bit, and its mode lets the part receive from it
abbrev pub receives_by : Option PortBit → Bool
receives_by None = false
receives_by (Some bit) = may_receive bit.mode
