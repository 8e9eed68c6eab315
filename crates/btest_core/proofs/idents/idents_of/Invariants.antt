use Rattle.std.proofs.Common.{◌≡◌, All, map, take}
use Rattle.btest_core.proofs.IdentLemmas.{IsWhole}
use Rattle.btest_core.proofs.idents.idents_of.Given as goal

-- the list has an item for each device visited so far: the device's pattern, which has 32 symbols,
-- or None if the device has no identification code
abbrev pub invariant-loop-device : goal.invariant-loop-device
invariant-loop-device l = record {
  idents : l.idents.items ≡ map (λ device. device.idcode) (take l.device-index l.devices);
  symbols : All IsWhole l.idents.items;
}
