-- The fault of a string, computed from the reason why reading stopped.
use Rattle.std.specs.Prelude.{ℕ, ◌+◌}
use Rattle.bsdl_strings.specs.declared.stop.Stop.{Stop}
use Rattle.bsdl_strings.specs.declared.stop.Stop.TheVariants as stops
use Rattle.bsdl_strings.specs.declared.fault.StringFault.{StringFault}
use Rattle.bsdl_strings.specs.declared.fault.StringFault.TheVariants as faults

-- the fault if reading stopped after `entries` whole entries: the number of the next entry, or lack
-- of memory
abbrev pub stop_fault : Stop → ℕ → StringFault
stop_fault (stops.Memory error) entries = faults.Memory error
stop_fault (stops.At rest) entries = faults.At (entries + 1)

-- `P` holds for the number in the fault, or memory ran out
abbrev pub NamesEntry : (ℕ → Type 0) → StringFault → Type 0
NamesEntry P (faults.At number) = P number
NamesEntry P (faults.Memory error) = Unit {0}
