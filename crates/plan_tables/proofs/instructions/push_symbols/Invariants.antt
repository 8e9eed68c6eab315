use Rattle.std.proofs.Common.{◌≡◌, ◌++◌, map, take}
use Rattle.board_defs.specs.DeviceRules.{bit_of}
use Rattle.plan_tables.proofs.instructions.push_symbols.Given as goal

abbrev pub invariant-loop-symbol : goal.invariant-loop-symbol
invariant-loop-symbol l = l.tdi.items ≡ l.fn.tdi.items ++ map bit_of (take l.symbol-index l.symbols)
