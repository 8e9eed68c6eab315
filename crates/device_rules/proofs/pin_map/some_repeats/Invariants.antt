use Rattle.std.proofs.Common.{◌≡◌, ◌++◌, List, ℕ, take, drop}
use Rattle.device_rules.specs.PinMap.{some_repeats}
use Rattle.device_rules.specs.inner.Seen.{HasNames}
use Rattle.device_rules.proofs.pin_map.some_repeats.Given as goal

-- The set has the names that were in it at the start and the pins visited so far. Some pin of the list is among the
-- names at the start or occurs twice if and only if some remaining pin is in the set or occurs twice among the
-- remaining pins.
abbrev pub invariant-loop-pin : goal.invariant-loop-pin
invariant-loop-pin l = record {
  seen : (before : List (List ℕ)) → HasNames l.fn.seen before → HasNames l.seen (before ++ take l.pin-index l.pins);
  rest : (before : List (List ℕ)) → HasNames l.fn.seen before
      → some_repeats before l.pins
      ≡ some_repeats (before ++ take l.pin-index l.pins) (drop l.pin-index l.pins);
}
