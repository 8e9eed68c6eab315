use Rattle.std.proofs.Common.{◌≡◌, vec_len}
use Rattle.btest_core.specs.inner.Choices.{choices_of}
use Rattle.btest_core.proofs.ChoiceLemmas.{Chooses}
use Rattle.btest_core.proofs.devices.chosen_devices.Given as goal

-- The list has the devices of the first `i` choices. The list, followed by the devices of the
-- remaining choices, has the devices of all choices.
abbrev pub invariant-loop-i : goal.invariant-loop-i
invariant-loop-i l = record {
  devices : Chooses l.entities (choices_of l.chosen) l.i l.devices.items;
  count : vec_len l.devices ≡ l.i;
}
