use Rattle.std.proofs.Common.{take}
use Rattle.device_rules.specs.inner.Index.{HasBits}
use Rattle.device_rules.proofs.compliance.bits_of.Given as goal

abbrev pub invariant-loop-word : goal.invariant-loop-word
invariant-loop-word l = HasBits l.bits (take l.word-index l.words)
