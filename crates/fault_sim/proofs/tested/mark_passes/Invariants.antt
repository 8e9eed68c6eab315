use Rattle.std.proofs.Common.{◌≡◌, drop}
use Rattle.std.specs.Prelude.{fold}
use Rattle.fault_sim.specs.inner.Tested.{marked_in}
use Rattle.fault_sim.proofs.tested.mark_passes.Given as goal

-- The flags set so far, with the flags of the pins that the remaining passes test, are the flags of the pins that any of the passes tests.
abbrev pub invariant-loop-pass : goal.invariant-loop-pass
invariant-loop-pass l =
    fold (marked_in l.plan l.net) l.flags (drop l.pass-index l.plan.passes)
    ≡ fold (marked_in l.plan l.net) l.fn.flags l.plan.passes
