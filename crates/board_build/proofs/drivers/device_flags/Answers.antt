-- Each entry of a device is on one of the device's port bits or on none, so the flags of the
-- entries are right for each port bit.
use Rattle.std.proofs.Common.{ℕ, List, length, ap, ◌∙◌, subst}
use Rattle.std.proofs.lemmas.Result.{IfOk-weaker}
use Rattle.board_defs.specs.declared.device.Cell.{Cell}
use Rattle.board_build.specs.inner.Marked.{AreFlags}
use Rattle.board_build.proofs.FlagLemmas.{device_flagged}
use Rattle.board_build.proofs.drivers.device_flags.Goals as goal

pub returns : goal.returns
returns c =
    IfOk-weaker c.flags_of.result _ _
    (λ flags are. device_flagged c.args.device.now flags.items c.raw-raw.ensures.rules.places
    (subst (λ (n : ℕ). AreFlags c.args.device.now.cells n flags.items) (c.len.ensures ∙ ap (λ r. length r.bits) c.raw-raw.ensures.value)
    (subst (λ (v : List Cell). AreFlags v c.len.result flags.items) (c.as_slice.ensures ∙ ap (λ r. r.cells) c.raw-raw.ensures.value) are)))
    c.flags_of.ensures
