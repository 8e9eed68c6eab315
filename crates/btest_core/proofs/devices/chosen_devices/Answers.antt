use Rattle.std.proofs.Common.{rules, ◌≡◌, ◌<◌, ◌≤◌, None, Err, length, slice_index_or, arith}
use Rattle.std.proofs.lemmas.Option.{IfSome_then, slice_get-get_or}
use Rattle.btest_core.specs.Answers.{EachOf, input_told}
use Rattle.btest_core.specs.DevicesRead.{IsDeviceOf}
use Rattle.btest_core.specs.inner.Choices.{choices_of}
use Rattle.btest_core.proofs.ChoiceLemmas.{chooses_more, chooses_fault, chooses_all, count_choices}
use Rattle.btest_core.proofs.devices.chosen_devices.Goals as goal

pub loop-i-preserved : goal.loop-i-preserved
loop-i-preserved c =
    let choices = choices_of c.args.chosen.now in
    let within : c.loop-i.i < length choices = omega (arith, c.loop-i-test.true, count_choices c.args.chosen.now) in
    let count : length c.loop-i.devices.items ≡ c.loop-i.i = omega (arith, c.loop-i.invariant.count, c.loop-i.devices.ok.0) in
    record {
      devices =
          rw (c.in_ok-push.ensures.items)
          (chooses_more c.args.entities.now choices c.loop-i.i c.loop-i.devices.items c.in-Ok.device
          within count c.loop-i.invariant.devices c.in-Ok.ensures);
      count = search rules;
    }

pub returns-in-Err-clause-devices : goal.returns-in-Err-clause-devices
returns-in-Err-clause-devices c =
    let choices = choices_of c.args.chosen.now in
    let within : c.loop-i.i < length choices = omega (arith, c.loop-i-test.true, count_choices c.args.chosen.now) in
    IfSome_then (input_told c.in-Err.fault)
    {P = λ f. IsDeviceOf c.args.entities.now (slice_index_or choices c.loop-i.i (0, None))
    (Err f)} {Q = λ f. EachOf (IsDeviceOf c.args.entities.now) choices (Err f)}
    (c.in-Err.ensures (slice_index_or choices c.loop-i.i (0, None))
    (slice_get-get_or choices c.loop-i.i (0, None) within))
    (λ f is. chooses_fault c.args.entities.now choices c.loop-i.i c.loop-i.devices.items f
    within c.loop-i.invariant.devices is)

pub returns-clause-devices : goal.returns-clause-devices
returns-clause-devices c =
    let choices = choices_of c.args.chosen.now in
    let past : length choices ≤ c.loop-i.i = omega (arith, c.loop-i-test.false, count_choices c.args.chosen.now) in
    chooses_all c.args.entities.now choices c.loop-i.i c.loop-i.devices.items past c.loop-i.invariant.devices
