use Rattle.std.proofs.Common.{◌∙◌, ◌<◌, Ok, sym, refl, subst, length, arith}
use Rattle.std.proofs.lemmas.Option.{slice_get_read}
use Rattle.answers.specs.Gives.{Gives}
use Rattle.btest_core.specs.Answers.{input_told}
use Rattle.btest_core.specs.DevicesRead.{IsDeviceOf}
use Rattle.btest_core.proofs.ChoiceLemmas.{choice_at}
use Rattle.btest_core.proofs.devices.next_device.Goals as goal

pub returns-in_ok-device_copy-in-Some : goal.returns-in_ok-device_copy-in-Some
returns-in_ok-device_copy-in-Some c = λ choice chosen.
    let before : c.in-Some.j < length c.args.devices.now = omega (arith, c.in-Some.ensures.before, c.requires.before) in
    let there = slice_get_read c.args.devices.now (length c.args.devices.now) c.in-Some.j
    c.index-devices-j.result refl before c.index-devices-j.is in
    subst (λ d. IsDeviceOf c.args.entities.now choice (Ok d))
    (sym c.in_ok-device_copy-in-Some.ensures)
    (c.requires.devices c.in-Some.j choice c.index-devices-j.result
    (c.in-Some.ensures.same ∙ chosen) there)

pub returns-in-None : goal.returns-in-None
returns-in-None c = λ choice chosen.
    subst
    (λ choice. Gives input_told (λ device. device) (IsDeviceOf c.args.entities.now choice)
    c.device_of.result) (choice_at c.args.chosen.now c.args.i _ choice c.requires.next chosen)
    c.device_of.ensures
