use Rattle.std.proofs.Common.{◌≡◌, ◌<◌, ◌∙◌, ap, sym, subst, length, List, ℕ}
use Rattle.std.specs.Prelude.{IfOk, vec_len}
use Rattle.std.specs.List.{AllByRecursion}
use Rattle.std.proofs.lemmas.List.Elements.{recursion_from_All}
use Rattle.answers.specs.Gives.{Gives}
use Rattle.btest_core.specs.Answers.{EachOf, input_told}
use Rattle.btest_core.specs.DevicesRead.{IsDeviceOf, chosen_texts, Chosen}
use Rattle.btest_core.specs.inner.Choices.{choices_of}
use Rattle.btest_core.proofs.ChoiceLemmas.{count_choices}
use Rattle.btest_core.proofs.devices.devices_by.Goals as goal

pub chosen_devices-requires-clause-there : goal.chosen_devices-requires-clause-there
chosen_devices-requires-clause-there c =
    let within = recursion_from_All (λ number. number < length c.args.entities.now) c.args.numbers.now c.requires.within in
    subst (λ list. AllByRecursion (λ choice. choice.0 < length c.args.entities.now) list)
    (sym c.deref.ensures.value)
    (c.in_ok-chosen.ensures.within (length c.args.entities.now) within)

pub returns-clause-devices : goal.returns-clause-devices
returns-clause-devices c =
    let same : choices_of c.deref.result.now
    ≡ chosen_texts c.args.lines.now c.args.numbers.now = ap choices_of c.deref.ensures.value
    ∙ c.in_ok-chosen.ensures.chosen in
    subst
    (λ (list : List Chosen). Gives input_told (λ devices. devices.items)
    (EachOf (IsDeviceOf c.args.entities.now) list) c.chosen_devices.result) same
    c.chosen_devices.ensures.devices

pub returns-clause-number : goal.returns-clause-number
returns-clause-number c =
    let same : choices_of c.deref.result.now
    ≡ chosen_texts c.args.lines.now c.args.numbers.now = ap choices_of c.deref.ensures.value
    ∙ c.in_ok-chosen.ensures.chosen in
    subst (λ (n : ℕ). IfOk c.chosen_devices.result (λ devices. vec_len devices ≡ n))
    (count_choices c.deref.result.now ∙ ap length same) c.chosen_devices.ensures.count
