use Rattle.std.proofs.Common.{List, ℕ, Ok, Err, refl, subst}
use Rattle.std.specs.Prelude.{IfSome}
use Rattle.device_check.specs.DeviceText.{device_text}
use Rattle.btest_core.specs.Answers.{input_told}
use Rattle.btest_core.specs.DevicesRead.{IsDeviceText}
use Rattle.commands.specs.Worth.{IsDeviceListing}
use Rattle.commands.proofs.AnswerLemmas.{answers_fault, text_answers}
use Rattle.commands.proofs.device_listing.device.Goals as goal

pub returns-in-Err : goal.returns-in-Err
returns-in-Err g c =
    let is = subst
    (λ (text : List ℕ). IfSome (input_told c.in-Err.fault) (λ f. IsDeviceText text (Err f)))
    c.as_slice.ensures c.in-Err.ensures in
    rw c.unput_by.ensures
    (answers_fault (IsDeviceText c.args.text.now) device_text (IsDeviceListing c.args.text.now)
    (g.K.Sink.shown c.args.out.now) c.in-Err.fault is)

pub returns-in-Ok : goal.returns-in-Ok
returns-in-Ok g c =
    let device = c.in-Ok.device in
    let described = subst (λ (text : List ℕ). IsDeviceText text (Ok device)) c.as_slice.ensures c.in-Ok.ensures in
    let rules = c.inputs_keep_rules.ensures.device c.args.text.now device described in
    text_answers _ _ _ device described _ _ _ c.put_listing-put.ensures
    (record { device = device; described = described; rules = rules; is = refl })
