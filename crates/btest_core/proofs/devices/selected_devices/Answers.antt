use Rattle.std.proofs.Common.{◌≡◌, ◌∙◌, ℕ, length, ap, subst, arith}
use Rattle.board_lines.specs.Names.{named}
use Rattle.board_lines.specs.declared.names.Naming.TheVariants.{Entity as EntityName}
use Rattle.std.specs.Prelude.{IfOk, vec_len}
use Rattle.btest_core.specs.DevicesRead.{chosen_texts}
use Rattle.btest_core.proofs.ChoiceLemmas.{count_chosen}
use Rattle.btest_core.proofs.devices.selected_devices.Goals as goal

pub returns-in-Ok-clause-number : goal.returns-in-Ok-clause-number
returns-in-Ok-clause-number c =
    let same = ap (λ lines. length (chosen_texts lines c.deref.result.now)) c.lines.ensures.lines
    ∙ ap (λ numbers. length (chosen_texts c.args.file.now numbers)) c.deref.ensures.value in
    let count : length c.in-Ok.numbers.items
    ≡ length (named EntityName c.args.file.now) = omega
    (arith, c.in-Ok.ensures.count, c.in-Ok.numbers.ok.0) in
    subst (λ (n : ℕ). IfOk c.devices_by.result (λ devices. vec_len devices ≡ n))
    (same ∙ count_chosen c.args.file.now c.in-Ok.numbers.items count)
    c.devices_by.ensures.number
