use Rattle.std.proofs.Common.{◌∙◌, length, ap, sym}
use Rattle.std.proofs.lemmas.Bool.{eqb-true}
use Rattle.std.proofs.lemmas.List.{nil_from_length}
use Rattle.net_classes.specs.Pairs.{drivers_at}
use Rattle.driver_passes.proofs.DoneLemmas.{all_show, none_tested}
use Rattle.driver_passes.proofs.pairs.Pairing.is_done.Goals as goal

pub returns-then-is_empty : goal.returns-then-is_empty
returns-then-is_empty c =
    λ e b least below. none_tested c.args.board.now c.args.self.now.passes.items c.args.a b
    (sym (c.tested_drivers.ensures.drivers ∙ ap (λ b. drivers_at b c.args.a) c.classes.ensures.same)
    ∙ nil_from_length c.tested_drivers.result.now
    (eqb-true (length c.tested_drivers.result.now) 0 (sym c.if-is_empty.ensures)))

pub returns : goal.returns
returns c = λ e b later less.
    let pairing = c.requires.pairing in
    let all = sym (pairing.always.always_are c.args.a c.requires.first) ∙ sym c.has.ensures ∙ e in
    all_show c.args.board.now c.args.self.now.passes.items c.args.a b pairing.tested all less
