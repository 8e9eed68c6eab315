use Rattle.std.proofs.Common.{◌∙◌, ap, arith}
use Rattle.std.specs.Prelude.{slice_get}
use Rattle.std.proofs.lemmas.Option.{slice_get_within}
use Rattle.board_defs.specs.Passes.{useful_controls}
use Rattle.driver_passes.specs.inner.Drafts.{drafted, draft_with}
use Rattle.driver_passes.proofs.DraftLemmas.{added_draft, added_setting}
use Rattle.driver_passes.proofs.FitLemmas.{holds_at}
use Rattle.driver_passes.proofs.draft.Draft.add.Goals as goal

pub insert_if-requires : goal.insert_if-requires
insert_if-requires c =
    let board = c.self.inside.board.now in
    let stands = ap (λ d. slice_get (useful_controls d.board) c.args.place) c.self.view_is ∙ c.requires in
    omega (arith, slice_get_within (useful_controls board) c.args.place c.args.c stands, c.self.invariant.held_length)

pub take_out_apart-requires : goal.take_out_apart-requires
take_out_apart-requires c =
    let stands = ap (λ d. slice_get (useful_controls d.board) c.args.place) c.self.view_is ∙ c.requires in
    holds_at (useful_controls c.self.inside.board.now) c.args.place c.args.c stands

pub invariant_of-self : goal.invariant_of-self
invariant_of-self c =
    let inside = c.self.inside in
    let stands = ap (λ d. slice_get (useful_controls d.board) c.args.place) c.self.view_is ∙ c.requires in
    added_draft inside.board.now inside.held inside.free c.insert_if.new.self
    c.take_out_apart.new.free c.remove.new.self c.args.place c.args.c
    c.classes-laws.ensures.laws.passes c.self.invariant stands c.insert_if.ensures.room
    c.insert_if.ensures.numbers c.take_out_apart.ensures c.remove.ensures

pub returns : goal.returns
returns c =
    let inside = c.self.inside in
    let stands = ap (λ d. slice_get (useful_controls d.board) c.args.place) c.self.view_is ∙ c.requires in
    ap (drafted inside.board.now)
    (added_setting inside.board.now inside.held c.insert_if.new.self c.args.place c.args.c
    c.classes-laws.ensures.laws.passes.said.useful_in_order stands
    c.insert_if.ensures.numbers) ∙ ap (λ d. draft_with d c.args.c) c.self.view_is
