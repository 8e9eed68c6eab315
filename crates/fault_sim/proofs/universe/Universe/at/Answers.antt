use Rattle.std.proofs.Common.{List, Option, ap, sym, ◌∙◌, subst, arith}
use Rattle.std.specs.Prelude.{slice_get}
use Rattle.board_defs.specs.declared.board.Ctl.{Ctl}
use Rattle.board_defs.specs.declared.fault.Single.{Single}
use Rattle.board_defs.specs.Passes.{ArePasses}
use Rattle.fault_sim.specs.Places.{listed_places}
use Rattle.fault_sim.proofs.PlaceLemmas.{listed_length, listed_there}
use Rattle.fault_sim.proofs.UniverseLemmas.{listed_are}
use Rattle.fault_sim.proofs.universe.Universe.at.Goals as goal

pub returns : goal.returns
returns c board rules plan passes universe =
    let kept = subst (λ (l : List (List Ctl)). ArePasses board l) (sym passes) (c.passes_kept.ensures board rules).kept in
    let places = listed_places c.args.plan.now c.args.self.now in
    sym
    (ap (λ (l : List (Option Single)). slice_get l c.args.i)
    (listed_are board rules c.args.plan.now plan kept c.args.self.now universe))
    ∙ listed_there places c.args.i c.where_observed.result (omega (arith, c.requires, listed_length c.args.plan.now c.args.self.now))
    (c.where_observed.ensures ∙ sym (c.candidate.ensures c.args.plan.now))
