use Rattle.std.proofs.Common.{◌∙◌, ◌&&◌, not, ap, sym}
use Rattle.board_defs.specs.Passes.{useful_controls}
use Rattle.board_defs.specs.Settings.{holds}
use Rattle.driver_passes.specs.inner.NumberSets.{is_in}
use Rattle.driver_passes.specs.inner.Sharers.{is_listed}
use Rattle.driver_passes.proofs.DraftLemmas.{loses_listed}
use Rattle.driver_passes.proofs.ProgressLemmas.{useful_cell}
use Rattle.driver_passes.proofs.tables.BoardTables.take_out_apart.Goals as goal

pub shared_nets-requires : goal.shared_nets-requires
shared_nets-requires c =
    useful_cell c.self.inside.classes c.args.c
    (ap (λ b. holds (useful_controls b) c.args.c) c.self.view_is ∙ c.requires)

pub returns : goal.returns
returns c =
    let before = c.args.free.now in
    let nets = c.shared_nets.result.now in
    rw (sym c.self.view_is)
    (loses_listed c.self.inside.classes c.self.inside.sharers.items nets c.args.c before
    c.close_sharers.new.free c.self.invariant.3.passes c.self.invariant.3.terms
    c.nets_are_shared.ensures c.self.invariant.0 c.shared_nets.ensures
    (ap (λ b. holds (useful_controls b) c.args.c) c.self.view_is ∙ c.requires)
    (λ q. c.close_sharers.ensures q ∙ ap (λ v. is_in before q && not (is_listed v nets q))
    c.deref.ensures.value))
