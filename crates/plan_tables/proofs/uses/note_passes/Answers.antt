use Rattle.std.proofs.Common.{List, ℕ, Bool, map, get_or, ap, sym, ◌∙◌, subst}
use Rattle.std.proofs.lemmas.List.Sums.{fold_more}
use Rattle.board_defs.specs.declared.board.Ctl.{Ctl}
use Rattle.board_defs.proofs.Members.{Has}
use Rattle.plan_tables.specs.declared.tables.HeldCell.{HeldCell}
use Rattle.plan_tables.specs.Tables.{held_cell}
use Rattle.plan_tables.specs.inner.Steady.{marked_held, all_run, held_by, AreRuns}
use Rattle.plan_tables.proofs.SteadyLemmas.{runs_go_on, held_at}
use Rattle.plan_tables.proofs.uses.note_passes.Goals as goal

pub loop-k-preserved : goal.loop-k-preserved
loop-k-preserved c =
    let board = c.args.placed.now.board.now in
    let quiet = c.args.quiet.now.bits in
    let passes = c.args.passes.now in
    let k = c.loop-k.k in
    let less = c.loop-k-test.true in
    let pass : List Ctl = c.index-passes-k.result in
    let cells : List Ctl → List HeldCell = λ q. map (held_cell board quiet) q in
    let own : List HeldCell = cells (get_or passes k pass) in
    record {
      held = c.mark_held.ensures
          ∙ ap (λ (l : List HeldCell). marked_held c.loop-k.held l)
          (c.as_slice.ensures ∙ c.in_ok-cells.ensures ∙ ap cells c.index-passes-k.is)
          ∙ ap (λ (flags : List Bool). marked_held flags own) c.loop-k.invariant.held
          ∙ sym (fold_more (λ done q. marked_held done (cells q)) c.args.held.now passes k pass less);
      runs = subst (λ (r : List ℕ). AreRuns (held_by board quiet passes) r)
          (sym
          (c.run_all.ensures
          ∙ ap (λ (l : List HeldCell). all_run k c.loop-k.runs l)
          (c.as_slice-in-loop-k.ensures ∙ c.in_ok-cells.ensures
          ∙ ap cells c.index-passes-k.is)))
          (runs_go_on (held_by board quiet passes) k own c.loop-k.runs
          (λ h has. subst (λ (l : List HeldCell). Has l h)
          (sym (held_at board quiet passes k pass less)) has) c.loop-k.invariant.runs);
    }
