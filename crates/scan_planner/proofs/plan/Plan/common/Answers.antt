use Rattle.scan_planner.proofs.plan.Plan.common.Goals as goal

pub returns : goal.returns
returns c = rw (← c.self.view_is) c.self.invariant.2
