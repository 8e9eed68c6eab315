use Rattle.driver_passes.proofs.tables.BoardTables.classes.Goals as goal

pub returns-clause-laws : goal.returns-clause-laws
returns-clause-laws c = rw c.self.view_is at c.self.invariant.3
