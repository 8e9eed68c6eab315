use Rattle.fault_sim.proofs.board_test.BoardTest.kept.Goals as goal

pub returns : goal.returns
returns c = rw (← c.self.view_is) (record { rows = c.self.invariant.rows; drivers = c.self.invariant.drivers })
