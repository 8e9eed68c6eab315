use Rattle.net_classes.proofs.known.Known.laws.Goals as goal

pub returns : goal.returns
returns c = rw (← c.self.view_is) (record { rules = c.raw-rules.ensures.rules; controls_are = c.self.invariant.0.controls_are })
