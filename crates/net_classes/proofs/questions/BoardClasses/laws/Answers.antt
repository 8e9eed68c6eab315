use Rattle.std.proofs.Common.{sym}
use Rattle.net_classes.proofs.questions.BoardClasses.laws.Goals as goal

pub returns : goal.returns
returns c = rw (sym c.self.view_is) (record {
  rules = c.raw-rules.ensures.rules;
  passes = c.passes_kept.ensures c.self.inside.board.now c.raw-rules.ensures.rules;
  terms = c.terms_decided.ensures c.self.inside.board.now c.raw-rules.ensures.rules;
})
