use Rattle.std.proofs.lemmas.Result.{err_from_is_err_and}
use Rattle.grammars.proofs.Grammars.{turn_shrinks}
use Rattle.grammars.proofs.Loops.{another, no_other}
use Rattle.bsdl_parser.specs.Bsdl.{skipped_token}
use Rattle.bsdl_parser.proofs.Decided.{skipped_takes}
use Rattle.bsdl_parser.proofs.Stopped.{stopped}
use Rattle.bsdl_parser.proofs.cursor.Cursor.skipped.Goals as goal

pub returns-in_err-skipped_token : goal.returns-in_err-skipped_token
returns-in_err-skipped_token c =
    let p = err_from_is_err_and c.from_residual.result c.from_residual.ensures.1 in
    rw (p.1, p.2)
    (stopped skipped_token skipped_takes tt c.tokens.self c.skipped_token.new.self
    c.in_err-skipped_token.field-0.0 _ c.tokens.invariant c.in_err-skipped_token.ensures)

pub tokens-smaller : goal.tokens-smaller
tokens-smaller c = turn_shrinks skipped_token skipped_takes tt _ c.tokens.self c.skipped_token.new.self c.in_ok-skipped_token.ensures

pub tokens-preserved : goal.tokens-preserved
tokens-preserved c =
    another skipped_token skipped_takes tt tt c.in_ok-skipped_token.field-0 c.tokens.self
    c.skipped_token.new.self _ c.tokens.invariant c.if-branch.true c.in_ok-skipped_token.ensures

pub returns : goal.returns
returns c =
    no_other skipped_token skipped_takes tt tt c.in_ok-skipped_token.field-0 c.tokens.self
    c.skipped_token.new.self _ c.tokens.invariant c.if-branch.false c.in_ok-skipped_token.ensures
