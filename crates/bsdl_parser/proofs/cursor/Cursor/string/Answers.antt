use Rattle.std.proofs.Common.{map, sym, ◌∙◌, ap}
use Rattle.std.proofs.lemmas.Result.{err_from_is_err_and}
use Rattle.std.specs.Char.{to_ascii_uppercase}
use Rattle.grammars.specs.inner.Reader.{found}
use Rattle.grammars.specs.Grammar.{turns, reader_of_grammar}
use Rattle.grammars.proofs.Grammars.{turn_shrinks}
use Rattle.grammars.proofs.Loops.{another, no_other}
use Rattle.bsdl_parser.specs.Bsdl.{string_piece}
use Rattle.bsdl_parser.proofs.Decided.{string_takes}
use Rattle.bsdl_parser.proofs.Stopped.{stopped}
use Rattle.bsdl_parser.proofs.cursor.Cursor.string.Goals as goal

pub loop-content-init : goal.loop-content-init
loop-content-init c =
    ap
    (λ s. reader_of_grammar (turns (string_piece c.args.close.now) (map to_ascii_uppercase s))
    c.args.self.now) c.new-content.ensures.items

pub returns-in_err-piece : goal.returns-in_err-piece
returns-in_err-piece c =
    let p = err_from_is_err_and c.from_residual.result c.from_residual.ensures.1 in
    rw (p.1, p.2)
    (stopped (string_piece c.args.close.now) (string_takes c.args.close.now)
    (map to_ascii_uppercase c.loop-content.content.items) c.loop-content.self
    c.piece.new.self c.in_err-piece.field-0.0 _ c.loop-content.invariant
    c.in_err-piece.ensures)

pub loop-content-smaller : goal.loop-content-smaller
loop-content-smaller c =
    turn_shrinks (string_piece c.args.close.now) (string_takes c.args.close.now)
    (map to_ascii_uppercase c.loop-content.content.items) _ c.loop-content.self c.piece.new.self
    c.in_ok-piece.ensures

pub loop-content-preserved : goal.loop-content-preserved
loop-content-preserved c =
    another (string_piece c.args.close.now) (string_takes c.args.close.now)
    (map to_ascii_uppercase c.loop-content.content.items)
    (map to_ascii_uppercase c.piece.new.content.items) c.in_ok-piece.field-0
    c.loop-content.self c.piece.new.self _ c.loop-content.invariant c.if-branch.true c.in_ok-piece.ensures

pub returns : goal.returns
returns c =
    no_other (string_piece c.args.close.now) (string_takes c.args.close.now)
    (map to_ascii_uppercase c.loop-content.content.items)
    (map to_ascii_uppercase c.piece.new.content.items) c.in_ok-piece.field-0
    c.loop-content.self c.piece.new.self _ c.loop-content.invariant c.if-branch.false c.in_ok-piece.ensures
    ∙ ap (λ name. found name c.piece.new.self) (sym c.upper.ensures)
