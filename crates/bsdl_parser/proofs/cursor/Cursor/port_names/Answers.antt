use Rattle.std.proofs.Common.{ap}
use Rattle.std.proofs.lemmas.Result.{err_from_is_err_and}
use Rattle.grammars.specs.Grammar.{turns, reader_of_grammar}
use Rattle.grammars.proofs.Grammars.{turn_shrinks}
use Rattle.grammars.proofs.Loops.{another, no_other}
use Rattle.bsdl_parser.specs.Bsdl.{port_name}
use Rattle.bsdl_parser.proofs.Decided.{port_name_takes}
use Rattle.bsdl_parser.proofs.Stopped.{stopped}
use Rattle.bsdl_parser.proofs.cursor.Cursor.port_names.Goals as goal

pub loop-names-init : goal.loop-names-init
loop-names-init c = ap (λ s. reader_of_grammar (turns port_name s) c.args.self.now) c.new-names.ensures.items

pub returns-in_err-port_name : goal.returns-in_err-port_name
returns-in_err-port_name c =
    let p = err_from_is_err_and c.from_residual.result c.from_residual.ensures.1 in
    rw (p.1, p.2)
    (stopped port_name port_name_takes c.loop-names.names.items c.loop-names.self
    c.port_name.new.self c.in_err-port_name.field-0.0 _ c.loop-names.invariant
    c.in_err-port_name.ensures)

pub loop-names-smaller : goal.loop-names-smaller
loop-names-smaller c =
    turn_shrinks port_name port_name_takes c.loop-names.names.items _ c.loop-names.self
    c.port_name.new.self c.in_ok-port_name.ensures

pub loop-names-preserved : goal.loop-names-preserved
loop-names-preserved c =
    another port_name port_name_takes c.loop-names.names.items c.port_name.new.names.items
    c.in_ok-port_name.field-0 c.loop-names.self c.port_name.new.self _ c.loop-names.invariant
    c.if-branch.true c.in_ok-port_name.ensures

pub returns : goal.returns
returns c =
    no_other port_name port_name_takes c.loop-names.names.items c.port_name.new.names.items
    c.in_ok-port_name.field-0 c.loop-names.self c.port_name.new.self _ c.loop-names.invariant
    c.if-branch.false c.in_ok-port_name.ensures
