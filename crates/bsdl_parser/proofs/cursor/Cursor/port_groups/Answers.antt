use Rattle.std.proofs.Common.{ap}
use Rattle.std.proofs.lemmas.Result.{err_from_is_err_and}
use Rattle.grammars.specs.Grammar.{turns, reader_of_grammar}
use Rattle.grammars.proofs.Grammars.{turn_shrinks}
use Rattle.grammars.proofs.Loops.{another, no_other}
use Rattle.bsdl_parser.specs.Bsdl.{port_group}
use Rattle.bsdl_parser.proofs.Decided.{port_group_takes}
use Rattle.bsdl_parser.proofs.Stopped.{stopped}
use Rattle.bsdl_parser.proofs.cursor.Cursor.port_groups.Goals as goal

pub loop-ports-init : goal.loop-ports-init
loop-ports-init c = ap (λ s. reader_of_grammar (turns port_group s) c.args.self.now) c.new-ports.ensures.items

pub returns-in_err-port_group : goal.returns-in_err-port_group
returns-in_err-port_group c =
    let p = err_from_is_err_and c.from_residual.result c.from_residual.ensures.1 in
    rw (p.1, p.2)
    (stopped port_group port_group_takes c.loop-ports.ports.items c.loop-ports.self
    c.port_group.new.self c.in_err-port_group.field-0.0 _ c.loop-ports.invariant
    c.in_err-port_group.ensures)

pub loop-ports-smaller : goal.loop-ports-smaller
loop-ports-smaller c =
    turn_shrinks port_group port_group_takes c.loop-ports.ports.items _ c.loop-ports.self
    c.port_group.new.self c.in_ok-port_group.ensures

pub loop-ports-preserved : goal.loop-ports-preserved
loop-ports-preserved c =
    another port_group port_group_takes c.loop-ports.ports.items c.port_group.new.ports.items
    c.in_ok-port_group.field-0 c.loop-ports.self c.port_group.new.self _ c.loop-ports.invariant
    c.if-branch.true c.in_ok-port_group.ensures

pub returns : goal.returns
returns c =
    no_other port_group port_group_takes c.loop-ports.ports.items c.port_group.new.ports.items
    c.in_ok-port_group.field-0 c.loop-ports.self c.port_group.new.self _ c.loop-ports.invariant
    c.if-branch.false c.in_ok-port_group.ensures
