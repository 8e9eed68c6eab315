use Rattle.std.proofs.Common.{subst, sym}
use Rattle.bt_base.specs.Puts.{Puts}
use Rattle.btest_core.specs.declared.fault.InputFault.{InputFault}
use Rattle.refusal_lines.specs.NamesView.{names_view}
use Rattle.refusal_lines.specs.Refusals.{input_fault_line}
use Rattle.refusal_lines.proofs.texts.put_input_fault.Goals as goal

pub returns-in-NoIdent : goal.returns-in-NoIdent
returns-in-NoIdent g c =
    subst
    (λ (fault : InputFault). Puts (g.N.Sink.shown c.args.notes.now)
    (g.N.Sink.shown c.put_at_line.new.notes)
    (input_fault_line (names_view c.args.names) fault) c.put_at_line.result)
    (sym c.in-NoIdent.is) c.put_at_line.ensures
