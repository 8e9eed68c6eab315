use Rattle.std.proofs.Common.{sym, subst}
use Rattle.bsdl_strings.specs.Pieces.{pieces}
use Rattle.bsdl_strings.specs.Faults.{NamesEntry}
use Rattle.bsdl_strings.specs.Strings.{IsNoCompliance}
use Rattle.bsdl_strings.proofs.ComplianceLemmas.{is_compliance, wrong_first, wrong_second}
use Rattle.bsdl_strings.proofs.compliance_string.compliance.Goals as goal

pub returns-in-Err-clause-fault : goal.returns-in-Err-clause-fault
returns-in-Err-clause-fault c =
    subst (NamesEntry (IsNoCompliance c.args.text.now)) (sym c.fault.ensures)
    (wrong_first c.args.text.now c.in-Err.stop c.in-Err.ensures)

pub returns-in-Ok-second_parenthesis-clause-value : goal.returns-in-Ok-second_parenthesis-clause-value
returns-in-Ok-second_parenthesis-clause-value c =
    is_compliance c.args.text.now (pieces c.in-Ok.found.1.now) c.in-Ok.found.0
    c.in-Ok-second_parenthesis.patterns c.in-Ok.ensures c.in-Ok-second_parenthesis.ensures

pub returns-in-Err-second_parenthesis-clause-fault : goal.returns-in-Err-second_parenthesis-clause-fault
returns-in-Err-second_parenthesis-clause-fault c =
    subst (NamesEntry (IsNoCompliance c.args.text.now)) (sym c.fault-in-Err-second_parenthesis.ensures)
    (wrong_second c.args.text.now (pieces c.in-Ok.found.1.now) c.in-Ok.found.0
    c.in-Err-second_parenthesis.stop c.in-Ok.ensures c.in-Err-second_parenthesis.ensures)
