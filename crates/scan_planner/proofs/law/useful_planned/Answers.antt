use Rattle.scan_planner.proofs.ControlLemmas.{net_controls, useful_controls}
use Rattle.scan_planner.proofs.law.useful_planned.Goals as goal

pub returns : goal.returns
returns c board rules = record {
  of_nets = net_controls board rules;
  useful = useful_controls board rules;
  passes = λ passes safe useful. record { safe = safe; controls = λ x pass a e h. useful_controls board rules a (useful x pass a e h) };
}
