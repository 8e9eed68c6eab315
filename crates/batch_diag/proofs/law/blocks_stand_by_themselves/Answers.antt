use Rattle.batch_diag.proofs.OwnLemmas.{blocks_by_themselves, fault_by_itself, diagnoses_by_themselves}
use Rattle.batch_diag.proofs.law.blocks_stand_by_themselves.Goals as goal

pub returns-clause-logs : goal.returns-clause-logs
returns-clause-logs c = blocks_by_themselves

pub returns-clause-fault : goal.returns-clause-fault
returns-clause-fault c = fault_by_itself

pub returns-clause-diagnoses : goal.returns-clause-diagnoses
returns-clause-diagnoses c = diagnoses_by_themselves
