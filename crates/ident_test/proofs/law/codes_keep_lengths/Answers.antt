use Rattle.ident_test.proofs.law.codes_keep_lengths.Goals as goal

pub returns-clause-instruction : goal.returns-clause-instruction
returns-clause-instruction c = λ device code part has. has.ir_length

pub returns-clause-boundary : goal.returns-clause-boundary
returns-clause-boundary c = λ device code part has. has.boundary_length

pub returns-clause-code : goal.returns-clause-code
returns-clause-code c = λ device code part pattern has is. has.code_is pattern is
