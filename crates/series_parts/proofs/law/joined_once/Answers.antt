use Rattle.series_parts.proofs.RelationLemmas.{files_joined, files_once}
use Rattle.series_parts.proofs.law.joined_once.Goals as goal

pub returns-clause-joined : goal.returns-clause-joined
returns-clause-joined c = λ chain nets. files_joined chain nets

pub returns-clause-once : goal.returns-clause-once
returns-clause-once c = λ chain nets new_chain new_nets h. files_once chain nets new_chain new_nets h
