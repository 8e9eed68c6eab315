-- The search proves these clauses without the law, too. These answers need the law's clauses.
use Rattle.outer_calls.proofs.number_laws.pieces_share.Goals as goal

pub returns-clause-number : goal.returns-clause-number
returns-clause-number c = c.pieces_share.ensures.number

pub returns-clause-first : goal.returns-clause-first
returns-clause-first c = c.pieces_share.ensures.first

pub returns-clause-next : goal.returns-clause-next
returns-clause-next c = c.pieces_share.ensures.next

pub returns-clause-last : goal.returns-clause-last
returns-clause-last c = c.pieces_share.ensures.last

pub returns-clause-least : goal.returns-clause-least
returns-clause-least c = c.pieces_share.ensures.least

pub returns-clause-most : goal.returns-clause-most
returns-clause-most c = c.pieces_share.ensures.most
