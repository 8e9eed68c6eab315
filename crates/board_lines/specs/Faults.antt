-- Operators that combine the results of rules, so that the first fault is the result.
use Rattle.std.specs.Prelude.{Option, Some, None, Result, Ok, Err}
use Rattle.board_lines.specs.declared.fault.BoardFault.{BoardFault}
use Rattle.board_lines.specs.declared.fault.BoardFault.TheVariants.{Memory}

-- the fault of the first rule, or else the fault of the second, if there is one
infixr 20 ◌then◌
abbrev pub ◌then◌ : {F : Type 0} → Option F → Option F → Option F
None then after = after
(Some fault) then after = Some fault

-- the fault, if there is one, or else the value
abbrev pub unless : {V F : Type 0} → Option F → V → Result V F
unless None value = Ok value
unless (Some fault) value = Err fault

-- the fault, or None if memory ran out; the definitions of results assume enough memory
abbrev pub board_told : BoardFault → Option BoardFault
board_told (Memory e) = None
board_told fault = Some fault
