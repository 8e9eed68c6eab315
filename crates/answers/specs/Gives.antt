-- The relation between a function's result and the answer that a definition gives.
use Rattle.std.specs.Prelude.{Option, Result, Ok, Err, IfSome}

-- The function's result is one that the definition `IsAnswer` allows. `view` maps an Ok value to the value that
-- contracts see, and `told` maps a fault to the fault of the definition. If `told` returns None, memory ran out, and
-- nothing is claimed.
abbrev pub Gives : {U V E F : Type 0} → (E → Option F) → (U → V) → (Result V F → Type 0) → Result U E → Type 0
Gives told view IsAnswer (Ok value) = IsAnswer (Ok (view value))
Gives told view IsAnswer (Err fault) = IfSome (told fault) (λ f. IsAnswer (Err f))
