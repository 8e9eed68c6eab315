-- The answer of several steps: the value of the last step, or the first fault.
use Rattle.std.specs.Prelude.{◌≡◌, ◌⊎◌, List, [], ◌∷◌, Option, Some, None, Result, Ok, Err}
use Rattle.btest_core.specs.declared.fault.InputFault.{InputFault}
use Rattle.btest_core.specs.declared.fault.InputFault.TheVariants.{Memory}

-- the answer of two steps: the answer that the second step gives for the first step's value, or the
-- first step's fault
abbrev pub IsAnswerOfSteps : {A B : Type 0} → (Result A InputFault → Type 0)
    → (A → Result B InputFault → Type 0) → Result B InputFault → Type 0
IsAnswerOfSteps {A} first next answer =
    ((value : A) × first (Ok value) × next value answer) ⊎ ((fault : InputFault) × first (Err fault) × (answer ≡ Err fault))

-- the answer is `this`
abbrev pub Is : {A : Type 0} → Result A InputFault → Result A InputFault → Type 0
Is this answer = answer ≡ this

-- the answer for a list of items: the list of their values, or the fault of the first item
-- that has a fault
abbrev pub EachOf : {A B : Type 0} → (A → Result B InputFault → Type 0) → List A → Result (List B) InputFault → Type 0
EachOf IsOf [] answer = Is (Ok []) answer
EachOf IsOf (item ∷ items) answer =
    IsAnswerOfSteps (IsOf item)
    (λ value. IsAnswerOfSteps (EachOf IsOf items) (λ values. Is (Ok (value ∷ values)))) answer

-- the fault, or None if memory ran out; the definitions of answers assume enough memory
abbrev pub input_told : InputFault → Option InputFault
input_told (Memory error) = None
input_told fault = Some fault
