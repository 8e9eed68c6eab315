-- Lemmas about the answer of two steps, of which the second takes the value of the first. An answer
-- is a value or the first fault.
use Rattle.std.proofs.Common.{inl, inr, Result, Ok, Err, refl}
use Rattle.std.specs.Prelude.{IfSome}
use Rattle.std.proofs.lemmas.Option.{IfSome_then}
use Rattle.btest_core.specs.declared.fault.InputFault.{InputFault}
use Rattle.answers.specs.Gives.{Gives}
use Rattle.btest_core.specs.Answers.{IsAnswerOfSteps, input_told}

pub gives_more : {U V : Type 0} (view : U → V) (P Q : Result V InputFault → Type 0)
    (answer : Result U InputFault) → ((a : Result V InputFault) → P a → Q a)
    → Gives input_told view P answer → Gives input_told view Q answer
gives_more view P Q (Ok value) more is = more (Ok (view value)) is
gives_more view P Q (Err fault) more is = IfSome_then (input_told fault) is (λ f. more (Err f))

-- if the first step returns a value, the answer of the next step for this value is the answer of
-- both steps
pub goes_on : {W U V : Type 0} (view : U → V) (first : Result W InputFault → Type 0)
    (next : W → Result V InputFault → Type 0) (value : W) (answer : Result U InputFault)
    → first (Ok value) → Gives input_told view (next value) answer
    → Gives input_told view (IsAnswerOfSteps first next) answer
goes_on view first next value answer found is =
    gives_more view (next value) (IsAnswerOfSteps first next) answer (λ a n. inl (value, found, n))
    is

-- a fault of the first step, other than lack of memory, is the answer of both steps
pub stops : {W V : Type 0} (first : Result W InputFault → Type 0)
    (next : W → Result V InputFault → Type 0) (fault : InputFault)
    → IfSome (input_told fault) (λ f. first (Err f))
    → IfSome (input_told fault) (λ f. IsAnswerOfSteps first next (Err f))
stops first next fault is = IfSome_then (input_told fault) is (λ f found. inr (f, found, refl))
