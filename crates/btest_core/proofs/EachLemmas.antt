-- Lemmas about a loop that finds the value of each item of a list. An answer is the list of the
-- values or the first fault.
use Rattle.std.proofs.Common.{◌≡◌, List, [], ◌∷◌, ◌++◌, Result, Ok, Err, ap, sym, refl, subst, inl, inr, append_assoc, append-nil}
use Rattle.btest_core.specs.declared.fault.InputFault.{InputFault}
use Rattle.btest_core.specs.Answers.{EachOf}

-- `front` followed by the values in `answer`, or the fault if `answer` is a fault
abbrev pub behind : {B : Type 0} → List B → Result (List B) InputFault → Result (List B) InputFault
behind front (Ok values) = Ok (front ++ values)
behind front (Err fault) = Err fault

-- for each answer for the items `rest`, `behind front answer` is an answer for all items
abbrev pub Completes : {A B : Type 0} → (A → Result B InputFault → Type 0) → List A → List A → List B → Type 0
Completes {A} {B} IsOf all rest front =
    (answer : Result (List B) InputFault) → EachOf IsOf rest answer
    → EachOf IsOf all (behind front answer)

behind_none : {B : Type 0} (answer : Result (List B) InputFault) → behind [] answer ≡ answer
behind_none (Ok values) = refl
behind_none (Err fault) = refl

pub completes_all : {A B : Type 0} (IsOf : A → Result B InputFault → Type 0) (all : List A) → Completes IsOf all all []
completes_all IsOf all answer are = subst (EachOf IsOf all) (sym (behind_none answer)) are

behind_one : {B : Type 0} (front : List B) (value : B) (answer : Result (List B) InputFault)
    → behind front (behind (value ∷ []) answer) ≡ behind (front ++ value ∷ []) answer
behind_one front value (Ok values) = ap Ok (sym (append_assoc front (value ∷ []) values))
behind_one front value (Err fault) = refl

more_of : {A B : Type 0} (IsOf : A → Result B InputFault → Type 0) (item : A) (rest : List A)
    (value : B) → IsOf item (Ok value) → (answer : Result (List B) InputFault)
    → EachOf IsOf rest answer → EachOf IsOf (item ∷ rest) (behind (value ∷ []) answer)
more_of IsOf item rest value is (Ok values) are = inl (value, is, inl (values, are, refl))
more_of IsOf item rest value is (Err fault) are = inl (value, is, inr (fault, are, refl))

pub completes_more : {A B : Type 0} (IsOf : A → Result B InputFault → Type 0) (all : List A)
    (item : A) (rest : List A) (front : List B) (value : B) → Completes IsOf all (item ∷ rest) front
    → IsOf item (Ok value) → Completes IsOf all rest (front ++ value ∷ [])
completes_more IsOf all item rest front value completes is answer are =
    subst (EachOf IsOf all) (behind_one front value answer)
    (completes (behind (value ∷ []) answer) (more_of IsOf item rest value is answer are))

pub completes_fault : {A B : Type 0} (IsOf : A → Result B InputFault → Type 0) (all : List A)
    (item : A) (rest : List A) (front : List B) (fault : InputFault)
    → Completes IsOf all (item ∷ rest) front → IsOf item (Err fault) → EachOf IsOf all (Err fault)
completes_fault IsOf all item rest front fault completes is = completes (Err fault) (inr (fault, is, refl))

pub completes_end : {A B : Type 0} (IsOf : A → Result B InputFault → Type 0) (all : List A)
    (front : List B) → Completes IsOf all [] front → EachOf IsOf all (Ok front)
completes_end IsOf all front completes = subst (λ values. EachOf IsOf all (Ok values)) (append-nil front) (completes (Ok []) refl)
