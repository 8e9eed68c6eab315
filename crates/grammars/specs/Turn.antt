-- How the turns of a repetition end.
use Rattle.std.specs.Prelude.{Bool, true, false}

-- the end of a turn: another turn follows and begins with this state, or this was the last turn and gives this value
pub data Turn (S A : Type 0) : Type 0 where
  again : S → Turn S A
  last : A → Turn S A

-- the end of a turn with this value: another turn follows if and only if the flag is true
abbrev pub turn_of : {A : Type 0} → Bool → A → Turn A A
turn_of true a = again a
turn_of false a = last a
