-- Lemmas about the operators that combine faults, and about limits.
use Rattle.std.proofs.Common.{◌≡◌, ℕ, ◌≤◌, Bool, true, false, cond, Option, Some, None, Result, Err, refl, arith, nat_lt}
use Rattle.std.specs.Prelude.{IfSome}
use Rattle.board_lines.specs.declared.fault.BoardFault.{BoardFault}
use Rattle.board_lines.specs.declared.fault.BoardFault.TheVariants.{NoChain, PartTwice, NoEntity, EntityTwice, NoPin, PinTwice, InertInChain, NoSupplyNet, GuardedDriver, TwoAlwaysOn, Limit, NoPullNet, PullTwice, Memory}
use Rattle.board_lines.specs.Faults.{◌then◌, board_told}

pub told_as : {V : Type 0} (said : Result V BoardFault) (fault : BoardFault) → said ≡ Err fault
    → IfSome (board_told fault) (λ f. said ≡ Err f)
told_as said NoChain is = is
told_as said (PartTwice spot) is = is
told_as said (NoEntity spot) is = is
told_as said (EntityTwice text) is = is
told_as said (NoPin spot) is = is
told_as said (PinTwice spot) is = is
told_as said (InertInChain spot) is = is
told_as said (NoSupplyNet spot) is = is
told_as said (GuardedDriver spot) is = is
told_as said (TwoAlwaysOn spot) is = is
told_as said (Limit which) is = is
told_as said (NoPullNet spot) is = is
told_as said (PullTwice spot) is = is
told_as said (Memory e) is = tt

pub then_none : {F : Type 0} (a b : Option F) → (a then b) ≡ None → (a ≡ None) × (b ≡ None)
then_none None b e = (refl, e)
then_none (Some f) b e = cc e

pub limit_kept : (k n : ℕ) (fault : BoardFault) → cond (nat_lt k n) (Some fault) None ≡ None → n ≤ k
limit_kept k n fault h = by_test (nat_lt k n) refl h
  where
    by_test : (b : Bool) → nat_lt k n ≡ b → cond b (Some fault) None ≡ None → n ≤ k
    by_test true e f = cc f
    by_test false e f = grind arith
