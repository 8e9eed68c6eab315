-- Sets of faults of a board: stuck nets, open pins and shorts.
use Rattle.std.specs.Prelude.{◌≡◌, ◌≢◌, ◌⊎◌, ℕ, Bool, Option, Some, None}
use Rattle.board_defs.specs.declared.board.RawBoard.{RawBoard}
use Rattle.board_defs.specs.Coverage.{IsCovered, ArePaired, IsTestedDriver, IsTestedReceiver}

-- The kind of a short, which says how the bits of its nets are combined: into their And, into their Or, or into the bit
-- of the dominant net, whose number is given. `NetBits` says which bits these are.
pub data ShortKind : Type 0 where
  And : ShortKind
  Or : ShortKind
  Dominant : ℕ → ShortKind

-- A set of faults: the constant of each stuck net, the constant of each open pin, the number of the short
-- that each shorted net belongs to, and the kind of each short. `opened` takes the number of a net and the
-- index of a pin in the net. A net is stuck at only one constant, and is in only one short.
pub record FaultSet : Type 0 where
  pub stuck : ℕ → Option Bool
  pub opened : ℕ → ℕ → Option Bool
  pub short : ℕ → Option ℕ
  pub kind : ℕ → ShortKind

-- the empty set of faults
abbrev pub no_faults : FaultSet
no_faults = record { stuck = λ n. None; opened = λ n i. None; short = λ n. None; kind = λ k. And }

-- The faults are a fault set of the board. No stuck net is in a short. Each short has two or more nets, and
-- all of them are covered, which means that some safe setting observes them. A dominant net belongs to its
-- short.
pub record IsFaultSet (board : RawBoard) (faults : FaultSet) : Type 0 where
  pub disjoint : (n : ℕ) (v : Bool) → faults.stuck n ≡ Some v → faults.short n ≡ None
  pub several : (n k : ℕ) → faults.short n ≡ Some k → (m : ℕ) × (m ≢ n) × (faults.short m ≡ Some k)
  pub covered : (n k : ℕ) → faults.short n ≡ Some k → IsCovered board n
  pub dominant : (n k d : ℕ) → faults.short n ≡ Some k → faults.kind k ≡ Dominant d → faults.short d ≡ Some k

-- The faults are an observable fault set of the board: they are a fault set of the board, each stuck net is
-- covered, each open pin is tested as a driver or as a receiver, and each short has two paired nets. Paired
-- means that one safe setting observes both nets.
pub record IsObservable (board : RawBoard) (faults : FaultSet) : Type 0 where
  pub is_set : IsFaultSet board faults
  pub stuck : (n : ℕ) (v : Bool) → faults.stuck n ≡ Some v → IsCovered board n
  pub opened : (n i : ℕ) (v : Bool) → faults.opened n i ≡ Some v → IsTestedDriver board n i ⊎ IsTestedReceiver board n i
  pub shorts : (n k : ℕ) → faults.short n ≡ Some k → (a b : ℕ) × (faults.short a ≡ Some k) × (faults.short b ≡ Some k) × ArePaired board a b

-- there is at least one fault
pub data IsNonempty (faults : FaultSet) : Type 0 where
  some_stuck : (n : ℕ) (v : Bool) → faults.stuck n ≡ Some v → IsNonempty faults
  some_open : (n i : ℕ) (v : Bool) → faults.opened n i ≡ Some v → IsNonempty faults
  some_short : (n k : ℕ) → faults.short n ≡ Some k → IsNonempty faults
