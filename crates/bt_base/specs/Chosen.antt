-- The calls of `put` that are chosen to fail, on a sink in memory. Such a call is named by its number, counted from 1.
use Rattle.std.specs.Prelude.{ℕ, ◌==◌, Bool, List, [], ◌∷◌, min, if◌then◌else◌}
use Rattle.std.specs.List.{list_any}
use Rattle.bt_base.specs.declared.memory.FailingPut.{FailingPut}

-- true if put number `call` is chosen to fail
abbrev pub is_chosen : ℕ → List FailingPut → Bool
is_chosen call failing = list_any (λ f. f.call == call) failing

-- the number of bytes that put number `call` may take if the piece and the room allow `most` bytes
abbrev pub allowed : List FailingPut → ℕ → ℕ → ℕ
allowed [] call most = most
allowed (f ∷ failing) call most = allowed failing call (if f.call == call then min most f.taken else most)
