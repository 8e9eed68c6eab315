-- The limit on the number of workers.
use Rattle.std.specs.Prelude.{ℕ}

-- the largest number of workers
abbrev pub most_workers : ℕ
most_workers = 64
