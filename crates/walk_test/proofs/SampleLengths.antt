-- A sample of a log with one row more than the limit allows.
use Rattle.std.proofs.Common.{◌≡◌, length, arith}
use Rattle.walk_test.specs.inner.Reading.{AreLoggedNets, LoggedNets}

long_log : (it : LoggedNets) → length it.log ≡ 4294967296 → AreLoggedNets it → ⊥
long_log it long rules = let most = rules.few in omega (arith, long, most)
