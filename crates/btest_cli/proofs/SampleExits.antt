-- Samples of the six exit statuses, as the guide lists them: done, refused, words that are no command, a text not read, a failed write, and
-- memory that ran out.
use Rattle.std.proofs.Common.{◌≡◌, [], ◌∷◌, map, refl}
use Rattle.btest_cli.specs.declared.status.Status.TheVariants.{Done, Refused, Usage, ReadFault, WriteFault, NoMemory}
use Rattle.btest_cli.specs.ExitNumbers.{exit_number}

pub exit_numbers : map exit_number (Done ∷ Refused ∷ Usage ∷ ReadFault ∷ WriteFault ∷ NoMemory ∷ []) ≡ 0 ∷ 1 ∷ 2 ∷ 3 ∷ 4 ∷ 5 ∷ []
exit_numbers = refl
