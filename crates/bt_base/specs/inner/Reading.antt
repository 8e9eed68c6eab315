-- The results of a single read, and of reading an opened file.
use Rattle.std.specs.Prelude.{◌≡◌, ℕ, ◌+◌, Bool, true, List, ◌++◌, length, take, ⊤, IfSome, IsOkAnd, IsErr, IsErrOf, OnOk, Option, Result, Ok, Err}
use Rattle.std.specs.Io.KnownBytes.{Consumes, IsAtEnd}
use Rattle.bt_base.specs.declared.reading.Watched.{Watched}
use Rattle.bt_base.specs.declared.store.FetchFault.{FetchFault}
use Rattle.bt_base.specs.declared.store.FetchFault.TheVariants.{Failed, TooLong}
use Rattle.bt_base.specs.Faults.{is_failed}

-- The read appended `n` bytes to the list: the next bytes of the reader. The number `n` is 0 only at the reader's end.
abbrev pub GivesNext : Option (List ℕ) → Option (List ℕ) → List ℕ → List ℕ → ℕ → Type 0
GivesNext left rest before now n =
    (bytes : List ℕ) × (now ≡ before ++ bytes) × (length bytes ≡ n) × Consumes left rest bytes × (n ≡ 0 → IsAtEnd rest)

-- true if the file could not be opened or a read of it failed
abbrev pub has_failed : {F E : Type 0} → Result (Watched F) E → Bool
has_failed (Ok file) = file.failed
has_failed (Err e) = true

-- The bytes `given` that a fetch read from a file. `opened` is the file as the fetch opened it, and `left` is the same
-- file after the reads. On Ok, `given` has all bytes that the opened file had. On TooLong, it has the first `cap + 1`
-- of them. The result is Failed if and only if the file could not be opened or a read of it failed.
pub record IsHandedOn {F E : Type 0} (remaining : F → Option (List ℕ)) (cap : ℕ)
    (opened left : Result (Watched F) E) (given : List ℕ) (result : Result ⊤ FetchFault) : Type 0
  where
    pub whole : OnOk result (IsOkAnd opened (λ file. IfSome (remaining file.from) (λ text. given ≡ text)))
    pub too_long : IsErrOf result TooLong → IsOkAnd opened (λ file. IfSome (remaining file.from) (λ text. given ≡ take (cap + 1) text))
    pub not_opened : IsErr opened → IsErrOf result Failed
    pub failed : is_failed result ≡ has_failed left
