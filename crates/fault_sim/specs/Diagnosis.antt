-- The diagnosis of a log: whether every compared bit of the log is the expected bit, and the single faults of the board that explain the
-- log.
use Rattle.std.specs.Prelude.{◌≡◌, ◌⊎◌, Bool, List, [], ◌∷◌, Decides}
use Rattle.board_defs.specs.declared.board.RawBoard.{RawBoard}
use Rattle.board_defs.specs.declared.fault.Single.{Single}
use Rattle.board_defs.specs.Faults.{singles}
use Rattle.tap_defs.specs.board.BoardScans.{svf_row_scans}
use Rattle.tap_defs.specs.board.Explaining.{Explains, IsExpected}

-- `picked` has exactly the items of the list for which P holds, in the order of the list
abbrev pub Picks : {A : Type 0} → (A → Type 0) → List A → List A → Type 0
Picks P [] picked = picked ≡ []
Picks {A} P (x ∷ xs) picked = ((rest : List A) × P x × (picked ≡ x ∷ rest) × Picks P xs rest) ⊎ ((P x → ⊥) × Picks P xs picked)

-- `pass` is true if and only if the log has the shape of the board's test and every compared bit is the expected bit. `faults` are the
-- single faults of the board that explain the log, in the order of the list `singles board`.
pub record IsDiagnosis (board : RawBoard) (log : List (List Bool)) (pass : Bool) (faults : List Single) : Type 0 where
  pub passes : Decides pass (IsExpected board (svf_row_scans board) log)
  pub list : Picks (λ single. Explains board single log) (singles board) faults
