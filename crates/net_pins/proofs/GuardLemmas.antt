-- Flag `n` of the table of guarded nets says whether net `n` is guarded.
use Rattle.std.proofs.Common.{◌≡◌, ℕ, Bool, false, List, map, get_or, Option, Some, None, unwrap_or, refl, sym, ap, ◌∙◌}
use Rattle.std.specs.Prelude.{slice_get, option_map}
use Rattle.std.proofs.lemmas.Option.{slice_get-map, unwrap_or-slice_get}
use Rattle.board_defs.specs.declared.board.Net.{Net}
use Rattle.board_defs.specs.declared.board.RawBoard.{RawBoard}
use Rattle.board_defs.specs.Pins.{guarded, guarded_of, guarded_at}

pub guarded_is : (board : RawBoard) (flags : List Bool) (n : ℕ)
    → flags ≡ map (guarded board) board.nets → get_or flags n false ≡ guarded_at board n
guarded_is board flags n e =
    ap (λ (l : List Bool). get_or l n false) e
    ∙ sym (unwrap_or-slice_get (map (guarded board) board.nets) n false)
    ∙ ap (λ (o : Option Bool). unwrap_or o false) (slice_get-map (guarded board) board.nets n)
    ∙ by_there (slice_get board.nets n)
  where
    by_there : (o : Option Net) → unwrap_or (option_map (guarded board) o) false ≡ guarded_of board o
    by_there None = refl
    by_there (Some net) = refl
