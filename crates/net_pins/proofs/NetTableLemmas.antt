-- Item `n` of a board's table of drivers has the drivers of net `n`, or none if the net is guarded. Item `n` of its table of compared
-- cells has the compared cells of net `n`.
use Rattle.std.proofs.Common.{◌≡◌, ℕ, List, [], map, get_or, Some, ap, ◌∙◌}
use Rattle.std.specs.Prelude.{slice_get}
use Rattle.std.proofs.lemmas.List.{get_or-map}
use Rattle.std.proofs.lemmas.Option.{slice_get_within, get_or_from_slice_get}
use Rattle.board_defs.specs.declared.board.Net.{Net}
use Rattle.board_defs.specs.declared.board.RawBoard.{RawBoard}
use Rattle.net_pins.specs.declared.net_tables.NetTables.{NetTables}
use Rattle.net_pins.specs.NetCells.{drivers_of, readers_of}
use Rattle.net_pins.specs.Enabled.{drivers_on, readers_on}
use Rattle.net_pins.specs.Tables.{AreNetTables}

row_is : {X Y : Type 0} (f : X → List Y) (xs : List X) (rows : List (List Y)) (k : ℕ) (x : X)
    → rows ≡ map f xs → slice_get xs k ≡ Some x → get_or rows k [] ≡ f x
row_is {X} {Y} f xs rows k x are e =
    ap (λ (l : List (List Y)). get_or l k []) are
    ∙ get_or-map f xs k x [] (slice_get_within xs k x e)
    ∙ ap f (get_or_from_slice_get xs k x x e)

module _ (board : RawBoard) (nets : NetTables) (are : AreNetTables board nets) (n : ℕ) (net : Net)
    (is_net : slice_get board.nets n ≡ Some net) where
  pub drivers_on_is : drivers_on nets n ≡ drivers_of board net
  drivers_on_is = row_is (drivers_of board) board.nets nets.drivers n net are.drivers_are is_net

  pub readers_on_is : readers_on nets n ≡ readers_of board net.pins
  readers_on_is = row_is (λ (x : Net). readers_of board x.pins) board.nets nets.readers n net are.readers_are is_net
