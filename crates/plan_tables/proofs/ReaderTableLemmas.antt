-- Lemmas about the table of the compared cells of each net.
use Rattle.std.proofs.Common.{◌≡◌, ℕ, ◌<◌, false, List, [], length, get_or, Some, subst, arith}
use Rattle.std.specs.Prelude.{slice_get, All}
use Rattle.std.proofs.lemmas.Option.{slice_get-get_or, get_or_from_slice_get}
use Rattle.lists.proofs.ListLemmas.{item_there}
use Rattle.board_defs.specs.declared.board.Net.{Net}
use Rattle.board_defs.specs.declared.board.RawBoard.{RawBoard}
use Rattle.board_defs.specs.BoardRules.{IsBoard}
use Rattle.board_defs.specs.Pins.{data_bits}
use Rattle.board_defs.proofs.Members.{Has, has_place, contains_has, all_from_has}
use Rattle.net_pins.specs.declared.nets.ReaderCell.{ReaderCell}
use Rattle.plan_tables.specs.Tables.{IsReaderCell}
use Rattle.plan_tables.specs.inner.Laid.{steady}
use Rattle.plan_tables.proofs.LaidLemmas.{laid_at}
use Rattle.plan_tables.proofs.PinLemmas.{read_at}

-- item `n` of the table has the compared cells of net `n`
abbrev pub ReadersOf : RawBoard → List (List ReaderCell) → Type 0
ReadersOf board readers =
    (n : ℕ) (net : Net) → slice_get board.nets n ≡ Some net
    → ((r : ReaderCell) → Has (get_or readers n []) r → IsReaderCell board net r)
    × ((r : ReaderCell) → IsReaderCell board net r → Has (get_or readers n []) r)

reader_within : (board : RawBoard) → IsBoard board → (net : Net) (r : ReaderCell) → IsReaderCell board net r → r.position < data_bits board
reader_within board rules net r s =
    let place = has_place s.device.cells s.entry (contains_has s.device.cells s.entry s.is_entry) in
    omega (
      arith,
      s.position_is,
      (laid_at (steady board (λ c. false)) board s.at.part s.device s.entry.num s.is_device
          ((read_at board rules s.at.part s.device s.is_device).num_below place.0 s.entry
          place.1)).0,
    )

pub readers_below : (board : RawBoard) → IsBoard board → (readers : List (List ReaderCell))
    → ReadersOf board readers → length readers ≡ length board.nets →
    All (λ cells. All (λ r. r.position < data_bits board) cells) readers
readers_below board rules readers are long k d less =
    let net = item_there board.nets k (omega (arith, less, long)) in
    let same : get_or readers k []
    ≡ get_or readers k d = get_or_from_slice_get readers k (get_or readers k d) []
    (slice_get-get_or readers k d less) in
    subst (λ (l : List ReaderCell). All (λ r. r.position < data_bits board) l) same
    (all_from_has (λ r. r.position < data_bits board) (get_or readers k [])
    (λ r has. reader_within board rules net.0 r ((are k net.0 net.1).0 r has)))
