-- `first_pair` looks for a tested driver of each of two nets such that one safe setting enables both drivers. It finds two such drivers
-- if and only if one safe setting observes both nets.
use Rattle.std.proofs.Common.{◌≡◌, ℕ, Bool, true, List, [], Option, Some, None, refl, sym, ◌∙◌}
use Rattle.std.specs.Prelude.{slice_get, find, is_some}
use Rattle.std.proofs.lemmas.Bool.{false_from_ne_true}
use Rattle.lists.proofs.Booleans.{clash}
use Rattle.board_defs.specs.declared.board.Net.{Net}
use Rattle.board_defs.specs.declared.board.RawBoard.{RawBoard}
use Rattle.board_defs.specs.declared.board.Drive.{Drive}
use Rattle.board_defs.specs.Decided.{are_compatible}
use Rattle.board_defs.specs.Passes.{first_pair, pairs_of, tested_drivers}
use Rattle.board_defs.proofs.Members.{Has, any_has, find_has, find_none, has_any, has_pairs_of, pairs_of_has}
use Rattle.net_classes.specs.Pairs.{drivers_at, drivers_there, fit, fits_some, pair_there, pairs_with}
use Rattle.net_classes.specs.inner.Pairs.{some_fit}
use Rattle.net_classes.proofs.Paired.{pairs_are}

pub fit_found : (board : RawBoard) (ds es : List Drive) → some_fit board ds es ≡ is_some (first_pair board ds es)
fit_found board ds es = by_found (first_pair board ds es) refl
  where
    p : Drive × Drive → Bool
    p pair = are_compatible board (Some pair.0) (Some pair.1)

    by_found : (found : Option (Drive × Drive)) → find p (pairs_of ds es) ≡ found → some_fit board ds es ≡ is_some found
    by_found None e = false_from_ne_true (some_fit board ds es) (λ h.
        let x : (d : Drive) × Has ds d × (fits_some board es d ≡ true) = any_has (fits_some board es) ds h in
        let y : (d : Drive) × Has es d × (fit board x.0 d ≡ true) = any_has (fit board x.0) es x.2 in
        clash (fit board x.0 y.0) y.2 (find_none p (pairs_of ds es) (x.0, y.0) e (has_pairs_of ds es x.0 y.0 x.1 y.1)))
    by_found (Some pair) e =
        let x : Has (pairs_of ds es) pair × (p pair ≡ true) = find_has p (pairs_of ds es) pair e in
        let y : Has ds pair.0 × Has es pair.1 = pairs_of_has ds es pair x.0 in
        has_any (fits_some board es) ds pair.0 y.0 (has_any (fit board pair.0) es pair.1 y.1 x.1)

pub there_are : (board : RawBoard) (a b : Option Net)
    → pair_there board a b ≡ some_fit board (drivers_there board a) (drivers_there board b)
there_are board None b = refl
there_are board (Some a) None = sym (false_from_ne_true (some_fit board (tested_drivers board a) []) (λ h.
    let x : (d : Drive) × Has (tested_drivers board a) d
    × (fits_some board [] d ≡ true) = any_has (fits_some board []) (tested_drivers board a) h in
    cc x.2))
there_are board (Some a) (Some b) = sym (pairs_are board a b)

pub pairs_found : (board : RawBoard) (a b : ℕ) → pairs_with board a b ≡ is_some (first_pair board (drivers_at board a) (drivers_at board b))
pairs_found board a b =
    there_are board (slice_get board.nets a) (slice_get board.nets b)
    ∙ fit_found board (drivers_at board a) (drivers_at board b)
