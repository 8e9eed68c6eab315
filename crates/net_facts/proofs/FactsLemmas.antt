-- The code computes the facts that the definitions on the board give.
use Rattle.std.proofs.Common.{◌≡◌, ℕ, ◌+◌, ◌<◌, Bool, true, false, ◌&&◌, ◌||◌, List, [], ◌∷◌, ◌++◌, length, map, take, get_or, Option, Some, None, refl, sym, ◌∙◌, ap}
use Rattle.std.specs.Prelude.{option_map, slice_get}
use Rattle.std.specs.List.{list_any}
use Rattle.std.proofs.lemmas.List.{take_more, map-append}
use Rattle.std.proofs.lemmas.Option.{slice_get-get_or}
use Rattle.lists.proofs.ListLemmas.{list_any-map}
use Rattle.board_defs.specs.declared.device.Cell.{Cell}
use Rattle.board_defs.specs.declared.device.Control.{Control}
use Rattle.board_defs.specs.declared.board.PinAt.{PinAt}
use Rattle.board_defs.specs.declared.board.Net.{Net}
use Rattle.board_defs.specs.declared.board.RawBoard.{RawBoard}
use Rattle.board_defs.specs.declared.board.Drive.{Drive}
use Rattle.board_defs.specs.Pins.{entry_at, drive_by, drive_where, receives, guarded, guarded_of, guarded_at, is_test_pin, is_dark}
use Rattle.board_defs.specs.Decided.{is_always_on}
use Rattle.net_facts.specs.declared.facts.PinFacts.{PinFacts}
use Rattle.net_facts.specs.declared.facts.NetFacts.{NetFacts}
use Rattle.net_facts.specs.Facts.{pin_facts_of, net_facts_of}
use Rattle.net_facts.specs.inner.Facts.{drive_from, drive_where_in, pin_facts_in, pins_in, net_facts_in}
use Rattle.net_facts.proofs.Answered.{map_same}

drive_from_is : (board : RawBoard) (net : Net) (part : ℕ) (cell : Cell) (ctl : Option Control)
    → drive_from (guarded board net) net.pull part cell ctl ≡ drive_by board net part cell ctl
drive_from_is board net part cell None = refl
drive_from_is board net part cell (Some control) = refl

drive_is : (board : RawBoard) (net : Net) (at : Option PinAt)
    → drive_where_in board (guarded board net) net.pull at ≡ drive_where board net at
drive_is board net None = refl
drive_is board net (Some at) = by_entry (entry_at board at)
  where
    by_entry : (entry : Option Cell)
        → option_map (λ cell. drive_from (guarded board net) net.pull at.part cell cell.ctl) entry
        ≡ option_map (λ cell. drive_by board net at.part cell cell.ctl) entry
    by_entry None = refl
    by_entry (Some cell) = ap Some (drive_from_is board net at.part cell cell.ctl)

any_either : {X : Type 0} (f g : X → Bool) (xs : List X) → (list_any f xs || list_any g xs) ≡ list_any (λ x. f x || g x) xs
any_either f g [] = refl
any_either f g (x ∷ xs) = turn (f x) (g x) (list_any f xs) (list_any g xs) ∙ ap (λ t. (f x || g x) || t) (any_either f g xs)
  where
    turn : (a b c d : Bool) → ((a || c) || (b || d)) ≡ ((a || b) || (c || d))
    turn true b c d = refl
    turn false true true d = refl
    turn false true false d = refl
    turn false false c d = refl

-- A net is guarded if `s` is true or some item satisfies `f` or `g`. So a test that looks for `f`, or for `g`, only on a guarded net has
-- the same result as a test that looks on each net.
any_guarded : {X : Type 0} (s : Bool) (f g : X → Bool) (xs : List X)
    → ((s || list_any (λ x. f x || g x) xs) && list_any f xs ≡ list_any f xs)
    × ((s || list_any (λ x. f x || g x) xs) && list_any g xs ≡ list_any g xs)
any_guarded true f g xs = (refl, refl)
any_guarded false f g xs =
    let any = any_either f g xs in (
      ap (λ t. t && list_any f xs) (sym any) ∙ first (list_any f xs) (list_any g xs),
      ap (λ t. t && list_any g xs) (sym any) ∙ second (list_any f xs) (list_any g xs),
    )
  where
    first : (a b : Bool) → ((a || b) && a) ≡ a
    first true b = refl
    first false true = refl
    first false false = refl

    second : (a b : Bool) → ((a || b) && b) ≡ b
    second true b = refl
    second false true = refl
    second false false = refl

pins_are : (board : RawBoard) (net : Net) → pins_in board (guarded board net) net ≡ map (pin_facts_of board net) net.pins
pins_are board net =
    map_same (pin_facts_in board (guarded board net) net.pull) (pin_facts_of board net)
    (λ p. same p.at _ _ (receives board p) (drive_is board net p.at)) net.pins
  where
    same : (at : Option PinAt) (d e : Option Drive) (r : Bool) → d ≡ e → let x : PinFacts =
        record { at = at; drive = d; receives = r } in
        let y : PinFacts = record { at = at; drive = e; receives = r } in
        x ≡ y
    same at d e r h = cc

pub facts_are : (board : RawBoard) (net : Net) → net_facts_in board (guarded board net) net ≡ net_facts_of board net
facts_are board net =
    let any = any_guarded net.supply (is_test_pin board) (is_dark board) net.pins in
    same _ _ _ _ _ _ _ _
    any.0
    any.1
    (ap (λ ps. guarded board net || list_any on ps) (pins_are board net)
    ∙ ap (λ t. guarded board net || t) (list_any-map (pin_facts_of board net) on net.pins))
    (pins_are board net)
  where
    on : PinFacts → Bool
    on pin = is_always_on pin.drive

    same : (t t' d d' k k' : Bool) (pins pins' : List PinFacts) → t ≡ t' → d ≡ d' → k ≡ k' → pins ≡ pins' →
        let x : NetFacts = record {
          supply = net.supply;
          pull = net.pull;
          test_port = t;
          dark = d;
          guarded = guarded board
              net;
          closed = k;
          pins = pins;
        } in
        let y : NetFacts = record {
          supply = net.supply;
          pull = net.pull;
          test_port = t';
          dark = d';
          guarded = guarded
              board net;
          closed = k';
          pins = pins';
        } in
        x ≡ y
    same t t' d d' k k' pins pins' e f h i = cc

pub facts_more : (board : RawBoard) (nets : List Net) (n : ℕ) (net : Net) (flag : Bool)
    (before : List NetFacts) → nets ≡ board.nets → n < length nets → net ≡ get_or nets n net
    → flag ≡ guarded_at board n →
    before ≡ map (net_facts_of board) (take n board.nets)
    → before ++ net_facts_in board flag net ∷ []
    ≡ map (net_facts_of board) (take (n + 1) board.nets)
facts_more board nets n net flag before same less is guards done =
    let at : slice_get board.nets n ≡ Some net = ap (λ l. slice_get l n) (sym same) ∙ slice_get-get_or nets n net less ∙ ap Some (sym is) in
    let flagged : flag ≡ guarded board net = guards ∙ ap (guarded_of board) at in
    let facts : net_facts_in board flag net ≡ net_facts_of board net = ap (λ t. net_facts_in board t net) flagged ∙ facts_are board net in
    let taken : take (n + 1) board.nets ≡ take n board.nets ++ net ∷ [] =
    ap (take (n + 1)) (sym same) ∙ take_more nets n net less
    ∙ ap (λ l. take n l ++ get_or nets n net ∷ []) same
    ∙ ap (λ x. take n board.nets ++ x ∷ []) (sym is) in
    ap (λ l. l ++ net_facts_in board flag net ∷ []) done
    ∙ ap (λ f. map (net_facts_of board) (take n board.nets) ++ f ∷ []) facts
    ∙ sym (map-append (net_facts_of board) (take n board.nets) (net ∷ []))
    ∙ sym (ap (map (net_facts_of board)) taken)
