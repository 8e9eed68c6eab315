-- Small sample boards with their coverage lists.
use Rattle.std.proofs.Common.{◌≡◌, Bool, true, false, List, [], ◌∷◌, ◌++◌, Some, None, refl}
use Rattle.std.specs.Prelude.{ℕ, codes}
use Rattle.std.specs.List.{flat_map}
use Rattle.std.specs.Fmt.{digits}
use Rattle.board_defs.specs.declared.board.RawBoard.{RawBoard}
use Rattle.board_defs.proofs.Samples.{rcv, ts, bi, two, od, pin, foreign, net, board, crossing, shared, pull}
use Rattle.coverage_list.specs.CoverText.{cover_text}

abbrev lines : List (List ℕ) → List ℕ
lines ls = flat_map (λ l. l ++ 10 ∷ []) ls

-- Net N1 is paired with nets N0 and N2, and those two are not paired with each other.
crossing_list : cover_text crossing ≡ lines (codes "NETS 3 COVERED 3" ∷ codes "PAIR N0 N2" ∷ [])
unfolding cover_text digits
crossing_list = refl

-- the driver of the bidirectional pin is untested, since no other pin of its net can receive
shared_list : cover_text shared ≡ lines (codes "NETS 1 COVERED 1" ∷ codes "DRIVER U1.1" ∷ [])
unfolding cover_text digits
shared_list = refl

-- A board on which net N0 has a pin of a part outside the chain. The pin is dark unless the part is inert.
abbrev beside : Bool → RawBoard
beside inert =
    board (two ∷ rcv ∷ [])
    (net 0 None (pin 0 0 ∷ pin 1 0 ∷ record (foreign (codes "RAM")) { inert = inert } ∷ [])
    ∷ net 1 None (pin 0 2 ∷ pin 1 1 ∷ []) ∷ [])

dark : cover_text (beside false) ≡ lines (codes "NETS 2 COVERED 1" ∷ codes "NET N0 DARK" ∷ [])
unfolding cover_text digits
dark = refl

inert : cover_text (beside true) ≡ lines (codes "NETS 2 COVERED 2" ∷ [])
unfolding cover_text digits
inert = refl

-- An open-drain driver on a net that is not pulled to the driver's disable value is one-sided. No safe setting enables it.
blocked : cover_text (pull (Some false)) ≡ lines (codes "NETS 1 COVERED 0" ∷ codes "NET N0 BLOCKED" ∷ [])
unfolding cover_text digits
blocked = refl

-- if another driver covers the net, the one-sided driver is listed as untested
one_sided : cover_text (board (od ∷ ts ∷ rcv ∷ []) (net 0 None (pin 0 0 ∷ pin 1 0 ∷ pin 2 0 ∷ []) ∷ []))
    ≡ lines (codes "NETS 1 COVERED 1" ∷ codes "DRIVER U1.1" ∷ [])
unfolding cover_text digits
one_sided = refl

-- the receiver of a bidirectional pin is untested if its net has no driver on another pin
lone : cover_text (board (bi ∷ rcv ∷ []) (net 0 None (pin 0 0 ∷ pin 1 0 ∷ []) ∷ net 1 None (pin 1 1 ∷ []) ∷ []))
    ≡ lines (codes "NETS 2 COVERED 1" ∷ codes "NET N1 NODRIVER" ∷ codes "RECEIVER U1.1" ∷ [])
unfolding cover_text digits
lone = refl
