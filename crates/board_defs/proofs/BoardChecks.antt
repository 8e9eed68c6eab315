-- A Boolean test of all rules of boards, and the proof that a board that passes it keeps the rules. The proofs about sample boards
-- compute the test.
use Rattle.std.proofs.Common.{◌≡◌, ◌≢◌, ℕ, ◌<◌, Bool, true, false, not, ◌&&◌, ◌||◌, List, length, Option, Some, None, refl, sym, ◌∙◌, ap, ◌⊎◌, inl, inr}
use Rattle.std.specs.Prelude.{slice_get, All, nat_le, is_none, sum_by}
use Rattle.std.specs.List.{list_any, list_all}
use Rattle.std.proofs.lemmas.Bool.{not-true, and_parts, and_from, leb-true, cases_order}
use Rattle.board_defs.specs.declared.device.PortBit.{PortBit}
use Rattle.board_defs.specs.declared.device.RawDevice.{RawDevice}
use Rattle.board_defs.specs.declared.board.PartKind.{PartKind}
use Rattle.board_defs.specs.declared.board.PartKind.TheVariants.{Described, Bypass}
use Rattle.board_defs.specs.declared.board.Part.{Part}
use Rattle.board_defs.specs.declared.board.PinAt.{PinAt}
use Rattle.board_defs.specs.declared.board.NetPin.{NetPin}
use Rattle.board_defs.specs.declared.board.Net.{Net}
use Rattle.board_defs.specs.declared.board.RawBoard.{RawBoard}
use Rattle.board_defs.specs.Pins.{described, data_bits, is_test_pin, is_same, drive}
use Rattle.board_defs.specs.BoardRules.{IsPart, PinsDiffer, IsPlaced, IsPlacedAt, AreInertAlike, NoGuardedDriver, OneAlwaysOn, IsBoard}
use Rattle.board_defs.specs.Decided.{is_always_on}
use Rattle.board_defs.proofs.Checks.{all_by, item_by, later_pass, later_by, pairs_by, one_by, two_pass, two_by, same_text, same_text_of, text_of, texts_differ, implied, not_shared}
use Rattle.board_defs.proofs.DeviceChecks.{device_passes, device_of, same_pin}
use Rattle.board_defs.proofs.SameBits.{same_of_is_same}

abbrev part_passes : PartKind → Bool
part_passes (Described device) = device_passes device
part_passes (Bypass n) = nat_le 2 n && nat_le n 255

part_of : (kind : PartKind) → part_passes kind ≡ true → IsPart kind
part_of (Described device) h = device_of device h
part_of (Bypass n) h = let parts = and_parts (nat_le 2 n) (nat_le n 255) h in (leb-true 2 n parts.0, leb-true n 255 parts.1)

-- the two pins have the same part and the same pin name
abbrev same_name : NetPin → NetPin → Bool
same_name p q = same_text p.part q.part && same_text p.pin q.pin

abbrev nets_apart : Net → Net → Bool
nets_apart x y = two_pass (λ p q. not (same_name p q)) x.pins y.pins

-- no pin occurs twice in the nets
abbrev pins_pass : RawBoard → Bool
pins_pass b = list_all (λ net. later_pass (λ p q. not (same_name p q)) net.pins) b.nets && later_pass nets_apart b.nets

same_name_of : (p q : NetPin) → p.part ≡ q.part → p.pin ≡ q.pin → same_name p q ≡ true
same_name_of p q a b =
    and_from (same_text p.part q.part) (same_text p.pin q.pin) (same_text_of p.part q.part a)
    (same_text_of p.pin q.pin b)

pins_of : (b : RawBoard) → pins_pass b ≡ true → PinsDiffer b
pins_of b h m n i j first second p q s t same_part same_pin = by_order (cases_order m n)
  where
    parts :
        (list_all (λ (net : Net). later_pass (λ p q. not (same_name p q)) net.pins) b.nets ≡ true)
        × (later_pass nets_apart b.nets ≡ true)
    parts = and_parts (list_all (λ (net : Net). later_pass (λ p q. not (same_name p q)) net.pins) b.nets) (later_pass nets_apart b.nets) h

    by_order : (m ≡ n) ⊎ ((m < n) ⊎ (n < m)) → (m ≡ n) × (i ≡ j)
    by_order (inl e) =
        let got : slice_get b.nets m ≡ Some second = ap (slice_get b.nets) e ∙ t.on_board in
        let two : Some first ≡ Some second = sym s.on_board ∙ got in
        let net : first ≡ second = cc two in
        let at : slice_get first.pins j ≡ Some q = ap (λ (v : Net). slice_get v.pins j) net ∙ t.in_net in (
          e,
          one_by same_name first.pins
              (item_by (λ (net : Net). later_pass (λ p q. not (same_name p q)) net.pins) b.nets m
              first parts.0 s.on_board) i j p q s.in_net at (same_name_of p q same_part same_pin)
              (same_name_of q p (sym same_part) (sym same_pin)),
        )
    by_order (inr (inl less)) =
        absurd
        (not_shared (same_name p q)
        (two_by (λ (x y : NetPin). not (same_name x y)) first.pins second.pins i j p q
        (later_by nets_apart b.nets parts.1 m n first second less s.on_board t.on_board)
        s.in_net t.in_net) (same_name_of p q same_part same_pin))
    by_order (inr (inr less)) =
        absurd
        (not_shared (same_name q p)
        (two_by (λ (x y : NetPin). not (same_name x y)) second.pins first.pins j i q p
        (later_by nets_apart b.nets parts.1 n m second first less t.on_board s.on_board)
        t.in_net s.in_net) (same_name_of q p (sym same_part) (sym same_pin)))

-- the port bit exists, and its pin has the name of `pin`
abbrev placed_bit : NetPin → Option PortBit → Bool
placed_bit pin None = false
placed_bit pin (Some bit) = same_pin bit.pin (Some pin.pin)

abbrev placed_device : NetPin → PinAt → Option RawDevice → Bool
placed_device pin at None = false
placed_device pin at (Some device) = placed_bit pin (slice_get device.bits at.bit)

abbrev placed_part : NetPin → PinAt → Option Part → Bool
placed_part pin at None = false
placed_part pin at (Some part) = same_text part.name pin.part && placed_device pin at (described part.kind)

-- the place of the pin is right, or the pin has none and no described part has the name of its part
abbrev placed_passes : RawBoard → NetPin → Option PinAt → Bool
placed_passes b pin None = list_all (λ part. not (same_text part.name pin.part) || is_none (described part.kind)) b.chain
placed_passes b pin (Some at) = placed_part pin at (slice_get b.chain at.part)

none_of : (o : Option RawDevice) → is_none o ≡ true → o ≡ None
none_of None h = refl
none_of (Some d) h = cc h

pin_of : (w : Option (List ℕ)) (pin : List ℕ) → same_pin w (Some pin) ≡ true → w ≡ Some pin
pin_of None pin h = cc h
pin_of (Some p) pin h = ap Some (text_of p pin h)

placed_of : (b : RawBoard) (pin : NetPin) (at : Option PinAt) → placed_passes b pin at ≡ true → IsPlaced b pin at
placed_of b pin None h =
    all_by (λ (part : Part). part.name ≡ pin.part → described part.kind ≡ None)
    (λ part. not (same_text part.name pin.part) || is_none (described part.kind))
    (λ part e same. none_of (described part.kind)
    (implied (same_text part.name pin.part) (is_none (described part.kind)) e
    (same_text_of part.name pin.part same))) b.chain h
placed_of b pin (Some at) h = by_part (slice_get b.chain at.part) refl h
  where
    by_bit : (part : Part) → slice_get b.chain at.part ≡ Some part → part.name ≡ pin.part
        → (device : RawDevice) → described part.kind ≡ Some device → (w : Option PortBit)
        → slice_get device.bits at.bit ≡ w → placed_bit pin w ≡ true → IsPlacedAt b pin at
    by_bit part ep name device ed None e k = cc k
    by_bit part ep name device ed (Some bit) e k =
        record {
          part = part;
          in_chain = ep;
          named = name;
          device = device;
          is_described = ed;
          bit = bit;
          in_device = e;
          has_pin = pin_of bit.pin pin.pin k;
        }

    by_device : (part : Part) → slice_get b.chain at.part ≡ Some part → part.name ≡ pin.part
        → (w : Option RawDevice) → described part.kind ≡ w → placed_device pin at w ≡ true
        → IsPlacedAt b pin at
    by_device part ep name None e k = cc k
    by_device part ep name (Some device) e k = by_bit part ep name device e (slice_get device.bits at.bit) refl k

    by_part : (w : Option Part) → slice_get b.chain at.part ≡ w → placed_part pin at w ≡ true → IsPlacedAt b pin at
    by_part None e k = cc k
    by_part (Some part) e k =
        let parts = and_parts (same_text part.name pin.part) (placed_device pin at (described part.kind)) k in
        by_device part e (text_of part.name pin.part parts.0) (described part.kind) refl parts.1

-- the pin is not inert, or its part is not in the chain
abbrev inert_passes : RawBoard → NetPin → Bool
inert_passes b pin = not pin.inert || list_all (λ part. not (same_text part.name pin.part)) b.chain

abbrev pins_agree : NetPin → NetPin → Bool
pins_agree p q = not (same_text p.part q.part) || is_same p.inert q.inert

abbrev nets_agree : Net → Net → Bool
nets_agree x y = two_pass pins_agree x.pins y.pins

inert_of : (b : RawBoard) → list_all (λ net. list_all (inert_passes b) net.pins) b.nets ≡ true
    → two_pass nets_agree b.nets b.nets ≡ true → AreInertAlike b
inert_of b h k = record {
  in_chain =
      all_by
      (λ (net : Net). All (λ pin. pin.inert ≡ true → All (λ part. part.name ≢ pin.part) b.chain)
      net.pins) (λ net. list_all (inert_passes b) net.pins)
      (λ net e. all_by (λ (pin : NetPin). pin.inert ≡ true → All (λ part. part.name ≢ pin.part) b.chain) (inert_passes b)
      (λ pin w on. all_by (λ (part : Part). part.name ≢ pin.part)
      (λ part. not (same_text part.name pin.part))
      (λ part u. texts_differ part.name pin.part u) b.chain
      (implied pin.inert
      (list_all (λ (part : Part). not (same_text part.name pin.part)) b.chain) w on))
      net.pins e)
      b.nets h;
  agree = λ m n i j first second p q s t same.
      same_of_is_same p.inert q.inert
      (implied (same_text p.part q.part) (is_same p.inert q.inert)
      (two_by pins_agree first.pins second.pins i j p q
      (two_by nets_agree b.nets b.nets m n first second k s.on_board t.on_board) s.in_net
      t.in_net) (same_text_of p.part q.part same));
}

-- if the pin has an always-on driver, the net is not a supply net and has no TAP pin and no pin that compliance patterns name
abbrev drives_freely : RawBoard → Net → NetPin → Bool
drives_freely b net pin = not (is_always_on (drive b net pin)) || (not net.supply && not (list_any (is_test_pin b) net.pins))

free_of : (b : RawBoard) → list_all (λ net. list_all (drives_freely b net) net.pins) b.nets ≡ true → NoGuardedDriver b
free_of b h n place net pin st on =
    let there : drives_freely b net pin
    ≡ true = item_by (drives_freely b net) net.pins place pin
    (item_by (λ (v : Net). list_all (drives_freely b v) v.pins) b.nets n net h st.on_board)
    st.in_net in
    let parts = and_parts (not net.supply) (not (list_any (is_test_pin b) net.pins))
    (implied (is_always_on (drive b net pin))
    (not net.supply && not (list_any (is_test_pin b) net.pins)) there (ap is_always_on on)) in
    (not-true net.supply parts.0, not-true (list_any (is_test_pin b) net.pins) parts.1)

abbrev both_on : RawBoard → Net → NetPin → NetPin → Bool
both_on b net p q = is_always_on (drive b net p) && is_always_on (drive b net q)

one_of : (b : RawBoard) → list_all (λ net. later_pass (λ p q. not (both_on b net p q)) net.pins) b.nets ≡ true → OneAlwaysOn b
one_of b h n net i j p q en ei ej ne dp dq =
    ne
    (one_by (both_on b net) net.pins
    (item_by (λ (v : Net). later_pass (λ p q. not (both_on b v p q)) v.pins) b.nets n net h en)
    i j p q ei ej
    (and_from (is_always_on (drive b net p)) (is_always_on (drive b net q)) (ap is_always_on dp) (ap is_always_on dq))
    (and_from (is_always_on (drive b net q)) (is_always_on (drive b net p)) (ap is_always_on dq) (ap is_always_on dp)))

-- the board keeps all rules of boards
abbrev pub board_passes : RawBoard → Bool
board_passes b =
    nat_le 1 (length b.chain) &&
    (nat_le (length b.chain) 255 &&
    (later_pass (λ x y. not (same_text x.name y.name)) b.chain &&
    (list_all (λ part. part_passes part.kind) b.chain
    &&
    (nat_le (data_bits b) 65535 &&
    (nat_le (length b.nets) 16382 &&
    (later_pass (λ x y. not (same_text x.name y.name)) b.nets &&
    (nat_le (sum_by (λ net. length net.pins) b.nets) 65535
    &&
    (pins_pass b &&
    (list_all (λ net. list_all (λ pin. placed_passes b pin pin.at) net.pins) b.nets &&
    (list_all (λ net. list_all (inert_passes b) net.pins) b.nets &&
    (two_pass nets_agree b.nets b.nets
    &&
    (list_all (λ net. list_all (drives_freely b net) net.pins) b.nets && list_all
    (λ net. later_pass (λ p q. not (both_on b net p q)) net.pins) b.nets))))))))))))

pub board_of : (b : RawBoard) → board_passes b ≡ true → IsBoard b
board_of b h =
    let a = and_parts (nat_le 1 (length b.chain)) _ h in
    let c = and_parts (nat_le (length b.chain) 255) _ a.1 in
    let d = and_parts (later_pass (λ (x y : Part). not (same_text x.name y.name)) b.chain) _ c.1 in
    let e = and_parts (list_all (λ (part : Part). part_passes part.kind) b.chain) _ d.1 in
    let f = and_parts (nat_le (data_bits b) 65535) _ e.1 in
    let g = and_parts (nat_le (length b.nets) 16382) _ f.1 in
    let i = and_parts (later_pass (λ (x y : Net). not (same_text x.name y.name)) b.nets) _ g.1 in
    let j = and_parts (nat_le (sum_by (λ (net : Net). length net.pins) b.nets) 65535) _ i.1 in
    let k = and_parts (pins_pass b) _ j.1 in
    let l = and_parts (list_all (λ (net : Net). list_all (λ (pin : NetPin). placed_passes b pin pin.at) net.pins) b.nets) _ k.1 in
    let m = and_parts (list_all (λ (net : Net). list_all (inert_passes b) net.pins) b.nets) _ l.1 in
    let n = and_parts (two_pass nets_agree b.nets b.nets) _ m.1 in
    let o = and_parts (list_all (λ (net : Net). list_all (drives_freely b net) net.pins) b.nets)
    (list_all (λ (net : Net). later_pass (λ p q. not (both_on b net p q)) net.pins) b.nets) n.1
    in
    record {
      chain_some = leb-true 1 (length b.chain) a.0;
      chain_most = leb-true (length b.chain) 255 c.0;
      names_differ =
          pairs_by (λ (x y : Part). x.name ≢ y.name) (λ x y. not (same_text x.name y.name))
          (λ x y w. texts_differ x.name y.name w) b.chain d.0;
      parts = all_by (λ (part : Part). IsPart part.kind) (λ part. part_passes part.kind) (λ part w. part_of part.kind w) b.chain e.0;
      data_most = leb-true (data_bits b) 65535 f.0;
      nets_most = leb-true (length b.nets) 16382 g.0;
      nets_differ =
          pairs_by (λ (x y : Net). x.name ≢ y.name) (λ x y. not (same_text x.name y.name))
          (λ x y w. texts_differ x.name y.name w) b.nets i.0;
      pins_most = leb-true (sum_by (λ (net : Net). length net.pins) b.nets) 65535 j.0;
      pins_differ = pins_of b k.0;
      placed =
          all_by (λ (net : Net). All (λ pin. IsPlaced b pin pin.at) net.pins)
          (λ net. list_all (λ pin. placed_passes b pin pin.at) net.pins)
          (λ net w. all_by (λ (pin : NetPin). IsPlaced b pin pin.at)
          (λ pin. placed_passes b pin pin.at) (λ pin u. placed_of b pin pin.at u) net.pins w)
          b.nets l.0;
      inert = inert_of b m.0 n.0;
      no_guarded_driver = free_of b o.0;
      one_always_on = one_of b o.1;
    }
