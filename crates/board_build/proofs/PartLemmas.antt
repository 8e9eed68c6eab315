-- The parts of a chain, and the places of their pins.
use Rattle.std.proofs.Common.{◌≡◌, ◌≢◌, ℕ, suc, ◌+◌, Bool, true, false, cond, ◌&&◌, List, [], ◌∷◌, length, map, Option, Some, None, refl, sym, ap, subst, ◌∙◌, arith, ◌⊎◌, inl, inr}
use Rattle.std.specs.Prelude.{slice_get, find, is_some, is_none, option_map}
use Rattle.std.specs.List.{AllByRecursion, position_from, cons_option}
use Rattle.std.specs.Cmp.Lexicographic.{same_text, other_text}
use Rattle.std.proofs.lemmas.Bool.{and_parts}
use Rattle.std.proofs.lemmas.List.Elements.{All-from_recursion}
use Rattle.board_files.specs.declared.chain_file.ChainLine.{ChainLine}
use Rattle.board_files.specs.declared.chain_file.ChainStatement.{ChainStatement}
use Rattle.board_files.specs.declared.chain_file.ChainStatement.TheVariants.{Device, Bypass as BypassLine, Inert as InertLine, Supply as SupplyLine, Pull as PullLine, Link}
use Rattle.board_defs.specs.declared.device.PortBit.{PortBit}
use Rattle.board_defs.specs.declared.device.RawDevice.{RawDevice}
use Rattle.board_defs.specs.declared.board.Part.{Part}
use Rattle.board_defs.specs.declared.board.PartKind.{PartKind}
use Rattle.board_defs.specs.declared.board.PartKind.TheVariants.{Described, Bypass}
use Rattle.board_defs.specs.declared.board.PinAt.{PinAt}
use Rattle.board_defs.specs.declared.board.RawBoard.{RawBoard}
use Rattle.board_defs.specs.Pins.{described}
use Rattle.board_defs.specs.BoardRules.{IsPlaced, IsPlacedAt}
use Rattle.board_defs.proofs.Members.{Has, has_append, find_has}
use Rattle.board_lines.specs.declared.names.Naming.TheVariants.{Part as PartName, Entity as EntityName}
use Rattle.board_files.specs.Names.{same_word}
use Rattle.board_lines.specs.Names.{named, names_of, with_name, part_of, entity_of}
use Rattle.board_lines.specs.NetWords.{Pin, same_pin, is_among}
use Rattle.board_lines.specs.ChainParts.{PinPlace, chain_parts, part_of_line, devices_after, bit_places, with_place, part_places, places_from, pin_places, place_of_pin, name_if_described, described_names}
use Rattle.board_build.specs.BoardNets.{NetMarks, net_pin}
use Rattle.board_build.specs.BoardRules.{is_unknown}

count_left : (d : RawDevice) (ds : List RawDevice) (n : ℕ) → length (d ∷ ds) ≡ suc n → length ds ≡ n
count_left d ds n e = omega (arith, e)

parts_named_by : (n : ℕ) (statement : ChainStatement) (lines : List ChainLine) (devices : List RawDevice) →
    ((ds : List RawDevice) → length ds ≡ length (named EntityName lines)
    → map (λ part. part.name) (chain_parts lines ds) ≡ names_of (named PartName lines)) →
    length devices ≡ length (with_name n (entity_of statement) (named EntityName lines)) →
    map (λ part. part.name)
    (cons_option (part_of_line statement devices)
    (chain_parts lines (devices_after statement devices)))
    ≡ names_of (with_name n (part_of statement) (named PartName lines))
parts_named_by n (Device part entity pack) lines [] ih h = cc h
parts_named_by n (Device part entity pack) lines (d ∷ ds) ih h =
    ap (λ (v : List (List ℕ)). part ∷ v)
    (ih ds (count_left d ds (length (named EntityName lines)) h))
parts_named_by n (BypassLine part bits) lines devices ih h = ap (λ (v : List (List ℕ)). part ∷ v) (ih devices h)
parts_named_by n (InertLine part) lines devices ih h = ih devices h
parts_named_by n (SupplyLine net) lines devices ih h = ih devices h
parts_named_by n (PullLine net value) lines devices ih h = ih devices h
parts_named_by n (Link part first second) lines devices ih h = ih devices h

pub parts_named : (lines : List ChainLine) (devices : List RawDevice)
    → length devices ≡ length (named EntityName lines)
    → map (λ part. part.name) (chain_parts lines devices) ≡ names_of (named PartName lines)
parts_named [] devices h = refl
parts_named (line ∷ lines) devices h = parts_named_by line.line line.statement lines devices (parts_named lines) h

-- `s` is the pin and the place of one of these port bits, which belong to part `part` and are
-- numbered from `n` on
pub record BitSite (part : ℕ) (name : List ℕ) (n : ℕ) (bits : List PortBit) (s : PinPlace) : Type 0 where
  pub of_part : s.1.part ≡ part
  pub of_name : s.0.0 ≡ name
  pub index : ℕ
  pub number : s.1.bit ≡ n + index
  pub bit : PortBit
  pub stands : slice_get bits index ≡ Some bit
  pub pin : bit.pin ≡ Some s.0.1

bit_later : (part : ℕ) (name : List ℕ) (n : ℕ) (b : PortBit) (bits : List PortBit) (s : PinPlace)
    → BitSite part name (n + 1) bits s → BitSite part name n (b ∷ bits) s
bit_later part name n b bits s r =
    record {
      of_part = r.of_part;
      of_name = r.of_name;
      index = suc r.index;
      number = omega
          (arith, r.number);
      bit = r.bit;
      stands = r.stands;
      pin = r.pin;
    }

bit_site : (part : ℕ) (name : List ℕ) (n : ℕ) (bits : List PortBit) (s : PinPlace)
    → Has (bit_places part name n bits) s → BitSite part name n bits s
bit_site part name n [] s h = absurd h
bit_site part name n (b ∷ bits) s h = by_pin (bit_site part name (n + 1) bits s) b.pin refl h
  where
    by_pin : (Has (bit_places part name (n + 1) bits) s → BitSite part name (n + 1) bits s)
        → (o : Option (List ℕ)) → b.pin ≡ o
        → Has (with_place part name n o (bit_places part name (n + 1) bits)) s
        → BitSite part name n (b ∷ bits) s
    by_pin rest None e k = bit_later part name n b bits s (rest k)
    by_pin rest (Some pin) e (inl k) =
        let number : n ≡ s.1.bit = ap (λ (q : PinPlace). q.1.bit) k in
        record {
          of_part = sym (ap (λ (q : PinPlace). q.1.part) k);
          of_name = sym (ap (λ (q : PinPlace). q.0.0) k);
          index = 0;
          number = omega (arith, number);
          bit = b;
          stands = refl;
          pin = e ∙ ap (λ (q : PinPlace). Some q.0.1) k;
        }
    by_pin rest (Some pin) e (inr k) = bit_later part name n b bits s (rest k)

-- `s` is the pin and the place of a port bit of one of these parts; the part is described, and the
-- parts are numbered from `n` on
pub record Site (n : ℕ) (parts : List Part) (s : PinPlace) : Type 0 where
  pub index : ℕ
  pub number : s.1.part ≡ n + index
  pub part : Part
  pub in_chain : slice_get parts index ≡ Some part
  pub part_name : part.name ≡ s.0.0
  pub device : RawDevice
  pub is_described : described part.kind ≡ Some device
  pub bit : PortBit
  pub in_device : slice_get device.bits s.1.bit ≡ Some bit
  pub has_pin : bit.pin ≡ Some s.0.1

site_later : (n : ℕ) (p : Part) (parts : List Part) (s : PinPlace) → Site (n + 1) parts s → Site n (p ∷ parts) s
site_later n p parts s r =
    record {
      index = suc r.index;
      number = omega (arith, r.number);
      part = r.part;
      in_chain = r.in_chain;
      part_name = r.part_name;
      device = r.device;
      is_described = r.is_described;
      bit = r.bit;
      in_device = r.in_device;
      has_pin = r.has_pin;
    }

site_here : (n : ℕ) (p : Part) (parts : List Part) (s : PinPlace) (kind : PartKind) → p.kind ≡ kind
    → Has (part_places n p.name kind) s → Site n (p ∷ parts) s
site_here n p parts s (Bypass bits) e h = absurd h
site_here n p parts s (Described device) e h =
    let r : BitSite n p.name 0 device.bits s = bit_site n p.name 0 device.bits s h in
    let at : r.index ≡ s.1.bit = omega (arith, r.number) in
    let P : ℕ → Type 0 = λ k. slice_get device.bits k ≡ Some r.bit in
    record {
      index = 0;
      number = omega (arith, r.of_part);
      part = p;
      in_chain = refl;
      part_name = sym r.of_name;
      device = device;
      is_described = ap described e;
      bit = r.bit;
      in_device = subst P at r.stands;
      has_pin = r.pin;
    }

pub site : (n : ℕ) (parts : List Part) (s : PinPlace) → Has (places_from n parts) s → Site n parts s
site n [] s h = absurd h
site n (p ∷ parts) s h = by_part (site (n + 1) parts s) (has_append (part_places n p.name p.kind) (places_from (n + 1) parts) s h)
  where
    by_part : (Has (places_from (n + 1) parts) s → Site (n + 1) parts s)
        → Has (part_places n p.name p.kind) s ⊎ Has (places_from (n + 1) parts) s
        → Site n (p ∷ parts) s
    by_part rest (inl k) = site_here n p parts s p.kind refl k
    by_part rest (inr k) = site_later n p parts s (rest k)

none_among : (names : List (List ℕ)) (x : List ℕ) (n : ℕ)
    → is_some (position_from (λ k. same_word k x) n names) ≡ false
    → AllByRecursion (λ name. same_word name x ≡ false) names
none_among [] x n h = tt
none_among (name ∷ names) x n h = by_test (none_among names x (n + 1)) (same_word name x) refl h
  where
    by_test :
        (is_some (position_from (λ k. same_word k x) (n + 1) names) ≡ false
        → AllByRecursion (λ k. same_word k x ≡ false) names) → (b : Bool) → same_word name x ≡ b
        → is_some (cond b (Some n) (position_from (λ k. same_word k x) (n + 1) names)) ≡ false →
        (same_word name x ≡ false) × AllByRecursion (λ k. same_word k x ≡ false) names
    by_test rest true e k = cc k
    by_test rest false e k = (e, rest k)

pub not_among : (names : List (List ℕ)) (x : List ℕ) → is_among names x ≡ false → AllByRecursion (λ name. name ≢ x) names
not_among names x h = weaker names (none_among names x 0 h)
  where
    weaker : (list : List (List ℕ)) → AllByRecursion (λ name. same_word name x ≡ false) list → AllByRecursion (λ name. name ≢ x) list
    weaker [] h = tt
    weaker (name ∷ list) h = (other_text name x (sym h.0), weaker list h.1)

undescribed : (parts : List Part) (x : List ℕ)
    → AllByRecursion (λ name. name ≢ x) (described_names parts)
    → AllByRecursion (λ part. part.name ≡ x → described part.kind ≡ None) parts
undescribed [] x h = tt
undescribed (p ∷ parts) x h = by_kind (undescribed parts x) p.kind refl h
  where
    by_kind :
        (AllByRecursion (λ name. name ≢ x) (described_names parts)
        → AllByRecursion (λ part. part.name ≡ x → described part.kind ≡ None) parts)
        → (kind : PartKind) → p.kind ≡ kind →
        AllByRecursion (λ name. name ≢ x)
        (cons_option (name_if_described p.name kind) (described_names parts))
        → (p.name ≡ x → described p.kind ≡ None)
        × AllByRecursion (λ part. part.name ≡ x → described part.kind ≡ None) parts
    by_kind rest (Described device) e k = ((λ same. absurd (k.0 same)), rest k.1)
    by_kind rest (Bypass bits) e k = ((λ same. ap described e), rest k)

placed_where : (board : RawBoard) (marks : NetMarks) (pin : Pin) (o : Option PinAt)
    → marks.places ≡ pin_places board.chain → place_of_pin marks.places pin ≡ o
    → (is_among (described_names board.chain) pin.0 && is_none o) ≡ false
    → IsPlaced board (net_pin marks pin) o
placed_where board marks pin None same e h =
    All-from_recursion _ _
    (undescribed board.chain pin.0
    (not_among (described_names board.chain) pin.0
    (left (is_among (described_names board.chain) pin.0) h)))
  where
    left : (b : Bool) → (b && true) ≡ false → b ≡ false
    left true e = e
    left false e = refl
placed_where board marks pin (Some at) same e h = by_found (find (λ i. same_pin i.0 pin) marks.places) refl e
  where
    by_found : (o : Option PinPlace) → find (λ i. same_pin i.0 pin) marks.places ≡ o
        → option_map (λ (i : PinPlace). i.1) o ≡ Some at → IsPlacedAt board (net_pin marks pin) at
    by_found None f k = cc k
    by_found (Some s) f k =
        let here : s.1 ≡ at = cc k in
        let found = find_has (λ i. same_pin i.0 pin) marks.places s f in
        let parts = and_parts (same_word s.0.0 pin.0) (same_word s.0.1 pin.1) found.1 in
        let P : List PinPlace → Type 0 = λ v. Has v s in
        let r : Site 0 board.chain s = site 0 board.chain s (subst P same found.0) in
        let number : r.index ≡ s.1.part = omega (arith, r.number) in
        let Q : ℕ → Type 0 = λ k. slice_get board.chain k ≡ Some r.part in
        let R : PinAt → Type 0 = λ a. IsPlacedAt board (net_pin marks pin) a in
        subst R here (record {
          part = r.part;
          in_chain = subst Q number r.in_chain;
          named = r.part_name ∙ same_text s.0.0 pin.0 (sym parts.0);
          device = r.device;
          is_described = r.is_described;
          bit = r.bit;
          in_device = r.in_device;
          has_pin = r.has_pin ∙ ap Some (same_text s.0.1 pin.1 (sym parts.1));
        })

-- if the pin's part is not described, or if the part's pin map has the pin, the pin and its place
-- keep the rule of a board on places (`IsPlaced`)
pub placed : (board : RawBoard) (marks : NetMarks) (pin : Pin)
    → marks.places ≡ pin_places board.chain
    → is_unknown (described_names board.chain) marks.places pin ≡ false
    → IsPlaced board (net_pin marks pin) (place_of_pin marks.places pin)
placed board marks pin same h = placed_where board marks pin (place_of_pin marks.places pin) same refl h
