-- The borrowed words and the marked words agree with the words of the definitions. A marked word is
-- a word of a net file with facts about the pin that it names.
use Rattle.std.proofs.Common.{◌≡◌, ℕ, zero, suc, ◌+◌, ◌==◌, Bool, true, false, cond, ◌&&◌, List, [], ◌∷◌, length, map, Option, Some, None, refl, sym, ap, ◌∙◌, arith}
use Rattle.std.specs.Prelude.{slice_get, filter, is_none, is_some, option_map, option_and_then, nat_lt, if◌then◌else◌}
use Rattle.std.proofs.lemmas.List.{length-map}
use Rattle.std.proofs.lemmas.List.Elements.{filter_agree}
use Rattle.board_defs.specs.Limits.{most_pins}
use Rattle.first_places.specs.Places.{once}
use Rattle.board_files.specs.declared.chain_file.ChainLine.{ChainLine}
use Rattle.board_files.specs.declared.net_file.NetLine.{NetLine}
use Rattle.board_defs.specs.declared.device.Control.{Control}
use Rattle.board_defs.specs.declared.device.Cell.{Cell}
use Rattle.board_defs.specs.declared.device.RawDevice.{RawDevice}
use Rattle.board_defs.specs.declared.board.Part.{Part}
use Rattle.board_defs.specs.declared.board.PinAt.{PinAt}
use Rattle.board_defs.specs.declared.board.NetPin.{NetPin}
use Rattle.board_defs.specs.declared.board.Net.{Net}
use Rattle.board_defs.specs.declared.board.RawBoard.{RawBoard}
use Rattle.board_defs.specs.declared.board.Drive.TheVariants.{OneSided, By}
use Rattle.board_defs.specs.DeviceRules.{driving_entry}
use Rattle.board_defs.specs.Pins.{drive_by, drive_where, entry_at, device_at, lets_switch}
use Rattle.board_lines.specs.declared.fault.BoardFault.{BoardFault}
use Rattle.board_lines.specs.declared.fault.BoardFault.TheVariants.{Limit, NoPin, PinTwice, GuardedDriver, TwoAlwaysOn}
use Rattle.board_lines.specs.declared.names.Naming.TheVariants.{Inert, Supply}
use Rattle.board_lines.specs.declared.limit.Limit.TheVariants.{Pins}
use Rattle.board_lines.specs.BoardLimits.{limit_number}
use Rattle.board_lines.specs.Faults.{◌then◌, unless}
use Rattle.board_lines.specs.Names.{named, names_of}
use Rattle.board_lines.specs.NetWords.{Pin, NetWord, word_net, word_pin, is_among, net_names, standing_words, pins_on_net, have_same_pin}
use Rattle.board_lines.specs.ChainParts.{pin_places, place_of_pin, described_names}
use Rattle.board_lines.specs.LineRules.{pulls_of, pull_of_net, line_fault}
use Rattle.board_build.specs.BoardNets.{NetMarks, marks_of, net_pin, board_net, nets_from, board_nets, board_with}
use Rattle.board_defs.specs.Decided.{is_always_on}
use Rattle.board_build.specs.BoardRules.{data_limit, net_limit, pin_limit, no_pin, pin_twice, drives_always, always_on_words as drivers_of, is_kept, guarded_driver, two_always_on, limit_fault, pin_fault, driver_fault, board_fault, board_answer}
use Rattle.board_build.specs.inner.Marked.{Marked, mark_word, has_no_control, is_free_bit, is_free_at, pin_with, marked_group, marked_net, marked_spot, net_with, nets_with, board_by, same_pins, marked_limit, marked_unknown, marked_twice, marked_pins, marked_guarded, marked_two, marked_drivers, file_fault, always_on, marked_fault, marked_answer}
use Rattle.board_lines.proofs.MapLemmas.{filter-map, find-map, once-map, repeated-map}

-- the driver of an entry is always on if and only if the entry has no control
free_drive : (board : RawBoard) (net : Net) (part : ℕ) (cell : Cell) (o : Option Control)
    → is_always_on (Some (drive_by board net part cell o)) ≡ is_none o
free_drive board net part cell None = refl
free_drive board net part cell (Some control) = by_tests (control.cell == cell.num) (lets_switch board net control.disable)
  where
    by_tests : (a b : Bool)
        → is_always_on
        (Some
        (cond a (cond b (By (record { part = part; cell = control.cell })) OneSided)
        (By (record { part = part; cell = control.cell })))) ≡ false
    by_tests true true = refl
    by_tests true false = refl
    by_tests false b = refl

free_entry : (board : RawBoard) (net : Net) (part : ℕ) (o : Option Cell)
    → is_always_on (option_map (λ cell. drive_by board net part cell cell.ctl) o) ≡ has_no_control o
free_entry board net part None = refl
free_entry board net part (Some cell) = free_drive board net part cell cell.ctl

free_device : (o : Option RawDevice) (bit : ℕ) → has_no_control (option_and_then (λ device. driving_entry device bit) o) ≡ is_free_bit o bit
free_device None bit = refl
free_device (Some device) bit = refl

free_at : (board : RawBoard) (net : Net) (o : Option PinAt) → is_always_on (drive_where board net o) ≡ is_free_at board.chain o
free_at board net None = refl
free_at board net (Some at) = free_entry board net at.part (entry_at board at) ∙ free_device (device_at board at.part) at.bit

in_range : {A : Type 0} (xs : List A) (n : ℕ) → is_some (slice_get xs n) ≡ nat_lt n (length xs)
in_range [] n = grind arith
in_range (x ∷ xs) zero = grind arith
in_range (x ∷ xs) (suc n) = let below : nat_lt n (length xs) ≡ nat_lt (suc n) (suc (length xs)) = grind arith in in_range xs n ∙ below

drives_where : (board : RawBoard) (marks : NetMarks) (pin : Pin) (o : Option Net) (b : Bool)
    → is_some o ≡ b
    → drives_always board marks pin o
    ≡ (b && is_free_at board.chain (place_of_pin marks.places pin))
drives_where board marks pin None b e = ap (λ t. t && is_free_at board.chain (place_of_pin marks.places pin)) e
drives_where board marks pin (Some net) b e =
    free_at board net (place_of_pin marks.places pin)
    ∙ ap (λ t. t && is_free_at board.chain (place_of_pin marks.places pin)) e

module _ (chain : List ChainLine) (parts : List Part) (names : List (List ℕ)) (words : List NetWord) where
  abbrev marks : NetMarks
  marks = marks_of chain parts

  abbrev marked : NetWord → Marked
  marked = mark_word parts (pin_places parts) (names_of (named Inert chain))

  abbrev board : RawBoard
  board = record { chain = parts; nets = board_nets marks words names }

  pins_same : (ws : List NetWord) → map pin_with (map marked ws) ≡ map (net_pin marks) (map word_pin ws)
  pins_same [] = refl
  pins_same (w ∷ ws) = ap (λ (v : List NetPin). net_pin marks (word_pin w) ∷ v) (pins_same ws)

  group_same : (n : ℕ) → marked_group (map marked words) n ≡ map (net_pin marks) (pins_on_net words n)
  group_same n = ap (map pin_with) (filter-map marked (λ m. marked_net m == n) words) ∙ pins_same (filter (λ w. word_net w == n) words)

  net_same : (n : ℕ) (name : List ℕ)
      → net_with (names_of (named Supply chain)) (pulls_of chain) (map marked words) n name
      ≡ board_net marks words n name
  net_same n name =
      ap
      (λ (pins : List NetPin). let net : Net = record {
        name = name;
        supply = is_among marks.supplies name;
        pull = pull_of_net marks.pulls
            name;
        pins = pins;
      } in
      net) (group_same n)

  nets_same : (n : ℕ) (list : List (List ℕ))
      → nets_with (names_of (named Supply chain)) (pulls_of chain) (map marked words) n list
      ≡ nets_from marks words n list
  nets_same n [] = refl
  nets_same n (name ∷ list) =
      ap (λ (net : Net). net ∷ nets_with (names_of (named Supply chain)) (pulls_of chain) (map marked words) (n + 1) list) (net_same n name)
      ∙ ap (λ (v : List Net). board_net marks words n name ∷ v) (nets_same (n + 1) list)

  pub board_same : board_by chain parts names (map marked words) ≡ board
  board_same = ap (λ (v : List Net). let b : RawBoard = record { chain = parts; nets = v } in b) (nets_same 0 names)

  pub limit_same : marked_limit (map marked words) ≡ pin_limit words
  unfolding marked_limit pin_limit
  limit_same =
      ap (λ n. if nat_lt most_pins n then Some (Limit (limit_number Pins)) else None)
      (ap length (sym (once-map marked same_pins words))
      ∙ length-map (once have_same_pin words) marked)

  pub unknown_same : marked_unknown (map marked words) ≡ no_pin (described_names parts) (pin_places parts) words
  unfolding marked_unknown no_pin
  unknown_same = find-map marked (λ (m : Marked). m.described && is_none m.at) (λ (m : Marked). NoPin (marked_spot m)) words

  pub twice_same : marked_twice (map marked words) ≡ pin_twice words
  unfolding marked_twice pin_twice
  twice_same = repeated-map marked same_pins (λ (m : Marked). PinTwice (marked_spot m)) words

  pub drivers_same : always_on (length board.nets) (map marked words) ≡ map marked (drivers_of board marks words)
  drivers_same =
      filter-map marked (λ m. nat_lt (marked_net m) (length board.nets) && m.always_on) words
      ∙ ap (map marked)
      (filter_agree _ _
      (λ w. sym
      (drives_where board marks (word_pin w) (slice_get board.nets (word_net w))
      (nat_lt (word_net w) (length board.nets)) (in_range board.nets (word_net w)))) words)

  pub guarded_same : (ds : List NetWord) → marked_guarded board (map marked ds) ≡ guarded_driver board ds
  unfolding marked_guarded guarded_driver
  guarded_same ds =
      find-map marked (λ (m : Marked). is_kept board (slice_get board.nets (marked_net m)))
      (λ (m : Marked). GuardedDriver (marked_spot m)) ds

  pub two_same : (ds : List NetWord) → marked_two (map marked ds) ≡ two_always_on ds
  unfolding marked_two two_always_on
  two_same ds = repeated-map marked (λ (a b : Marked). marked_net a == marked_net b) (λ (m : Marked). TwoAlwaysOn (marked_spot m)) ds

  pub driver_fault_same : marked_drivers board (map marked (drivers_of board marks words))
      ≡ driver_fault board (drivers_of board marks words)
  unfolding marked_drivers driver_fault
  driver_fault_same =
      ap (λ (a : Option BoardFault). a then marked_two (map marked (drivers_of board marks words)))
      (guarded_same (drivers_of board marks words))
      ∙ ap (λ (b : Option BoardFault). guarded_driver board (drivers_of board marks words) then b) (two_same (drivers_of board marks words))

-- `then` is associative: the Rust functions group the rules in one way and the definition in another
order : {F : Type 0} (d n l u t c r : Option F)
    → ((d then (n then l)) then ((u then t) then (c then r)))
    ≡ ((d then (n then ((l then (u then t)) then c))) then r)
order (Some f) n l u t c r = refl
order None (Some f) l u t c r = refl
order None None (Some f) u t c r = refl
order None None None (Some f) t c r = refl
order None None None None (Some f) c r = refl
order None None None None None c r = refl

joined : {F : Type 0} (d n c : Option F) (l l' u u' t t' r r' : Option F) → l ≡ l' → u ≡ u' → t ≡ t' → r ≡ r' →
    ((d then (n then ((l then (u then t)) then c))) then r) ≡ ((d then (n then l')) then ((u' then t') then (c then r')))
joined d n c l l' u u' t t' r r' el eu et er =
    ap (λ v. (d then (n then ((v then (u then t)) then c))) then r) el
    ∙ ap (λ v. (d then (n then ((l' then (v then t)) then c))) then r) eu
    ∙ ap (λ v. (d then (n then ((l' then (u' then v)) then c))) then r) et
    ∙ ap (λ v. (d then (n then ((l' then (u' then t')) then c))) then v) er
    ∙ sym (order d n l' u' t' c r')

pub fault_same : (chain : List ChainLine) (nets : List NetLine) (parts : List Part) →
    marked_fault chain parts (net_names nets)
    (map (mark_word parts (pin_places parts) (names_of (named Inert chain)))
    (standing_words nets)) ≡ board_fault chain nets parts
unfolding marked_fault file_fault marked_pins board_fault limit_fault pin_fault
fault_same chain nets parts =
    let names = net_names nets in
    let words = standing_words nets in
    let mk = mark_word parts (pin_places parts) (names_of (named Inert chain)) in
    let board = board_with chain nets parts in
    let drivers : marked_drivers (board_by chain parts names (map mk words))
    (always_on (length (board_by chain parts names (map mk words)).nets) (map mk words))
    ≡ driver_fault board (drivers_of board (marks_of chain parts) words) =
    ap (λ (b : RawBoard). marked_drivers b (always_on (length b.nets) (map mk words))) (board_same chain parts names words)
    ∙ ap (marked_drivers board) (drivers_same chain parts names words)
    ∙ driver_fault_same chain parts names words in
    joined (data_limit parts) (net_limit names) (line_fault chain names) _ _ _ _ _ _ _ _
    (limit_same chain parts names words) (unknown_same chain parts names words)
    (twice_same chain parts names words) drivers

pub answer_same : (chain : List ChainLine) (nets : List NetLine) (parts : List Part) →
    marked_answer chain parts (net_names nets)
    (map (mark_word parts (pin_places parts) (names_of (named Inert chain)))
    (standing_words nets)) ≡ board_answer chain nets parts
unfolding marked_answer board_answer
answer_same chain nets parts =
    ap
    (λ fault. unless fault
    (board_by chain parts (net_names nets)
    (map (mark_word parts (pin_places parts) (names_of (named Inert chain)))
    (standing_words nets)))) (fault_same chain nets parts)
    ∙ ap (unless (board_fault chain nets parts)) (board_same chain parts (net_names nets) (standing_words nets))
