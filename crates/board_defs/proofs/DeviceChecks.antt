-- A Boolean test of all rules of devices, and the proof that a device that passes it keeps the rules. The proofs about sample devices
-- compute the test.
use Rattle.std.proofs.Common.{◌≡◌, ◌≢◌, ℕ, ◌<◌, ◌≤◌, ◌==◌, Bool, true, false, not, ◌&&◌, ◌||◌, List, [], ◌∷◌, length, map, Option, Some, None, refl, sym, ◌∙◌, ap, subst, arith, ◌⊎◌, inl, inr, get_or}
use Rattle.std.specs.Prelude.{slice_get, nat_le, nat_lt, cond, Contains, is_some, is_none, count_by, IfSome, IsTrue}
use Rattle.std.specs.List.{list_any, list_all, range_with_len}
use Rattle.std.specs.List.Sorted.{IsNonDecreasing}
use Rattle.std.proofs.lemmas.Bool.{not-true, and_parts, and_from, or_cases, leb-true, eqb-true, eq-eqb, cases_eq, ltb-true}
use Rattle.board_defs.specs.declared.device.Symbol.{Symbol}
use Rattle.board_defs.specs.declared.device.Symbol.TheVariants.{Zero, One, Any}
use Rattle.board_defs.specs.declared.device.Mode.{Mode}
use Rattle.board_defs.specs.declared.device.Mode.TheVariants.{Inward, Outward, Both, Buffer, Linkage}
use Rattle.board_defs.specs.declared.device.Role.{Role}
use Rattle.board_defs.specs.declared.device.Role.TheVariants.{Input, Output2, Output3, Control as ControlRole, ControlR, Internal, Clock, Bidir, ObserveOnly}
use Rattle.board_defs.specs.declared.device.Edition.{Edition}
use Rattle.board_defs.specs.declared.device.Edition.TheVariants.{Old, Of2001}
use Rattle.board_defs.specs.declared.device.Control.{Control}
use Rattle.board_defs.specs.declared.device.Cell.{Cell}
use Rattle.board_defs.specs.declared.device.PortBit.{PortBit}
use Rattle.board_defs.specs.declared.device.RawDevice.{RawDevice}
use Rattle.board_defs.specs.DeviceRules.{is_driving, is_loading, is_writing, is_inner, may_drive, may_receive, bit_of, is_on, drives_bit, is_control_entry, bits_of_port, range_indexes, AreIndexed, ArePort, AreOfPorts, IsTapBit, HasTap, PortPinsDiffer, HasPlace, MayHaveControl, ControlsStand, OneDisable, OneOf, OneDriver, EntriesFitPorts, HasCodes, IsDevice}
use Rattle.board_defs.specs.Pins.{is_same}
use Rattle.board_defs.proofs.Members.{has_contains, any_has}
use Rattle.board_defs.proofs.Checks.{all_by, item_by, below_by, later_pass, pairs_by, one_by, two_pass, two_by, same_text, same_text_of, texts_differ, implied, not_shared}
use Rattle.board_defs.proofs.SameBits.{same_of_is_same, is_same_refl}

-- the symbol is not X
abbrev is_given : Symbol → Bool
is_given Zero = true
is_given One = true
is_given Any = false

given : (s : Symbol) → is_given s ≡ true → s ≢ Any
given Zero h e = cc e
given One h e = cc e
given Any h e = cc h

abbrev is_zero : Symbol → Bool
is_zero Zero = true
is_zero One = false
is_zero Any = false

zero_is : (s : Symbol) → is_zero s ≡ true → s ≡ Zero
zero_is Zero h = refl
zero_is One h = cc h
zero_is Any h = cc h

-- the two codes have the same length and the same bits, in which X counts as 0
abbrev bits_same : List Symbol → List Symbol → Bool
bits_same [] [] = true
bits_same [] (t ∷ ts) = false
bits_same (s ∷ ss) [] = false
bits_same (s ∷ ss) (t ∷ ts) = is_same (bit_of s) (bit_of t) && bits_same ss ts

bits_same_refl : (ss : List Symbol) → bits_same ss ss ≡ true
bits_same_refl [] = refl
bits_same_refl (s ∷ ss) = and_from (is_same (bit_of s) (bit_of s)) (bits_same ss ss) (is_same_refl (bit_of s)) (bits_same_refl ss)

abbrev is_old : Edition → Bool
is_old Old = true
is_old Of2001 = false

old_is : (e : Edition) → e ≡ Old → is_old e ≡ true
old_is e h = ap is_old h

abbrev length_is : Option (List Symbol) → ℕ → Bool
length_is None n = true
length_is (Some code) n = length code == n

length_has : (code : Option (List Symbol)) (n : ℕ) → length_is code n ≡ true → IfSome code (λ c. length c ≡ n)
length_has None n h = tt
length_has (Some code) n h = eqb-true (length code) n h

-- the device keeps the rules on codes
abbrev codes_pass : RawDevice → Bool
codes_pass d =
    (length d.sample == d.ir) &&
    ((length d.extest == d.ir) &&
    (list_all is_given d.sample &&
    (list_all is_given d.extest &&
    (not (list_all bit_of d.sample) && (not (list_all bit_of d.extest)
    && (not (bits_same d.sample d.extest) && ((not (is_old d.edition) || list_all is_zero d.extest) && length_is d.idcode 32)))))))

codes_of : (d : RawDevice) → codes_pass d ≡ true → HasCodes d
codes_of d h =
    let a = and_parts (length d.sample == d.ir) _ h in
    let b = and_parts (length d.extest == d.ir) _ a.1 in
    let c = and_parts (list_all is_given d.sample) _ b.1 in
    let e = and_parts (list_all is_given d.extest) _ c.1 in
    let f = and_parts (not (list_all bit_of d.sample)) _ e.1 in
    let g = and_parts (not (list_all bit_of d.extest)) _ f.1 in
    let i = and_parts (not (bits_same d.sample d.extest)) _ g.1 in
    let j = and_parts (not (is_old d.edition) || list_all is_zero d.extest) (length_is d.idcode 32) i.1 in
    record {
      sample_length = eqb-true (length d.sample) d.ir a.0;
      extest_length = eqb-true (length d.extest) d.ir b.0;
      sample_given = all_by (λ (s : Symbol). s ≢ Any) is_given given d.sample c.0;
      extest_given = all_by (λ (s : Symbol). s ≢ Any) is_given given d.extest e.0;
      sample_not_ones = not-true (list_all bit_of d.sample) f.0;
      extest_not_ones = not-true (list_all bit_of d.extest) g.0;
      codes_differ = λ same. not_shared (bits_same d.sample d.extest) i.0 (ap (bits_same d.sample) (sym same) ∙ bits_same_refl d.sample);
      old_extest =
          λ old. all_by (λ (s : Symbol). s ≡ Zero) is_zero zero_is d.extest
          (implied (is_old d.edition) (list_all is_zero d.extest) j.0 (old_is d.edition old));
      idcode_length = length_has d.idcode 32 j.1;
    }

-- A number for each mode. Two modes are equal if their numbers are.
abbrev mode_number : Mode → ℕ
mode_number Inward = 0
mode_number Outward = 1
mode_number Both = 2
mode_number Buffer = 3
mode_number Linkage = 4

abbrev numbered_mode : ℕ → Mode
numbered_mode n = cond (n == 0) Inward (cond (n == 1) Outward (cond (n == 2) Both (cond (n == 3) Buffer Linkage)))

mode_back : (m : Mode) → numbered_mode (mode_number m) ≡ m
mode_back Inward = refl
mode_back Outward = refl
mode_back Both = refl
mode_back Buffer = refl
mode_back Linkage = refl

mode_of : (a b : Mode) → (mode_number a == mode_number b) ≡ true → a ≡ b
mode_of a b h = sym (mode_back a) ∙ ap numbered_mode (eqb-true (mode_number a) (mode_number b) h) ∙ mode_back b

abbrev indexes_same : List (Option ℕ) → List (Option ℕ) → Bool
indexes_same [] [] = true
indexes_same [] (b ∷ bs) = false
indexes_same (a ∷ xs) [] = false
indexes_same (None ∷ xs) (None ∷ bs) = indexes_same xs bs
indexes_same (None ∷ xs) (Some b ∷ bs) = false
indexes_same (Some a ∷ xs) (None ∷ bs) = false
indexes_same (Some a ∷ xs) (Some b ∷ bs) = (a == b) && indexes_same xs bs

indexes_of : (xs ys : List (Option ℕ)) → indexes_same xs ys ≡ true → xs ≡ ys
indexes_of [] [] h = refl
indexes_of [] (b ∷ bs) h = cc h
indexes_of (a ∷ xs) [] h = cc h
indexes_of (None ∷ xs) (None ∷ ys) h = ap (λ (v : List (Option ℕ)). None ∷ v) (indexes_of xs ys h)
indexes_of (None ∷ xs) (Some b ∷ ys) h = cc h
indexes_of (Some a ∷ xs) (None ∷ ys) h = cc h
indexes_of (Some a ∷ xs) (Some b ∷ ys) h =
    let parts = and_parts (a == b) (indexes_same xs ys) h in
    ap (λ n. Some n ∷ xs) (eqb-true a b parts.0) ∙ ap (λ (v : List (Option ℕ)). Some b ∷ v) (indexes_of xs ys parts.1)

abbrev first_index : List (Option ℕ) → ℕ
first_index [] = 0
first_index (None ∷ xs) = 0
first_index (Some n ∷ xs) = n

abbrev last_index : List (Option ℕ) → ℕ
last_index [] = 0
last_index (x ∷ []) = first_index (x ∷ [])
last_index (x ∷ y ∷ xs) = last_index (y ∷ xs)

abbrev indexes : List PortBit → List (Option ℕ)
indexes bits = map (λ bit. bit.index) bits

abbrev indexes_pass : List PortBit → Bool
indexes_pass bits =
    indexes_same (indexes bits) (None ∷ [])
    || indexes_same (indexes bits)
    (map Some (range_indexes (first_index (indexes bits)) (last_index (indexes bits))))

are_indexed : (bits : List PortBit) → indexes_pass bits ≡ true → AreIndexed bits
are_indexed bits h =
    by_part
    (or_cases (indexes_same (indexes bits) (None ∷ []))
    (indexes_same (indexes bits)
    (map Some (range_indexes (first_index (indexes bits)) (last_index (indexes bits))))) h)
  where
    by_part : (indexes_same (indexes bits) (None ∷ []) ≡ true)
        ⊎ (indexes_same (indexes bits)
        (map Some (range_indexes (first_index (indexes bits)) (last_index (indexes bits))))
        ≡ true) → AreIndexed bits
    by_part (inl e) = inl (indexes_of (indexes bits) (None ∷ []) e)
    by_part (inr e) =
        inr (
          first_index (indexes bits),
          last_index (indexes bits),
          indexes_of (indexes bits)
              (map Some (range_indexes (first_index (indexes bits)) (last_index (indexes bits)))) e,
        )

abbrev port_passes : List PortBit → Bool
port_passes bits =
    indexes_pass bits
    && (later_pass (λ a b. mode_number a.mode == mode_number b.mode) bits
    && later_pass (λ a b. is_same (is_some a.pin) (is_some b.pin)) bits)

port_of : (bits : List PortBit) → port_passes bits ≡ true → ArePort bits
port_of bits h =
    let a = and_parts (indexes_pass bits) _ h in
    let b = and_parts (later_pass (λ (a b : PortBit). mode_number a.mode == mode_number b.mode) bits) _ a.1 in
    record {
      indexed = are_indexed bits a.0;
      one_mode =
          pairs_by (λ (a b : PortBit). a.mode ≡ b.mode)
          (λ a b. mode_number a.mode == mode_number b.mode) (λ a b e. mode_of a.mode b.mode e) bits
          b.0;
      mapped_whole =
          pairs_by (λ (a b : PortBit). is_some a.pin ≡ is_some b.pin)
          (λ a b. is_same (is_some a.pin) (is_some b.pin))
          (λ a b e. same_of_is_same (is_some a.pin) (is_some b.pin) e) bits b.1;
    }

in_order : (ns : List ℕ) → later_pass nat_le ns ≡ true → IsNonDecreasing ns
in_order ns h i j d le within = by_cases (cases_eq i j)
  where
    by_cases : (i ≡ j) ⊎ (i ≡ j → ⊥) → get_or ns i d ≤ get_or ns j d
    by_cases (inl e) = let same : get_or ns i d ≡ get_or ns j d = ap (λ k. get_or ns k d) e in omega (arith, same)
    by_cases (inr ne) = pairs_by (λ (a b : ℕ). a ≤ b) nat_le leb-true ns h i j d (omega arith) within

-- the device keeps the rules on ports
abbrev ports_pass : RawDevice → Bool
ports_pass d =
    later_pass (λ a b. not (same_text a b)) d.ports &&
    (later_pass nat_le (map (λ bit. bit.port) d.bits) &&
    (list_all (λ bit. nat_lt bit.port (length d.ports)) d.bits
    && list_all (λ port. port_passes (bits_of_port d port)) (range_with_len 0 (length d.ports))))

ports_of : (d : RawDevice) → ports_pass d ≡ true → AreOfPorts d
ports_of d h =
    let a = and_parts (later_pass (λ (a b : List ℕ). not (same_text a b)) d.ports) _ h in
    let b = and_parts (later_pass nat_le (map (λ (bit : PortBit). bit.port) d.bits)) _ a.1 in
    let c = and_parts (list_all (λ (bit : PortBit). nat_lt bit.port (length d.ports)) d.bits) _ b.1 in
    record {
      ports_differ = pairs_by (λ (a b : List ℕ). a ≢ b) (λ a b. not (same_text a b)) texts_differ d.ports a.0;
      in_order = in_order (map (λ (bit : PortBit). bit.port) d.bits) b.0;
      of_ports =
          all_by (λ (bit : PortBit). bit.port < length d.ports)
          (λ bit. nat_lt bit.port (length d.ports)) (λ bit e. ltb-true bit.port (length d.ports) e)
          d.bits c.0;
      each_port =
          λ port less. port_of (bits_of_port d port)
          (below_by (λ port. port_passes (bits_of_port d port)) (length d.ports) port c.1 less);
    }

-- the mode is in or out
abbrev is_tap_mode : Mode → Bool
is_tap_mode m = (mode_number m == mode_number Inward) || (mode_number m == mode_number Outward)

abbrev tap_bit_passes : PortBit → Bool
tap_bit_passes bit = not bit.tap || (is_none bit.index && is_tap_mode bit.mode)

none_of : (o : Option ℕ) → is_none o ≡ true → o ≡ None
none_of None h = refl
none_of (Some n) h = cc h

tap_bit_of : (bit : PortBit) → tap_bit_passes bit ≡ true → IsTrue bit.tap → IsTapBit bit
tap_bit_of bit h t =
    let parts = and_parts (is_none bit.index) (is_tap_mode bit.mode) (implied bit.tap (is_none bit.index && is_tap_mode bit.mode) h t) in (
      none_of bit.index parts.0,
      by_mode
          (or_cases (mode_number bit.mode == mode_number Inward)
          (mode_number bit.mode == mode_number Outward) parts.1),
    )
  where
    by_mode : ((mode_number bit.mode == mode_number Inward) ≡ true)
        ⊎ ((mode_number bit.mode == mode_number Outward) ≡ true)
        → (bit.mode ≡ Inward) ⊎ (bit.mode ≡ Outward)
    by_mode (inl e) = inl (mode_of bit.mode Inward e)
    by_mode (inr e) = inr (mode_of bit.mode Outward e)

abbrev taps_in : List PortBit → ℕ
taps_in bits = count_by (λ bit. bit.tap && may_receive bit.mode) bits

-- the port bits keep the rules on the test access port
abbrev tap_passes : List PortBit → Bool
tap_passes bits =
    list_all tap_bit_passes bits
    && ((count_by (λ bit. bit.tap && may_drive bit.mode) bits == 1)
    && ((taps_in bits == 3) || (taps_in bits == 4)))

tap_of : (bits : List PortBit) → tap_passes bits ≡ true → HasTap bits
tap_of bits h =
    let a = and_parts (list_all tap_bit_passes bits) _ h in
    let b = and_parts (count_by (λ (bit : PortBit). bit.tap && may_drive bit.mode) bits == 1) _ a.1 in
    record {
      plain = all_by (λ (bit : PortBit). IsTrue bit.tap → IsTapBit bit) tap_bit_passes tap_bit_of bits a.0;
      outward = eqb-true (count_by (λ (bit : PortBit). bit.tap && may_drive bit.mode) bits) 1 b.0;
      inward = by_count (or_cases (taps_in bits == 3) (taps_in bits == 4) b.1);
    }
  where
    by_count : ((taps_in bits == 3) ≡ true) ⊎ ((taps_in bits == 4) ≡ true) → (taps_in bits ≡ 3) ⊎ (taps_in bits ≡ 4)
    by_count (inl e) = inl (eqb-true (taps_in bits) 3 e)
    by_count (inr e) = inr (eqb-true (taps_in bits) 4 e)

-- both port bits have a pin, and it is the same pin
abbrev pub same_pin : Option (List ℕ) → Option (List ℕ) → Bool
same_pin None b = false
same_pin (Some a) None = false
same_pin (Some a) (Some b) = same_text a b

same_pin_of : (a b : Option (List ℕ)) (pin : List ℕ) → a ≡ Some pin → b ≡ Some pin → same_pin a b ≡ true
same_pin_of a b pin ea eb = ap (λ (v : Option (List ℕ)). same_pin v b) ea ∙ ap (same_pin (Some pin)) eb ∙ same_text_of pin pin refl

pins_of : (d : RawDevice) → later_pass (λ x y. not (same_pin x.pin y.pin)) d.bits ≡ true → PortPinsDiffer d
pins_of d h i j a b pin ei ej ea eb =
    one_by (λ (x y : PortBit). same_pin x.pin y.pin) d.bits h i j a b ei ej
    (same_pin_of a.pin b.pin pin ea eb) (same_pin_of b.pin a.pin pin eb ea)

-- an entry with this function and this port bit keeps the rule `HasPlace`
abbrev place_passes : ℕ → Role → Option ℕ → Bool
place_passes bits role None = is_inner role
place_passes bits role (Some bit) = not (is_inner role) && nat_lt bit bits

place_of : (bits : ℕ) (role : Role) (bit : Option ℕ) → place_passes bits role bit ≡ true → HasPlace bits role bit
place_of bits role None h = h
place_of bits role (Some bit) h =
    let parts = and_parts (not (is_inner role)) (nat_lt bit bits) h in
    (not-true (is_inner role) parts.0, ltb-true bit bits parts.1)

abbrev control_passes : Role → Option Control → Bool
control_passes Output2 control = true
control_passes Output3 control = is_some control
control_passes Bidir control = is_some control
control_passes role control = is_none control

control_of : (role : Role) (control : Option Control) → control_passes role control ≡ true → MayHaveControl role control
control_of Output2 control h = tt
control_of Output3 control h = h
control_of Bidir control h = h
control_of Input control h = not-true (is_some control) h
control_of ControlRole control h = not-true (is_some control) h
control_of ControlR control h = not-true (is_some control) h
control_of Internal control h = not-true (is_some control) h
control_of Clock control h = not-true (is_some control) h
control_of ObserveOnly control h = not-true (is_some control) h

abbrev stands_passes : List Cell → ℕ → Option Control → Bool
stands_passes cells num None = true
stands_passes cells num (Some control) = (control.cell == num) || list_any (is_control_entry control.cell) cells

stands_of : (d : RawDevice) → list_all (λ e. stands_passes d.cells e.num e.ctl) d.cells ≡ true → ControlsStand d
stands_of d h i e control ei ec =
    sym (ap (stands_passes d.cells e.num) ec)
    ∙ item_by (λ (v : Cell). stands_passes d.cells v.num v.ctl) d.cells i e h ei

abbrev below_passes : ℕ → Option Control → Bool
below_passes n None = true
below_passes n (Some control) = nat_lt control.cell n

below_of : (n : ℕ) (ctl : Option Control) → below_passes n ctl ≡ true → IfSome ctl (λ control. control.cell < n)
below_of n None h = tt
below_of n (Some control) h = ltb-true control.cell n h

abbrev disable_passes : Option Control → Option Control → Bool
disable_passes None b = true
disable_passes (Some a) None = true
disable_passes (Some a) (Some b) = not (a.cell == b.cell) || is_same a.disable b.disable

disable_is : (d : RawDevice) → two_pass (λ x y. disable_passes x.ctl y.ctl) d.cells d.cells ≡ true → OneDisable d
disable_is d h i j e f a b ei ej ea fb same =
    let both : disable_passes (Some a) (Some b)
    ≡ true = sym
    (ap (λ (v : Option Control). disable_passes v f.ctl) ea
    ∙ ap (disable_passes (Some a)) fb)
    ∙ two_by (λ (x y : Cell). disable_passes x.ctl y.ctl) d.cells d.cells i j e f h ei ej in
    same_of_is_same a.disable b.disable (implied (a.cell == b.cell) (is_same a.disable b.disable) both (eq-eqb a.cell b.cell same))

abbrev both_of : (Role → Bool) → Cell → Cell → Bool
both_of roles x y = roles x.role && (roles y.role && (x.num == y.num))

one_of : (roles : Role → Bool) (d : RawDevice) → later_pass (λ x y. not (both_of roles x y)) d.cells ≡ true → OneOf roles d
one_of roles d h i j e f ei ej re rf same =
    one_by (both_of roles) d.cells h i j e f ei ej (clashes e f re rf same)
    (clashes f e rf re (sym same))
  where
    clashes : (x y : Cell) → roles x.role ≡ true → roles y.role ≡ true → x.num ≡ y.num → both_of roles x y ≡ true
    clashes x y rx ry n =
        and_from (roles x.role) (roles y.role && (x.num == y.num)) rx
        (and_from (roles y.role) (x.num == y.num) ry (eq-eqb x.num y.num n))

abbrev same_bit : Option ℕ → Option ℕ → Bool
same_bit None b = false
same_bit (Some a) None = false
same_bit (Some a) (Some b) = a == b

same_bit_of : (n : ℕ) (a b : Option ℕ) → is_on n a ≡ true → is_on n b ≡ true → same_bit a b ≡ true
same_bit_of n None b h k = cc h
same_bit_of n (Some a) None h k = cc k
same_bit_of n (Some a) (Some b) h k = eq-eqb a b (eqb-true a n h ∙ sym (eqb-true b n k))

abbrev drive_one : Cell → Cell → Bool
drive_one x y = is_driving x.role && (is_driving y.role && same_bit x.bit y.bit)

one_driver_of : (d : RawDevice) → later_pass (λ x y. not (drive_one x y)) d.cells ≡ true → OneDriver d
one_driver_of d h i j b e f ei ej de df = one_by drive_one d.cells h i j e f ei ej (clashes e f de df) (clashes f e df de)
  where
    clashes : (x y : Cell) → drives_bit b x ≡ true → drives_bit b y ≡ true → drive_one x y ≡ true
    clashes x y dx dy =
        let p = and_parts (is_on b x.bit) (is_driving x.role) dx in
        let q = and_parts (is_on b y.bit) (is_driving y.role) dy in
        and_from (is_driving x.role) (is_driving y.role && same_bit x.bit y.bit) p.1
        (and_from (is_driving y.role) (same_bit x.bit y.bit) q.1
        (same_bit_of b x.bit y.bit p.0 q.0))

abbrev fits_bit : Role → Option PortBit → Bool
fits_bit role None = true
fits_bit role (Some bit) = not bit.tap && (not (is_driving role) || may_drive bit.mode)

abbrev fits : List PortBit → Role → Option ℕ → Bool
fits bits role None = true
fits bits role (Some b) = fits_bit role (slice_get bits b)

fits_of : (d : RawDevice) → list_all (λ e. fits d.bits e.role e.bit) d.cells ≡ true → EntriesFitPorts d
fits_of d h i b e bit ei eb en =
    let there : fits_bit e.role (Some bit)
    ≡ true = sym (ap (fits d.bits e.role) eb ∙ ap (fits_bit e.role) en)
    ∙ item_by (λ (v : Cell). fits d.bits v.role v.bit) d.cells i e h ei in
    let parts = and_parts (not bit.tap) (not (is_driving e.role) || may_drive bit.mode) there in
    (not-true bit.tap parts.0, λ drives. implied (is_driving e.role) (may_drive bit.mode) parts.1 drives)

-- the device keeps the rules on entries of the boundary register
abbrev cells_pass : RawDevice → Bool
cells_pass d =
    list_all (λ e. nat_lt e.num d.boundary) d.cells &&
    (list_all (λ cell. list_any (λ n. n == cell) (map (λ e. e.num) d.cells))
    (range_with_len 0 d.boundary)
    &&
    (list_all (λ e. place_passes (length d.bits) e.role e.bit) d.cells &&
    (list_all (λ e. control_passes e.role e.ctl) d.cells &&
    (list_all (λ e. stands_passes d.cells e.num e.ctl) d.cells
    &&
    (list_all (λ e. below_passes d.boundary e.ctl) d.cells &&
    (two_pass (λ x y. disable_passes x.ctl y.ctl) d.cells d.cells &&
    (later_pass (λ x y. not (both_of is_loading x y)) d.cells
    &&
    (later_pass (λ x y. not (both_of is_writing x y)) d.cells &&
    (later_pass (λ x y. not (drive_one x y)) d.cells && list_all (λ e. fits d.bits e.role e.bit)
    d.cells)))))))))

-- the device keeps all rules of devices
abbrev pub device_passes : RawDevice → Bool
device_passes d =
    nat_le 2 d.ir &&
    (nat_le d.ir 255 &&
    (nat_le 1 d.boundary &&
    (nat_le d.boundary 65535 &&
    (nat_le (length d.bits) 65535 && (codes_pass d && (ports_pass d && (tap_passes d.bits
    && (later_pass (λ x y. not (same_pin x.pin y.pin)) d.bits && cells_pass d))))))))

number_listed : (ns : List ℕ) (n : ℕ) → list_any (λ m. m == n) ns ≡ true → Contains ns n
number_listed ns n h =
    let r = any_has (λ (m : ℕ). m == n) ns h in
    let P : ℕ → Type 0 = λ m. Contains ns m in
    subst P (eqb-true r.0 n r.2) (has_contains ns r.0 r.1)

pub device_of : (d : RawDevice) → device_passes d ≡ true → IsDevice d
device_of d h =
    let a = and_parts (nat_le 2 d.ir) _ h in
    let b = and_parts (nat_le d.ir 255) _ a.1 in
    let c = and_parts (nat_le 1 d.boundary) _ b.1 in
    let e = and_parts (nat_le d.boundary 65535) _ c.1 in
    let f = and_parts (nat_le (length d.bits) 65535) _ e.1 in
    let g = and_parts (codes_pass d) _ f.1 in
    let i = and_parts (ports_pass d) _ g.1 in
    let j = and_parts (tap_passes d.bits) _ i.1 in
    let k = and_parts (later_pass (λ (x y : PortBit). not (same_pin x.pin y.pin)) d.bits) (cells_pass d) j.1 in
    let l = and_parts (list_all (λ (e : Cell). nat_lt e.num d.boundary) d.cells) _ k.1 in
    let m = and_parts
    (list_all (λ (cell : ℕ). list_any (λ n. n == cell) (map (λ (e : Cell). e.num) d.cells))
    (range_with_len 0 d.boundary)) _ l.1 in
    let n = and_parts (list_all (λ (e : Cell). place_passes (length d.bits) e.role e.bit) d.cells) _ m.1 in
    let o = and_parts (list_all (λ (e : Cell). control_passes e.role e.ctl) d.cells) _ n.1 in
    let p = and_parts (list_all (λ (e : Cell). stands_passes d.cells e.num e.ctl) d.cells) _ o.1 in
    let q = and_parts (list_all (λ (e : Cell). below_passes d.boundary e.ctl) d.cells) _ p.1 in
    let r = and_parts (two_pass (λ (x y : Cell). disable_passes x.ctl y.ctl) d.cells d.cells) _ q.1 in
    let s = and_parts (later_pass (λ (x y : Cell). not (both_of is_loading x y)) d.cells) _ r.1 in
    let t = and_parts (later_pass (λ (x y : Cell). not (both_of is_writing x y)) d.cells) _ s.1 in
    let u = and_parts (later_pass (λ (x y : Cell). not (drive_one x y)) d.cells)
    (list_all (λ (e : Cell). fits d.bits e.role e.bit) d.cells) t.1 in
    record {
      ir_least = leb-true 2 d.ir a.0;
      ir_most = leb-true d.ir 255 b.0;
      boundary_least = leb-true 1 d.boundary c.0;
      boundary_most = leb-true d.boundary 65535 e.0;
      bits_most = leb-true (length d.bits) 65535 f.0;
      codes = codes_of d g.0;
      ports = ports_of d i.0;
      tap = tap_of d.bits j.0;
      pins_differ = pins_of d k.0;
      cells_below =
          all_by (λ (e : Cell). e.num < d.boundary) (λ e. nat_lt e.num d.boundary)
          (λ e w. ltb-true e.num d.boundary w) d.cells l.0;
      cells_all =
          λ cell less. number_listed (map (λ (e : Cell). e.num) d.cells) cell
          (below_by (λ cell. list_any (λ n. n == cell) (map (λ (e : Cell). e.num) d.cells))
          d.boundary cell m.0 less);
      places =
          all_by (λ (e : Cell). HasPlace (length d.bits) e.role e.bit)
          (λ e. place_passes (length d.bits) e.role e.bit)
          (λ e w. place_of (length d.bits) e.role e.bit w) d.cells n.0;
      controls_given =
          all_by (λ (e : Cell). MayHaveControl e.role e.ctl) (λ e. control_passes e.role e.ctl)
          (λ e w. control_of e.role e.ctl w) d.cells o.0;
      controls_stand = stands_of d p.0;
      controls_below =
          all_by (λ (e : Cell). IfSome e.ctl (λ control. control.cell < d.boundary))
          (λ e. below_passes d.boundary e.ctl) (λ e w. below_of d.boundary e.ctl w) d.cells q.0;
      one_disable = disable_is d r.0;
      one_loading = one_of is_loading d s.0;
      one_writing = one_of is_writing d t.0;
      one_driver = one_driver_of d u.0;
      fits_ports = fits_of d u.1;
    }
