-- Lemmas about the numbers of port bits.
use Rattle.std.proofs.Common.{◌≡◌, ℕ, zero, suc, ◌+◌, ◌<◌, ◌≤◌, Bool, true, false, ◌&&◌, ◌||◌, cond, not, List, [], ◌∷◌, ◌++◌, length, take, drop, get_or, Option, Some, None, refl, sym, ap, subst, ◌∙◌, arith, nat_lt}
use Rattle.std.specs.Prelude.{if◌then◌else◌, option_map, slice_get, find}
use Rattle.std.specs.List.{list_any, position_from, position_or_len}
use Rattle.std.specs.Str.{bytes_eq}
use Rattle.std.proofs.lemmas.List.Sums.{sum_by-cons, sum_by_more, sum_by-take-le}
use Rattle.std.proofs.lemmas.Slice.Eq.{bytes_eq-Decides}
use Rattle.std.proofs.lemmas.List.Folds.{list_any-append, find_at}
use Rattle.std.proofs.lemmas.List.{drop_more, take-append-drop}
use Rattle.std.proofs.lemmas.Option.{slice_get_past, slice_get-get_or}
use Rattle.std.proofs.lemmas.Iterator.Adapters.{position_from-zero}
use Rattle.std.proofs.lemmas.Bool.{or_parts, not-false, or_from, ltb-true, ltb-false}
use Rattle.std.proofs.lemmas.Bool.Decides.{nat_tests}
use Rattle.board_defs.specs.Limits.{most_bits}
use Rattle.board_defs.proofs.Members.{has_at}
use Rattle.bsdl_parser.specs.declared.entity.Port.{Port}
use Rattle.first_places.specs.Items.{first_from, or_else}
use Rattle.device_rules.specs.Ports.{range_in_order, width, bit_total, port_named, breaks_port, v2, indexes, bits_along, bits_in_port, bits_from, all_port_bits, has_index, is_bit_named, is_named, bit_number, Bit}
use Rattle.bsdl_strings.specs.declared.values.PortWord.TheVariants.{Star}
use Rattle.device_rules.specs.inner.Index.{index_place}
use Rattle.device_rules.proofs.RangeLemmas.{place_found, place_within, length_indexes}
use Rattle.device_rules.proofs.RuleLemmas.{holds}
use Rattle.device_rules.proofs.IsDeviceLists.{none_has}

place_append_by : {A : Type 0} (p : A → Bool) (n : ℕ) (xs ys : List A) (b : Bool)
    → position_from p (n + 1) (xs ++ ys)
    ≡ or_else (position_from p (n + 1) xs) (position_from p (n + 1 + length xs) ys)
    → cond b (Some n) (position_from p (n + 1) (xs ++ ys))
    ≡ or_else (cond b (Some n) (position_from p (n + 1) xs))
    (position_from p (n + suc (length xs)) ys)
place_append_by p n xs ys true e = refl
place_append_by p n xs ys false e =
    let sums : n + 1 + length xs ≡ n + suc (length xs) = omega arith in
    e ∙ ap (λ k. or_else (position_from p (n + 1) xs) (position_from p k ys)) sums

place_append : {A : Type 0} (p : A → Bool) (n : ℕ) (xs ys : List A)
    → position_from p n (xs ++ ys)
    ≡ or_else (position_from p n xs) (position_from p (n + length xs) ys)
place_append p n [] ys = let sums : n ≡ n + zero = omega arith in ap (λ k. position_from p k ys) sums
place_append p n (x ∷ xs) ys = place_append_by p n xs ys (p x) (place_append p (n + 1) xs ys)

none_along : (name : List ℕ) (at : Option ℕ) (number : ℕ) (port : Port) (place : ℕ)
    (ixs : List (Option ℕ)) (n : ℕ) → bytes_eq port.name name ≡ false
    → position_from (is_bit_named name at) n (bits_along number port place ixs) ≡ None
none_along name at number port place [] n e = refl
none_along name at number port place (i ∷ ixs) n e =
    ap
    (λ b. cond (b && has_index at i) (Some n)
    (position_from (is_bit_named name at) (n + 1) (bits_along number port (place + 1) ixs))) e
    ∙ none_along name at number port (place + 1) ixs (n + 1) e

some_along : (name : List ℕ) (at : Option ℕ) (number : ℕ) (port : Port) (place : ℕ)
    (ixs : List (Option ℕ)) (n : ℕ) → bytes_eq port.name name ≡ true
    → position_from (is_bit_named name at) n (bits_along number port place ixs)
    ≡ position_from (has_index at) n ixs
some_along name at number port place [] n e = refl
some_along name at number port place (i ∷ ixs) n e =
    ap (λ b. cond (b && has_index at i) (Some n) (position_from (is_bit_named name at) (n + 1) (bits_along number port (place + 1) ixs))) e
    ∙ ap (λ o. cond (has_index at i) (Some n) o) (some_along name at number port (place + 1) ixs (n + 1) e)

length_along : (number : ℕ) (port : Port) (place : ℕ) (ixs : List (Option ℕ)) → length (bits_along number port place ixs) ≡ length ixs
length_along number port place [] = refl
length_along number port place (i ∷ ixs) = ap suc (length_along number port (place + 1) ixs)

none_among : (name : List ℕ) (at : Option ℕ) (number n : ℕ) (ports : List Port)
    → list_any (port_named name) ports ≡ false
    → position_from (is_bit_named name at) n (bits_from number ports) ≡ None
none_among name at number n [] e = refl
none_among name at number n (port ∷ ports) e =
    let parts = or_parts (bytes_eq port.name name) (list_any (port_named name) ports) e in
    place_append (is_bit_named name at) n (bits_in_port number port) (bits_from (number + 1) ports)
    ∙ ap
    (λ o. or_else o
    (position_from (is_bit_named name at) (n + length (bits_in_port number port))
    (bits_from (number + 1) ports)))
    (none_along name at number port 0 (indexes port.range) n parts.0)
    ∙ none_among name at (number + 1) (n + length (bits_in_port number port)) ports parts.1

-- no port has the name of an earlier port, and each port's range is in order
abbrev pub Apart : List Port → Type 0
Apart [] = Unit {0}
Apart (port ∷ ports) = (range_in_order port.range ≡ true) × (list_any (port_named port.name) ports ≡ false) × Apart ports

pub length_bits : (number : ℕ) (port : Port) → range_in_order port.range ≡ true → length (bits_in_port number port) ≡ width port.range
length_bits number port e = length_along number port 0 (indexes port.range) ∙ length_indexes port.range e

none_else : {A : Type 0} (o : Option A) → or_else o None ≡ o
none_else None = refl
none_else (Some a) = refl

-- The number of the bit with this name and index, found port by port, or None if there is no such bit.
-- The bits are numbered from `start` on.
abbrev located : List ℕ → Option ℕ → ℕ → List Port → Option ℕ
located name at start [] = None
located name at start (port ∷ ports) =
    cond (bytes_eq port.name name) (option_map (λ k. start + k) (index_place port.range at))
    (located name at (start + width port.range) ports)

located_by : (name : List ℕ) (at : Option ℕ) (number start : ℕ) (port : Port) (ports : List Port)
    (b : Bool) → bytes_eq port.name name ≡ b → Apart (port ∷ ports)
    → position_from (is_bit_named name at) (start + width port.range) (bits_from (number + 1) ports)
    ≡ located name at (start + width port.range) ports
    → position_from (is_bit_named name at) start (bits_from number (port ∷ ports))
    ≡ cond b (option_map (λ k. start + k) (index_place port.range at))
    (located name at (start + width port.range) ports)
located_by name at number start port ports true e apart later =
    let is : port.name ≡ name = named e in
    let others : list_any (port_named name) ports ≡ false = subst (λ n. list_any (port_named n) ports ≡ false) is apart.1 in
    place_append (is_bit_named name at) start (bits_in_port number port) (bits_from (number + 1) ports)
    ∙ ap (λ o. or_else (position_from (is_bit_named name at) start (bits_in_port number port)) o)
    (none_among name at (number + 1) (start + length (bits_in_port number port)) ports others)
    ∙ none_else (position_from (is_bit_named name at) start (bits_in_port number port))
    ∙ some_along name at number port 0 (indexes port.range) start e
    ∙ place_found port.range at start apart.0
  where
    named : bytes_eq port.name name ≡ true → port.name ≡ name
    named e = grind (arith, bytes_eq-Decides)
located_by name at number start port ports false e apart later =
    place_append (is_bit_named name at) start (bits_in_port number port) (bits_from (number + 1) ports)
    ∙ ap
    (λ o. or_else o
    (position_from (is_bit_named name at) (start + length (bits_in_port number port))
    (bits_from (number + 1) ports)))
    (none_along name at number port 0 (indexes port.range) start e)
    ∙ ap (λ k. position_from (is_bit_named name at) (start + k) (bits_from (number + 1) ports)) (length_bits number port apart.0)
    ∙ later

located_is : (name : List ℕ) (at : Option ℕ) (number start : ℕ) (ports : List Port) → Apart ports
    → position_from (is_bit_named name at) start (bits_from number ports)
    ≡ located name at start ports
located_is name at number start [] apart = refl
located_is name at number start (port ∷ ports) apart =
    located_by name at number start port ports (bytes_eq port.name name) refl apart
    (located_is name at (number + 1) (start + width port.range) ports apart.2)

place_later_by : {A : Type 0} (p : A → Bool) (n : ℕ) (x : A) (xs : List A) (b : Bool)
    → position_from p (n + 1 + 1) xs ≡ option_map (λ k. k + 1) (position_from p (n + 1) xs)
    → cond b (Some (n + 1)) (position_from p (n + 1 + 1) xs)
    ≡ option_map (λ k. k + 1) (cond b (Some n) (position_from p (n + 1) xs))
place_later_by p n x xs true e = refl
place_later_by p n x xs false e = e

place_later : {A : Type 0} (p : A → Bool) (n : ℕ) (xs : List A)
    → position_from p (n + 1) xs ≡ option_map (λ k. k + 1) (position_from p n xs)
place_later p n [] = refl
place_later p n (x ∷ xs) = place_later_by p n x xs (p x) (place_later p (n + 1) xs)

-- `b` says whether `port` has the name. If neither `port` nor one of `ports` has the name, `located` finds no bit.
nowhere_by : (name : List ℕ) (at : Option ℕ) (start : ℕ) (port : Port) (ports : List Port)
    (b : Bool)
    → (position_from (port_named name) 0 ports ≡ None
    → located name at (start + width port.range) ports ≡ None)
    → cond b (Some 0) (position_from (port_named name) 1 ports) ≡ None
    → cond b (option_map (λ k. start + k) (index_place port.range at))
    (located name at (start + width port.range) ports) ≡ None
nowhere_by name at start port ports true later e = cc e
nowhere_by name at start port ports false later e =
    later
    (none_before (position_from (port_named name) 0 ports)
    (sym (place_later (port_named name) 0 ports) ∙ e))
  where
    none_before : (o : Option ℕ) → option_map (λ k. k + 1) o ≡ None → o ≡ None
    none_before None e = refl
    none_before (Some k) e = cc e

nowhere : (name : List ℕ) (at : Option ℕ) (start : ℕ) (ports : List Port)
    → position_from (port_named name) 0 ports ≡ None → located name at start ports ≡ None
nowhere name at start [] e = refl
nowhere name at start (port ∷ ports) e =
    nowhere_by name at start port ports (bytes_eq port.name name)
    (λ none. nowhere name at (start + width port.range) ports none) e

-- `b` says whether `port` has the name. If port `n` of the list `port ∷ ports` is the first port with the
-- name, `located` adds the number of bits before port `n` to the place of the index in its range.
there_by : (name : List ℕ) (at : Option ℕ) (start n : ℕ) (d port : Port) (ports : List Port) (b : Bool)
    → ((m : ℕ) → position_from (port_named name) 0 ports ≡ Some m
    → located name at (start + width port.range) ports
    ≡ option_map (λ k. start + width port.range + bit_total (take m ports) + k)
    (index_place (get_or ports m d).range at))
    → cond b (Some 0) (position_from (port_named name) 1 ports) ≡ Some n
    → cond b (option_map (λ k. start + k) (index_place port.range at))
    (located name at (start + width port.range) ports)
    ≡ option_map (λ k. start + bit_total (take n (port ∷ ports)) + k)
    (index_place (get_or (port ∷ ports) n d).range at)
there_by name at start n d port ports true later e = first n (first_is e)
  where
    first_is : Some 0 ≡ Some n → 0 ≡ n
    first_is e = cc e

    same_sums : (o : Option ℕ) → option_map (λ k. start + k) o ≡ option_map (λ k. start + 0 + k) o
    same_sums None = refl
    same_sums (Some k) = let sums : start + k ≡ start + 0 + k = omega arith in ap Some sums

    first : (n : ℕ) → 0 ≡ n
        → option_map (λ k. start + k) (index_place port.range at)
        ≡ option_map (λ k. start + bit_total (take n (port ∷ ports)) + k)
        (index_place (get_or (port ∷ ports) n d).range at)
    first n e =
        subst
        (λ n. option_map (λ k. start + k) (index_place port.range at)
        ≡ option_map (λ k. start + bit_total (take n (port ∷ ports)) + k)
        (index_place (get_or (port ∷ ports) n d).range at)) e
        (same_sums (index_place port.range at))
there_by name at start n d port ports false later e =
    next (position_from (port_named name) 0 ports) refl
    (sym (place_later (port_named name) 0 ports) ∙ e)
  where
    sums : (m : ℕ) (o : Option ℕ)
        → option_map (λ k. start + width port.range + bit_total (take m ports) + k) o
        ≡ option_map (λ k. start + bit_total (port ∷ take m ports) + k) o
    sums m None = refl
    sums m (Some k) =
        let bits : bit_total (port ∷ take m ports)
        ≡ width port.range + bit_total (take m ports) = sum_by-cons (λ port. width port.range)
        port (take m ports) in
        let sums : start + width port.range + bit_total (take m ports) + k
        ≡ start + bit_total (port ∷ take m ports) + k = omega (arith, bits) in
        ap Some sums

    shifted : (m : ℕ) → suc m ≡ n → position_from (port_named name) 0 ports ≡ Some m
        → located name at (start + width port.range) ports
        ≡ option_map (λ k. start + bit_total (take n (port ∷ ports)) + k)
        (index_place (get_or (port ∷ ports) n d).range at)
    shifted m e f =
        subst
        (λ n. located name at (start + width port.range) ports
        ≡ option_map (λ k. start + bit_total (take n (port ∷ ports)) + k)
        (index_place (get_or (port ∷ ports) n d).range at)) e
        (later m f ∙ sums m (index_place (get_or ports m d).range at))

    next : (o : Option ℕ) → position_from (port_named name) 0 ports ≡ o
        → option_map (λ k. k + 1) o ≡ Some n
        → located name at (start + width port.range) ports
        ≡ option_map (λ k. start + bit_total (take n (port ∷ ports)) + k)
        (index_place (get_or (port ∷ ports) n d).range at)
    next None f e = cc e
    next (Some m) f e = let is : m + 1 ≡ n = cc e in shifted m (omega (arith, is)) f

there : (name : List ℕ) (at : Option ℕ) (start n : ℕ) (d : Port) (ports : List Port) → position_from (port_named name) 0 ports ≡ Some n
    → located name at start ports ≡ option_map (λ k. start + bit_total (take n ports) + k) (index_place (get_or ports n d).range at)
there name at start n d [] e = cc e
there name at start n d (port ∷ ports) e =
    there_by name at start n d port ports (bytes_eq port.name name)
    (λ m f. there name at (start + width port.range) m d ports f) e

-- no port of the second list has the name of a port of the first
abbrev Fresh : List Port → List Port → Type 0
Fresh before [] = Unit {0}
Fresh before (port ∷ ports) = (list_any (port_named port.name) before ≡ false) × Fresh before ports

fresh_less : (before : List Port) (port : Port) (ports : List Port)
    → Fresh (before ++ port ∷ []) ports
    → Fresh before ports × (list_any (port_named port.name) ports ≡ false)
fresh_less before port [] h = (tt, refl)
fresh_less before port (later ∷ ports) h =
    let rest = fresh_less before port ports h.1 in
    let both : (list_any (port_named later.name) before || (bytes_eq port.name later.name || false))
    ≡ false = sym (list_any-append (port_named later.name) before (port ∷ [])) ∙ h.0 in
    let parts = or_parts (list_any (port_named later.name) before) _ both in
    let here : bytes_eq later.name port.name
    ≡ false = turned port.name later.name
    (or_parts (bytes_eq port.name later.name) false parts.1).0 in
    ((parts.0, rest.0), or_from _ _ here rest.1)
  where
    turned : (a b : List ℕ) → bytes_eq a b ≡ false → bytes_eq b a ≡ false
    turned a b e = grind (arith, bytes_eq-Decides)

abbrev KeptFrom : List Port → List Port → Type 0
KeptFrom before ports = Fresh before ports × Apart ports

kept_by : (before : List Port) (port : Port) (ports : List Port) (b : Bool)
    → breaks_port before port ≡ b
    → (first_from breaks_port (before ++ port ∷ []) ports ≡ None
    → KeptFrom (before ++ port ∷ []) ports)
    → (if b then Some (length before + 1) else first_from breaks_port (before ++ port ∷ []) ports) ≡ None → KeptFrom before (port ∷ ports)
kept_by before port ports true e later h = cc h
kept_by before port ports false e later h =
    let rest = later h in
    let less = fresh_less before port ports rest.0 in
    let fresh = or_parts (list_any (port_named port.name) before) _ e in
    let ordered = or_parts (not (range_in_order port.range)) _ fresh.1 in
    ((fresh.0, less.0), (not-false (range_in_order port.range) ordered.0, less.1, rest.1))

kept_from : (before ports : List Port) → first_from breaks_port before ports ≡ None → KeptFrom before ports
kept_from before [] e = (tt, tt)
kept_from before (port ∷ ports) e = kept_by before port ports (breaks_port before port) refl (kept_from (before ++ port ∷ []) ports) e

pub apart : (ports : List Port) → v2 ports ≡ None → Apart ports
unfolding v2
apart ports e = (kept_from [] ports e).1

pub is_first : (name : List ℕ) (ports : List Port) (n : ℕ) (port : Port) → Apart ports
    → slice_get ports n ≡ Some port → bytes_eq port.name name ≡ true
    → position_from (port_named name) 0 ports ≡ Some n
is_first name [] n port h at is = cc at
is_first name (first ∷ ports) zero port h at is =
    let same : first ≡ port = cc at in
    ap (λ b. cond b (Some 0) (position_from (port_named name) 1 ports))
    (ap (port_named name) same ∙ is)
is_first name (first ∷ ports) (suc n) port h at is =
    let sums : n + 1 ≡ suc n = omega arith in
    ap (λ b. cond b (Some 0) (position_from (port_named name) 1 ports))
    (differs (none_has (port_named first.name) ports port h.1 (has_at ports n port at)) is)
    ∙ place_later (port_named name) 0 ports ∙ ap (option_map (λ k. k + 1)) (is_first name ports n port h.2 at is) ∙ ap Some sums
  where
    differs : bytes_eq port.name first.name ≡ false → bytes_eq port.name name ≡ true → bytes_eq first.name name ≡ false
    differs e f = grind (arith, bytes_eq-Decides)

at_by : {A : Type 0} (p : A → Bool) (xs : List A) (n : ℕ) (b : Bool)
    → nat_lt (position_or_len p xs) (length xs) ≡ b
    → cond b (Some (position_or_len p xs)) None ≡ Some n
    → (n < length xs) × (find p xs ≡ slice_get xs n)
at_by p xs n true e f =
    let is : position_or_len p xs ≡ n = cc f in
    (subst (λ k. k < length xs) is (ltb-true (position_or_len p xs) (length xs) e), find_at p xs ∙ ap (slice_get xs) is)
at_by p xs n false e f = cc f

at_first : {A : Type 0} (p : A → Bool) (xs : List A) (n : ℕ) → position_from p 0 xs ≡ Some n
    → (n < length xs) × (find p xs ≡ slice_get xs n)
at_first p xs n e = at_by p xs n (nat_lt (position_or_len p xs) (length xs)) refl (position_from-zero p xs ∙ e)

pub number_below : {A : Type 0} (p : A → Bool) (xs : List A) (n : ℕ) → position_from p 0 xs ≡ Some n → n < length xs
number_below p xs n e = (at_first p xs n e).0

pub found_at : {A : Type 0} (p : A → Bool) (xs : List A) (n : ℕ) → position_from p 0 xs ≡ Some n → slice_get xs n ≡ find p xs
found_at p xs n e = sym (at_first p xs n e).1

nothing_by : {A : Type 0} (p : A → Bool) (xs : List A) (b : Bool)
    → nat_lt (position_or_len p xs) (length xs) ≡ b
    → cond b (Some (position_or_len p xs)) None ≡ None → None ≡ find p xs
nothing_by p xs true e f = cc f
nothing_by p xs false e f = sym (find_at p xs ∙ slice_get_past xs (position_or_len p xs) (ltb-false (position_or_len p xs) (length xs) e))

pub nothing_found : {A : Type 0} (p : A → Bool) (xs : List A) → position_from p 0 xs ≡ None → None ≡ find p xs
nothing_found p xs e = nothing_by p xs (nat_lt (position_or_len p xs) (length xs)) refl (position_from-zero p xs ∙ e)

pub bits_few : (ports : List Port) (i : ℕ) (port : Port) → v2 ports ≡ None → i < length ports
    → get_or ports i port ≡ port → bit_total (take i ports) + width port.range ≤ most_bits
unfolding v2
bits_few ports i port e less is =
    let cut : ports ≡ take i ports ++ port ∷ drop (i + 1) ports =
    sym (take-append-drop i ports) ∙ ap (λ xs. take i ports ++ xs) (drop_more ports i port less ∙ ap (λ x. x ∷ drop (i + 1) ports) is) in
    let fits : breaks_port (take i ports) port ≡ false = holds breaks_port ports e (take i ports) port (drop (i + 1) ports) cut in
    few (bit_total (take i ports) + width port.range)
    (or_parts (not (range_in_order port.range)) _
    (or_parts (list_any (port_named port.name) (take i ports)) _ fits).1).1
  where
    few : (n : ℕ) → nat_lt most_bits n ≡ false → n ≤ most_bits
    few n e = grind (arith, nat_tests)

pub bits_more : (ports : List Port) (i : ℕ) (port : Port) → i < length ports
    → get_or ports i port ≡ port
    → bit_total (take (i + 1) ports) ≡ bit_total (take i ports) + width port.range
bits_more ports i port less is =
    sum_by_more (λ port. width port.range) ports i port less ∙ ap (λ p. bit_total (take i ports) + width p.range) is

pub found_item : {A : Type 0} (p : A → Bool) (xs : List A) (n : ℕ) (x : A)
    → position_from p 0 xs ≡ Some n → get_or xs n x ≡ x → Some x ≡ find p xs
found_item p xs n x e is = sym (slice_get-get_or xs n x (number_below p xs n e) ∙ ap Some is) ∙ found_at p xs n e

-- the number of the bit with this name and index, or None if there is no such bit
abbrev bit_by : List Port → List ℕ → Option ℕ → Option ℕ
bit_by ports name at = position_from (is_bit_named name at) 0 (all_port_bits ports)

pub nowhere_bit : (ports : List Port) (name : List ℕ) (at : Option ℕ) → v2 ports ≡ None
    → position_from (port_named name) 0 ports ≡ None → None ≡ bit_by ports name at
nowhere_bit ports name at kept e = sym (located_is name at 0 0 ports (apart ports kept) ∙ nowhere name at 0 ports e)

there_bit : (ports : List Port) (name : List ℕ) (at : Option ℕ) (n : ℕ) (port : Port)
    → v2 ports ≡ None → position_from (port_named name) 0 ports ≡ Some n
    → get_or ports n port ≡ port
    → bit_by ports name at ≡ option_map (λ k. bit_total (take n ports) + k) (index_place port.range at)
there_bit ports name at n port kept e is =
    located_is name at 0 0 ports (apart ports kept) ∙ there name at 0 n port ports e
    ∙ ap (λ p. option_map (λ k. 0 + bit_total (take n ports) + k) (index_place p.range at)) is
    ∙ same (index_place port.range at)
  where
    same : (o : Option ℕ) → option_map (λ k. 0 + bit_total (take n ports) + k) o ≡ option_map (λ k. bit_total (take n ports) + k) o
    same None = refl
    same (Some k) = let sums : 0 + bit_total (take n ports) + k ≡ bit_total (take n ports) + k = omega arith in ap Some sums

pub outside_bit : (ports : List Port) (name : List ℕ) (at : Option ℕ) (n : ℕ) (port : Port)
    → v2 ports ≡ None → position_from (port_named name) 0 ports ≡ Some n
    → get_or ports n port ≡ port
    → index_place port.range at ≡ None → None ≡ bit_by ports name at
outside_bit ports name at n port kept e is none =
    sym
    (there_bit ports name at n port kept e is
    ∙ ap (option_map (λ k. bit_total (take n ports) + k)) none)

pub inside_bit : (ports : List Port) (name : List ℕ) (at : Option ℕ) (n k start : ℕ) (port : Port)
    → v2 ports ≡ None → position_from (port_named name) 0 ports ≡ Some n
    → get_or ports n port ≡ port
    → index_place port.range at ≡ Some k → start ≡ bit_total (take n ports) → Some (start + k) ≡ bit_by ports name at
inside_bit ports name at n k start port kept e is here before =
    ap (λ m. Some (m + k)) before
    ∙ sym
    (there_bit ports name at n port kept e is
    ∙ ap (option_map (λ k. bit_total (take n ports) + k)) here)

pub bit_fits : (ports : List Port) (name : List ℕ) (at : Option ℕ) (n k start : ℕ) (port : Port)
    → v2 ports ≡ None → position_from (port_named name) 0 ports ≡ Some n
    → get_or ports n port ≡ port
    → index_place port.range at ≡ Some k → start ≡ bit_total (take n ports) → start + k < 65536
bit_fits ports name at n k start port kept e is here before =
    let few = bits_few ports n port kept (number_below (port_named name) ports n e) is in
    let within = place_within port.range at k here in
    omega (arith, few, within, before)

pub bit_within : (ports : List Port) (name : List ℕ) (at : Option ℕ) (n k start : ℕ) (port : Port)
    → position_from (port_named name) 0 ports ≡ Some n → get_or ports n port ≡ port
    → index_place port.range at ≡ Some k → start ≡ bit_total (take n ports) → start + k < bit_total ports
bit_within ports name at n k start port e is here before =
    let more = bits_more ports n port (number_below (port_named name) ports n e) is in
    let all = sum_by-take-le (λ port. width port.range) ports (n + 1) in
    let within = place_within port.range at k here in
    omega (arith, more, all, within, before)

star_by : (n : ℕ) (bits : List Bit) → position_from (is_named Star) n bits ≡ None
star_by n [] = refl
star_by n (bit ∷ bits) = star_by (n + 1) bits

pub star_bit : (ports : List Port) → bit_number ports Star ≡ None
star_bit ports = star_by 0 (all_port_bits ports)
