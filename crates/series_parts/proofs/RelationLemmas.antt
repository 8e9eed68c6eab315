-- The files that `joined_chain` and `joined_nets` return satisfy the relation `AreJoinedFiles`, and
-- no other files do.
use Rattle.std.proofs.Common.{◌≡◌, ℕ, zero, suc, ◌<◌, ◌≤◌, Bool, true, false, List, [], ◌∷◌, length, map, get_or, Option, Some, None, refl, sym, ap, subst, ◌∙◌, arith, true≢false, inl, inr}
use Rattle.std.specs.Prelude.{Contains, slice_get, find, unwrap_or}
use Rattle.std.proofs.lemmas.Option.{slice_get-get_or, slice_get_within, get_or_from_slice_get, some_pair_parts, none-some}
use Rattle.board_defs.proofs.Members.{Has, has_at, has_place, has_filter_map, filter_map_has, has_contains, contains_has}
use Rattle.board_files.specs.declared.chain_file.ChainLine.{ChainLine}
use Rattle.board_files.specs.declared.chain_file.ChainStatement.{ChainStatement}
use Rattle.board_files.specs.declared.chain_file.ChainStatement.TheVariants.{Device, Bypass, Inert, Supply, Pull, Link}
use Rattle.board_files.specs.declared.net_file.NetLine.{NetLine}
use Rattle.board_files.specs.Names.{same_word, line_names}
use Rattle.series_parts.specs.Nets.{Word, net_of_pin}
use Rattle.series_parts.specs.JoinedFiles.{IsLink, AreJoined, IsLeastJoined, IsReplaced, IsJoinedStatement, IsJoinedLine, IsJoinedNet, Each, AreJoinedFiles}
use Rattle.series_parts.specs.JoinedFiles.AreJoined.{itself, along, back}
use Rattle.series_parts.specs.Joining.{Pair, pair_of, link_on, links, leads, joined_name, joined_statement, joined_line, joined_net, renaming, joined_chain, joined_nets}
use Rattle.series_parts.specs.inner.Edges.{name_place}
use Rattle.series_parts.proofs.LeadLemmas.{Way, way, leads_self, leads_forth, leads_back, same_self, same_is}
use Rattle.series_parts.proofs.LeadLemmas.Way.{without, forth, back as from_end}
use Rattle.series_parts.proofs.FindLemmas.{place_found, place_of_item, find_first}
use Rattle.series_parts.proofs.EdgeLemmas.{at, kept_name}

joined_trans : (chain : List ChainLine) (nets : List NetLine) (a b c : Word)
    → AreJoined chain nets a b → AreJoined chain nets b c → AreJoined chain nets a c
joined_trans chain nets a b c itself q = q
joined_trans chain nets a b c (along {b = d} link p) q = along link (joined_trans chain nets d b c p q)
joined_trans chain nets a b c (back {b = d} link p) q = back link (joined_trans chain nets d b c p q)

has_of_link : (chain : List ChainLine) (nets : List NetLine) (a b : Word) → IsLink chain nets a b → Has (links nets chain) (a, b)
has_of_link chain nets a b link =
    let line : ChainLine = record { line = link.line; statement = Link link.part link.first link.second } in
    let pair : link_on nets (Link link.part link.first link.second)
    ≡ Some (a, b) = ap (λ o. pair_of o (net_of_pin nets link.part link.second)) link.of_first
    ∙ ap (pair_of (Some a)) link.of_second in
    has_filter_map (λ (l : ChainLine). link_on nets l.statement) chain line (a, b) (has_at chain link.place line link.stands) pair

pair_parts : (x y : Option Word) (a b : Word) → pair_of x y ≡ Some (a, b) → (x ≡ Some a) × (y ≡ Some b)
pair_parts None y a b h = cc h
pair_parts (Some c) None a b h = cc h
pair_parts (Some c) (Some d) a b h = let p = some_pair_parts c a d b h in (ap Some p.0, ap Some p.1)

link_at : (chain : List ChainLine) (nets : List NetLine) (a b : Word) (place n : ℕ)
    (s : ChainStatement) → slice_get chain place ≡ Some (record { line = n; statement = s })
    → link_on nets s ≡ Some (a, b) → IsLink chain nets a b
link_at chain nets a b place n (Link part first second) stands h =
    let p = pair_parts (net_of_pin nets part first) (net_of_pin nets part second) a b h in
    record { place = place; line = n; part = part; first = first; second = second; stands = stands; of_first = p.0; of_second = p.1 }
link_at chain nets a b place n (Device part entity pack) stands h = cc h
link_at chain nets a b place n (Bypass part bits) stands h = cc h
link_at chain nets a b place n (Inert part) stands h = cc h
link_at chain nets a b place n (Supply net) stands h = cc h
link_at chain nets a b place n (Pull net value) stands h = cc h

link_of_has : (chain : List ChainLine) (nets : List NetLine) (p : Pair) → Has (links nets chain) p → IsLink chain nets p.0 p.1
link_of_has chain nets p h =
    let r = filter_map_has (λ (l : ChainLine). link_on nets l.statement) chain p h in
    let s = has_place chain r.0 r.1 in
    link_at chain nets p.0 p.1 s.0 r.0.line r.0.statement s.1 r.2

pub joined_leads_to : (chain : List ChainLine) (nets : List NetLine) (a b : Word)
    → AreJoined chain nets a b → leads (links nets chain) a b ≡ true
joined_leads_to chain nets a b itself = leads_self (links nets chain) a
joined_leads_to chain nets a b (along {b = d} link p) =
    leads_forth (links nets chain) a d b (has_of_link chain nets a d link)
    (joined_leads_to chain nets d b p)
joined_leads_to chain nets a b (back {b = d} link p) =
    leads_back (links nets chain) a d b (has_of_link chain nets d a link)
    (joined_leads_to chain nets d b p)

by_way : (chain : List ChainLine) (nets : List NetLine) (link : Pair) (some : List Pair)
    (a b : Word) → IsLink chain nets link.0 link.1
    → ((c d : Word) → leads some c d ≡ true → AreJoined chain nets c d) → Way link some a b
    → AreJoined chain nets a b
by_way chain nets link some a b is rest (without q) = rest a b q
by_way chain nets link some a b is rest (forth q r) = joined_trans chain nets a link.0 b (rest a link.0 q) (along is (rest link.1 b r))
by_way chain nets link some a b is rest (from_end q r) = joined_trans chain nets a link.1 b (rest a link.1 q) (back is (rest link.0 b r))

joined_by : (chain : List ChainLine) (nets : List NetLine) (some : List Pair)
    → ((p : Pair) → Has some p → IsLink chain nets p.0 p.1) → (a b : Word) → leads some a b ≡ true
    → AreJoined chain nets a b
joined_by chain nets [] are a b h = subst (λ (w : Word). AreJoined chain nets a w) (same_is a b h) itself
joined_by chain nets (link ∷ some) are a b h =
    by_way chain nets link some a b (are link (inl refl))
    (λ c d q. joined_by chain nets some (λ p has. are p (inr has)) c d q) (way link some a b h)

pub leads_joined : (chain : List ChainLine) (nets : List NetLine) (a b : Word)
    → leads (links nets chain) a b ≡ true → AreJoined chain nets a b
leads_joined chain nets a b h = joined_by chain nets (links nets chain) (λ p has. link_of_has chain nets p has) a b h

-- `place` is the first index at which an item passes the test `p`
record Least {A : Type 0} (p : A → Bool) (xs : List A) (d : A) : Type 0 where
  place : ℕ
  within : place < length xs
  passes : p (get_or xs place d) ≡ true
  first : (i : ℕ) → i < place → p (get_or xs i d) ≡ false

least_later : {A : Type 0} (p : A → Bool) (x : A) (xs : List A) (d : A) → p x ≡ false → Least p xs d → Least p (x ∷ xs) d
least_later {A} p x xs d e l =
    let low : l.place < length xs = l.within in
    record { place = suc l.place; within = omega arith; passes = l.passes; first = before }
  where
    before : (i : ℕ) → i < suc l.place → p (get_or (x ∷ xs) i d) ≡ false
    before zero lt = e
    before (suc i) lt = l.first i (omega arith)

least_by : {A : Type 0} (p : A → Bool) (x : A) (xs : List A) (d : A) (k : ℕ) → (t : Bool) → p x ≡ t
    → k < length (x ∷ xs) → p (get_or (x ∷ xs) k d) ≡ true
    → ((k : ℕ) → k < length xs → p (get_or xs k d) ≡ true → Least p xs d) → Least p (x ∷ xs) d
least_by p x xs d k true e lt passes rest = record { place = 0; within = omega arith; passes = e; first = λ i less. absurd (omega arith) }
least_by p x xs d zero false e lt passes rest = absurd (true≢false (sym passes ∙ e))
least_by p x xs d (suc k) false e lt passes rest = least_later p x xs d e (rest k (omega arith) passes)

least_item : {A : Type 0} (p : A → Bool) (xs : List A) (d : A) (k : ℕ) → k < length xs → p (get_or xs k d) ≡ true → Least p xs d
least_item p [] d k lt passes = absurd (omega arith)
least_item p (x ∷ xs) d k lt passes = least_by p x xs d k (p x) refl lt passes (λ j less e. least_item p xs d j less e)

le_by : (m k : ℕ) → (k < m → ⊥) → m ≤ k
le_by zero k f = omega arith
le_by (suc m) zero f = absurd (f (omega arith))
le_by (suc m) (suc k) f = let r : m ≤ k = le_by m k (λ lt. f (omega arith)) in omega arith

least_joined : (chain : List ChainLine) (nets : List NetLine) (name : Word)
    → Contains (line_names nets) name
    → IsLeastJoined chain nets name (joined_name (links nets chain) (line_names nets) name)
unfolding joined_name
least_joined chain nets name has =
    let names = line_names nets in
    let p = leads (links nets chain) name in
    let s = has_place names name (contains_has names name has) in
    let itself_there : get_or names s.0 [] ≡ name = get_or_from_slice_get names s.0 name [] s.1 in
    let l = least_item p names [] s.0 (slice_get_within names s.0 name s.1) (ap p itself_there ∙ leads_self (links nets chain) name) in
    let found : unwrap_or (find p names) name
    ≡ at names l.place = ap (λ o. unwrap_or o name)
    (find_first p names [] l.place l.within l.passes l.first) in
    subst (λ (w : Word). IsLeastJoined chain nets name w) (sym found) (record {
      joined = leads_joined chain nets name (at names l.place) l.passes;
      place = l.place;
      stands = slice_get-get_or names l.place [] l.within;
      first =
          λ k other e j. le_by l.place k
          (λ less. true≢false
          (sym
          (ap p (get_or_from_slice_get names k other [] e)
          ∙ joined_leads_to chain nets name other j) ∙ l.first k less));
    })

contains_found : (names : List Word) (name : Word) (m : ℕ) → name_place names name ≡ Some m → Contains names name
contains_found names name m e =
    let r = place_found (λ n. same_word n name) 0 names [] m e in
    has_contains names name
    (has_at names r.0 name
    (slice_get-get_or names r.0 [] r.2.within
    ∙ ap Some (same_is (at names r.0) name r.2.passes)))

kept_by : (chain : List ChainLine) (nets : List NetLine) (name : Word)
    → (Contains (line_names nets) name → ⊥) → (o : Option ℕ) → name_place (line_names nets) name ≡ o
    → joined_name (links nets chain) (line_names nets) name ≡ name
kept_by chain nets name none None e = kept_name nets chain name e
kept_by chain nets name none (Some m) e = absurd (none (contains_found (line_names nets) name m e))

pub replaced : (chain : List ChainLine) (nets : List NetLine) (name : Word) → IsReplaced chain nets name (renaming chain nets name)
replaced chain nets name = record {
  there = λ has. least_joined chain nets name has;
  missing = λ none. kept_by chain nets name none (name_place (line_names nets) name) refl;
}

least_once : (chain : List ChainLine) (nets : List NetLine) (name x y : Word)
    → IsLeastJoined chain nets name x → IsLeastJoined chain nets name y → x ≡ y
least_once chain nets name x y a b =
    let below : a.place ≤ b.place = a.first b.place y b.stands b.joined in
    let above : b.place ≤ a.place = b.first a.place x a.stands a.joined in
    let same : a.place ≡ b.place = omega arith in
    let one : Some x ≡ Some y = sym a.stands ∙ ap (slice_get (line_names nets)) same ∙ b.stands in
    ap (λ o. unwrap_or o x) one

replaced_by : (chain : List ChainLine) (nets : List NetLine) (name x y : Word)
    → IsReplaced chain nets name x → IsReplaced chain nets name y → (o : Option ℕ)
    → name_place (line_names nets) name ≡ o → x ≡ y
replaced_by chain nets name x y a b (Some m) e =
    let has = contains_found (line_names nets) name m e in
    least_once chain nets name x y (a.there has) (b.there has)
replaced_by chain nets name x y a b None e = a.missing none ∙ sym (b.missing none)
  where
    none : Contains (line_names nets) name → ⊥
    none has =
        let s = has_place (line_names nets) name (contains_has (line_names nets) name has) in
        let r = place_of_item (λ n. same_word n name) (line_names nets) [] s.0
        (slice_get_within (line_names nets) s.0 name s.1)
        (ap (λ w. same_word w name) (get_or_from_slice_get (line_names nets) s.0 name [] s.1)
        ∙ same_self name) in
        none-some r.0 (sym e ∙ r.1)

pub replaced_once : (chain : List ChainLine) (nets : List NetLine) (name new : Word)
    → IsReplaced chain nets name new → new ≡ renaming chain nets name
replaced_once chain nets name new r =
    replaced_by chain nets name new (renaming chain nets name) r (replaced chain nets name)
    (name_place (line_names nets) name) refl

each_map : {A : Type 0} (R : A → A → Type 0) (f : A → A) → ((x : A) → R x (f x)) → (xs : List A) → Each R xs (map f xs)
each_map R f h [] = tt
each_map R f h (x ∷ xs) = (h x, each_map R f h xs)

each_once : {A : Type 0} (R : A → A → Type 0) (f : A → A) → ((x y : A) → R x y → y ≡ f x) → (xs ys : List A) → Each R xs ys → ys ≡ map f xs
each_once R f h [] [] r = refl
each_once R f h (x ∷ xs) [] r = absurd r
each_once R f h [] (y ∷ ys) r = absurd r
each_once R f h (x ∷ xs) (y ∷ ys) r = ap (λ z. z ∷ ys) (h x y r.0) ∙ ap (λ zs. f x ∷ zs) (each_once R f h xs ys r.1)

statement_joined : (chain : List ChainLine) (nets : List NetLine) (s : ChainStatement)
    → IsJoinedStatement chain nets s (joined_statement (renaming chain nets) s)
statement_joined chain nets (Link part first second) = refl
statement_joined chain nets (Supply net) = (renaming chain nets net, replaced chain nets net, refl)
statement_joined chain nets (Pull net value) = (renaming chain nets net, replaced chain nets net, refl)
statement_joined chain nets (Device part entity pack) = refl
statement_joined chain nets (Bypass part bits) = refl
statement_joined chain nets (Inert part) = refl

statement_once : (chain : List ChainLine) (nets : List NetLine) (s t : ChainStatement)
    → IsJoinedStatement chain nets s t → t ≡ joined_statement (renaming chain nets) s
statement_once chain nets (Link part first second) t h = h
statement_once chain nets (Supply net) t h = h.2 ∙ ap Supply (replaced_once chain nets net h.0 h.1)
statement_once chain nets (Pull net value) t h = h.2 ∙ ap (λ w. Pull w value) (replaced_once chain nets net h.0 h.1)
statement_once chain nets (Device part entity pack) t h = h
statement_once chain nets (Bypass part bits) t h = h
statement_once chain nets (Inert part) t h = h

line_once : (chain : List ChainLine) (nets : List NetLine) (old new : ChainLine)
    → IsJoinedLine chain nets old new → new ≡ joined_line (renaming chain nets) old
line_once chain nets old new h =
    let said = statement_once chain nets old.statement new.statement h.statement in
    λ i. record { line = h.line i; statement = said i }

net_once : (chain : List ChainLine) (nets : List NetLine) (old new : NetLine)
    → IsJoinedNet chain nets old new → new ≡ joined_net (renaming chain nets) old
net_once chain nets old new h =
    let name = replaced_once chain nets old.name new.name h.name in
    λ i. record { line = h.line i; name = name i; pins = h.pins i }

pub files_joined : (chain : List ChainLine) (nets : List NetLine)
    → AreJoinedFiles chain nets (joined_chain chain nets) (joined_nets chain nets)
files_joined chain nets = record {
  chain_lines =
      each_map (IsJoinedLine chain nets) (joined_line (renaming chain nets))
      (λ line. record { line = refl; statement = statement_joined chain nets line.statement })
      chain;
  net_lines =
      each_map (IsJoinedNet chain nets) (joined_net (renaming chain nets))
      (λ line. record { line = refl; pins = refl; name = replaced chain nets line.name }) nets;
}

pub files_once : (chain : List ChainLine) (nets : List NetLine) (new_chain : List ChainLine)
    (new_nets : List NetLine) → AreJoinedFiles chain nets new_chain new_nets
    → (new_chain ≡ joined_chain chain nets) × (new_nets ≡ joined_nets chain nets)
files_once chain nets new_chain new_nets h = (
  each_once (IsJoinedLine chain nets) (joined_line (renaming chain nets))
      (λ old new r. line_once chain nets old new r) chain new_chain h.chain_lines,
  each_once (IsJoinedNet chain nets) (joined_net (renaming chain nets))
      (λ old new r. net_once chain nets old new r) nets new_nets h.net_lines,
)
