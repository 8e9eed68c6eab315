-- Lemmas about the graph whose points are the lines of a net file. An edge joins two lines that
-- have the same name or that a LINK line joins. The label of a line is the first line that is
-- joined with it. The joined name of a line's net is the name on the label.
use Rattle.std.proofs.Common.{◌≡◌, ℕ, zero, suc, ◌+◌, ◌<◌, ◌≤◌, Bool, true, List, [], ◌∷◌, ◌++◌, length, map, drop, get_or, Option, Some, None, refl, sym, ap, subst, ◌∙◌, arith, true≢false, ◌⊎◌, inl, inr, append_assoc}
use Rattle.std.specs.Prelude.{All, option_map, unwrap_or}
use Rattle.std.specs.List.{cons_option, position_from}
use Rattle.std.proofs.lemmas.List.{drop_more, get_or-map, length-map}
use Rattle.std.proofs.lemmas.Option.{slice_get-get_or}
use Rattle.std.proofs.lemmas.Bool.{false_from_ne_true}
use Rattle.board_defs.proofs.Members.{Has, has_at, has_place, has_left, has_right, has_append, has_map, filter_map_has}
use Rattle.board_files.specs.declared.chain_file.ChainLine.{ChainLine}
use Rattle.board_files.specs.declared.chain_file.ChainStatement.{ChainStatement}
use Rattle.board_files.specs.declared.chain_file.ChainStatement.TheVariants.{Device, Bypass, Inert, Supply, Pull, Link}
use Rattle.board_files.specs.declared.net_file.NetLine.{NetLine}
use Rattle.board_files.specs.Names.{same_word, line_names}
use Rattle.series_parts.specs.Nets.{Word, has_pin, net_of_pin}
use Rattle.series_parts.specs.Joining.{Pair, pair_of, link_on, links, leads, joined_name, renaming}
use Rattle.series_parts.specs.inner.Labels.{Edges, Joined, AreLabels}
use Rattle.series_parts.specs.inner.Labels.Joined.{here, along, back as against}
use Rattle.series_parts.specs.inner.Edges.{name_place, pin_place, edge_of, edge_between, edge_on, link_edges, name_edges, edges, at_place, renamed}
use Rattle.series_parts.proofs.LeadLemmas.{Way, way, leads_self, leads_forth, leads_back, same_self, same_is}
use Rattle.series_parts.proofs.LeadLemmas.Way.{without, forth, back}
use Rattle.series_parts.proofs.FindLemmas.{place_found, place_none, place_of_item, find_first, find_missing, find_place}

abbrev pub at : List Word → ℕ → Word
at names i = get_or names i []

-- the pair of the names on the two lines that an edge joins
abbrev pub ends : List Word → ℕ × ℕ → Pair
ends names e = (at names e.0, at names e.1)

-- one step of the loop: the edge of line `i` is appended
pub name_edges_step : (all : List Word) (i : ℕ) (name : Word) (first : ℕ) (done whole : Edges)
    → i < length all → name ≡ at all i → first ≡ unwrap_or (name_place all name) i →
    whole ≡ done ++ name_edges all i (drop i all) → whole ≡ (done ++ (i, first) ∷ []) ++ name_edges all (i + 1) (drop (i + 1) all)
name_edges_step all i name first done whole within read is same =
    same ∙ ap (λ names. done ++ name_edges all i names) (drop_more all i [] within)
    ∙ ap (λ n. done ++ (i, unwrap_or (name_place all n) i) ∷ name_edges all (i + 1) (drop (i + 1) all)) (sym read)
    ∙ ap (λ f. done ++ (i, f) ∷ name_edges all (i + 1) (drop (i + 1) all)) (sym is)
    ∙ sym (append_assoc done ((i, first) ∷ []) (name_edges all (i + 1) (drop (i + 1) all)))

option_pair : (names : List Word) (a b : Option ℕ)
    → pair_of (option_map (at names) a) (option_map (at names) b)
    ≡ option_map (ends names) (edge_of a b)
option_pair names None b = refl
option_pair names (Some a) None = refl
option_pair names (Some a) (Some b) = refl

pub net_at : (nets : List NetLine) (part pin : Word)
    → net_of_pin nets part pin ≡ option_map (at (line_names nets)) (pin_place nets part pin)
net_at nets part pin = find_place (λ (line : NetLine). line.name) (has_pin part pin) nets []

link_ends : (nets : List NetLine) (s : ChainStatement) → link_on nets s ≡ option_map (ends (line_names nets)) (edge_on nets s)
unfolding edge_between
link_ends nets (Link part first second) =
    ap (λ a. pair_of a (net_of_pin nets part second)) (net_at nets part first)
    ∙ ap (pair_of (option_map (at (line_names nets)) (pin_place nets part first))) (net_at nets part second)
    ∙ option_pair (line_names nets) (pin_place nets part first) (pin_place nets part second)
link_ends nets (Device part entity pack) = refl
link_ends nets (Bypass part bits) = refl
link_ends nets (Inert part) = refl
link_ends nets (Supply net) = refl
link_ends nets (Pull net value) = refl

cons_map : {A B : Type 0} (f : A → B) (o : Option A) (xs : List A) → cons_option (option_map f o) (map f xs) ≡ map f (cons_option o xs)
cons_map f None xs = refl
cons_map f (Some x) xs = refl

pub links_ends : (nets : List NetLine) (chain : List ChainLine) → links nets chain ≡ map (ends (line_names nets)) (link_edges nets chain)
links_ends nets [] = refl
links_ends nets (line ∷ chain) =
    ap (λ o. cons_option o (links nets chain)) (link_ends nets line.statement)
    ∙ ap (cons_option (option_map (ends (line_names nets)) (edge_on nets line.statement))) (links_ends nets chain)
    ∙ cons_map (ends (line_names nets)) (edge_on nets line.statement) (link_edges nets chain)

place_within : {A : Type 0} (p : A → Bool) (xs : List A) (m : ℕ) → position_from p 0 xs ≡ Some m → m < length xs
place_within p [] m h = cc h
place_within p (x ∷ xs) m h =
    let r = place_found p 0 (x ∷ xs) x m h in
    let e : m ≡ 0 + r.0 = r.1 in
    let lt : r.0 < length (x ∷ xs) = r.2.within in
    omega arith

-- both ends of the edge are below `n`, the number of lines
abbrev pub IsWithin : ℕ → ℕ × ℕ → Type 0
IsWithin n e = (e.0 < n) × (e.1 < n)

edge_of_within : (a b : Option ℕ) (n : ℕ) (e : ℕ × ℕ) → edge_of a b ≡ Some e
    → ((i : ℕ) → a ≡ Some i → i < n) → ((i : ℕ) → b ≡ Some i → i < n) → IsWithin n e
edge_of_within None b n e h f g = cc h
edge_of_within (Some i) None n e h f g = cc h
edge_of_within (Some i) (Some j) n e h f g = let same : (i, j) ≡ e = cc h in subst (IsWithin n) same (f i refl, g j refl)

edge_on_within : (nets : List NetLine) (s : ChainStatement) (e : ℕ × ℕ) → edge_on nets s ≡ Some e → IsWithin (length nets) e
unfolding edge_between
edge_on_within nets (Link part first second) e h =
    edge_of_within (pin_place nets part first) (pin_place nets part second) (length nets) e h
    (λ i q. place_within (has_pin part first) nets i q)
    (λ i q. place_within (has_pin part second) nets i q)
edge_on_within nets (Device part entity pack) e h = cc h
edge_on_within nets (Bypass part bits) e h = cc h
edge_on_within nets (Inert part) e h = cc h
edge_on_within nets (Supply net) e h = cc h
edge_on_within nets (Pull net value) e h = cc h

pub link_edges_within : (nets : List NetLine) (chain : List ChainLine) (e : ℕ × ℕ)
    → Has (link_edges nets chain) e → IsWithin (length (line_names nets)) e
link_edges_within nets chain e h =
    let r = filter_map_has (λ (line : ChainLine). edge_on nets line.statement) chain e h in
    subst (λ (n : ℕ). IsWithin n e) (sym (length-map nets (λ (line : NetLine). line.name))) (edge_on_within nets r.0.statement e r.2)

-- The edge leads from one of the lines, which are numbered from `n` on and have the names `names`. It
-- leads to the first line of `all` with the same name, or to the line itself if `all` lacks the name.
abbrev NameEdge : List Word → ℕ → List Word → ℕ × ℕ → Type 0
NameEdge all n names e = (k : ℕ) × (k < length names) × (e ≡ (n + k, unwrap_or (name_place all (at names k)) (n + k)))

name_edge_has : (all : List Word) (n : ℕ) (names : List Word) (e : ℕ × ℕ) → Has (name_edges all n names) e → NameEdge all n names e
name_edge_has all n [] e h = absurd h
name_edge_has all n (name ∷ names) e (inl q) =
    let same : n ≡ n + 0 = omega arith in
    (0, omega arith, sym q ∙ ap (λ m. (m, unwrap_or (name_place all name) m)) same)
name_edge_has all n (name ∷ names) e (inr h) =
    let r = name_edge_has all (n + 1) names e h in
    let low : r.0 < length names = r.1 in
    let same : n + 1 + r.0 ≡ n + suc r.0 = omega arith in
    (suc r.0, omega arith, r.2 ∙ ap (λ m. (m, unwrap_or (name_place all (at names r.0)) m)) same)

has_name_edge : (all : List Word) (n : ℕ) (names : List Word) (k m : ℕ) → k < length names
    → m ≡ n + k → Has (name_edges all n names) (m, unwrap_or (name_place all (at names k)) m)
has_name_edge all n [] k m lt e = absurd (omega arith)
has_name_edge all n (name ∷ names) zero m lt e =
    let same : n ≡ m = omega arith in inl (ap (λ m. (m, unwrap_or (name_place all name) m)) same)
has_name_edge all n (name ∷ names) (suc k) m lt e = inr (has_name_edge all (n + 1) names k m (omega arith) (omega arith))

-- `first` is the first line that has the name of line `k`, and there is an edge from line `k` to it
record First (names : List Word) (k : ℕ) : Type 0 where
  first : ℕ
  edge : Has (name_edges names 0 names) (k, first)
  found : name_place names (at names k) ≡ Some first
  within : first < length names
  same : at names first ≡ at names k

first_line : (names : List Word) (k : ℕ) → k < length names → First names k
first_line names k lt =
    let r = place_of_item (λ n. same_word n (at names k)) names [] k lt (same_self (at names k)) in
    record {
      first = r.0;
      edge =
          subst (λ (f : ℕ). Has (name_edges names 0 names) (k, f)) (ap (λ o. unwrap_or o k) r.1)
          (has_name_edge names 0 names k k lt (omega arith));
      found = r.1;
      within = r.2.within;
      same = same_is (at names r.0) (at names k) r.2.passes;
    }

-- the edge is between two lines with the same name
pub record IsNameEdge (names : List Word) (e : ℕ × ℕ) : Type 0 where
  pub within : IsWithin (length names) e
  pub same : at names e.0 ≡ at names e.1

is_name_edge : (names : List Word) (e : ℕ × ℕ) → Has (name_edges names 0 names) e → IsNameEdge names e
is_name_edge names e h =
    let r = name_edge_has names 0 names e h in
    let lt : r.0 < length names = r.1 in
    let f = first_line names r.0 lt in
    let here : 0 + r.0 ≡ r.0 = omega arith in
    let is : (r.0, f.first)
    ≡ e = ap (λ o. (r.0, unwrap_or o r.0)) (sym f.found)
    ∙ ap (λ m. (m, unwrap_or (name_place names (at names r.0)) m)) (sym here) ∙ sym r.2 in
    subst (IsNameEdge names) is (record { within = (lt, f.within); same = sym f.same })

pub edge_kind : (nets : List NetLine) (chain : List ChainLine) (e : ℕ × ℕ)
    → Has (edges nets chain) e → IsNameEdge (line_names nets) e ⊎ Has (link_edges nets chain) e
edge_kind nets chain e h = by_part (has_append (name_edges (line_names nets) 0 (line_names nets)) (link_edges nets chain) e h)
  where
    by_part : Has (name_edges (line_names nets) 0 (line_names nets)) e
        ⊎ Has (link_edges nets chain) e
        → IsNameEdge (line_names nets) e ⊎ Has (link_edges nets chain) e
    by_part (inl p) = inl (is_name_edge (line_names nets) e p)
    by_part (inr p) = inr p

edges_within : (nets : List NetLine) (chain : List ChainLine) (e : ℕ × ℕ) → Has (edges nets chain) e → IsWithin (length (line_names nets)) e
edges_within nets chain e h = by_kind (edge_kind nets chain e h)
  where
    by_kind : IsNameEdge (line_names nets) e ⊎ Has (link_edges nets chain) e → IsWithin (length (line_names nets)) e
    by_kind (inl p) = p.within
    by_kind (inr p) = link_edges_within nets chain e p

pub all_edges_within : (nets : List NetLine) (chain : List ChainLine) (count : ℕ)
    → count ≡ length (line_names nets) → All (λ e. (e.0 < count) × (e.1 < count)) (edges nets chain)
all_edges_within nets chain count same k d lt =
    subst (λ (n : ℕ). IsWithin n (get_or (edges nets chain) k d)) (sym same)
    (edges_within nets chain (get_or (edges nets chain) k d)
    (has_at (edges nets chain) k (get_or (edges nets chain) k d)
    (slice_get-get_or (edges nets chain) k d lt)))

label_edge : (es : Edges) (labels : List ℕ) → AreLabels es labels → (e : ℕ × ℕ) → Has es e → get_or labels e.0 0 ≡ get_or labels e.1 0
label_edge es labels h e has = let r = has_place es e has in h.ends r.0 e.0 e.1 r.1

label_name : (nets : List NetLine) (chain : List ChainLine) (labels : List ℕ)
    → AreLabels (edges nets chain) labels → (i j : ℕ) → i < length (line_names nets)
    → j < length (line_names nets) →
    at (line_names nets) i ≡ at (line_names nets) j → get_or labels i 0 ≡ get_or labels j 0
label_name nets chain labels h i j within_i within_j same =
    let names = line_names nets in
    let f = first_line names i within_i in
    let g = first_line names j within_j in
    let one : Some f.first ≡ Some g.first = sym f.found ∙ ap (name_place names) same ∙ g.found in
    let first : f.first ≡ g.first = cc one in
    label_edge (edges nets chain) labels h (i, f.first) (has_left (name_edges names 0 names) (link_edges nets chain) (i, f.first) f.edge)
    ∙ ap (λ k. get_or labels k 0) first
    ∙ sym
    (label_edge (edges nets chain) labels h (j, g.first)
    (has_left (name_edges names 0 names) (link_edges nets chain) (j, g.first) g.edge))

-- both ends of each edge are lines, and they have the same label
abbrev Labelled : ℕ → List ℕ → Edges → Type 0
Labelled n labels es = (e : ℕ × ℕ) → Has es e → IsWithin n e × (get_or labels e.0 0 ≡ get_or labels e.1 0)

-- lines with the same name have the same label
abbrev OneLabel : List Word → List ℕ → Type 0
OneLabel names labels = (i j : ℕ) → i < length names → j < length names → at names i ≡ at names j → get_or labels i 0 ≡ get_or labels j 0

-- the claim that the induction proves for these edges: if links lead from net `u` to net `v`, the
-- lines of the two nets have the same label
abbrev Rest : List Word → List ℕ → Edges → Type 0
Rest names labels es =
    (u v : Word) → leads (map (ends names) es) u v ≡ true → (k l : ℕ) → k < length names
    → l < length names → at names k ≡ u → at names l ≡ v → get_or labels k 0 ≡ get_or labels l 0

lead_way : (names : List Word) (labels : List ℕ) (e : ℕ × ℕ) (es : Edges) (x y : Word)
    → IsWithin (length names) e → get_or labels e.0 0 ≡ get_or labels e.1 0 → Rest names labels es
    → Way (ends names e) (map (ends names) es) x y →
    (i j : ℕ) → i < length names → j < length names → at names i ≡ x → at names j ≡ y → get_or labels i 0 ≡ get_or labels j 0
lead_way names labels e es x y inside edge rest (without q) i j within_i within_j is_x is_y = rest x y q i j within_i within_j is_x is_y
lead_way names labels e es x y inside edge rest (forth q r) i j within_i within_j is_x is_y =
    rest x (at names e.0) q i e.0 within_i inside.0 is_x refl ∙ edge ∙ rest (at names e.1) y r e.1 j inside.1 within_j refl is_y
lead_way names labels e es x y inside edge rest (back q r) i j within_i within_j is_x is_y =
    rest x (at names e.1) q i e.1 within_i inside.1 is_x refl ∙ sym edge ∙ rest (at names e.0) y r e.0 j inside.0 within_j refl is_y

lead_labels : (names : List Word) (labels : List ℕ) (es : Edges) (x y : Word)
    → OneLabel names labels → Labelled (length names) labels es
    → leads (map (ends names) es) x y ≡ true →
    (i j : ℕ) → i < length names → j < length names → at names i ≡ x → at names j ≡ y → get_or labels i 0 ≡ get_or labels j 0
lead_labels names labels [] x y one labelled p i j within_i within_j is_x is_y = one i j within_i within_j (is_x ∙ same_is x y p ∙ sym is_y)
lead_labels names labels (e ∷ es) x y one labelled p i j within_i within_j is_x is_y =
    lead_way names labels e es x y (labelled e (inl refl)).0 (labelled e (inl refl)).1
    (λ u v q. lead_labels names labels es u v one (λ d has. labelled d (inr has)) q)
    (way (ends names e) (map (ends names) es) x y p) i j within_i within_j is_x is_y

has_link : (nets : List NetLine) (chain : List ChainLine) (e : ℕ × ℕ)
    → Has (link_edges nets chain) e → Has (links nets chain) (ends (line_names nets) e)
has_link nets chain e h =
    subst (λ (ps : List Pair). Has ps (ends (line_names nets) e)) (sym (links_ends nets chain))
    (has_map (ends (line_names nets)) (link_edges nets chain) e h)

-- if edges join two lines, links lead from the net of one line to the net of the other
joined_leads : (nets : List NetLine) (chain : List ChainLine) (x y : ℕ)
    → Joined (edges nets chain) x y
    → leads (links nets chain) (at (line_names nets) x) (at (line_names nets) y) ≡ true
joined_leads nets chain x y here = leads_self (links nets chain) (at (line_names nets) x)
joined_leads nets chain x y (along {b = d} k e p) =
    by_kind (edge_kind nets chain (x, d) (has_at (edges nets chain) k (x, d) e))
    (joined_leads nets chain d y p)
  where
    by_kind : IsNameEdge (line_names nets) (x, d) ⊎ Has (link_edges nets chain) (x, d)
        → leads (links nets chain) (at (line_names nets) d) (at (line_names nets) y) ≡ true
        → leads (links nets chain) (at (line_names nets) x) (at (line_names nets) y) ≡ true
    by_kind (inl n) q = ap (λ w. leads (links nets chain) w (at (line_names nets) y)) n.same ∙ q
    by_kind (inr h) q =
        leads_forth (links nets chain) (at (line_names nets) x) (at (line_names nets) d)
        (at (line_names nets) y) (has_link nets chain (x, d) h) q
joined_leads nets chain x y (against {b = d} k e p) =
    by_kind (edge_kind nets chain (d, x) (has_at (edges nets chain) k (d, x) e))
    (joined_leads nets chain d y p)
  where
    by_kind : IsNameEdge (line_names nets) (d, x) ⊎ Has (link_edges nets chain) (d, x)
        → leads (links nets chain) (at (line_names nets) d) (at (line_names nets) y) ≡ true
        → leads (links nets chain) (at (line_names nets) x) (at (line_names nets) y) ≡ true
    by_kind (inl n) q = ap (λ w. leads (links nets chain) w (at (line_names nets) y)) (sym n.same) ∙ q
    by_kind (inr h) q =
        leads_back (links nets chain) (at (line_names nets) x) (at (line_names nets) d)
        (at (line_names nets) y) (has_link nets chain (d, x) h) q

labels_agree : (nets : List NetLine) (chain : List ChainLine) (labels : List ℕ)
    → AreLabels (edges nets chain) labels → (k i : ℕ) → k < length (line_names nets)
    → i < length (line_names nets) →
    leads (links nets chain) (at (line_names nets) k) (at (line_names nets) i) ≡ true → get_or labels k 0 ≡ get_or labels i 0
labels_agree nets chain labels h k i within_k within_i p =
    lead_labels (line_names nets) labels (link_edges nets chain) (at (line_names nets) k)
    (at (line_names nets) i) (label_name nets chain labels h)
    (λ e has. (
      link_edges_within nets chain e has,
      label_edge (edges nets chain) labels h e
          (has_right (name_edges (line_names nets) 0 (line_names nets)) (link_edges nets chain)
          e has),
    ))
    (ap (λ ps. leads ps (at (line_names nets) k) (at (line_names nets) i))
    (sym (links_ends nets chain)) ∙ p) k i within_k within_i refl refl

-- the label of line `k` is a line, and the name on it is the joined name of line `k`'s net
pub least_name : (nets : List NetLine) (chain : List ChainLine) (labels : List ℕ)
    → AreLabels (edges nets chain) labels → length labels ≡ length (line_names nets) → (k : ℕ)
    → k < length (line_names nets) →
    at (line_names nets) (get_or labels k 0) ≡ joined_name (links nets chain) (line_names nets) (at (line_names nets) k)
unfolding joined_name
least_name nets chain labels h count k within =
    let names = line_names nets in
    let low : get_or labels k 0 ≤ k = h.least k (omega arith) in
    let inside : get_or labels k 0 < length names = omega arith in
    sym (ap (λ o. unwrap_or o (at names k))
    (find_first (leads (links nets chain) (at names k)) names [] (get_or labels k 0) inside
    (joined_leads nets chain k (get_or labels k 0) (h.joined k (omega arith)))
    (λ i less. false_from_ne_true (leads (links nets chain) (at names k) (at names i)) (λ p.
    let inner : i < length names = omega arith in
    let agree : get_or labels k 0 ≡ get_or labels i 0 = labels_agree nets chain labels h k i within inner p in
    let lower : get_or labels i 0 ≤ i = h.least i (omega arith) in
    absurd (omega arith)))))

same_maps : {A B C : Type 0} (f : A → C) (g : B → C) (xs : List A) (ys : List B) (d : A) (e : B)
    → length xs ≡ length ys → ((k : ℕ) → k < length ys → f (get_or xs k d) ≡ g (get_or ys k e))
    → map f xs ≡ map g ys
same_maps f g [] [] d e count same = refl
same_maps f g [] (y ∷ ys) d e count same = absurd (omega arith)
same_maps f g (x ∷ xs) [] d e count same = absurd (omega arith)
same_maps f g (x ∷ xs) (y ∷ ys) d e count same =
    ap (λ z. z ∷ map f xs) (same 0 (omega arith))
    ∙ ap (λ zs. g y ∷ zs)
    (same_maps f g xs ys d e (omega arith) (λ k lt. same (suc k) (omega arith)))

pub least_names : (nets : List NetLine) (chain : List ChainLine) (labels : List ℕ)
    → AreLabels (edges nets chain) labels → length labels ≡ length (line_names nets) →
    map (at (line_names nets)) labels ≡ map (joined_name (links nets chain) (line_names nets)) (line_names nets)
least_names nets chain labels h count =
    same_maps (at (line_names nets)) (joined_name (links nets chain) (line_names nets)) labels
    (line_names nets) 0 [] count (λ k lt. least_name nets chain labels h count k lt)

absent_way : (names : List Word) (e : ℕ × ℕ) (es : Edges) (x y : Word)
    → ((i : ℕ) → i < length names → at names i ≡ x → ⊥) → IsWithin (length names) e
    → ((v : Word) → leads (map (ends names) es) x v ≡ true → x ≡ v)
    → Way (ends names e) (map (ends names) es) x y → x ≡ y
absent_way names e es x y none inside rest (without q) = rest y q
absent_way names e es x y none inside rest (forth q r) = absurd (none e.0 inside.0 (sym (rest (at names e.0) q)))
absent_way names e es x y none inside rest (back q r) = absurd (none e.1 inside.1 (sym (rest (at names e.1) q)))

-- links lead from a name that is on no line only to this name itself
absent : (names : List Word) (es : Edges) (x y : Word)
    → ((i : ℕ) → i < length names → at names i ≡ x → ⊥)
    → ((e : ℕ × ℕ) → Has es e → IsWithin (length names) e) → leads (map (ends names) es) x y ≡ true
    → x ≡ y
absent names [] x y none within p = same_is x y p
absent names (e ∷ es) x y none within p =
    absent_way names e es x y none (within e (inl refl))
    (λ v q. absent names es x v none (λ d has. within d (inr has)) q)
    (way (ends names e) (map (ends names) es) x y p)

-- a net that is on no line keeps its name
pub kept_name : (nets : List NetLine) (chain : List ChainLine) (name : Word)
    → name_place (line_names nets) name ≡ None
    → joined_name (links nets chain) (line_names nets) name ≡ name
unfolding joined_name
kept_name nets chain name none =
    let names = line_names nets in
    let missing : (i : ℕ) → i < length names → at names i ≡ name
    → ⊥ = λ i lt e. true≢false
    (sym (same_self name) ∙ ap (λ w. same_word w name) (sym e)
    ∙ place_none (λ n. same_word n name) 0 names [] i none lt) in
    ap (λ o. unwrap_or o name)
    (find_missing (leads (links nets chain) name) names []
    (λ i lt. false_from_ne_true (leads (links nets chain) name (at names i)) (λ p.
    missing i lt
    (sym
    (absent names (link_edges nets chain) name (at names i) missing
    (λ e has. link_edges_within nets chain e has)
    (ap (λ ps. leads ps name (at names i)) (sym (links_ends nets chain)) ∙ p))))))

renames_by : (nets : List NetLine) (chain : List ChainLine) (least : List Word) (name : Word)
    → least ≡ map (joined_name (links nets chain) (line_names nets)) (line_names nets) →
    (o : Option ℕ) → name_place (line_names nets) name ≡ o → at_place least name o ≡ joined_name (links nets chain) (line_names nets) name
renames_by nets chain least name is None e = sym (kept_name nets chain name e)
renames_by nets chain least name is (Some m) e =
    let names = line_names nets in
    let f = joined_name (links nets chain) names in
    let r = place_found (λ n. same_word n name) 0 names [] m e in
    let same : m ≡ r.0 = omega (arith, r.1) in
    let inside : m < length names = omega (arith, r.2.within, same) in
    ap (λ l. get_or l m name) is ∙ get_or-map f names m [] name inside
    ∙ ap (λ i. f (at names i)) same ∙ ap f (same_is (at names r.0) name r.2.passes)

-- `renamed` looks up the net's first line, so it gives the joined name of every net, whether the
-- net is on a line or not
pub renames : (nets : List NetLine) (chain : List ChainLine) (least : List Word) (name : Word)
    → least ≡ map (joined_name (links nets chain) (line_names nets)) (line_names nets) →
    renamed (line_names nets) least name ≡ joined_name (links nets chain) (line_names nets) name
unfolding renamed
renames nets chain least name is = renames_by nets chain least name is (name_place (line_names nets) name) refl

-- like `renames`, but `least` has the names on the lines that are the labels
pub new_names : (nets : List NetLine) (chain : List ChainLine) (names : List Word) (es : Edges)
    (labels : List ℕ) (least : List Word) → names ≡ line_names nets → es ≡ edges nets chain
    → AreLabels es labels → length labels ≡ length names →
    least ≡ map (at names) labels → (name : Word) → renamed names least name ≡ joined_name (links nets chain) names name
new_names nets chain names es labels least is whole h count e name =
    let labelled : AreLabels (edges nets chain) labels = subst (λ (es : Edges). AreLabels es labels) whole h in
    let all : least
    ≡ map (joined_name (links nets chain) (line_names nets)) (line_names nets) = e
    ∙ ap (λ ns. map (at ns) labels) is
    ∙ least_names nets chain labels labelled (count ∙ ap length is) in
    ap (λ ns. renamed ns least name) is ∙ renames nets chain least name all ∙ ap (λ ns. joined_name (links nets chain) ns name) (sym is)

-- if `renamed` with the names `least` gives the joined name of every net, `renamed` with the equal
-- list `seen` is the function `renaming`
pub renaming_is : (nets : List NetLine) (chain : List ChainLine) (names least seen : List Word)
    → names ≡ line_names nets → seen ≡ least
    → ((name : Word) → renamed names least name ≡ joined_name (links nets chain) names name) →
    renamed names seen ≡ renaming chain nets
renaming_is nets chain names least seen is same h =
    let each : (name : Word)
    → renamed names seen name
    ≡ joined_name (links nets chain) (line_names nets) name = λ name. ap
    (λ l. renamed names l name) same ∙ h name
    ∙ ap (λ ns. joined_name (links nets chain) ns name) is in
    λ i name. each name i
