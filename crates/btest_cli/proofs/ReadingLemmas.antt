-- Lemmas which combine the reads of several texts in turn into one reading.
use Rattle.std.proofs.Common.{◌≡◌, ℕ, suc, ◌+◌, ◌<◌, ◌≤◌, Bool, true, false, List, [], ◌∷◌, ◌++◌, length, map, take, drop, nat_lt, slice_index_or, Global, Vec, Option, Some, None, refl, ap, sym, ◌∙◌, subst, arith, append_assoc, append-nil}
use Rattle.std.specs.Prelude.{if◌then◌else◌, Ok, Err}
use Rattle.std.specs.Borrow.{Bor}
use Rattle.std.proofs.lemmas.Grind.{common_steps}
use Rattle.std.proofs.Math.Seq.{take-suc}
use Rattle.std.proofs.lemmas.List.{map-append, take-append-drop}
use Rattle.bt_base.specs.Counts.{Rose}
use Rattle.bt_base.specs.Texts.{Told}
use Rattle.bt_base.proofs.Cuts.{rose_after}
use Rattle.command_line.specs.Words.{Text}
use Rattle.btest_cli.specs.declared.texts.Wanted.{Wanted as Lent}
use Rattle.btest_cli.specs.declared.failure.Unread.{Unread}
use Rattle.btest_cli.specs.declared.failure.Unread.TheVariants as unread
use Rattle.btest_cli.specs.Texts.{Held, Wanted, Reading, Read, TooLong, IsRead, IsReadUpTo, IsText, IsLong, Asks, names_in, text_called, read_first, reading_of, reading_in, and_text}
use Rattle.btest_cli.specs.inner.Failures.{wanted_view}
use Rattle.btest_cli.specs.inner.Reads.{AreAll, Continues, IsOne, IsReadOf, IsUnread, Reads, behind}

pub not_long : (limit n : ℕ) (b : Bool) → nat_lt limit n ≡ b → n ≤ limit → b ≡ false
not_long limit n true test short = grind (arith, common_steps)
not_long limit n false test short = refl

pub is_long : (limit n : ℕ) (b : Bool) → nat_lt limit n ≡ b → limit < n → b ≡ true
is_long limit n true test long = refl
is_long limit n false test long = grind (arith, common_steps)

-- if a fetch says that `text` is the text under the name, the store holds `text` under the name
pub text_told : (held : Held) (name text : Text) → Told held name (λ t. text ≡ t) → IsText held name text
text_told None name text told = tt
text_told (Some held) name text told = by (held name) refl told
  where
    by : (o : Option Text) → held name ≡ o → Told (Some (λ n. o)) name (λ t. text ≡ t) → held name ≡ Some text
    by None is told = absurd told
    by (Some t) is told = is ∙ ap Some (sym told)

pub long_told : (held : Held) (wanted : Wanted) (front : Text) (P : Text → Type 0)
    → Told held wanted.name (λ t. (wanted.limit < length t) × P t) → length front ≡ wanted.limit + 1
    → IsLong held wanted
long_told None wanted front P told cut = (front, omega (arith, cut))
long_told (Some held) wanted front P told cut = by (held wanted.name) refl told
  where
    by : (o : Option Text) → held wanted.name ≡ o
        → Told (Some (λ n. o)) wanted.name (λ t. (wanted.limit < length t) × P t)
        → (text : Text) × (held wanted.name ≡ Some text) × (wanted.limit < length text)
    by None is told = absurd told
    by (Some t) is told = (t, is, told.0)

first_read : (wanted : Wanted) (text : Text) (rest : Option Reading) (reading : Reading)
    → length text ≤ wanted.limit → rest ≡ Some reading
    → read_first wanted (Some text) rest ≡ Some (behind (text ∷ []) reading)
first_read wanted text rest reading short is =
    ap (read_first wanted (Some text)) is ∙ by reading
  where
    by : (r : Reading) → read_first wanted (Some text) (Some r) ≡ Some (behind (text ∷ []) r)
    by (Read texts) =
        ap (λ (b : Bool). if b then Some (TooLong wanted) else Some (Read (text ∷ texts)))
        (not_long wanted.limit (length text) (nat_lt wanted.limit (length text)) refl short)
    by (TooLong other) =
        ap (λ (b : Bool). if b then Some (TooLong wanted) else Some (TooLong other))
        (not_long wanted.limit (length text) (nat_lt wanted.limit (length text)) refl short)

first_long : (wanted : Wanted) (text : Text) (rest : Option Reading) → wanted.limit < length text
    → read_first wanted (Some text) rest ≡ Some (TooLong wanted)
first_long wanted text rest long =
    ap (λ (b : Bool). if b then Some (TooLong wanted) else and_text text rest)
    (is_long wanted.limit (length text) (nat_lt wanted.limit (length text)) refl long)

reads_more : (held : Held) (wanted : Wanted) (text : Text) (others : List Wanted)
    (reading : Reading) → IsText held wanted.name text → length text ≤ wanted.limit
    → IsRead held others reading → IsRead held (wanted ∷ others) (behind (text ∷ []) reading)
reads_more None wanted text others reading is short read =
    (text ∷ read.0, first_read wanted text (reading_in others read.0) reading short read.1)
reads_more (Some held) wanted text others reading is short read =
    ap (λ o. read_first wanted o (reading_of held others)) is
    ∙ first_read wanted text (reading_of held others) reading short read

reads_long : (held : Held) (wanted : Wanted) (others : List Wanted) → IsLong held wanted → IsRead held (wanted ∷ others) (TooLong wanted)
reads_long None wanted others long = (long.0 ∷ [], first_long wanted long.0 (reading_in others []) long.1)
reads_long (Some held) wanted others long =
    ap (λ o. read_first wanted o (reading_of held others)) long.1
    ∙ first_long wanted long.0 (reading_of held others) long.2

reads_none : (held : Held) → IsRead held [] (Read [])
reads_none None = ([], refl)
reads_none (Some held) = refl

behind_both : (front more : List Text) (reading : Reading) → behind front (behind more reading) ≡ behind (front ++ more) reading
behind_both front more (Read texts) = ap Read (sym (append_assoc front more texts))
behind_both front more (TooLong wanted) = refl

continues_both : (held : Held) (first rest : List Wanted) (front more : List Text)
    → Continues held first front → Continues held rest more
    → Continues held (first ++ rest) (front ++ more)
continues_both held first rest front more one other behind_rest reading read =
    let there = one (rest ++ behind_rest) (behind more reading) (other behind_rest reading read) in
    let ordered = subst (λ texts. IsRead held texts (behind front (behind more reading)))
    (sym (append_assoc first rest behind_rest)) there in
    subst (IsRead held ((first ++ rest) ++ behind_rest)) (behind_both front more reading) ordered

pub continued : (held : Held) (wanted : List Wanted) (front : List Text) → Continues held wanted front → IsRead held wanted (Read front)
continued held wanted front continues =
    let whole = subst (λ texts. IsRead held (wanted ++ []) (Read texts)) (append-nil front) (continues [] (Read []) (reads_none held)) in
    subst (λ texts. IsRead held texts (Read front)) (append-nil wanted) whole

names_both : (first rest : List Wanted) → names_in (first ++ rest) ≡ names_in first ++ names_in rest
names_both first rest = map-append (λ (text : Wanted). text.name) first rest

asks_both : (old mid new names more : List Text) → Asks old mid names → Asks mid new more → Asks old new (names ++ more)
asks_both old mid new names more first second = second ∙ ap (λ (l : List Text). l ++ more) first ∙ append_assoc old names more

-- Lemmas about the read of a single text, one for each way in which the read may end.
module _ (held held' : Held) (before now : Text → ℕ) (asked asked' : List Text)
    (same : held' ≡ held) (later : (name : Text) → before name ≤ now name) (last : Lent)
    (asks : Asks asked asked' (last.name.now ∷ [])) where
  up_to_here : IsReadUpTo held (wanted_view last ∷ []) (wanted_view last) asked asked'
  up_to_here = record { before = []; after = []; are = refl; found = []; read = reads_none held; asked = asks }

  pub one_read : (text : Text) → IsText held last.name.now text → length text ≤ last.limit
      → Reads IsOne (wanted_view last ∷ []) held held' before now asked asked' (Ok text)
  one_read text is short = record {
    same = same;
    later = later;
    told =
        record {
          texts = text
              ∷ [];
          stands = refl;
          continues = λ rest reading read. reads_more held (wanted_view last)
              text rest reading is short read;
          asks = asks;
        };
  }

  pub one_long : IsLong held (wanted_view last)
      → Reads IsOne (wanted_view last ∷ []) held held' before now asked asked'
      (Err (unread.TooLong last))
  one_long long = record { same = same; later = later; told = (λ rest. reads_long held (wanted_view last) rest long, up_to_here) }

  pub one_failed : Rose (before last.name.now) (now last.name.now)
      → Reads IsOne (wanted_view last ∷ []) held held' before now asked asked'
      (Err (unread.Failed last))
  one_failed rose = record { same = same; later = later; told = (up_to_here, rose) }

  pub no_memory : Reads IsOne (wanted_view last ∷ []) held held' before now asked asked' (Err unread.Memory)
  no_memory = record { same = same; later = later; told = record { first = last.name.now ∷ []; others = []; are = refl; asks = asks } }

-- A failed read of `first` is also a failed read of `first` followed by `rest`.
module _ (first rest : List Wanted) (held : Held) (asked asked' : List Text) where
  up_to_here_too : (last : Wanted) → IsReadUpTo held first last asked asked' → IsReadUpTo held (first ++ rest) last asked asked'
  up_to_here_too last there = record {
    before = there.before;
    after = there.after ++ rest;
    are = ap (λ (l : List Wanted). l ++ rest) there.are ∙ append_assoc there.before (last ∷ there.after) rest;
    found = there.found;
    read = there.read;
    asked = there.asked;
  }

  more_unread : (before now : Text → ℕ) (lost : Unread)
      → IsUnread first held before now asked asked' lost
      → IsUnread (first ++ rest) held before now asked asked' lost
  more_unread before now (unread.TooLong last) (long, there) = (
    λ others. subst (λ (l : List Wanted). IsRead held l (TooLong (wanted_view last)))
        (sym (append_assoc first rest others)) (long (rest ++ others)),
    up_to_here_too (wanted_view last) there,
  )
  more_unread before now (unread.Failed last) (there, rose) = (up_to_here_too (wanted_view last) there, rose)
  more_unread before now unread.Memory some = record {
    first = some.first;
    others = some.others ++ names_in rest;
    are = names_both first rest ∙ ap (λ (l : List Text). l ++ names_in rest) some.are ∙ append_assoc some.first some.others (names_in rest);
    asks = some.asks;
  }

pub lost_first : {A B : Type 0} {Of : A → List Text → Type 0} {first : List Wanted}
    (rest : List Wanted) {held held' : Held} {before now : Text → ℕ} {asked asked' : List Text}
    (As : B → List Text → Type 0) {lost : Unread}
    → Reads Of first held held' before now asked asked' (Err lost)
    → Reads As (first ++ rest) held held' before now asked asked' (Err lost)
lost_first {first = first} rest {held = held} {before = before} {now = now} {asked = asked} {asked' = asked'} As {lost = lost} reads =
    record { same = reads.same; later = reads.later; told = more_unread first rest held asked asked' before now lost reads.told }

-- if memory ran out after the texts `first` were read, the read of `first` followed by `rest` failed for lack of memory
lost_between : {A B : Type 0} {Of : A → List Text → Type 0} {first : List Wanted}
    (rest : List Wanted) {held held' : Held} {before now : Text → ℕ} {asked asked' : List Text}
    (As : B → List Text → Type 0) {value : A}
    → Reads Of first held held' before now asked asked' (Ok value)
    → Reads As (first ++ rest) held held' before now asked asked' (Err unread.Memory)
lost_between {first = first} rest As reads = record {
  same = reads.same;
  later = reads.later;
  told = record { first = names_in first; others = names_in rest; are = names_both first rest; asks = reads.told.asks };
}

-- If the texts `first` were read, and the texts `rest` only up to `last`, then the texts of both lists were read only up to `last`.
module _ (first rest : List Wanted) (held : Held) (front asked asked_mid asked' : List Text)
    (continues : Continues held first front) (asks : Asks asked asked_mid (names_in first)) where
  up_to_there : (last : Wanted) → IsReadUpTo held rest last asked_mid asked' → IsReadUpTo held (first ++ rest) last asked asked'
  up_to_there last there = record {
    before = first ++ there.before;
    after = there.after;
    are = ap (λ (l : List Wanted). first ++ l) there.are ∙ sym (append_assoc first there.before (last ∷ there.after));
    found = front ++ there.found;
    read = continues there.before (Read there.found) there.read;
    asked =
        let names = ap (λ (l : List Text). l ++ last.name ∷ []) (names_both first there.before)
        ∙ append_assoc (names_in first) (names_in there.before) (last.name ∷ []) in
        subst (Asks asked asked') (sym names)
        (asks_both asked asked_mid asked' (names_in first)
        (names_in there.before ++ last.name ∷ []) asks there.asked);
  }

  later_unread : (before between now : Text → ℕ) → ((name : Text) → before name ≤ between name)
      → (lost : Unread) → IsUnread rest held between now asked_mid asked' lost
      → IsUnread (first ++ rest) held before now asked asked' lost
  later_unread before between now later (unread.TooLong last) (long, there) = (
    λ others. subst (λ (l : List Wanted). IsRead held l (TooLong (wanted_view last)))
        (sym (append_assoc first rest others))
        (continues (rest ++ others) (TooLong (wanted_view last)) (long others)),
    up_to_there (wanted_view last) there,
  )
  later_unread before between now later (unread.Failed last) (there, rose) =
      (up_to_there (wanted_view last) there, rose_after (later last.name.now) rose)
  later_unread before between now later unread.Memory some = record {
    first = names_in first ++ some.first;
    others = some.others;
    are =
        names_both first rest ∙ ap (λ (l : List Text). names_in first ++ l) some.are
        ∙ sym (append_assoc (names_in first) some.first some.others);
    asks = asks_both asked asked_mid asked' (names_in first) some.first asks some.asks;
  }

both_later : (before between now : Text → ℕ) → ((name : Text) → before name ≤ between name)
    → ((name : Text) → between name ≤ now name) → (name : Text) → before name ≤ now name
both_later before between now one other name = let first = one name in let more = other name in omega (arith, first, more)

-- if the read of `first` succeeded and the read of `rest` failed, the read of both lists failed
pub lost_then : {A B C : Type 0} {Of : A → List Text → Type 0} {Then : B → List Text → Type 0}
    {first rest : List Wanted} {held mid held' : Held} {before between now : Text → ℕ}
    {asked asked_mid asked' : List Text} {value : A} {lost : Unread} (As : C → List Text → Type 0)
    → Reads Of first held mid before between asked asked_mid (Ok value)
    → Reads Then rest mid held' between now asked_mid asked' (Err lost)
    → Reads As (first ++ rest) held held' before now asked asked' (Err lost)
lost_then {first = first} {rest = rest} {held = held} {before = before} {between = between}
    {now = now} {asked = asked} {asked_mid = asked_mid} {asked' = asked'} {lost = lost} As one other
    = record {
      same = other.same ∙ one.same;
      later = both_later before between now one.later other.later;
      told =
          later_unread first rest held one.told.texts asked asked_mid asked' one.told.continues
          one.told.asks before between now one.later lost
          (subst (λ (h : Held). IsUnread rest h between now asked_mid asked' lost) one.same other.told);
    }

-- if the reads of `first` and of `rest` succeeded, the read of both lists succeeded
pub read_then : {A B C : Type 0} {Of : A → List Text → Type 0} {Then : B → List Text → Type 0}
    {first rest : List Wanted} {held mid held' : Held} {before between now : Text → ℕ}
    {asked asked_mid asked' : List Text} {value : A} {found : B} (As : C → List Text → Type 0)
    (made : C)
    → Reads Of first held mid before between asked asked_mid (Ok value)
    → Reads Then rest mid held' between now asked_mid asked' (Ok found)
    → ((texts more : List Text) → Of value texts → Then found more → As made (texts ++ more))
    → Reads As (first ++ rest) held held' before now asked asked' (Ok made)
read_then {Then = Then} {first = first} {rest = rest} {held = held} {before = before}
    {between = between} {now = now} {asked = asked} {asked_mid = asked_mid} {asked' = asked'}
    {found = found} As made one other stand =
    let told = subst (λ (h : Held). IsReadOf Then rest h asked_mid asked' found) one.same other.told in
    record {
      same = other.same ∙ one.same;
      later = both_later before between now one.later other.later;
      told = record {
        texts = one.told.texts ++ told.texts;
        stands = stand one.told.texts told.texts one.told.stands told.stands;
        continues = continues_both held first rest one.told.texts told.texts one.told.continues told.continues;
        asks =
            subst (Asks asked asked') (sym (names_both first rest))
            (asks_both asked asked_mid asked' (names_in first) (names_in rest) one.told.asks
            told.asks);
      };
    }

pub read_two : {first second : Wanted} {held mid held' : Held} {before between now : Text → ℕ}
    {asked asked_mid asked' : List Text} {one other : Text}
    → Reads IsOne (first ∷ []) held mid before between asked asked_mid (Ok one)
    → Reads IsOne (second ∷ []) mid held' between now asked_mid asked' (Ok other)
    → Reads AreAll (first ∷ second ∷ []) held held' before now asked asked' (Ok (one ∷ other ∷ []))
read_two {one = one} {other = other} first second =
    read_then AreAll (one ∷ other ∷ []) first second
    (λ texts more is are. ap (λ (l : List Text). l ++ more) is ∙ ap (λ (l : List Text). one ∷ l) are)

-- the bytes of a borrowed name
abbrev pub now_of : Bor Text → Text
now_of name = name.now

-- the wanted BSDL texts with these names
abbrev pub called : List (Bor Text) → List Wanted
called names = map text_called (map now_of names)

one_more : (names : List (Bor Text)) (k : ℕ) (d : Bor Text) (name : Text) → k < length names
    → name ≡ now_of (slice_index_or names k d)
    → called (take (k + 1) names) ≡ called (take k names) ++ text_called name ∷ []
one_more names k d name within is =
    let next : k + 1 ≡ suc k = omega arith in
    ap (λ (n : ℕ). called (take n names)) next ∙ ap called (take-suc names k d within)
    ∙ ap (map text_called) (map-append now_of (take k names) (slice_index_or names k d ∷ []))
    ∙ map-append text_called (map now_of (take k names)) (now_of (slice_index_or names k d) ∷ [])
    ∙ ap (λ (n : Text). called (take k names) ++ text_called n ∷ []) (sym is)

cut_at : (names : List (Bor Text)) (k : ℕ) → called names ≡ called (take k names) ++ called (drop k names)
cut_at names k =
    sym (ap called (take-append-drop k names))
    ∙ ap (map text_called) (map-append now_of (take k names) (drop k names))
    ∙ map-append text_called (map now_of (take k names)) (map now_of (drop k names))

module _ (names : List (Bor Text)) (k : ℕ) {held held' : Held} {before now : Text → ℕ} {asked asked' : List Text} where
  -- if the read of the texts with the first `k` names failed, the read of the texts with all names failed
  lost_of : {lost : Unread}
      → Reads AreAll (called (take k names)) held held' before now asked asked' (Err lost)
      → Reads AreAll (called names) held held' before now asked asked' (Err lost)
  lost_of {lost} reads =
      subst
      (λ (wanted : List Wanted). Reads AreAll wanted held held' before now asked asked' (Err lost))
      (sym (cut_at names k)) (lost_first (called (drop k names)) AreAll reads)

  -- if memory ran out after the texts with the first `k` names were read, the read of the texts with all names failed
  -- for lack of memory
  pub memory_of : {found : List Text}
      → Reads AreAll (called (take k names)) held held' before now asked asked' (Ok found)
      → Reads AreAll (called names) held held' before now asked asked' (Err unread.Memory)
  memory_of {found} reads =
      subst
      (λ (wanted : List Wanted). Reads AreAll wanted held held' before now asked asked'
      (Err unread.Memory)) (sym (cut_at names k))
      (lost_between (called (drop k names)) AreAll reads)

-- Lemmas about the read of the text with name `k` after the texts with the first `k` names were read.
module _ (names : List (Bor Text)) (k : ℕ) (d : Bor Text) (name : Text) (within : k < length names)
    (is : name ≡ now_of (slice_index_or names k d)) {held mid held' : Held}
    {before between now : Text → ℕ} {asked asked_mid asked' : List Text} {found : List Text}
    (so_far : Reads AreAll (called (take k names)) held mid before between asked asked_mid (Ok found)) where
  pub next_read : {text : Text}
      → Reads IsOne (text_called name ∷ []) mid held' between now asked_mid asked' (Ok text)
      → (all : List Text) → all ≡ found ++ text ∷ []
      → Reads AreAll (called (take (k + 1) names)) held held' before now asked asked' (Ok all)
  next_read {text} one all are =
      subst
      (λ (wanted : List Wanted). Reads AreAll wanted held held' before now asked asked' (Ok all))
      (sym (one_more names k d name within is))
      (read_then AreAll all so_far one
      (λ texts more so is_one. ap (λ (l : List Text). l ++ more) so
      ∙ ap (λ (l : List Text). found ++ l) is_one ∙ sym are))

  pub next_lost : {lost : Unread}
      → Reads IsOne (text_called name ∷ []) mid held' between now asked_mid asked' (Err lost)
      → Reads AreAll (called names) held held' before now asked asked' (Err lost)
  next_lost {lost} one =
      lost_of names (k + 1)
      (subst
      (λ (wanted : List Wanted). Reads AreAll wanted held held' before now asked asked'
      (Err lost)) (sym (one_more names k d name within is)) (lost_then AreAll so_far one))

pub items_more : (texts all : List (Vec ℕ Global)) (last : Vec ℕ Global) (text : Text)
    → all ≡ texts ++ last ∷ [] → last.items ≡ text
    → map (λ t. t.items) all ≡ map (λ t. t.items) texts ++ text ∷ []
items_more texts all last text are is =
    ap (λ (l : List (Vec ℕ Global)). map (λ t. t.items) l) are
    ∙ map-append (λ (t : Vec ℕ Global). t.items) texts (last ∷ [])
    ∙ ap (λ (t : Text). map (λ t. t.items) texts ++ t ∷ []) is
