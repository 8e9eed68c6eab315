-- Lemmas which say that reading the files of a command gives the texts that the store holds for them.
use Rattle.std.proofs.Common.{◌≡◌, ◌∙◌, ℕ, zero, suc, ◌<◌, ◌≤◌, Bool, true, false, List, [], ◌∷◌, ◌++◌, length, nat_lt, Option, Some, None, refl, sym, ap, subst, arith, inl, inr}
use Rattle.std.specs.Prelude.{Contains, if◌then◌else◌}
use Rattle.std.proofs.lemmas.Bool.{ltb-false, ltb-true}
use Rattle.bt_base.specs.Counts.{Rose}
use Rattle.command_line.specs.declared.command.Command.TheVariants.{Chain, Ident, Device, Cover, Svf, Walk, Make, Diagnose, Groups, Batch}
use Rattle.command_line.specs.Words.{Text, Command}
use Rattle.btest_cli.specs.Texts.{Held, Wanted, Reading, Read, TooLong, IsRead, and_text, known_reading, read_first, reading_of, wanted_of}
use Rattle.btest_cli.specs.Outcome.{SomeRose}
use Rattle.btest_cli.proofs.ReadingLemmas.{not_long, is_long}
use Rattle.promises.specs.Runs.{Holds, HoldsEach, IsTooLong, files_of}

pub files_are : (command : Command) → files_of command ≡ wanted_of command
files_are (Chain names) = refl
files_are (Ident names) = refl
files_are (Device name) = refl
files_are (Cover names) = refl
files_are (Svf names) = refl
files_are (Walk names) = refl
files_are (Make parts) = refl
files_are (Diagnose workers names) = refl
files_are (Groups names) = refl
files_are (Batch workers names) = refl

then_rest : (file : Wanted) (text : Text) (rest : Option Reading) → length text ≤ file.limit
    → read_first file (Some text) rest ≡ and_text text rest
then_rest file text rest short =
    ap (λ (b : Bool). if b then Some (TooLong file) else and_text text rest)
    (not_long file.limit (length text) (nat_lt file.limit (length text)) refl short)

reads_of : (held : Text → Option Text) (files : List Wanted) (texts : List Text)
    → HoldsEach (Some held) files texts → reading_of held files ≡ Some (Read texts)
reads_of held [] [] each = refl
reads_of held [] (text ∷ texts) each = absurd each
reads_of held (file ∷ files) [] each = absurd each
reads_of held (file ∷ files) (text ∷ texts) (is, short, each) =
    ap (λ (o : Option Text). read_first file o (reading_of held files)) is
    ∙ then_rest file text (reading_of held files) short
    ∙ ap (and_text text) (reads_of held files texts each)

pub reads : (held : Held) (files : List Wanted) (texts : List Text) → HoldsEach held files texts
    → known_reading held files ≡ Some (Read texts)
reads None [] [] each = refl
reads (Some held) [] [] each = refl
reads held [] (text ∷ texts) each = absurd each
reads held (file ∷ files) [] each = absurd each
reads None (file ∷ files) (text ∷ texts) each = absurd each.0
reads (Some held) (file ∷ files) (text ∷ texts) each = reads_of held (file ∷ files) (text ∷ texts) each

long_of : (held : Text → Option Text) (before : List Wanted) (file : Wanted) (after : List Wanted)
    (texts : List Text) (text : Text) → HoldsEach (Some held) before texts
    → held file.name ≡ Some text → file.limit < length text
    → reading_of held (before ++ file ∷ after) ≡ Some (TooLong file)
long_of held [] file after texts text each is long =
    ap (λ (o : Option Text). read_first file o (reading_of held after)) is
    ∙ ap
    (λ (b : Bool). if b then Some (TooLong file) else and_text text (reading_of held after))
    (is_long file.limit (length text) (nat_lt file.limit (length text)) refl long)
long_of held (first ∷ before) file after [] text each is long = absurd each
long_of held (first ∷ before) file after (t ∷ texts) text (first_is, short, each) is long =
    ap (λ (o : Option Text). read_first first o (reading_of held (before ++ file ∷ after))) first_is
    ∙ then_rest first t (reading_of held (before ++ file ∷ after)) short
    ∙ ap (and_text t) (long_of held before file after texts text each is long)

pub reads_long : (held : Held) (before : List Wanted) (file : Wanted) (after : List Wanted)
    (texts : List Text) (text : Text) → HoldsEach held before texts → Holds held file.name text
    → file.limit < length text → known_reading held (before ++ file ∷ after) ≡ Some (TooLong file)
reads_long None before file after texts text each is long = absurd is
reads_long (Some held) [] file after texts text each is long = long_of held [] file after texts text each is long
reads_long (Some held) (first ∷ before) file after texts text each is long =
    long_of held (first ∷ before) file after texts text each is long

pub holds_read : (held : Text → Option Text) (files : List Wanted) (texts : List Text)
    → reading_of held files ≡ Some (Read texts) → HoldsEach (Some held) files texts
holds_read held [] [] e = tt
holds_read held [] (text ∷ texts) e = absurd cc
holds_read held (file ∷ files) texts e = by_text (held file.name) refl (reading_of held files) (holds_read held files) texts e
  where
    Later : Option Reading → Type 0
    Later rest = (more : List Text) → rest ≡ Some (Read more) → HoldsEach (Some held) files more

    and_rest : (text : Text) → held file.name ≡ Some text → length text ≤ file.limit
        → (rest : Option Reading) → Later rest → (texts : List Text)
        → and_text text rest ≡ Some (Read texts) → HoldsEach (Some held) (file ∷ files) texts
    and_rest text is short None later texts e = absurd cc
    and_rest text is short (Some (TooLong wanted)) later texts e = absurd cc
    and_rest text is short (Some (Read more)) later [] e = absurd cc
    and_rest text is short (Some (Read more)) later (one ∷ found) e =
        let same : more ≡ found = cc in
        let first : text ≡ one = cc in (
          is ∙ ap (λ (t : Text). Some t) first,
          subst (λ (t : Text). length t ≤ file.limit) first short,
          subst (HoldsEach (Some held) files) same (later more refl),
        )

    by_length : (text : Text) → held file.name ≡ Some text → (long : Bool)
        → nat_lt file.limit (length text) ≡ long → (rest : Option Reading) → Later rest
        → (texts : List Text)
        → (if long then Some (TooLong file) else and_text text rest) ≡ Some (Read texts)
        → HoldsEach (Some held) (file ∷ files) texts
    by_length text is true test rest later texts e = absurd cc
    by_length text is false test rest later texts e = and_rest text is (ltb-false file.limit (length text) test) rest later texts e

    by_text : (o : Option Text) → held file.name ≡ o → (rest : Option Reading) → Later rest
        → (texts : List Text) → read_first file o rest ≡ Some (Read texts)
        → HoldsEach (Some held) (file ∷ files) texts
    by_text None is rest later texts e = absurd cc
    by_text (Some text) is rest later texts e = by_length text is (nat_lt file.limit (length text)) refl rest later texts e

-- the texts that the store holds are known
abbrev pub Tells : Held → Type 0
Tells held = (of_name : Text → Option Text) × (held ≡ Some of_name)

pub read_holds : (held : Held) → Tells held → (files : List Wanted) (texts : List Text)
    → IsRead held files (Read texts) → HoldsEach held files texts
read_holds None (of_name, tells) files texts read = absurd cc
read_holds (Some held) tells files texts read = holds_read held files texts read

after_first : (held : Text → Option Text) (first : Wanted) (text : Text) (files : List Wanted)
    (file : Wanted) → held first.name ≡ Some text → length text ≤ first.limit
    → IsTooLong (Some held) files file → IsTooLong (Some held) (first ∷ files) file
after_first held first text files file is short long = record {
  before = first ∷ long.before;
  after = long.after;
  are = ap (λ (l : List Wanted). first ∷ l) long.are;
  texts = text ∷ long.texts;
  each = (is, short, long.each);
  text = long.text;
  holds = long.holds;
  long = long.long;
}

long_held : (held : Text → Option Text) (files : List Wanted) (file : Wanted)
    → reading_of held files ≡ Some (TooLong file) → IsTooLong (Some held) files file
long_held held [] file e = absurd cc
long_held held (first ∷ files) file e = by_text (held first.name) refl (reading_of held files) (long_held held files file) e
  where
    Later : Option Reading → Type 0
    Later rest = rest ≡ Some (TooLong file) → IsTooLong (Some held) files file

    and_rest : (text : Text) → held first.name ≡ Some text → length text ≤ first.limit
        → (rest : Option Reading) → Later rest → and_text text rest ≡ Some (TooLong file)
        → IsTooLong (Some held) (first ∷ files) file
    and_rest text is short None later e = absurd cc
    and_rest text is short (Some (Read texts)) later e = absurd cc
    and_rest text is short (Some (TooLong other)) later e = after_first held first text files file is short (later e)

    by_length : (text : Text) → held first.name ≡ Some text → (long : Bool)
        → nat_lt first.limit (length text) ≡ long → (rest : Option Reading) → Later rest
        → (if long then Some (TooLong first) else and_text text rest) ≡ Some (TooLong file)
        → IsTooLong (Some held) (first ∷ files) file
    by_length text is true test rest later e =
        let same : first ≡ file = cc in
        subst (IsTooLong (Some held) (first ∷ files)) same
        (record {
          before = [];
          after = files;
          are = refl;
          texts = [];
          each = tt;
          text = text;
          holds =
              is;
          long = ltb-true first.limit (length text) test;
        })
    by_length text is false test rest later e = and_rest text is (ltb-false first.limit (length text) test) rest later e

    by_text : (o : Option Text) → held first.name ≡ o → (rest : Option Reading) → Later rest
        → read_first first o rest ≡ Some (TooLong file) → IsTooLong (Some held) (first ∷ files) file
    by_text None is rest later e = absurd cc
    by_text (Some text) is rest later e = by_length text is (nat_lt first.limit (length text)) refl rest later e

pub read_long : (held : Held) → Tells held → (files : List Wanted) (file : Wanted)
    → IsRead held files (TooLong file) → IsTooLong held files file
read_long None (of_name, tells) files file read = absurd cc
read_long (Some held) tells files file read = long_held held files file read

-- Two splits of a list at the same file are equal, if this file is too long and all files before it in either split are within their
-- limits.
same_cut : (held : Text → Option Text) (before others after behind : List Wanted) (file : Wanted)
    (texts found : List Text) (text : Text) → held file.name ≡ Some text → file.limit < length text
    → HoldsEach (Some held) before texts → HoldsEach (Some held) others found
    → before ++ file ∷ after ≡ others ++ file ∷ behind → others ≡ before
same_cut held [] [] after behind file texts found text is long each also e = refl
same_cut held [] (other ∷ others) after behind file texts [] text is long each also e = absurd also
same_cut held [] (other ∷ others) after behind file texts (one ∷ found) text is long each (other_is, short, also) e =
    let same : other ≡ file = cc in
    let text_is : Some one ≡ Some text = sym other_is ∙ ap (λ (w : Wanted). held w.name) same ∙ is in
    let equal : one ≡ text = cc in
    let too : length text
    ≤ file.limit = subst (λ (w : Wanted). length text ≤ w.limit) same
    (subst (λ (t : Text). length t ≤ other.limit) equal short) in
    absurd (omega (arith, too, long))
same_cut held (first ∷ before) [] after behind file [] found text is long each also e = absurd each
same_cut held (first ∷ before) [] after behind file (one ∷ texts) found text is long (first_is, short, each) also e =
    let same : first ≡ file = cc in
    let text_is : Some one ≡ Some text = sym first_is ∙ ap (λ (w : Wanted). held w.name) same ∙ is in
    let equal : one ≡ text = cc in
    let too : length text
    ≤ file.limit = subst (λ (w : Wanted). length text ≤ w.limit) same
    (subst (λ (t : Text). length t ≤ first.limit) equal short) in
    absurd (omega (arith, too, long))
same_cut held (first ∷ before) (other ∷ others) after behind file [] found text is long each also e = absurd each
same_cut held (first ∷ before) (other ∷ others) after behind file (t ∷ texts) [] text is long each also e = absurd also
same_cut held (first ∷ before) (other ∷ others) after behind file (t ∷ texts) (u ∷ found) text is
    long (first_is, short, each) (other_is, other_short, also) e =
    let head : other ≡ first = cc in
    let rest : before ++ file ∷ after ≡ others ++ file ∷ behind = cc in
    ap (λ (w : Wanted). w ∷ others) head
    ∙ ap (λ (l : List Wanted). first ∷ l)
    (same_cut held before others after behind file texts found text is long each also rest)

pub long_cut : (held : Held) (before others after behind : List Wanted) (file : Wanted)
    (texts found : List Text) (text : Text) → Holds held file.name text → file.limit < length text
    → HoldsEach held before texts → IsRead held others (Read found)
    → before ++ file ∷ after ≡ others ++ file ∷ behind → others ≡ before
long_cut None before others after behind file texts found text is long each read e = absurd is
long_cut (Some held) before others after behind file texts found text is long each read e =
    same_cut held before others after behind file texts found text is long each
    (holds_read held others found read) e

-- if `SomeRose` holds for these names, the count of some name among them rose
pub some_rose : (before now : Text → ℕ) (names : List Text) → SomeRose before now names
    → (name : Text) × Contains names name × Rose (before name) (now name)
some_rose before now [] rose = absurd rose
some_rose before now (name ∷ names) (inl rose) = (name, (zero, omega arith, refl), rose)
some_rose before now (name ∷ names) (inr rose) =
    let later = some_rose before now names rose in
    (later.0, (suc later.1.0, omega (arith, later.1.1), later.1.2), later.2)
