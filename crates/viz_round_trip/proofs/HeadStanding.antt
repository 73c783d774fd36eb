-- The two lines in front, the form and the dataset, as they are written.
use Rattle.std.proofs.Common.{◌≡◌, ◌≢◌, ℕ, ◌+◌, Bool, true, false, not, List, [], ◌∷◌, ◌++◌, length, drop, refl, subst, ◌∙◌}
use Rattle.std.specs.Prelude.{codes, nat_eq}
use Rattle.std.specs.List.{list_all}
use Rattle.std.proofs.lemmas.Bool.{eqb-false}
use Rattle.std.proofs.lemmas.List.Elements.{All-weaker}
use Rattle.std.proofs.lemmas.List.Sums.{AllPass-from_list_all}
use Rattle.viz_lex.specs.declared.fault.FileKind.{FileKind}
use Rattle.viz_lex.specs.declared.fault.FileKind.TheVariants.{Magic, Title, Form}
use Rattle.viz_lex.specs.Reading.{Reading, rest_of, advanced, fault_at}
use Rattle.viz_lex.specs.Words.{HasNoNewline, IsNextLine, IsNextWord}
use Rattle.viz_lex.specs.Steps.{same_word}
use Rattle.viz_lex.specs.Rules.{gives, refuses, demand, choose, follow}
use Rattle.viz_lex.specs.Items.{word}
use Rattle.viz_lex.proofs.LineLemmas.{rest_of-line}
use Rattle.viz_legacy_read.specs.Magic.{magic, is_magic, is_later, line, two_lines}
use Rattle.viz_legacy_read.specs.Header.{form, Header, image_header, header}
use Rattle.viz_legacy_read.specs.Header.Heading.{OfImage}
use Rattle.viz_image_write.specs.ImageText.{title_lines, form_line, dataset_line}
use Rattle.viz_image_write.specs.Version.{version_line}
use Rattle.viz_round_trip.proofs.StandingLemmas.{Stands, stands-gives, stands-follow, stands-demand}
use Rattle.viz_round_trip.proofs.WordStanding.{word-solid, blank-nil, blank-one, stands-next, stands-keyword}

-- ---- lines

differs : (b : Bool) → not b ≡ true → b ≡ false
differs true e = absurd cc
differs false e = refl

one-line : (text : List ℕ) → list_all (λ b. not (nat_eq b 10)) text ≡ true → HasNoNewline text
one-line text e = record {
  each = All-weaker (λ b. not (nat_eq b 10) ≡ true) (λ b. b ≢ 10) (λ b h. eqb-false b 10 (differs (nat_eq b 10) h)) text (AllPass-from_list_all (λ b. not (nat_eq b 10)) text e);
}

pub stands-line : (kind : FileKind) (old : Reading) (text behind : List ℕ) → list_all (λ b. not (nat_eq b 10)) text ≡ true → rest_of old ≡ text ++ 10 ∷ behind → Stands (line kind) old text behind
stands-line kind old text behind one e =
    let next : IsNextLine (rest_of old) text behind = record { parts = e; one = one-line text one } in
    record { new = advanced old (length text + 1); is = (behind, next, refl); rest = rest_of-line old text behind next }

-- ---- the version and the title

abbrev pub version : Bool → List ℕ
version true = codes "# vtk DataFile Version 5.1"
version false = codes "# vtk DataFile Version 3.0"

one-version : (later : Bool) → list_all (λ b. not (nat_eq b 10)) (version later) ≡ true
one-version true = refl
one-version false = refl

is-magic : (later : Bool) → is_magic (version later) ≡ true
is-magic true = refl
is-magic false = refl

is-later : (later : Bool) → is_later (drop (length magic) (version later)) ≡ later
is-later true = refl
is-later false = refl

-- a version and a title of one line
pub stands-two : (later : Bool) (title : List ℕ) (old : Reading) (behind : List ℕ) → list_all (λ b. not (nat_eq b 10)) title ≡ true → rest_of old ≡ version later ++ 10 ∷ (title ++ 10 ∷ behind) → Stands two_lines old later behind
stands-two later title old behind one e =
    let first = stands-line Magic old (version later) (title ++ 10 ∷ behind) (one-version later) e in
    let second = stands-line Title first.new title behind one first.rest in
    let later_of = λ (text : List ℕ). is_later (drop (length magic) text) in
    let last = subst (λ (b : Bool). Stands (gives (later_of (version later))) second.new b behind) (is-later later) (stands-gives (later_of (version later)) second.new behind second.rest) in
    stands-follow (line Magic) (λ text. demand (is_magic text) (fault_at Magic 0) (follow (line Title) (λ title. gives (later_of text)))) old (version later) later (title ++ 10 ∷ behind) behind first
    (stands-demand _ _ _ first.new later behind (is-magic later)
    (stands-follow (line Title) (λ title. gives (later_of (version later))) first.new title later behind behind second last))

abbrev title : List ℕ
title = codes "vizrun image"

title_parts : (later : Bool) (behind : List ℕ) → title_lines later ++ behind ≡ version later ++ 10 ∷ (title ++ 10 ∷ behind)
unfolding title_lines version_line
title_parts true behind = refl
title_parts false behind = refl

pub stands-title : (later : Bool) (old : Reading) (behind : List ℕ) → rest_of old ≡ title_lines later ++ behind → Stands two_lines old later behind
stands-title later old behind e = stands-two later title old behind refl (e ∙ title_parts later behind)

-- ---- the form

form_word : (old : Reading) (text behind : List ℕ) (binary : Bool) → IsNextWord (rest_of old) [] text behind
    → ((new : Reading) (place : ℕ) → rest_of new ≡ behind → Stands (choose (same_word text (codes "ASCII")) (gives false) (choose (same_word text (codes "BINARY")) (gives true) (refuses (fault_at Form place)))) new binary behind)
    → Stands form old binary behind
form_word old text behind binary next later =
    let first = stands-next old [] text behind next in
    stands-follow word _ old (old.place + 0, text) binary behind behind first (later first.new (old.place + 0) first.rest)

pub stands-form : (binary : Bool) (old : Reading) (behind : List ℕ) → rest_of old ≡ form_line binary ++ behind → Stands form old binary (10 ∷ behind)
unfolding form_line
stands-form true old behind e =
    form_word old (codes "BINARY") (10 ∷ behind) true (record { parts = e; blank = blank-nil; is_word = word-solid (codes "BINARY") refl; ends = refl }) (λ new place rest.
    stands-gives true new (10 ∷ behind) rest)
stands-form false old behind e =
    form_word old (codes "ASCII") (10 ∷ behind) false (record { parts = e; blank = blank-nil; is_word = word-solid (codes "ASCII") refl; ends = refl }) (λ new place rest.
    stands-gives false new (10 ∷ behind) rest)

-- ---- up to the dataset

-- the header of an image, where its lines stand behind the dataset; the reader keeps the types of the holes to itself
pub stands-dataset : (later binary : Bool) (old : Reading) (h : Header) (behind left : List ℕ) → rest_of old ≡ title_lines later ++ (form_line binary ++ (dataset_line ++ behind))
    → ((new : Reading) → rest_of new ≡ 10 ∷ behind → Stands (image_header binary) new h left) → Stands header old (OfImage h) left
unfolding dataset_line
stands-dataset later binary old h behind left e lines_behind =
    let points = codes "STRUCTURED_POINTS" in
    let a = stands-title later old (form_line binary ++ (dataset_line ++ behind)) e in
    let b = stands-form binary a.new (dataset_line ++ behind) a.rest in
    let key = stands-keyword (codes "DATASET") b.new (10 ∷ []) (codes "DATASET") (32 ∷ (points ++ 10 ∷ behind)) refl (record { parts = b.rest; blank = blank-one 10 refl; is_word = word-solid (codes "DATASET") refl; ends = refl }) in
    let name = stands-next key.new (32 ∷ []) points (10 ∷ behind) (record { parts = key.rest; blank = blank-one 32 refl; is_word = word-solid points refl; ends = refl }) in
    let lines = lines_behind name.new name.rest in
    record {
      new = lines.new;
      is = (
        _,
        name.new,
        (later, a.new, a.is, (binary, b.new, b.is, (_, name.new, (tt, key.new, key.is, ((key.new.place + 1, points), name.new, name.is, (refl {a = name.new}, refl))), (refl {a = name.new}, refl)))),
        (h, lines.new, lines.is, (refl {a = lines.new}, refl)),
      );
      rest = lines.rest;
    }
