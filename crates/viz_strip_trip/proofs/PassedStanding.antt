-- The attributes of points in words, where no array is asked for: their array is passed over.
use Rattle.std.proofs.Common.{◌≡◌, ℕ, ℤ, ◌+◌, ◌*◌, ◌^◌, ◌<◌, true, false, List, [], ◌∷◌, ◌++◌, length, map, refl, sym, subst, ◌∙◌, arith}
use Rattle.std.specs.Prelude.{codes, Option, None, ◌||◌, FitsSigned}
use Rattle.std.specs.Int.{w128}
use Rattle.std.specs.List.{list_all}
use Rattle.std.specs.Fmt.{decimal, signed_decimal}
use Rattle.std.proofs.lemmas.Bool.{and_parts}
use Rattle.viz_base.specs.declared.node.Pick.TheVariants.{Zero}
use Rattle.viz_column.specs.declared.kind.Kind8.{Kind8}
use Rattle.viz_column.specs.declared.kind.Kind8.TheVariants.{I64}
use Rattle.viz_column.specs.Kinds.{fits}
use Rattle.viz_column.specs.Numbers.{Numbers, AreInRange}
use Rattle.viz_lex.specs.Reading.{Reading, rest_of}
use Rattle.viz_lex.specs.Words.{EndsWord, IsBlank}
use Rattle.viz_lex.specs.Rules.{gives, choose}
use Rattle.viz_lex.specs.Repeats.{AreTimes, times}
use Rattle.viz_lex.specs.Items.{word, words, keyword, metadata}
use Rattle.viz_lex.proofs.NumberLemmas.{IsWord-signed_decimal}
use Rattle.viz_attr.specs.declared.parts.Association.TheVariants.{Points}
use Rattle.viz_attr.specs.declared.types.Stored.TheVariants.{Whole}
use Rattle.viz_attr.specs.Types as types
use Rattle.viz_attr.specs.Counts.{components}
use Rattle.viz_attr.specs.Picks.{Given, Head, Part, Begins, Holds, has_fit, picked_of}
use Rattle.viz_attr.specs.Values.{values}
use Rattle.viz_attr.specs.Arrays.{array, association, scalars_head, scalars}
use Rattle.viz_attr.specs.Grammar.{behind, part, joined, parts, is_zero, no_array, attributes}
use Rattle.viz_image_write.specs.ImageText.{rows_text, values_text}
use Rattle.viz_fraction.specs.Points.{Point}
use Rattle.viz_mesh_write.specs.MeshText.{scalar}
use Rattle.viz_round_trip.specs.MeshTrip.{scalars_in_file}
use Rattle.viz_round_trip.proofs.StandingLemmas.{Stands, stands-gives, stands-follow, stands-demand}
use Rattle.viz_round_trip.proofs.WordStanding.{word-solid, blank-one, stands-next, stands-keyword, stands-no_metadata}
use Rattle.viz_round_trip.proofs.ValueStanding.{AreWritten, kind_wide, written-behind}
use Rattle.viz_round_trip.proofs.RowLemmas.{written-rows}
use Rattle.viz_round_trip.proofs.ArrayStanding.{array_name, scalars_text, stands-association, stands-components}
use Rattle.viz_round_trip.proofs.AttributeStanding.{not_blank, parts_text}

-- what is asked of the attributes of so many points and cells: none
abbrev pub passing : ℕ → ℕ → Given
passing points cells = record { binary = false; points = points; cells = cells; pick = Zero }

-- ---- numbers as words

stands-word : (old : Reading) (gap later : List ℕ) (n : ℤ) → FitsSigned w128 n → IsBlank gap → EndsWord later → rest_of old ≡ gap ++ (signed_decimal n ++ later) → Stands word old (old.place + length gap, signed_decimal n) later
stands-word old gap later n within blank ends e =
    stands-next old gap (signed_decimal n) later (record { parts = e; blank = blank; is_word = IsWord-signed_decimal n within; ends = ends })

-- so many words stand, and blanks are left
record StandWords (count : ℕ) (old : Reading) : Type 0 where
  new : Reading
  all : List (ℕ × List ℕ)
  is : AreTimes word old new all count
  blank : IsBlank (rest_of new)

stand-words : (kind : Kind8) (ns : List ℤ) (old : Reading) (text : List ℕ) → list_all (fits kind) ns ≡ true → AreWritten ns text → rest_of old ≡ text → StandWords (length ns) old
stand-words kind [] old text within h e = record { new = old; all = []; is = refl; blank = subst IsBlank (sym e) h }
stand-words kind (n ∷ ns) old text within h e =
    let both = and_parts (fits kind n) (list_all (fits kind) ns) within in
    let first = stands-word old h.0 h.1 n (kind_wide kind n both.0) h.2 h.3 (e ∙ h.4) in
    let others = stand-words kind ns first.new h.1 both.1 h.5 first.rest in
    record {
      new = others.new;
      all = (old.place + length h.0, signed_decimal n) ∷ others.all;
      is = (first.new, first.is, others.is);
      blank = others.blank;
    }

-- ---- the array

-- it is passed over, and blanks are left
abbrev StandsPassed : ℕ → Reading → Type 0
StandsPassed points old = (left : List ℕ) × IsBlank left × Stands (values false false (Whole I64) points 1) old None left

one_wide : (n : ℕ) → n ≡ n * 1
one_wide n = omega arith

stands-values : (n : Numbers) (points : ℕ) (old : Reading) → AreInRange n → length n.items ≡ points → rest_of old ≡ 10 ∷ rows_text points 1 n.items → StandsPassed points old
stands-values n points old within count e =
    let long = count ∙ one_wide points in
    let written = written-behind (10 ∷ []) n.items (rows_text points 1 n.items) (blank-one 10 refl) (written-rows points 1 n.items long) in
    let all = stand-words n.kind n.items old (10 ∷ rows_text points 1 n.items) within written e in
    let many : AreTimes word old all.new all.all (points * 1) = subst (λ (k : ℕ). AreTimes word old all.new all.all k) long all.is in
    let left = rest_of all.new in
    let none : Option Numbers = None in
    let each : Stands (times (points * 1) word) old all.all left = record { new = all.new; is = many; rest = refl } in
    let passed : Stands (words (points * 1)) old tt left = stands-follow (times (points * 1) word) (λ ws. gives tt) old all.all tt left left each (stands-gives tt all.new left refl) in
    (left, all.blank, stands-follow (words (points * 1)) (λ passed. gives none) old tt none left left passed (stands-gives none passed.new left passed.rest))

-- its type
stands-long : (old : Reading) (behind : List ℕ) → EndsWord behind → rest_of old ≡ 32 ∷ (codes "long" ++ behind) → Stands (types.type_word false) old (Whole I64) behind
stands-long old behind ends e =
    let text = codes "long" in
    let first = stands-next old (32 ∷ []) text behind (record { parts = e; blank = blank-one 32 refl; is_word = word-solid text refl; ends = ends }) in
    stands-follow word _ old (old.place + 1, text) (Whole I64) behind behind first
    (stands-demand _ _ _ first.new (Whole I64) behind refl
    (stands-demand _ _ _ first.new (Whole I64) behind refl
    (stands-demand _ _ _ first.new (Whole I64) behind refl (stands-gives (Whole I64) first.new behind first.rest))))

abbrev head_of : ℕ → ℕ → Head
head_of points cells = scalars_head (passing points cells) Points array_name

-- the part that holds it
abbrev held : ℕ → ℕ → Part
held points cells = Holds (head_of points cells) None

stands-array : (points cells : ℕ) (old : Reading) → StandsPassed points old
    → (left : List ℕ) × IsBlank left × Stands (array (passing points cells) (Begins Points ∷ []) (head_of points cells) (Whole I64) points 1) old (held points cells) left
stands-array points cells old all =
    let part = held points cells in
    let none : Option Numbers = None in
    let passed = stands-no_metadata all.2.new all.0 (subst IsBlank (sym all.2.rest) all.1) all.2.rest in (
      all.0,
      all.1,
      stands-follow (values false false (Whole I64) points 1) _ old none part all.0 all.0 all.2
          (stands-follow metadata _ all.2.new tt part all.0 all.0 passed (stands-gives part passed.new all.0 passed.rest)),
    )

-- a column of signed numbers of 64 bits
abbrev column_of : List ℤ → Numbers
column_of ns = record { kind = I64; items = ns }

stands-scalars : (points cells : ℕ) (ns : List ℤ) (old : Reading) → list_all (fits I64) ns ≡ true → length ns ≡ points → rest_of old ≡ scalars_text (column_of ns) (rows_text points 1 ns)
    → (left : List ℕ) × IsBlank left × Stands (scalars (passing points cells) (Begins Points ∷ []) Points) old (held points cells) left
stands-scalars points cells ns old within count e =
    let part = held points cells in
    let values_behind = rows_text points 1 ns in
    let table_behind = 32 ∷ (codes "default" ++ 10 ∷ values_behind) in
    let key_behind = 10 ∷ (codes "LOOKUP_TABLE" ++ table_behind) in
    let number_behind = 32 ∷ (decimal 1 ++ key_behind) in
    let type_behind = 32 ∷ (codes "long" ++ number_behind) in
    let a = stands-next old (32 ∷ []) array_name type_behind (record { parts = e; blank = blank-one 32 refl; is_word = word-solid array_name refl; ends = refl }) in
    let b = stands-long a.new number_behind refl a.rest in
    let c = stands-components b.new (codes "LOOKUP_TABLE" ++ table_behind) b.rest in
    let d = stands-keyword (codes "LOOKUP_TABLE") c.new (10 ∷ []) (codes "LOOKUP_TABLE") table_behind refl (record { parts = c.rest; blank = blank-one 10 refl; is_word = word-solid (codes "LOOKUP_TABLE") refl; ends = refl }) in
    let f = stands-next d.new (32 ∷ []) (codes "default") (10 ∷ values_behind) (record { parts = d.rest; blank = blank-one 32 refl; is_word = word-solid (codes "default") refl; ends = refl }) in
    let all = stands-array points cells f.new (stands-values (column_of ns) points f.new within count f.rest) in (
      all.0,
      all.1,
      stands-follow word _ old (old.place + 1, array_name) part type_behind all.0 a
          (stands-follow (types.type_word false) _ a.new (Whole I64) part number_behind all.0 b
          (stands-follow components _ b.new 1 part key_behind all.0 c
          (stands-follow (keyword (codes "LOOKUP_TABLE")) _ c.new tt part table_behind all.0 d
          (stands-follow word _ d.new (d.new.place + 1, codes "default") part (10 ∷ values_behind) all.0 f all.2)))),
    )

-- ---- the parts

stands-begins : (points cells : ℕ) (old : Reading) (later : List ℕ) → points < 2 ^ 31 → rest_of old ≡ 10 ∷ (codes "POINT_DATA" ++ 32 ∷ (decimal points ++ 10 ∷ later)) → Stands (part (passing points cells) []) old (Begins Points ∷ []) (10 ∷ later)
stands-begins points cells old later few e =
    let g = passing points cells in
    let mid = 32 ∷ (decimal points ++ 10 ∷ later) in
    let first = stands-next old (10 ∷ []) (codes "POINT_DATA") mid (record { parts = e; blank = blank-one 10 refl; is_word = word-solid (codes "POINT_DATA") refl; ends = refl }) in
    let second = stands-association false points cells first.new later few first.rest in
    stands-follow word (behind g []) old (old.place + 1, codes "POINT_DATA") (Begins Points ∷ []) mid (10 ∷ later) first
    (stands-follow (association g Points) (λ part. gives (part ∷ [])) first.new (Begins Points) (Begins Points ∷ []) (10 ∷ later) (10 ∷ later) second
    (stands-gives (Begins Points ∷ []) second.new (10 ∷ later) second.rest))

stands-holds : (points cells : ℕ) (ns : List ℤ) (old : Reading) → list_all (fits I64) ns ≡ true → length ns ≡ points → rest_of old ≡ 10 ∷ (codes "SCALARS" ++ scalars_text (column_of ns) (rows_text points 1 ns))
    → (left : List ℕ) × IsBlank left × Stands (part (passing points cells) (Begins Points ∷ [])) old (held points cells ∷ []) left
stands-holds points cells ns old within count e =
    let g = passing points cells in
    let holds = held points cells in
    let mid = scalars_text (column_of ns) (rows_text points 1 ns) in
    let first = stands-next old (10 ∷ []) (codes "SCALARS") mid (record { parts = e; blank = blank-one 10 refl; is_word = word-solid (codes "SCALARS") refl; ends = refl }) in
    let second = stands-scalars points cells ns first.new within count first.rest in (
      second.0,
      second.1,
      stands-follow word (behind g (Begins Points ∷ [])) old (old.place + 1, codes "SCALARS") (holds ∷ []) mid second.0 first
          (stands-follow (scalars g (Begins Points ∷ []) Points) (λ part. gives (part ∷ [])) first.new holds (holds ∷ []) second.0 second.0 second.2
          (stands-gives (holds ∷ []) second.2.new second.0 second.2.rest)),
    )

-- the text of the scalars of points
abbrev pub data_text : List Point → List ℕ
data_text ps = parts_text (scalars_in_file ps) (length ps) (values_text false (length ps) 1 (scalars_in_file ps))

pub stands-passed : (ps : List Point) (cells : ℕ) (old : Reading) → length ps < 2 ^ 31 → list_all (fits I64) (map scalar ps) ≡ true → length (map scalar ps) ≡ length ps → rest_of old ≡ 10 ∷ data_text ps
    → (left : List ℕ) × Stands (attributes (passing (length ps) cells)) old None left
stands-passed ps cells old few within count e =
    let points = length ps in
    let ns = map scalar ps in
    let g = passing points cells in
    let holds = held points cells in
    let none : Option Numbers = None in
    let later = codes "SCALARS" ++ scalars_text (column_of ns) (rows_text points 1 ns) in
    let all = (Begins Points ∷ []) ∷ (holds ∷ []) ∷ [] in
    let a = stands-begins points cells old later few e in
    let b = stands-holds points cells ns a.new within count a.rest in
    let stand : Stands (parts g) old all b.0 = record {
      new = b.2.new;
      is = ((a.new, not_blank _ _ _ refl e, a.is, (b.2.new, not_blank _ _ _ refl a.rest, b.2.is, refl)), subst IsBlank (sym b.2.rest) b.1);
      rest = b.2.rest;
    } in (
      b.0,
      stands-follow (parts g) (λ all. choose (is_zero g.pick || has_fit g (joined all)) (gives (picked_of g (joined all))) no_array) old all none b.0 b.0 stand
          (stands-gives none stand.new b.0 stand.rest),
    )
