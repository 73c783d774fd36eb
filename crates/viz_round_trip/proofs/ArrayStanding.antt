-- The attribute parts, as they are written: the points, and one array of SCALARS.
use Rattle.std.proofs.Common.{◌≡◌, ℕ, pos, ◌+◌, ◌*◌, ◌^◌, ◌<◌, Bool, true, List, [], ◌∷◌, ◌++◌, length, Some, refl, sym, ap, subst, ◌∙◌, arith}
use Rattle.std.specs.Prelude.{codes}
use Rattle.std.specs.Fmt.{digits, decimal}
use Rattle.std.proofs.lemmas.Bool.{eq-eqb}
use Rattle.viz_base.specs.declared.node.Pick.TheVariants.{First}
use Rattle.viz_column.specs.Numbers.{Numbers, AreInRange}
use Rattle.viz_lex.specs.declared.fault.FileKind.TheVariants.{Count}
use Rattle.viz_lex.specs.Reading.{Reading, rest_of, fault_at}
use Rattle.viz_lex.specs.Words.{IsBlank}
use Rattle.viz_lex.specs.Steps.{continues, is_beside}
use Rattle.viz_lex.specs.Rules.{gives, demand}
use Rattle.viz_lex.specs.Items.{word, number, keyword, metadata}
use Rattle.viz_attr.specs.declared.parts.Association.TheVariants.{Points}
use Rattle.viz_attr.specs.declared.types.Stored.TheVariants.{Whole}
use Rattle.viz_attr.specs.Counts.{is_number, same_count, components}
use Rattle.viz_attr.specs.Types as types
use Rattle.viz_attr.specs.Picks.{Given, Head, Begins, Holds}
use Rattle.viz_attr.specs.Values.{values}
use Rattle.viz_attr.specs.Arrays.{array, association, scalars_head, scalars}
use Rattle.viz_image_write.specs.ImageText as written
use Rattle.viz_round_trip.proofs.StandingLemmas.{Stands, stands-gives, stands-follow, stands-demand, stands-beside}
use Rattle.viz_round_trip.proofs.WordStanding.{word-solid, blank-one, stands-next, stands-keyword, stands-no_metadata}
use Rattle.viz_round_trip.proofs.SizeStanding.{stands-count}
use Rattle.viz_round_trip.proofs.TypeStanding.{stands-type}
use Rattle.viz_round_trip.proofs.BlockStanding.{StandsAll, stands-values}

-- what is asked of the parts of a written image
abbrev pub given : Bool → ℕ → ℕ → Given
given binary points cells = record { binary = binary; points = points; cells = cells; pick = First }

-- ---- POINT_DATA

pub stands-association : (binary : Bool) (points cells : ℕ) (old : Reading) (behind : List ℕ) → points < 2 ^ 31 → rest_of old ≡ 32 ∷ (decimal points ++ 10 ∷ behind) → Stands (association (given binary points cells) Points) old (Begins Points) (10 ∷ behind)
stands-association binary points cells old behind few e =
    let first = stands-count old 32 points (10 ∷ behind) refl few refl e in
    let same : Stands (same_count points) old tt (10 ∷ behind) = stands-follow number (λ n. demand (is_number points n.1) (fault_at Count n.0) (gives tt)) old (first.0, pos points) tt (10 ∷ behind) (10 ∷ behind) first.1
    (stands-demand _ _ _ first.1.new tt (10 ∷ behind) (eq-eqb points points refl) (stands-gives tt first.1.new (10 ∷ behind) first.1.rest)) in
    stands-follow (same_count points) (λ same. gives (Begins Points)) old tt (Begins Points) (10 ∷ behind) (10 ∷ behind) same (stands-gives (Begins Points) same.new (10 ∷ behind) same.rest)

-- ---- SCALARS

one_continues : (behind : List ℕ) → continues (32 ∷ (decimal 1 ++ 10 ∷ behind)) ≡ true
unfolding digits
one_continues behind = refl

-- one component, which is written
pub stands-components : (old : Reading) (behind : List ℕ) → rest_of old ≡ 32 ∷ (decimal 1 ++ 10 ∷ behind) → Stands components old 1 (10 ∷ behind)
stands-components old behind e =
    let first = stands-count old 32 1 (10 ∷ behind) refl (omega arith) refl e in
    let beside : is_beside old ≡ true = ap continues e ∙ one_continues behind in
    stands-beside is_beside _ _ old 1 (10 ∷ behind) beside
    (stands-follow number _ old (first.0, pos 1) 1 (10 ∷ behind) (10 ∷ behind) first.1
    (stands-demand _ _ _ first.1.new 1 (10 ∷ behind) refl
    (stands-demand _ _ _ first.1.new 1 (10 ∷ behind) refl (stands-gives 1 first.1.new (10 ∷ behind) first.1.rest))))

-- the name of the array
abbrev pub array_name : List ℕ
array_name = codes "scalars"

-- the head of the array
abbrev pub head_of : Bool → ℕ → ℕ → Head
head_of binary points cells = scalars_head (given binary points cells) Points array_name

-- a part stands, and blanks are left
abbrev pub StandsBlank : Bool → ℕ → ℕ → Numbers → Reading → Type 0
StandsBlank binary points cells n old = (left : List ℕ) × IsBlank left × Stands (scalars (given binary points cells) (Begins Points ∷ []) Points) old (Holds (head_of binary points cells) (Some n)) left

-- the text behind the word SCALARS
abbrev pub scalars_text : Numbers → List ℕ → List ℕ
scalars_text n values = 32 ∷ (array_name ++ 32 ∷ (written.type_word n.kind ++ 32 ∷ (decimal 1 ++ 10 ∷ (codes "LOOKUP_TABLE" ++ 32 ∷ (codes "default" ++ 10 ∷ values)))))

stands-array : (binary : Bool) (points cells : ℕ) (n : Numbers) (old : Reading) → StandsAll binary n points old
    → (left : List ℕ) × IsBlank left × Stands (array (given binary points cells) (Begins Points ∷ []) (head_of binary points cells) (Whole n.kind) points 1) old (Holds (head_of binary points cells) (Some n)) left
stands-array binary points cells n old all =
    let part = Holds (head_of binary points cells) (Some n) in
    let passed = stands-no_metadata all.2.new all.0 (subst IsBlank (sym all.2.rest) all.1) all.2.rest in (
      all.0,
      all.1,
      stands-follow (values binary true (Whole n.kind) points 1) _ old (Some n) part all.0 all.0 all.2
          (stands-follow metadata _ all.2.new tt part all.0 all.0 passed (stands-gives part passed.new all.0 passed.rest)),
    )

pub stands-scalars : (binary : Bool) (points cells : ℕ) (n : Numbers) (rows width : ℕ) (old : Reading) → AreInRange n → length n.items ≡ points → length n.items ≡ rows * width
    → rest_of old ≡ scalars_text n (written.values_text binary rows width n) → StandsBlank binary points cells n old
stands-scalars binary points cells n rows width old within count full e =
    let part = Holds (head_of binary points cells) (Some n) in
    let values_behind = written.values_text binary rows width n in
    let table_behind = 32 ∷ (codes "default" ++ 10 ∷ values_behind) in
    let key_behind = 10 ∷ (codes "LOOKUP_TABLE" ++ table_behind) in
    let number_behind = 32 ∷ (decimal 1 ++ key_behind) in
    let type_behind = 32 ∷ (written.type_word n.kind ++ number_behind) in
    let a = stands-next old (32 ∷ []) array_name type_behind (record { parts = e; blank = blank-one 32 refl; is_word = word-solid array_name refl; ends = refl }) in
    let b = stands-type n.kind a.new number_behind refl a.rest in
    let c = stands-components b.new (codes "LOOKUP_TABLE" ++ table_behind) b.rest in
    let d = stands-keyword (codes "LOOKUP_TABLE") c.new (10 ∷ []) (codes "LOOKUP_TABLE") table_behind refl (record { parts = c.rest; blank = blank-one 10 refl; is_word = word-solid (codes "LOOKUP_TABLE") refl; ends = refl }) in
    let f = stands-next d.new (32 ∷ []) (codes "default") (10 ∷ values_behind) (record { parts = d.rest; blank = blank-one 32 refl; is_word = word-solid (codes "default") refl; ends = refl }) in
    let all = stands-array binary points cells n f.new (stands-values binary n rows width points f.new within count full f.rest) in (
      all.0,
      all.1,
      stands-follow word _ old (old.place + 1, array_name) part type_behind all.0 a
          (stands-follow (types.type_word true) _ a.new (Whole n.kind) part number_behind all.0 b
          (stands-follow components _ b.new 1 part key_behind all.0 c
          (stands-follow (keyword (codes "LOOKUP_TABLE")) _ c.new tt part table_behind all.0 d
          (stands-follow word _ d.new (d.new.place + 1, codes "default") part (10 ∷ values_behind) all.0 f all.2)))),
    )
