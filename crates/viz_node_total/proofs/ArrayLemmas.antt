-- The numbers of the picked array of bytes lie in the range of its type.
use Rattle.std.proofs.Common.{
  ◌≡◌,
  ℕ,
  zero,
  suc,
  ℤ,
  pos,
  Bool,
  true,
  false,
  List,
  [],
  ◌∷◌,
  drop,
  get_or,
  Option,
  None,
  Some,
  refl,
  sym,
  ap,
  subst,
  ◌∙◌,
}
use Rattle.std.specs.List.{AllByRecursion, list_all}
use Rattle.std.specs.Prelude.{codes, ◌++◌, ◌||◌, if◌then◌else◌}
use Rattle.std.proofs.lemmas.Bool.{and_parts}
use Rattle.viz_attr.specs.Counts.{components, count_from, dimension}
use Rattle.viz_attr.specs.Grammar.{
  alone,
  array,
  arrays,
  arrays_in,
  association,
  attributes,
  behind,
  colors,
  field,
  field_array,
  field_head,
  head_in,
  is_zero,
  joined,
  no_array,
  part,
  parts,
  scalars,
  scalars_head,
  table,
  table_head,
  texture,
  vectors,
}
use Rattle.viz_attr.specs.Picks.{
  Begins,
  Given,
  Head,
  Holds,
  Part,
  association_of,
  count_of,
  fits_pick,
  has_fit,
  is_picked,
  picked_of,
}
use Rattle.viz_attr.specs.Values.{firsts, kind_of, tuple, values}
use Rattle.viz_attr.specs.declared.parts.Association.{Association}
use Rattle.viz_attr.specs.declared.parts.Association.TheVariants.{Cells, Points}
use Rattle.viz_attr.specs.declared.types.Stored.{Stored}
use Rattle.viz_attr.specs.declared.types.Stored.TheVariants.{Whole}
use Rattle.viz_attr.proofs.PartLaws.{decides-count_from, decides-type_word, decides-values}
use Rattle.viz_column.specs.Bytes.{numbers_in}
use Rattle.viz_column.specs.Kinds.{fits}
use Rattle.viz_column.specs.Numbers.{AreInRange, Numbers}
use Rattle.viz_column.specs.declared.kind.Kind8.{Kind8}
use Rattle.viz_column.specs.declared.kind.Kind8.TheVariants.{
  I16,
  I32,
  I64,
  I8,
  U16,
  U32,
  U64,
  U8,
}
use Rattle.viz_column.proofs.ListLemmas.{fits-numbers_in}
use Rattle.viz_lex.specs.Items.{word}
use Rattle.viz_lex.specs.Reading.{Reading, fault_at}
use Rattle.viz_lex.specs.Repeats.{AreTimes}
use Rattle.viz_lex.specs.Rules.{Rule, choose, gives}
use Rattle.viz_lex.specs.Steps.{is_beside, keyword_kind, same_word}
use Rattle.viz_lex.proofs.ItemLemmas.{decides-keyword, decides-number, decides-word}
use Rattle.viz_lex.proofs.PassRules.{decides-line_end, decides-metadata}
use Rattle.viz_node_total.proofs.StayLemmas.{
  Holds_of,
  Small,
  holds_behind,
  holds_choose,
  holds_known,
  holds_made,
  holds_refuses,
  holds_some,
  small_front,
  stays,
  stays_beside,
  stays_gives,
}

-- the numbers that are kept lie in the range of their type
abbrev pub ColumnInRange : Option Numbers → Type 0
ColumnInRange None = Unit {0}
ColumnInRange (Some n) = AreInRange n

-- so those of an array
abbrev PartInRange : Part → Type 0
PartInRange (Begins association) = Unit {0}
PartInRange (Holds head column) = ColumnInRange column

-- ---- values

-- each type has 0
pub zero_fits : (kind : Kind8) → fits kind (pos 0) ≡ true
zero_fits I8 = refl
zero_fits U8 = refl
zero_fits I16 = refl
zero_fits U16 = refl
zero_fits I32 = refl
zero_fits U32 = refl
zero_fits I64 = refl
zero_fits U64 = refl

tuple_fits : (kind : Kind8) (c : ℕ) (old new : Reading) (n : ℤ)
    → (tuple kind c).is old new n → fits kind n ≡ true
tuple_fits kind c old new n i =
    ap (fits kind) i.3.3.1 ∙ (ap (fits kind) i.2.3.1.1 ∙ i.2.3.0)

tuples_fit : (kind : Kind8) (c n : ℕ) (old new : Reading) (xs : List ℤ)
    → AreTimes (tuple kind c) old new xs n → list_all (fits kind) xs ≡ true
tuples_fit kind c zero old new [] h = refl
tuples_fit kind c (suc n) old new [] h = absurd h
tuples_fit kind c zero old new (x ∷ xs) h = absurd h
tuples_fit kind c (suc n) old new (x ∷ xs) h =
    let first = tuple_fits kind c old h.0 x h.1 in
    let rest = tuples_fit kind c n h.0 new xs h.2 in
    rw (first, rest) refl

first_fits : (kind : Kind8) (ns : List ℤ) → list_all (fits kind) ns ≡ true
    → fits kind (get_or ns 0 (pos 0)) ≡ true
first_fits kind [] h = zero_fits kind
first_fits kind (n ∷ ns) h = (and_parts (fits kind n) (list_all (fits kind) ns) h).0

rest_fits : (kind : Kind8) (k : ℕ) (ns : List ℤ) → list_all (fits kind) ns ≡ true
    → list_all (fits kind) (drop k ns) ≡ true
rest_fits kind zero ns h = h
rest_fits kind (suc k) [] h = refl
rest_fits kind (suc k) (n ∷ ns) h =
    rest_fits kind k ns (and_parts (fits kind n) (list_all (fits kind) ns) h).1

firsts_fit : (kind : Kind8) (c tuples : ℕ) (ns : List ℤ)
    → list_all (fits kind) ns ≡ true
    → list_all (fits kind) (firsts c tuples ns) ≡ true
firsts_fit kind c zero ns h = refl
firsts_fit kind c (suc tuples) ns h =
    let first = first_fits kind ns h in
    let rest = firsts_fit kind c tuples (drop c ns)
    (rest_fits kind c ns h) in
    rw (first, rest) refl

values_in : (binary picked : Bool) (stored : Stored) (tuples c : ℕ) (old new : Reading)
    (column : Option Numbers)
    → Small old.bytes → (values binary picked stored tuples c).is old new column
    → ColumnInRange column
values_in false true stored tuples c old new column small h =
    subst ColumnInRange (sym h.3.1) (tuples_fit (kind_of stored) c tuples old h.1 h.0 h.2)
values_in false false stored tuples c old new column small h =
    subst ColumnInRange (sym h.3.1) tt
values_in true true stored tuples c old new column small h =
    let same = stays decides-line_end old h.1 h.0 h.2 in
    let bytes = small_front h.1 h.3.0 h.3.2.0 (subst Small (sym same) small) h.3.2.1 in
    subst ColumnInRange (sym h.3.3.1)
    (firsts_fit (kind_of stored) c tuples (numbers_in (kind_of stored) h.3.0)
    (fits-numbers_in (kind_of stored) h.3.0 bytes))
values_in true false stored tuples c old new column small h =
    subst ColumnInRange (sym h.3.3.1) tt

-- ---- arrays

array_in : (g : Given) (before : List Part) (head : Head) (stored : Stored) (tuples c : ℕ)
    → Holds_of PartInRange (array g before head stored tuples c)
array_in g before head stored tuples c old new p small h =
    let picked = is_picked g before head in
    let column = values_in g.binary picked stored tuples c old h.1 h.0 small h.2 in
    let same = stays (decides-values g.binary picked stored tuples c) old h.1 h.0 h.2 in
    let passed = stays decides-metadata h.1 h.3.1 h.3.0 h.3.2 in (
      subst PartInRange (sym h.3.3.1) column,
      ap (λ (r : Reading). r.bytes) h.3.3.0 ∙ passed ∙ same,
    )

dimension_stays : (old new : Reading) (x : ℕ) → dimension.is old new x → new.bytes ≡ old.bytes
dimension_stays old new x i =
    ap (λ (r : Reading). r.bytes) i.3.1.0 ∙ stays decides-number old i.1 i.0 i.2

components_stay : (old new : Reading) (x : ℕ) → components.is old new x → new.bytes ≡ old.bytes
components_stay =
    stays_beside is_beside (count_from 1) (gives 1) (stays (decides-count_from 1)) (stays_gives 1)

scalars_in : (g : Given) (before : List Part) (which : Association)
    → Holds_of PartInRange (scalars g before which)
scalars_in g before which old new p small h =
    let head = scalars_head g which h.0.1 in
    let name = stays decides-word old h.1 h.0 h.2 in
    let type = stays (decides-type_word (is_picked g before head)) h.1 h.3.1 h.3.0 h.3.2 in
    let count = components_stay h.3.1 h.3.3.1 h.3.3.0 h.3.3.2 in
    let key =
    stays (decides-keyword (codes "LOOKUP_TABLE")) h.3.3.1 h.3.3.3.1 h.3.3.3.0 h.3.3.3.2 in
    let table = stays decides-word h.3.3.3.1 h.3.3.3.3.1 h.3.3.3.3.0 h.3.3.3.3.2 in
    let same = table ∙ key ∙ count ∙ type ∙ name in
    let r =
    array_in g before head h.3.0 (count_of g which) h.3.3.0 h.3.3.3.3.1 new p
    (subst Small (sym same) small) h.3.3.3.3.3 in
    (r.0, r.1 ∙ same)

vectors_in : (g : Given) (before : List Part) (which : Association) (c : ℕ)
    → Holds_of PartInRange (vectors g before which c)
vectors_in g before which c old new p small h =
    let name = stays decides-word old h.1 h.0 h.2 in
    let type = stays (decides-type_word false) h.1 h.3.1 h.3.0 h.3.2 in
    let same = type ∙ name in
    let r =
    array_in g before (head_in g which h.0.1) h.3.0 (count_of g which) c h.3.1 new p
    (subst Small (sym same) small) h.3.3 in
    (r.0, r.1 ∙ same)

texture_in : (g : Given) (before : List Part) (which : Association)
    → Holds_of PartInRange (texture g before which)
texture_in g before which old new p small h =
    let name = stays decides-word old h.1 h.0 h.2 in
    let count = dimension_stays h.1 h.3.1 h.3.0 h.3.2 in
    let type = stays (decides-type_word false) h.3.1 h.3.3.1 h.3.3.0 h.3.3.2 in
    let same = type ∙ count ∙ name in
    let r =
    array_in g before (head_in g which h.0.1) h.3.3.0 (count_of g which) h.3.0 h.3.3.1 new p
    (subst Small (sym same) small) h.3.3.3 in
    (r.0, r.1 ∙ same)

colors_in : (g : Given) (before : List Part) (which : Association)
    → Holds_of PartInRange (colors g before which)
colors_in g before which old new p small h =
    let name = stays decides-word old h.1 h.0 h.2 in
    let count = stays (decides-count_from 1) h.1 h.3.1 h.3.0 h.3.2 in
    let same = count ∙ name in
    let r =
    array_in g before (head_in g which h.0.1) (Whole U8) (count_of g which) h.3.0 h.3.1 new p
    (subst Small (sym same) small) h.3.3 in
    (r.0, r.1 ∙ same)

table_in : (g : Given) (before : List Part) (which : Association)
    → Holds_of PartInRange (table g before which)
table_in g before which old new p small h =
    let name = stays decides-word old h.1 h.0 h.2 in
    let count = stays (decides-count_from 0) h.1 h.3.1 h.3.0 h.3.2 in
    let same = count ∙ name in
    let r =
    array_in g before (table_head which h.0.1 h.3.0) (Whole U8) h.3.0 4 h.3.1 new p
    (subst Small (sym same) small) h.3.3 in
    (r.0, r.1 ∙ same)

field_array_in : (g : Given) (before : List Part) (which : Association) (inner : List Part)
    → Holds_of PartInRange (field_array g before which inner)
field_array_in g before which inner old new p small h =
    let name = stays decides-word old h.1 h.0 h.2 in
    let i = h.3.1 in
    let head = field_head which h.0.1 i.3.0 in
    let count = stays (decides-count_from 1) h.1 i.1 i.0 i.2 in
    let tuples = stays (decides-count_from 0) i.1 i.3.1 i.3.0 i.3.2 in
    let read = is_picked g (before ++ inner) head in
    let type = stays (decides-type_word read) i.3.1 i.3.3.1 i.3.3.0 i.3.3.2 in
    let same = type ∙ tuples ∙ count ∙ name in
    let r =
    array_in g (before ++ inner) head i.3.3.0 i.3.0 i.0 i.3.3.1 new p
    (subst Small (sym same) small) i.3.3.3 in
    (r.0, r.1 ∙ same)

-- ---- parts

-- all parts of a list
abbrev AllInRange : List Part → Type 0
AllInRange parts = AllByRecursion PartInRange parts

field_in : (g : Given) (before : List Part) (which : Association)
    → Holds_of AllInRange (field g before which)
field_in g before which old new ps small h =
    let name = stays decides-word old h.1 h.0 h.2 in
    let count = stays (decides-count_from 0) h.1 h.3.1 h.3.0 h.3.2 in
    let same = count ∙ name in
    let r =
    holds_known PartInRange (field_array g before which) (field_array_in g before which) h.3.0 []
    h.3.1 new ps (subst Small (sym same) small) h.3.3 in
    (r.0, r.1 ∙ same)

alone_in : (rule : Rule Part) → Holds_of PartInRange rule → Holds_of AllInRange (alone rule)
alone_in rule = holds_made PartInRange AllInRange rule (λ p. p ∷ []) (λ p h. (h, tt))

association_in : (g : Given) (which : Association) → Holds_of PartInRange (association g which)
association_in g which old new p small h = (
  subst PartInRange (sym h.3.1) tt,
  ap (λ (r : Reading). r.bytes) h.3.0
      ∙ (ap (λ (r : Reading). r.bytes) h.2.3.1.0 ∙ stays decides-number old h.2.1 h.2.0 h.2.2),
)

arrays_all_in : (g : Given) (before : List Part) (which : Association) (key : ℕ × List ℕ)
    → Holds_of AllInRange (arrays g before which key)
arrays_all_in g before which key =
    holds_choose AllInRange (same_word key.1 (codes "SCALARS")) _ _
    (alone_in (scalars g before which) (scalars_in g before which))
    (holds_choose AllInRange
    (same_word key.1 (codes "VECTORS") || same_word key.1 (codes "NORMALS")) _ _
    (alone_in (vectors g before which 3) (vectors_in g before which 3))
    (holds_choose AllInRange (same_word key.1 (codes "TENSORS")) _ _
    (alone_in (vectors g before which 9) (vectors_in g before which 9))
    (holds_choose AllInRange (same_word key.1 (codes "TEXTURE_COORDINATES")) _ _
    (alone_in (texture g before which) (texture_in g before which))
    (holds_choose AllInRange (same_word key.1 (codes "COLOR_SCALARS")) _ _
    (alone_in (colors g before which) (colors_in g before which))
    (holds_choose AllInRange (same_word key.1 (codes "LOOKUP_TABLE")) _ _
    (alone_in (table g before which) (table_in g before which))
    (holds_choose AllInRange (same_word key.1 (codes "FIELD")) _ _ (field_in g before which)
    (holds_refuses AllInRange (fault_at (keyword_kind key.1) key.0))))))))

arrays_in_in : (g : Given) (before : List Part) (last : Option Association) (key : ℕ × List ℕ)
    → Holds_of AllInRange (arrays_in g before last key)
arrays_in_in g before None key =
    holds_refuses AllInRange (fault_at (keyword_kind key.1) key.0)
arrays_in_in g before (Some which) key = arrays_all_in g before which key

behind_in : (g : Given) (before : List Part) (key : ℕ × List ℕ)
    → Holds_of AllInRange (behind g before key)
behind_in g before key =
    holds_choose AllInRange (same_word key.1 (codes "POINT_DATA")) _ _
    (alone_in (association g Points) (association_in g Points))
    (holds_choose AllInRange (same_word key.1 (codes "CELL_DATA")) _ _
    (alone_in (association g Cells) (association_in g Cells))
    (arrays_in_in g before (association_of None before) key))

part_in : (g : Given) (before : List Part) → Holds_of AllInRange (part g before)
part_in g before = holds_behind AllInRange word (behind g before) (stays decides-word)
    (behind_in g before)

-- ---- the picked array

all_joined : (xs ys : List Part) → AllInRange xs → AllInRange ys → AllInRange (xs ++ ys)
all_joined [] ys h g = g
all_joined (x ∷ xs) ys h g = (h.0, all_joined xs ys h.1 g)

joined_in : (lists : List (List Part)) → AllByRecursion AllInRange lists
    → AllInRange (joined lists)
joined_in [] h = tt
joined_in (xs ∷ lists) h = all_joined xs (joined lists) h.0 (joined_in lists h.1)

picked_in : (g : Given) (ps : List Part) → AllInRange ps → ColumnInRange (picked_of g ps)
picked_in g [] h = tt
picked_in g (Begins which ∷ ps) h = picked_in g ps h.1
picked_in g (Holds head column ∷ ps) h =
    by (fits_pick g head) column (picked_of g ps) h.0 (picked_in g ps h.1)
  where
    by : (b : Bool) (c d : Option Numbers) → ColumnInRange c → ColumnInRange d
        → ColumnInRange (if b then c else d)
    by true c d p q = p
    by false c d p q = q

chosen_in : (b : Bool) (column : Option Numbers) (old new : Reading) (x : Option Numbers)
    → ColumnInRange column → (choose b (gives column) no_array).is old new x → ColumnInRange x
chosen_in true column old new x h i = subst ColumnInRange (sym i.1) h
chosen_in false column old new x h i = absurd i

-- what the attributes of bytes give lies in its range
pub attributes_in : (g : Given) (old new : Reading) (column : Option Numbers) → Small old.bytes
    → (attributes g).is old new column → ColumnInRange column
attributes_in g old new column small h =
    let all =
    holds_some AllInRange (λ b. part g (joined b)) (λ b. part_in g (joined b)) [] old h.1 h.0 small
    h.2.0 in
    let parts = joined h.0 in
    chosen_in (is_zero g.pick || has_fit g parts) (picked_of g parts) h.1 new column
    (picked_in g parts (joined_in h.0 all)) h.3
