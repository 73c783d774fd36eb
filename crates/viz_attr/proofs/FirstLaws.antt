-- Numbers are kept of the first array that fits the pick, and of no other.
use Rattle.std.proofs.Common.{◌≡◌, ◌↔◌, ℕ, ℤ, zero, suc, ◌*◌, Bool, true, false, not, ◌&&◌, ◌||◌, IfSome, eqb, eqb-true, length, drop, List, [], ◌∷◌, ◌++◌, Option, Some, None, refl, sym, ap, subst, ◌∙◌, append_assoc}
use Rattle.std.specs.Prelude.{codes, if◌then◌else◌}
use Rattle.std.proofs.lemmas.Bool.{true≢false}
use Rattle.viz_base.specs.declared.node.Pick.{Pick}
use Rattle.viz_base.specs.declared.node.Pick.TheVariants.{First, Zero, Named}
use Rattle.viz_column.specs.Bytes.{numbers_in}
use Rattle.std.proofs.lemmas.List.{append-nil}
use Rattle.viz_column.specs.Numbers.{Numbers}
use Rattle.viz_lex.specs.Reading.{Reading, fault_at}
use Rattle.viz_lex.specs.Words.{IsBlank}
use Rattle.viz_lex.specs.Steps.{has, same_word, keyword_kind}
use Rattle.viz_lex.specs.Rules.{Rule, gives, refuses, choose, ◌>>=◌}
use Rattle.viz_lex.specs.Repeats.{AreTimes, AreKnown, AreSome}
use Rattle.viz_lex.specs.Items.{words, line_end, block}
use Rattle.viz_attr.specs.declared.parts.Association.{Association}
use Rattle.viz_attr.specs.declared.parts.Association.TheVariants.{Points, Cells}
use Rattle.viz_attr.specs.declared.parts.Sort.TheVariants.{Scalars, Field, Other}
use Rattle.viz_attr.specs.declared.types.Stored.{Stored}
use Rattle.viz_attr.specs.Picks.{Given, Head, Part, Begins, Holds, same_name, is_of_points, names, fits_pick, has_fit, is_picked, picked_of, association_of, count_of}
use Rattle.std.proofs.Common.{Result, Ok, Err, IfOk}
use Rattle.viz_attr.specs.declared.stop.AttrStop.{AttrStop}
use Rattle.viz_attr.specs.Types.{bytes_of}
use Rattle.viz_attr.specs.Values.{kind_of, tuple, firsts, values}
use Rattle.viz_column.specs.declared.kind.Kind8.TheVariants.{U8}
use Rattle.viz_attr.specs.declared.types.Stored.TheVariants.{Whole}
use Rattle.viz_attr.specs.Grammar.{head_in, scalars_head, table_head, field_head, array, association, scalars, vectors, texture, colors, table, field_values, field_array, field, alone, arrays, arrays_in, behind, part, joined, parts, is_zero, no_array, attributes}
use Rattle.viz_attr.specs.Attributes.{Meets, KeepsTheFirst, IsPicked, AreWordsAlone, AreBytesAlone}

-- an array behind those before keeps numbers exactly where it is the picked one, a number for each tuple; and one that fits has a tuple for each point
record IsMarked (g : Given) (before : List Part) (head : Head) (column : Option Numbers) : Type 0 where
  kept : has column ≡ is_picked g before head
  sized : IfSome column (λ n. length n.items ≡ head.tuples)
  whole : fits_pick g head ≡ true → head.tuples ≡ g.points

-- each array of these parts
abbrev Marked : Given → List Part → List Part → Type 0
Marked g before [] = Unit {0}
Marked g before (Begins association ∷ ps) = Marked g (before ++ Begins association ∷ []) ps
Marked g before (Holds head column ∷ ps) = IsMarked g before head column × Marked g (before ++ Holds head column ∷ []) ps

Marked-append : (g : Given) (before xs ys : List Part) → Marked g before xs → Marked g (before ++ xs) ys → Marked g before (xs ++ ys)
Marked-append g before [] ys m n = subst (λ (b : List Part). Marked g b ys) (append-nil before) n
Marked-append g before (Begins association ∷ xs) ys m n =
    Marked-append g (before ++ Begins association ∷ []) xs ys m (subst (λ (b : List Part). Marked g b ys) (sym (append_assoc before (Begins association ∷ []) xs)) n)
Marked-append g before (Holds head column ∷ xs) ys m n =
    (m.0, Marked-append g (before ++ Holds head column ∷ []) xs ys m.1 (subst (λ (b : List Part). Marked g b ys) (sym (append_assoc before (Holds head column ∷ []) xs)) n))

Marked-at : (g : Given) (before front back : List Part) (head : Head) (column : Option Numbers) → Marked g before (front ++ Holds head column ∷ back) → has column ≡ is_picked g (before ++ front) head
Marked-at g before [] back head column m = m.0.kept ∙ ap (λ (b : List Part). is_picked g b head) (sym (append-nil before))
Marked-at g before (Begins association ∷ front) back head column m =
    Marked-at g (before ++ Begins association ∷ []) front back head column m ∙ ap (λ (b : List Part). is_picked g b head) (append_assoc before (Begins association ∷ []) front)
Marked-at g before (Holds other kept ∷ front) back head column m =
    Marked-at g (before ++ Holds other kept ∷ []) front back head column m.1 ∙ ap (λ (b : List Part). is_picked g b head) (append_assoc before (Holds other kept ∷ []) front)

-- ---- values

kept_where_picked : (binary picked : Bool) (stored : Stored) (tuples components : ℕ) (old new : Reading) (column : Option Numbers) → (values binary picked stored tuples components).is old new column → has column ≡ picked
kept_where_picked false true stored tuples components old new column h = ap has h.3.1
kept_where_picked false false stored tuples components old new column h = ap has h.3.1
kept_where_picked true true stored tuples components old new column h = ap has h.3.3.1
kept_where_picked true false stored tuples components old new column h = ap has h.3.3.1

AreTimes-length : {V : Type 0} (rule : Rule V) (n : ℕ) (old new : Reading) (xs : List V) → AreTimes rule old new xs n → length xs ≡ n
AreTimes-length rule zero old new [] h = refl
AreTimes-length rule zero old new (x ∷ xs) h = absurd h
AreTimes-length rule (suc n) old new [] h = absurd h
AreTimes-length rule (suc n) old new (x ∷ xs) h = ap suc (AreTimes-length rule n h.0 new xs h.2)

length-firsts : (components tuples : ℕ) (numbers : List ℤ) → length (firsts components tuples numbers) ≡ tuples
length-firsts components zero numbers = refl
length-firsts components (suc tuples) numbers = ap suc (length-firsts components tuples (drop components numbers))

-- a column of so many numbers
abbrev IsSized : ℕ → Option Numbers → Type 0
IsSized tuples column = IfSome column (λ n. length n.items ≡ tuples)

sized_where_picked : (binary picked : Bool) (stored : Stored) (tuples components : ℕ) (old new : Reading) (column : Option Numbers) → (values binary picked stored tuples components).is old new column → IsSized tuples column
sized_where_picked false true stored tuples components old new column h = subst (IsSized tuples) (sym h.3.1) (AreTimes-length (tuple (kind_of stored) components) tuples old h.1 h.0 h.2)
sized_where_picked false false stored tuples components old new column h = subst (IsSized tuples) (sym h.3.1) tt
sized_where_picked true true stored tuples components old new column h = subst (IsSized tuples) (sym h.3.3.1) (length-firsts components tuples (numbers_in (kind_of stored) h.3.0))
sized_where_picked true false stored tuples components old new column h = subst (IsSized tuples) (sym h.3.3.1) tt

-- ---- heads

-- where an array fits, it has a tuple for each point
abbrev IsWhole : Given → Head → Type 0
IsWhole g head = fits_pick g head ≡ true → head.tuples ≡ g.points

scalars-whole : (g : Given) (which : Association) (name : List ℕ) → IsWhole g (scalars_head g which name)
scalars-whole g Points name e = refl
scalars-whole g Cells name e = absurd (true≢false (sym e))

and_false : (a : Bool) → (a && false) ≡ false
and_false true = refl
and_false false = refl

names_other : (pick : Pick) (points : ℕ) (which : Association) (name : List ℕ) (tuples : ℕ) → names pick points (record { association = which; sort = Other; name = name; tuples = tuples }) ≡ false
names_other First points which name tuples = refl
names_other Zero points which name tuples = refl
names_other (Named wanted) points which name tuples = and_false (same_name wanted name)

other_never : (g : Given) (which : Association) (name : List ℕ) (tuples : ℕ) → fits_pick g (record { association = which; sort = Other; name = name; tuples = tuples }) ≡ false
other_never g Points name tuples = names_other g.pick g.points Points name tuples
other_never g Cells name tuples = refl

other-whole : (g : Given) (which : Association) (name : List ℕ) (tuples : ℕ) → IsWhole g (record { association = which; sort = Other; name = name; tuples = tuples })
other-whole g which name tuples e = absurd (true≢false (sym e ∙ other_never g which name tuples))

and_right : (a b : Bool) → (a && b) ≡ true → b ≡ true
and_right true b e = e
and_right false b e = absurd (true≢false (sym e))

names_field : (pick : Pick) (points : ℕ) (which : Association) (name : List ℕ) (tuples : ℕ) → names pick points (field_head which name tuples) ≡ true → tuples ≡ points
names_field First points which name tuples e = absurd (true≢false (sym e))
names_field Zero points which name tuples e = absurd (true≢false (sym e))
names_field (Named wanted) points which name tuples e = eqb-true tuples points (and_right (same_name wanted name) (eqb tuples points) e)

field-whole : (g : Given) (which : Association) (name : List ℕ) (tuples : ℕ) → IsWhole g (field_head which name tuples)
field-whole g Points name tuples e = names_field g.pick g.points Points name tuples e
field-whole g Cells name tuples e = absurd (true≢false (sym e))

-- ---- arrays

array-marked : (g : Given) (before : List Part) (head : Head) (stored : Stored) (components : ℕ) (old new : Reading) (p : Part) → IsWhole g head → (array g before head stored head.tuples components).is old new p → Marked g before (p ∷ [])
array-marked g before head stored components old new p whole h =
    let kept = kept_where_picked g.binary (is_picked g before head) stored head.tuples components old h.1 h.0 h.2 in
    let sized = sized_where_picked g.binary (is_picked g before head) stored head.tuples components old h.1 h.0 h.2 in
    subst (λ (q : Part). Marked g before (q ∷ [])) (sym h.3.3.1) (record { kept = kept; sized = sized; whole = whole }, tt)

association-marked : (g : Given) (before : List Part) (which : Association) (old new : Reading) (p : Part) → (association g which).is old new p → Marked g before (p ∷ [])
association-marked g before which old new p h = subst (λ (q : Part). Marked g before (q ∷ [])) (sym h.3.1) tt

scalars-marked : (g : Given) (before : List Part) (which : Association) (old new : Reading) (p : Part) → (scalars g before which).is old new p → Marked g before (p ∷ [])
scalars-marked g before which old new p h = array-marked g before (scalars_head g which h.0.1) h.3.0 h.3.3.0 h.3.3.3.3.1 new p (scalars-whole g which h.0.1) h.3.3.3.3.3

vectors-marked : (g : Given) (before : List Part) (which : Association) (c : ℕ) (old new : Reading) (p : Part) → (vectors g before which c).is old new p → Marked g before (p ∷ [])
vectors-marked g before which c old new p h = array-marked g before (head_in g which h.0.1) h.3.0 c h.3.1 new p (other-whole g which h.0.1 (count_of g which)) h.3.3

texture-marked : (g : Given) (before : List Part) (which : Association) (old new : Reading) (p : Part) → (texture g before which).is old new p → Marked g before (p ∷ [])
texture-marked g before which old new p h = array-marked g before (head_in g which h.0.1) h.3.3.0 h.3.0 h.3.3.1 new p (other-whole g which h.0.1 (count_of g which)) h.3.3.3

colors-marked : (g : Given) (before : List Part) (which : Association) (old new : Reading) (p : Part) → (colors g before which).is old new p → Marked g before (p ∷ [])
colors-marked g before which old new p h = array-marked g before (head_in g which h.0.1) (Whole U8) h.3.0 h.3.1 new p (other-whole g which h.0.1 (count_of g which)) h.3.3

table-marked : (g : Given) (before : List Part) (which : Association) (old new : Reading) (p : Part) → (table g before which).is old new p → Marked g before (p ∷ [])
table-marked g before which old new p h = array-marked g before (table_head which h.0.1 h.3.0) (Whole U8) 4 h.3.1 new p (other-whole g which h.0.1 h.3.0) h.3.3

field_array-marked : (g : Given) (before : List Part) (which : Association) (inner : List Part) (old new : Reading) (p : Part) → (field_array g before which inner).is old new p → Marked g (before ++ inner) (p ∷ [])
field_array-marked g before which inner old new p h = array-marked g (before ++ inner) (field_head which h.0.1 h.3.1.3.0) h.3.1.3.3.0 h.3.1.0 h.3.1.3.3.1 new p (field-whole g which h.0.1 h.3.1.3.0) h.3.1.3.3.3

fields-marked : (g : Given) (before : List Part) (which : Association) (n : ℕ) (inner : List Part) (old new : Reading) (ps : List Part) → AreKnown (field_array g before which) inner old new ps n → Marked g (before ++ inner) ps
fields-marked g before which zero inner old new [] h = tt
fields-marked g before which zero inner old new (p ∷ ps) h = absurd h
fields-marked g before which (suc n) inner old new [] h = absurd h
fields-marked g before which (suc n) inner old new (p ∷ ps) h =
    let more = fields-marked g before which n (inner ++ p ∷ []) h.0 new ps h.2 in
    Marked-append g (before ++ inner) (p ∷ []) ps (field_array-marked g before which inner old h.0 p h.1) (subst (λ (b : List Part). Marked g b ps) (sym (append_assoc before inner (p ∷ []))) more)

field-marked : (g : Given) (before : List Part) (which : Association) (old new : Reading) (ps : List Part) → (field g before which).is old new ps → Marked g before ps
field-marked g before which old new ps h = subst (λ (b : List Part). Marked g b ps) (append-nil before) (fields-marked g before which h.3.0 [] h.3.1 new ps h.3.3)

-- ---- parts

alone-marked : (g : Given) (before : List Part) (rule : Rule Part) → ((old new : Reading) (p : Part) → rule.is old new p → Marked g before (p ∷ []))
    → (old new : Reading) (ps : List Part) → (alone rule).is old new ps → Marked g before ps
alone-marked g before rule each old new ps h = subst (Marked g before) (sym h.3.1) (each old h.1 h.0 h.2)

-- every list that a rule gives is marked
abbrev MarksAll : Given → List Part → Rule (List Part) → Type 0
MarksAll g before rule = (old new : Reading) (ps : List Part) → rule.is old new ps → Marked g before ps

choose-marked : (g : Given) (before : List Part) (test : Bool) (a b : Rule (List Part)) → MarksAll g before a → MarksAll g before b → MarksAll g before (choose test a b)
choose-marked g before true a b x y = x
choose-marked g before false a b x y = y

arrays-marked : (g : Given) (before : List Part) (which : Association) (key : ℕ × List ℕ) → MarksAll g before (arrays g before which key)
arrays-marked g before which key =
    choose-marked g before (same_word key.1 (codes "SCALARS")) _ _ (alone-marked g before (scalars g before which) (scalars-marked g before which))
    (choose-marked g before (same_word key.1 (codes "VECTORS") || same_word key.1 (codes "NORMALS")) _ _ (alone-marked g before (vectors g before which 3) (vectors-marked g before which 3))
    (choose-marked g before (same_word key.1 (codes "TENSORS")) _ _ (alone-marked g before (vectors g before which 9) (vectors-marked g before which 9))
    (choose-marked g before (same_word key.1 (codes "TEXTURE_COORDINATES")) _ _ (alone-marked g before (texture g before which) (texture-marked g before which))
    (choose-marked g before (same_word key.1 (codes "COLOR_SCALARS")) _ _ (alone-marked g before (colors g before which) (colors-marked g before which))
    (choose-marked g before (same_word key.1 (codes "LOOKUP_TABLE")) _ _ (alone-marked g before (table g before which) (table-marked g before which))
    (choose-marked g before (same_word key.1 (codes "FIELD")) _ _ (field-marked g before which) (λ old new ps h. absurd h)))))))

arrays_in-marked : (g : Given) (before : List Part) (last : Option Association) (key : ℕ × List ℕ) → MarksAll g before (arrays_in g before last key)
arrays_in-marked g before None key = λ old new ps h. absurd h
arrays_in-marked g before (Some which) key = arrays-marked g before which key

behind-marked : (g : Given) (before : List Part) (key : ℕ × List ℕ) → MarksAll g before (behind g before key)
behind-marked g before key =
    choose-marked g before (same_word key.1 (codes "POINT_DATA")) _ _ (alone-marked g before (association g Points) (association-marked g before Points))
    (choose-marked g before (same_word key.1 (codes "CELL_DATA")) _ _ (alone-marked g before (association g Cells) (association-marked g before Cells))
    (arrays_in-marked g before (association_of None before) key))

part-marked : (g : Given) (before : List Part) → MarksAll g before (part g before)
part-marked g before old new ps h = behind-marked g before h.0 h.1 new ps h.3

joined-append : (xs : List (List Part)) (x : List Part) → joined (xs ++ x ∷ []) ≡ joined xs ++ x
joined-append [] x = append-nil x
joined-append (y ∷ ys) x = ap (λ (zs : List Part). y ++ zs) (joined-append ys x) ∙ sym (append_assoc y (joined ys) x)

all-marked : (g : Given) (before : List (List Part)) (old new : Reading) (xs : List (List Part)) → AreSome (λ b. part g (joined b)) before old new xs → Marked g (joined before) (joined xs)
all-marked g before old new [] h = tt
all-marked g before old new (x ∷ xs) h =
    let more = all-marked g (before ++ x ∷ []) h.0 new xs h.3 in
    Marked-append g (joined before) x (joined xs) (part-marked g (joined before) old h.0 x h.2) (subst (λ (b : List Part). Marked g b (joined xs)) (joined-append before x) more)

-- numbers are kept of the first that fits, and of no other
pub parts_keep_the_first : (g : Given) (old new : Reading) (xs : List (List Part)) → (parts g).is old new xs → KeepsTheFirst g xs
parts_keep_the_first g old new xs h front back head column e =
    Marked-at g [] front back head column (subst (Marked g []) e (all-marked g [] old new xs h.0))

-- ---- the picked numbers

picked-sized : (g : Given) (before ps : List Part) → Marked g before ps → IsSized g.points (picked_of g ps)
picked-sized g before [] m = tt
picked-sized g before (Begins association ∷ ps) m = picked-sized g (before ++ Begins association ∷ []) ps m
picked-sized g before (Holds head column ∷ ps) m = choice (fits_pick g head) m.0.whole column m.0.sized (picked-sized g (before ++ Holds head column ∷ []) ps m.1) where
  as_points : (column : Option Numbers) → head.tuples ≡ g.points → IsSized head.tuples column → IsSized g.points column
  as_points column e s = subst (λ (n : ℕ). IsSized n column) e s

  choice : (fits : Bool) → (fits ≡ true → head.tuples ≡ g.points) → (column : Option Numbers) → IsSized head.tuples column → IsSized g.points (picked_of g ps) → IsSized g.points (if fits then column else picked_of g ps)
  choice true whole column sized later = as_points column (whole refl) sized
  choice false whole column sized later = later

-- nothing fits before
abbrev NoFit : Given → List Part → Type 0
NoFit g before = has_fit g before ≡ false

NoFit-more : (g : Given) (before : List Part) (p : Part) → NoFit g before → has_fit g (p ∷ []) ≡ false → NoFit g (before ++ p ∷ [])
NoFit-more g [] p e f = f
NoFit-more g (Begins association ∷ ps) p e f = NoFit-more g ps p e f
NoFit-more g (Holds head column ∷ ps) p e f = none_more (fits_pick g head) (has_fit g ps) e (NoFit-more g ps p) where
  none_more : (fits rest : Bool) → (fits || rest) ≡ false → (rest ≡ false → has_fit g (p ∷ []) ≡ false → has_fit g (ps ++ p ∷ []) ≡ false) → (fits || has_fit g (ps ++ p ∷ [])) ≡ false
  none_more true rest e later = absurd (true≢false e)
  none_more false rest e later = later e f

picked_first : (g : Given) (ps : List Part) (column : Option Numbers) (fits : Bool) → (fits ≡ true → has column ≡ true) → (fits || has_fit g ps) ≡ true
    → (fits ≡ false → has_fit g ps ≡ true → has (picked_of g ps) ≡ true) → has (if fits then column else picked_of g ps) ≡ true
picked_first g ps column true first e later = first refl
picked_first g ps column false first e later = later refl e

picked-has : (g : Given) (before ps : List Part) → Marked g before ps → NoFit g before → has_fit g ps ≡ true → has (picked_of g ps) ≡ true
picked-has g before [] m none e = absurd (true≢false (sym e))
picked-has g before (Begins association ∷ ps) m none e = picked-has g (before ++ Begins association ∷ []) ps m (NoFit-more g before (Begins association) none refl) e
picked-has g before (Holds head column ∷ ps) m none e =
    picked_first g ps column (fits_pick g head) (λ fits. m.0.kept ∙ rw (fits, none) refl) e
    (λ other more. picked-has g (before ++ Holds head column ∷ []) ps m.1 (NoFit-more g before (Holds head column) none (rw other refl)) more)

names_none : (pick : Pick) (points : ℕ) (head : Head) (here : Bool) → is_zero pick ≡ true → (here && names pick points head) ≡ false
names_none First points head here asked = absurd (true≢false (sym asked))
names_none Zero points head here asked = and_false here
names_none (Named name) points head here asked = absurd (true≢false (sym asked))

zero-none : (g : Given) (ps : List Part) → is_zero g.pick ≡ true → picked_of g ps ≡ None
zero-none g [] asked = refl
zero-none g (Begins which ∷ ps) asked = zero-none g ps asked
zero-none g (Holds head column ∷ ps) asked =
    let none : fits_pick g head ≡ false = names_none g.pick g.points head (is_of_points head.association) asked in
    rw none (zero-none g ps asked)

picked_by : (g : Given) (zero fit : Bool) → is_zero g.pick ≡ zero → (all : List (List Part)) → has_fit g (joined all) ≡ fit → Marked g [] (joined all)
    → (old new : Reading) (column : Option Numbers) → (choose (zero || fit) (gives (picked_of g (joined all))) no_array).is old new column → IsPicked g column
picked_by g true fit z all f m old new column h = record {
  sized = subst (IsSized g.points) (sym h.1) (picked-sized g [] (joined all) m);
  asked = ap has (h.1 ∙ zero-none g (joined all) z) ∙ rw z refl;
}
picked_by g false true z all f m old new column h = record {
  sized = subst (IsSized g.points) (sym h.1) (picked-sized g [] (joined all) m);
  asked = ap has h.1 ∙ picked-has g [] (joined all) m refl f ∙ rw z refl;
}
picked_by g false false z all f m old new column h = absurd h

pub attributes_are_picked : (g : Given) (old new : Reading) (column : Option Numbers) → (attributes g).is old new column → IsPicked g column
attributes_are_picked g old new column h =
    picked_by g (is_zero g.pick) (has_fit g (joined h.0)) refl h.0 refl (all-marked g [] old h.1 h.0 h.2.0) h.1 new column h.3

-- ---- arrays that aren't picked

pub words_alone : (stored : Stored) (tuples components : ℕ) → AreWordsAlone stored tuples components
words_alone stored tuples components old new column = (
  λ h. (subst (λ (s : Reading). (words (tuples * components)).is old s tt) (sym h.3.0) h.2, h.3.1),
  λ h. (tt, new, h.0, (refl, h.1)),
)

pub bytes_alone : (stored : Stored) (tuples components : ℕ) → AreBytesAlone stored tuples components
bytes_alone stored tuples components old new column = (
  λ h. ((h.3.0, (h.0, h.1, h.2, subst (λ (s : Reading). (block (tuples * components * bytes_of stored)).is h.1 s h.3.0) (sym h.3.3.0) h.3.2)), h.3.3.1),
  λ h. (h.0.1.0, h.0.1.1, h.0.1.2, (h.0.0, new, h.0.1.3, (refl, h.1))),
)

-- the same of a call
pub picked_of_call : (g : Given) (result : Result (Option Numbers) AttrStop) (old new : Reading) → Meets (attributes g) result old new → IfOk result (IsPicked g)
picked_of_call g (Ok column) old new h = attributes_are_picked g old new column h
picked_of_call g (Err stop) old new h = tt
