-- Which ends are inside, and the crossing of a name by the values at its ends.
use Rattle.std.proofs.Common.{◌≡◌, ℕ, ℤ, pos, Option, Some, None, refl, sym, ap, subst, ◌∙◌, arith}
use Rattle.std.specs.Prelude.{◌-ℤ◌, ◌*ℤ◌, IsSome, OnSome}
use Rattle.std.proofs.lemmas.Int.{ints}
use Rattle.viz_fraction.specs.declared.forms.Form.{Form}
use Rattle.viz_fraction.specs.Points.{Point}
use Rattle.viz_fraction.specs.Forms.{contour_form, value_of}
use Rattle.viz_fraction.specs.Crossings.{edge_crossing, IsNarrowCrossing}
use Rattle.viz_fraction.specs.Short.{IsShortCrossing}
use Rattle.viz_fraction.proofs.ShortLemmas.{short_crossing_is_narrow}
use Rattle.viz_grid_section.specs.Edges.{Edge}
use Rattle.viz_dataset.specs.Images.{ImageData}
use Rattle.viz_contour.specs.declared.crossings.End.{End}
use Rattle.viz_contour.specs.declared.small_ends.SmallEnd.{SmallEnd}
use Rattle.viz_meaning.specs.Tetrahedra.{point_of_leaf}
use Rattle.viz_contour.specs.Steps.Ends.{IsEnd, IsSmallEnd, either_crossing, IsNarrowEither}
use Rattle.viz_meaning.specs.Narrow.{IsNarrowEdge}
use Rattle.viz_grid_section.proofs.LeafLemmas.{value-contour}

-- the crossing by values is that of the form
pub either-edge : (f : Form) (p q a b : Point) (la lb : ℤ) → la ≡ value_of f p → lb ≡ value_of f q → a ≡ p → b ≡ q
    → either_crossing la a lb b ≡ edge_crossing f p q
either-edge f p q a b la lb is_la is_lb is_a is_b =
    ap (λ n. either_crossing n a lb b) is_la
    ∙ ap (λ n. either_crossing (value_of f p) a n b) is_lb
    ∙ ap (λ r. either_crossing (value_of f p) r (value_of f q) b) is_a
    ∙ ap (λ r. either_crossing (value_of f p) p (value_of f q) r) is_b

-- and so is whether it is wide
pub narrow_either : (f : Form) (at : ℕ → Point) (n : Edge) (a b : Point) (la lb : ℤ)
    → la ≡ value_of f (at n.low) → lb ≡ value_of f (at n.high) → a ≡ at n.low → b ≡ at n.high
    → (IsNarrowEither la a lb b → IsNarrowEdge f (at n.low) (at n.high)) × (IsNarrowEdge f (at n.low) (at n.high) → IsNarrowEither la a lb b)
narrow_either f at n a b la lb is_la is_lb is_a is_b =
    let p = at n.low in
    let q = at n.high in
    let A : ℤ → Type 0 = λ z. IsNarrowEither z a lb b in
    let B : ℤ → Type 0 = λ z. IsNarrowEither (value_of f p) a z b in
    let C : Point → Type 0 = λ r. IsNarrowEither (value_of f p) r (value_of f q) b in
    let D : Point → Type 0 = λ r. IsNarrowEither (value_of f p) p (value_of f q) r in (
      λ h.
          let at_ends = subst D is_b (subst C is_a (subst B is_lb (subst A is_la h))) in
          record { up = at_ends.up; down = at_ends.down },
      λ h.
          let at_ends : IsNarrowEither (value_of f p) p (value_of f q) q = record { up = h.up; down = h.down } in
          subst A (sym is_la) (subst B (sym is_lb) (subst C (sym is_a) (subst D (sym is_b) at_ends))),
    )

-- an end at a leaf has the point of the leaf, and the form's value there
pub end-leaf : (level : ℤ) (image : ImageData) (e : End) (leaf : ℕ) → IsEnd level image e → e.leaf ≡ leaf
    → (e.point ≡ point_of_leaf image leaf) × (e.above ≡ value_of (contour_form level) (point_of_leaf image leaf))
end-leaf level image e leaf end is =
    (end.point ∙ ap (point_of_leaf image) is, end.above ∙ ap (λ m. value_of (contour_form level) (point_of_leaf image m)) is)

-- and so has an end of 64 bits
pub small_end-leaf : (level : ℤ) (image : ImageData) (e : SmallEnd) (leaf : ℕ) → IsSmallEnd level image e → e.leaf ≡ leaf
    → (e.point ≡ point_of_leaf image leaf) × (e.above ≡ value_of (contour_form level) (point_of_leaf image leaf))
small_end-leaf level image e leaf end is =
    (end.point ∙ ap (point_of_leaf image) is, end.above ∙ ap (λ m. value_of (contour_form level) (point_of_leaf image m)) is)

-- the form's value at a point of weight 1
pub small_above : (above s level : ℤ) (p q : Point) → above ≡ s -ℤ level → p.s ≡ s → p.w ≡ pos 1 → p ≡ q → above ≡ value_of (contour_form level) q
small_above above s level p q is is_s is_w same =
    let one : level *ℤ pos 1 ≡ level = omega (arith, ints) in
    is ∙ ap (λ n. n -ℤ level) (sym is_s) ∙ ap (λ n. p.s -ℤ n) (sym (ap (λ w. level *ℤ w) is_w ∙ one))
    ∙ sym (value-contour level p.x p.y p.z p.s p.w) ∙ ap (value_of (contour_form level)) same

-- nothing in a short crossing between two values is wide
pub short_is_narrow : (la lb m n : ℤ) (a b : Point) → m ≡ la → n ≡ lb → IsShortCrossing m a n b → IsNarrowCrossing la a lb b
short_is_narrow la lb m n a b is_m is_n short =
    let A : ℤ → Type 0 = λ z. IsShortCrossing z a n b in
    let B : ℤ → Type 0 = λ z. IsShortCrossing la a z b in
    short_crossing_is_narrow la a lb b (subst B is_n (subst A is_m short))

-- ---- what holds where there is something

pub on_some : {X P : Type 0} (o : Option X) → (IsSome o → P) → OnSome o P
on_some None found = tt
on_some (Some x) found = found refl

pub on_some_also : {X P Q : Type 0} (o : Option X) → (P → Q) → OnSome o P → OnSome o Q
on_some_also None so h = tt
on_some_also (Some x) so h = so h
