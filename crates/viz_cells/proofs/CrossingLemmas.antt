-- The crossing of a key by the values at its ends.
use Rattle.std.proofs.Common.{◌≡◌, ℕ, ℤ, List, sym, ap, subst, ◌∙◌}
use Rattle.viz_fraction.specs.declared.forms.Form.{Form}
use Rattle.viz_fraction.specs.Points.{Point}
use Rattle.viz_fraction.specs.Forms.{value_of}
use Rattle.viz_meaning.specs.Narrow.{IsNarrowEdge}
use Rattle.viz_cells.specs.Steps.Keys.{low_of, high_of}
use Rattle.viz_cells.specs.Steps.Crossings.{either_crossing, key_crossing, point_at, IsNarrowEither}

-- the crossing by values is that of the form
pub either-key : (f : Form) (points : List Point) (key : ℕ) (a b : Point) (la lb : ℤ)
    → la ≡ value_of f (point_at points (low_of key)) → lb ≡ value_of f (point_at points (high_of key)) → a ≡ point_at points (low_of key) → b ≡ point_at points (high_of key)
    → either_crossing la a lb b ≡ key_crossing f points key
unfolding key_crossing
either-key f points key a b la lb is_la is_lb is_a is_b =
    let p = point_at points (low_of key) in
    let q = point_at points (high_of key) in
    ap (λ n. either_crossing n a lb b) is_la
    ∙ ap (λ n. either_crossing (value_of f p) a n b) is_lb
    ∙ ap (λ r. either_crossing (value_of f p) r (value_of f q) b) is_a
    ∙ ap (λ r. either_crossing (value_of f p) p (value_of f q) r) is_b

-- and so is whether it is wide
pub narrow_either : (f : Form) (p q a b : Point) (la lb : ℤ) → la ≡ value_of f p → lb ≡ value_of f q → a ≡ p → b ≡ q
    → (IsNarrowEither la a lb b → IsNarrowEdge f p q) × (IsNarrowEdge f p q → IsNarrowEither la a lb b)
narrow_either f p q a b la lb is_la is_lb is_a is_b =
    let A : ℤ → Type 0 = λ z. IsNarrowEither z a lb b in
    let B : ℤ → Type 0 = λ z. IsNarrowEither (value_of f p) a z b in
    let C : Point → Type 0 = λ r. IsNarrowEither (value_of f p) r (value_of f q) b in
    let D : Point → Type 0 = λ r. IsNarrowEither (value_of f p) p (value_of f q) r in (
      λ h.
          let at_ends = subst D is_b (subst C is_a (subst B is_lb (subst A is_la h))) in
          record { up = at_ends.up; down = at_ends.down },
      λ h.
          let at_ends : IsNarrowEither (value_of f p) p (value_of f q) q = record { up = h.up; down = h.down } in
          subst A (sym is_la) (subst B (sym is_lb) (subst C (sym is_a) (subst D (sym is_b) at_ends))),
    )
