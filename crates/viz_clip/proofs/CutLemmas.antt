-- The crossing of a key by the points and values at its ends, and the rank of a key.
use Rattle.std.proofs.Common.{◌≡◌, ℕ, ◌<◌, ℤ, List, length, get_or, sym, ap, subst, ◌∙◌}
use Rattle.std.specs.List.Sorted.{IsStrictlySortedBy}
use Rattle.std.specs.Ordering.{nat_cmp}
use Rattle.viz_fraction.specs.Points.{Point}
use Rattle.viz_cells.specs.Steps.Crossings.{either_crossing, point_at}
use Rattle.viz_cells.specs.Steps.Keys.{high_of, low_of}
use Rattle.viz_clip.specs.Steps.Cuts.{cut_point, value_at}
use Rattle.viz_clip.specs.Steps.Numbers.{rank_among}
use Rattle.viz_clip.proofs.VertexLemmas.{rank-at_key}

pub cut-by : (values : List ℤ) (points : List Point) (key : ℕ) (a b : Point) (la lb : ℤ)
    → la ≡ value_at values (low_of key) → lb ≡ value_at values (high_of key) → a ≡ point_at points (low_of key) → b ≡ point_at points (high_of key)
    → either_crossing la a lb b ≡ cut_point values points key
unfolding cut_point
cut-by values points key a b la lb is_la is_lb is_a is_b =
    let p = point_at points (low_of key) in
    let q = point_at points (high_of key) in
    let v = value_at values (low_of key) in
    let w = value_at values (high_of key) in
    ap (λ n. either_crossing n a lb b) is_la
    ∙ ap (λ n. either_crossing v a n b) is_lb
    ∙ ap (λ r. either_crossing v r w b) is_a
    ∙ ap (λ r. either_crossing v p w r) is_b

pub number-of_key : (keys seen : List ℕ) (r key want : ℕ) → seen ≡ keys → IsStrictlySortedBy nat_cmp keys → r < length seen → get_or seen r 0 ≡ key → key ≡ want
    → r ≡ rank_among keys want
number-of_key keys seen r key want e s l at is =
    sym (rank-at_key keys r s (subst (λ (xs : List ℕ). r < length xs) e l))
    ∙ ap (rank_among keys) (ap (λ (xs : List ℕ). get_or xs r 0) (sym e) ∙ at ∙ is)
