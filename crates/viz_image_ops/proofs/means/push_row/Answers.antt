use Rattle.std.proofs.Common.{◌≡◌, ◌+◌, ◌-◌, ◌≤◌, ◌++◌, ℕ, ℤ, List, map, ap, ◌∙◌, arith}
use Rattle.viz_extent.specs.Extent.{size_of}
use Rattle.viz_image_ops.specs.Joined.{run_of}
use Rattle.viz_image_ops.specs.Sums.{row_mean}
use Rattle.viz_image_ops.proofs.JoinedLemmas.{run_on}
use Rattle.viz_image_ops.proofs.means.push_row.Goals as goal

-- the means up to a last index, in two parts
two : (f : ℕ → ℤ) (first before last : ℕ) (xs ys zs : List ℤ) → first ≤ before → before ≤ last → ys ≡ xs ++ run_of f first (size_of first before)
    → zs ≡ ys ++ run_of f (before + 1) (last - before) → zs ≡ xs ++ run_of f first (last + 1 - first)
two f first before last xs ys zs from to is more =
    let one : size_of first before ≡ before + 1 - first = omega (arith, from) in
    let all : before + 1 + (last - before) - first ≡ last + 1 - first = omega (arith, to) in
    run_on f first (before + 1) (last - before) xs ys zs (omega (arith, from)) (is ∙ ap (λ (n : ℕ). xs ++ run_of f first n) one) more
    ∙ ap (λ (n : ℕ). xs ++ run_of f first n) all

pub returns-then-last-last_index : goal.returns-then-last-last_index
returns-then-last-last_index g c =
    let value = g.T.Number.value in
    let xs = map value c.args.means.now.items in
    let f = row_mean c.args.row.now c.args.rows c.args.axis.now in
    let first = c.args.first_index in
    let before = c.max-before.result in
    let last = c.min-last.result in
    let from : first ≤ before = omega (arith, c.max-before.ensures) in
    let to : before ≤ last = omega (arith, c.if-before-last.false) in
    let size : last + 1 - first ≡ size_of first c.args.last_index = omega (arith, from, to, c.if-last-last_index.true) in
    two f first before last xs (map value c.push_any-2.new.means.items) (map value c.push_whole.new.means.items) from to c.in_ok-push_any.ensures c.in_ok-push_whole.ensures
    ∙ ap (λ (n : ℕ). xs ++ run_of f first n) size

pub returns : goal.returns
returns g c =
    let value = g.T.Number.value in
    let xs = map value c.args.means.now.items in
    let f = row_mean c.args.row.now c.args.rows c.args.axis.now in
    let first = c.args.first_index in
    let before = c.max-before.result in
    let last = c.min-last.result in
    let from : first ≤ before = omega (arith, c.max-before.ensures) in
    let to : before ≤ last = omega (arith, c.if-before-last.false) in
    let end : last ≤ c.args.last_index = omega (arith, c.min-last.ensures) in
    let size : last + 1 + size_of (last + 1) c.args.last_index - first ≡ size_of first c.args.last_index = omega (arith, from, to, end, c.if-last-last_index.false) in
    let so_far = two f first before last xs (map value c.push_any-2.new.means.items) (map value c.push_whole.new.means.items) from to c.in_ok-push_any.ensures c.in_ok-push_whole.ensures in
    run_on f first (last + 1) (size_of (last + 1) c.args.last_index) xs (map value c.push_whole.new.means.items) (map value c.push_any-3.new.means.items) (omega (arith, from, to))
    so_far c.in_ok-push_any-2.ensures
    ∙ ap (λ (n : ℕ). xs ++ run_of f first n) size
