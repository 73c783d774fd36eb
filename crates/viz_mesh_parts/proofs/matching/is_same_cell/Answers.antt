use Rattle.std.proofs.Common.{◌≡◌, ◌<◌, ◌∙◌, true, true≢false, not, arith, ap, length, subst, sym, nat_eq}
use Rattle.std.specs.Cmp.Lexicographic.{pointwise}
use Rattle.viz_mesh_parts.proofs.MatchLemmas.{leaves-itself, leaves-same, names-alike, names-more, not-false}
use Rattle.viz_mesh_parts.proofs.matching.is_same_cell.Goals as goal

pub returns-then-ne : goal.returns-then-ne
returns-then-ne c = (
  λ no. absurd (true≢false (sym no)),
  λ same.
      let i = c.loop-i.i in
      let xs = c.args.xs.now in
      let ys = c.args.ys.now in
      let l : i < length xs = omega (arith, c.loop-i-test.true) in
      let m : i < length ys = omega (arith, c.loop-i-test.true, c.if-xs-ys.false) in
      let alike : c.name.result.now ≡ c.name-in-loop-i.result.now =
      c.name.ensures.value ∙ names-alike c.args.a.now.names c.args.b.now.names xs ys i 0 0 l m same ∙ sym c.name-in-loop-i.ensures.value in
      let equal : pointwise nat_eq c.name.result.now c.name-in-loop-i.result.now ≡ true =
      subst (λ n. pointwise nat_eq c.name.result.now n ≡ true) alike (leaves-itself c.name.result.now) in
      absurd (true≢false (sym c.if-ne.true ∙ c.ne.ensures ∙ ap not equal)),
)

pub loop-i-preserved : goal.loop-i-preserved
loop-i-preserved c =
    let i = c.loop-i.i in
    let xs = c.args.xs.now in
    let ys = c.args.ys.now in
    let l : i < length xs = omega (arith, c.loop-i-test.true) in
    let m : i < length ys = omega (arith, c.loop-i-test.true, c.if-xs-ys.false) in
    let equal : pointwise nat_eq c.name.result.now c.name-in-loop-i.result.now ≡ true = not-false (pointwise nat_eq c.name.result.now c.name-in-loop-i.result.now) (sym c.ne.ensures ∙ c.if-ne.false) in
    let alike : c.name.result.now ≡ c.name-in-loop-i.result.now = leaves-same c.name.result.now c.name-in-loop-i.result.now equal in
    names-more c.args.a.now.names c.args.b.now.names xs ys i 0 0 l m (sym c.name.ensures.value ∙ alike ∙ c.name-in-loop-i.ensures.value) c.loop-i.invariant
