use Rattle.std.proofs.Common.{◌≡◌, ◌+◌, ◌*◌, ◌<◌, ℕ, suc, List, [], length, map, get_or, set, ap, sym, subst, ◌∙◌, arith}
use Rattle.std.specs.List.{All}
use Rattle.viz_flags.specs.Flags.{flags as bits_of}
use Rattle.viz_sheet.specs.Kept.{kept_rank}
use Rattle.viz_flags.proofs.ChangedLemmas.{changed, changed_none, changed_at, changed_within, changed_more, changed_all}
use Rattle.viz_flags.proofs.ranks.rank_all.Goals as goal

ranks : List ℕ → List ℕ → List ℕ
ranks masks cell = map (kept_rank (bits_of masks)) cell

pub loop-i-init : goal.loop-i-init
loop-i-init c = changed_none (λ cell. map (kept_rank (bits_of c.args.flags.now)) cell) c.args.triangles.now

pub three_short-ranks-requires-clause-within : goal.three_short-ranks-requires-clause-within
three_short-ranks-requires-clause-within c =
    let P : List ℕ → Type 0 = λ cell. All (λ n. n < 8 * length c.args.flags.now) cell in
    let f : List ℕ → List ℕ = λ cell. map (kept_rank (bits_of c.args.flags.now)) cell in
    subst (λ (ts : List (List ℕ)). P (get_or ts c.loop-i.i [])) (sym c.loop-i.invariant)
    (changed_within P f c.args.triangles.now c.loop-i.i c.loop-i-test.true c.requires.within)

pub loop-i-preserved : goal.loop-i-preserved
loop-i-preserved c =
    let f : List ℕ → List ℕ = λ cell. map (kept_rank (bits_of c.args.flags.now)) cell in
    let old = c.args.triangles.now in
    let i = c.loop-i.i in
    let item : get_or c.loop-i.triangles i [] ≡ get_or old i [] = ap (λ ts. get_or ts i []) c.loop-i.invariant ∙ changed_at f old i [] in
    ap (λ y. set c.loop-i.triangles i y) (c.three_short-ranks.ensures ∙ ap f item)
    ∙ ap (λ ts. set ts i (f (get_or old i []))) c.loop-i.invariant
    ∙ changed_more f old i [] c.loop-i-test.true
    ∙ ap (changed f old) {x = suc i} {y = i + 1} (omega arith)

pub returns : goal.returns
returns c =
    let f : List ℕ → List ℕ = λ cell. map (kept_rank (bits_of c.args.flags.now)) cell in
    c.loop-i.invariant ∙ changed_all f c.args.triangles.now c.loop-i.i (omega arith)
