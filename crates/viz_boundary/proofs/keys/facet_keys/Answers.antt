use Rattle.std.proofs.Common.{◌≡◌, ◌+◌, ◌<◌, ◌≤◌, ℕ, List, [], arith, length, subst, sym, take}
use Rattle.std.specs.List.{flat_map}
use Rattle.std.specs.List.Sorted.{IsPermutation}
use Rattle.std.proofs.lemmas.List.{take_all}
use Rattle.std.proofs.lemmas.List.Elements.{All-get_or}
use Rattle.std.proofs.lemmas.List.Sorted.{IsPermutation-trans}
use Rattle.viz_sheet.specs.Arrays.{ranks_in}
use Rattle.viz_mesh_meaning.specs.Facets.{facets_of}
use Rattle.viz_boundary.specs.Steps.Keys.{keyed_from}
use Rattle.viz_boundary.specs.Steps.Slots.{held}
use Rattle.viz_boundary.proofs.LoopLemmas.{facets-most}
use Rattle.viz_boundary.proofs.SlotLemmas.{AreHeldUpTo, held-more}
use Rattle.viz_boundary.proofs.keys.facet_keys.Goals as goal

pub loop-i-preserved : goal.loop-i-preserved
loop-i-preserved c =
    let cells = ranks_in c.args.ranks.now in
    let i = c.loop-i.i in
    let cell = c.get-cell.result.now in
    let below : i < length cells = omega (arith, c.loop-i-test.true, c.len-i-end.ensures.value, c.loop-i.auto.i-end) in
    let most : length cell ≤ 4 = subst (λ (x : List ℕ). length x ≤ 4) (sym c.get-cell.ensures.value) (All-get_or (λ x. length x ≤ 4) cells i [] below c.requires.most) in
    let up : AreHeldUpTo cells (i + 1) (c.loop-i.at + length (facets_of cell)) (held c.put_cell.new.slots) =
    held-more cells i c.loop-i.at cell (held c.loop-i.slots) (held c.put_cell.new.slots) below c.get-cell.ensures.value most c.loop-i.invariant.place c.loop-i.invariant.few c.loop-i.invariant.held c.in_ok-put_cell.ensures.value in
    record {
      place = omega (arith, c.facet_count-at.ensures, up.place);
      few = omega (arith, c.facet_count-at.ensures, up.few);
      held = up.held;
    }

pub overflow_add-at : goal.overflow_add-at
overflow_add-at c =
    let cells = ranks_in c.args.ranks.now in
    let i = c.loop-i.i in
    let cell = c.get-cell.result.now in
    let below : i < length cells = omega (arith, c.loop-i-test.true, c.len-i-end.ensures.value, c.loop-i.auto.i-end) in
    let most : length cell ≤ 4 = subst (λ (x : List ℕ). length x ≤ 4) (sym c.get-cell.ensures.value) (All-get_or (λ x. length x ≤ 4) cells i [] below c.requires.most) in
    omega (arith, c.facet_count-at.ensures, facets-most cell most, c.loop-i.invariant.few, c.requires.few)

pub returns : goal.returns
returns c =
    let cells = ranks_in c.args.ranks.now in
    let all : take c.loop-i.i cells ≡ cells = take_all c.loop-i.i cells (omega (arith, c.loop-i-test.false, c.len-i-end.ensures.value)) in
    record {
      value =
          IsPermutation-trans (keyed_from 0 (flat_map facets_of cells)) (held c.loop-i.slots) c.in_ok-keys.keys.items
          (subst (λ (cs : List (List ℕ)). IsPermutation (keyed_from 0 (flat_map facets_of cs)) (held c.loop-i.slots)) all c.loop-i.invariant.held)
          c.in_ok-keys.ensures;
    }
