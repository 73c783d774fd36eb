use Rattle.std.proofs.Common.{◌≤◌, ◌^◌, ℕ, List, arith, length, subst, sym}
use Rattle.std.specs.List.{flat_map}
use Rattle.std.specs.List.Sorted.{IsPermutation}
use Rattle.std.proofs.lemmas.List.Sorted.{IsPermutation-trans, length_permutation}
use Rattle.viz_sheet.specs.Arrays.{ranks_in}
use Rattle.viz_mesh_meaning.specs.Facets.{facets_of}
use Rattle.viz_boundary.specs.Steps.Alone.{AreMarked, HaveIndices, TellAlone}
use Rattle.viz_boundary.specs.Steps.Keys.{keyed_from}
use Rattle.viz_boundary.proofs.KeyedLemmas.{keyed-indexed, length-keyed}
use Rattle.viz_boundary.proofs.LoneLemmas.{sorted-indices, tells-alone}
use Rattle.viz_boundary.proofs.SlotLemmas.{flat-few}
use Rattle.viz_boundary.proofs.lone.lone_marks.Goals as goal

pub mark_lone-requires-clause-indices : goal.mark_lone-requires-clause-indices
mark_lone-requires-clause-indices c =
    let cells = ranks_in c.args.ranks.now in
    let all = flat_map facets_of cells in
    let few : length all ≤ 2 ^ 32 = omega (arith, flat-few cells c.requires.most, c.requires.few) in
    let keys = c.in_ok-sorted.sorted.items in
    let sorted = c.sort_unstable.new.self.items in
    let moved : IsPermutation (keyed_from 0 all) sorted = IsPermutation-trans (keyed_from 0 all) keys sorted c.in_ok-sorted.ensures.value c.sort_unstable.ensures.permutation in
    subst HaveIndices (sym c.deref.ensures.value) (sorted-indices (keyed_from 0 all) sorted (keyed-indexed all few) moved (length_permutation (keyed_from 0 all) sorted moved))

pub returns : goal.returns
returns c =
    let cells = ranks_in c.args.ranks.now in
    let all = flat_map facets_of cells in
    let few : length all ≤ 2 ^ 32 = omega (arith, flat-few cells c.requires.most, c.requires.few) in
    let keys = c.in_ok-sorted.sorted.items in
    let sorted = c.sort_unstable.new.self.items in
    let marks = c.mark_lone.new.marks.items in
    let moved : IsPermutation (keyed_from 0 all) sorted = IsPermutation-trans (keyed_from 0 all) keys sorted c.in_ok-sorted.ensures.value c.sort_unstable.ensures.permutation in
    let told : TellAlone (keyed_from 0 all) marks =
    tells-alone (keyed_from 0 all) sorted marks (keyed-indexed all few) moved (length_permutation (keyed_from 0 all) sorted moved)
    (subst (λ (s : List ℕ). AreMarked s (length s) marks) c.deref.ensures.value c.mark_lone.ensures.value) in
    record { value = told; few = omega (arith, told.size, length-keyed 0 all) }
