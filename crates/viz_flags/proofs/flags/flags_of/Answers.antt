use Rattle.std.proofs.Common.{◌≡◌, ℕ, ◌++◌, ◌*◌, Bool, false, List, length, map, take, drop, replicate, subst, arith, rules, ◌∙◌, ap, sym}
use Rattle.std.proofs.lemmas.Grind.{common_steps}
use Rattle.std.proofs.lemmas.List.Folds.{flat_map-map}
use Rattle.std.specs.List.{flat_map}
use Rattle.viz_sheet.specs.Kept.{AreMarks}
use Rattle.viz_flags.specs.Flags.{flags as bits_of}
use Rattle.viz_sheet.specs.Steps.Marking.{IsMarkedBy}
use Rattle.viz_sheet.proofs.MarkingLemmas.{just_marked}
use Rattle.viz_flags.proofs.ByteLemmas.{flags-length}
use Rattle.viz_flags.proofs.BitLemmas.{none_set}
use Rattle.viz_flags.proofs.flags.flags_of.Goals as goal

pub returns-clause-marks : goal.returns-clause-marks
returns-clause-marks g c =
    let count = c.args.count in
    let list = g.T.Ends.list in
    let cells = map list c.args.triangles.now in
    let new = c.set_all.new.flags in
    let items = c.in_ok-flags.flags.items in
    let first : items ≡ replicate count 0 = search rules in
    let start : bits_of c.deref_mut.result.now ≡ replicate (8 * count) false = ap bits_of (c.deref_mut.ensures.value ∙ first) ∙ none_set count in
    let ends : flat_map list c.args.triangles.now ≡ flat_map (λ (cell : List ℕ). cell) cells = sym (flat_map-map (λ (cell : List ℕ). cell) list c.args.triangles.now) in
    let marked : IsMarkedBy (replicate (8 * count) false) (flat_map list c.args.triangles.now) (bits_of new) = subst (λ (old : List Bool). IsMarkedBy old (flat_map list c.args.triangles.now) (bits_of new)) start c.set_all.ensures.bits in
    let by_cells : IsMarkedBy (replicate (8 * count) false) (flat_map (λ (cell : List ℕ). cell) cells) (bits_of new) = subst (λ (ns : List ℕ). IsMarkedBy (replicate (8 * count) false) ns (bits_of new)) ends marked in
    let same : take c.in_ok-flags.flags.len (new ++ drop (length new) items) ≡ new = grind (arith, common_steps) in
    let size : length new ≡ count = grind (arith, common_steps) in
    subst (λ (ms : List ℕ). AreMarks (8 * count) cells (bits_of ms)) (sym same)
    (just_marked (8 * count) cells (bits_of new) (flags-length new ∙ ap (λ n. 8 * n) size) by_cells)
