use Rattle.std.proofs.Common.{◌≡◌, ◌∙◌, List, ℕ, ap, length, subst}
use Rattle.std.proofs.lemmas.Result.{IfOk-weaker}
use Rattle.viz_mesh_meaning.specs.Facets.{boundary_of}
use Rattle.viz_sheet.specs.Sheet.{IsSheet, SheetData}
use Rattle.viz_mesh_parts.specs.Steps.{IsNear}
use Rattle.viz_mesh_parts.proofs.MadeLemmas.{boundary-near, boundary-own, facet-count}
use Rattle.viz_mesh_parts.proofs.bounding.bounded_part.Goals as goal

pub returns-then-are_own : goal.returns-then-are_own
returns-then-are_own c =
    let part = c.args.part.now in
    let is : c.in_ok-made.made ≡ boundary_of part.sheet = c.in_ok-made.ensures ∙ ap boundary_of c.sheet-sheet.ensures.value in
    boundary-own c.args.ghosts part c.own.result c.in_ok-made.made (c.are_own.ensures c.if-are_own.true) is c.own.ensures.sheet c.own.ensures.levels

pub near_part-requires : goal.near_part-requires
near_part-requires c =
    let part = c.args.part.now in
    let valid : IsSheet part.sheet = subst IsSheet c.sheet-sheet.ensures.value c.known-2.ensures.valid in
    let is : c.in_ok-made.made ≡ boundary_of part.sheet = c.in_ok-made.ensures ∙ ap boundary_of c.sheet-sheet.ensures.value in
    record {
      matched =
          ap length c.deref.ensures.value
          ∙ facet-count part valid c.in_ok-levels.levels.items c.in_ok-made.made.cells c.known.ensures.valid.matched (ap (λ (t : SheetData). t.cells) is) c.in_ok-levels.ensures;
    }

pub returns : goal.returns
returns c =
    let part = c.args.part.now in
    let valid : IsSheet part.sheet = subst IsSheet c.sheet-sheet.ensures.value c.known-2.ensures.valid in
    let is : c.in_ok-made.made ≡ boundary_of part.sheet = c.in_ok-made.ensures ∙ ap boundary_of c.sheet-sheet.ensures.value in
    IfOk-weaker c.near_part.result _ _
    (λ p n. boundary-near c.args.ghosts part p c.in_ok-made.made c.in_ok-levels.levels.items valid c.known.ensures.valid.matched is c.in_ok-levels.ensures
    (subst (λ (ls : List ℕ). IsNear c.args.ghosts c.in_ok-made.made ls p) c.deref.ensures.value n))
    c.near_part.ensures
