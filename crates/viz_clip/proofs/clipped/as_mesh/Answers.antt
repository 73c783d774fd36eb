use Rattle.std.proofs.Common.{◌≡◌, ◌++◌, ◌∷◌, [], ◌∙◌, ap, ap₂, sym, ◌+◌, arith}
use Rattle.viz_sheet.specs.Arrays.{points_in}
use Rattle.viz_sheet.specs.Ranked.{by_names}
use Rattle.viz_clip_meaning.specs.Clip.{sheet_of}
use Rattle.viz_clip.proofs.MeshLemmas.{as-sheet}
use Rattle.viz_clip.proofs.clipped.as_mesh.Goals as goal

pub returns : goal.returns
returns c =
    let inner = c.clipped.inside in
    let t = c.new.result in
    let same : t ≡ sheet_of c.args.clipped =
    as-sheet c.args.clipped inner.corners.items inner.cuts.items (points_in inner.places) inner.tets.items t (c.len.result + c.len-2.result)
    (sym c.clipped.view_is) c.clipped.invariant (omega (arith, c.len.ensures, c.len-2.ensures, inner.corners.ok.0, inner.cuts.ok.0))
    (c.new.ensures.names ∙ c.in_ok-leaves.ensures.value) c.new.ensures.points (c.new.ensures.cells ∙ ap (λ l. by_names l inner.tets.items) c.in_ok-leaves.ensures.value) in
    record { value = c.new-2.ensures.value ∙ c.in_ok-push.ensures.items ∙ ap₂ (λ l s. l ++ s ∷ []) c.in_ok-sheets.ensures.items same }
