use Rattle.std.proofs.Common.{◌≡◌, List, get_or, ap, ◌∙◌}
use Rattle.viz_sheet.specs.Sheet.{SheetData}
use Rattle.viz_reshape.proofs.WorkLemmas.{clip_is}
use Rattle.viz_reshape.proofs.clips.clip_mesh.Goals as goal

pub returns-in-Ok-clause-value : goal.returns-in-Ok-clause-value
returns-in-Ok-clause-value c =
    let s = c.index-sheets-0.result in
    let known = c.requires.one in
    let same : s ≡ known.sheet = c.index-sheets-0.is ∙ ap (λ (l : List SheetData). get_or l 0 s) (c.sheets.ensures.value ∙ known.one) in
    clip_is c.args.form.now c.args.mesh known.sheet s c.in-Ok.clipped c.in_ok-as_mesh-in-Ok.field-0 known.one same c.in-Ok.ensures.tetrahedra c.in-Ok.ensures.narrow c.in-Ok.ensures.value
    c.in_ok-as_mesh-in-Ok.ensures.value
