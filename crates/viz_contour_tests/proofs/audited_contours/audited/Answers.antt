use Rattle.std.proofs.Common.{◌≡◌, ◌+◌, sym, subst, ap, ◌∙◌}
use Rattle.viz_surface_law.specs.Audit.{count_sides, count_two, count_lone, count_border}
use Rattle.viz_surface_law.specs.Contours.{triangles_of}
use Rattle.viz_surface_law.specs.Surfaces.{IsSurface, by_edges}
use Rattle.viz_contour_tests.proofs.audited_contours.audited.Goals as goal

pub audit-requires : goal.audit-requires
audit-requires c =
    let image = c.args.image.now in
    record {
      surface =
          subst (λ b. IsSurface b c.in_ok-sheet.sheet) (sym c.extent-whole.ensures.value)
          (subst (IsSurface image.extent) (sym c.in_ok-sheet.ensures.value) (c.contours_are_closed.ensures.surface c.args.level.now image c.extent-whole.ensures.valid));
    }

pub returns-clause-lone : goal.returns-clause-lone
returns-clause-lone c =
    let e : by_edges c.in_ok-sheet.sheet.cells ≡ triangles_of c.args.level.now c.args.image.now = ap (λ s. by_edges s.cells) c.in_ok-sheet.ensures.value in
    let w = c.extent-whole.ensures.value in
    c.in_ok-counts.ensures.lone
    ∙ ap count_lone e
    ∙ c.contours_are_closed.ensures.lone c.args.level.now c.args.image.now c.extent-whole.ensures.valid
    ∙ sym (λ t. count_border (w t) (e t))
    ∙ sym c.in_ok-counts.ensures.border

pub returns-clause-sides : goal.returns-clause-sides
returns-clause-sides c =
    let e : by_edges c.in_ok-sheet.sheet.cells ≡ triangles_of c.args.level.now c.args.image.now = ap (λ s. by_edges s.cells) c.in_ok-sheet.ensures.value in
    let w = c.extent-whole.ensures.value in
    let two = c.in_ok-counts.ensures.two in
    let border = c.in_ok-counts.ensures.border in
    c.in_ok-counts.ensures.sides
    ∙ ap count_sides e
    ∙ c.contours_are_closed.ensures.sides c.args.level.now c.args.image.now c.extent-whole.ensures.valid
    ∙ sym (λ t. count_two (e t) + count_border (w t) (e t))
    ∙ sym (λ t. two t + border t)
