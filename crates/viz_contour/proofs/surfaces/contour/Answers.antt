use Rattle.std.proofs.Common.{length, ap, sym, ◌∙◌, rules}
use Rattle.viz_sheet.specs.Arrays.{points_in}
use Rattle.viz_sheet.proofs.UsedLemmas.{seen_is}
use Rattle.viz_grid_section.specs.ImageSection.{insides, contour_cells, contour_edges}
use Rattle.viz_grid_section.proofs.MembersLemmas.{length-map_of}
use Rattle.viz_contour.specs.Steps.Named.{named_point}
use Rattle.viz_contour.proofs.NamedLemmas.{cut_names, narrow_names, narrow_edges, points_of_edges}
use Rattle.viz_contour.proofs.SheetLemmas.{are_ranks_of, cells_of}
use Rattle.viz_contour.proofs.ApartLemmas.{are_triangles}
use Rattle.viz_contour.proofs.surfaces.contour.Goals as goal

pub places-requires : goal.places-requires
places-requires c =
    let level = c.args.level.now in
    let image = c.args.image.now in
    record { cut = cut_names level image c.deref.result.now (contour_edges level image) (c.deref.ensures.value ∙ c.in_ok-names.ensures.names) (c.contours_are_sections.ensures.cut level image) }

pub returns-in_err-places-clause-too_wide : goal.returns-in_err-places-clause-too_wide
returns-in_err-places-clause-too_wide c wide narrow =
    let level = c.args.level.now in
    let image = c.args.image.now in
    c.in_err-places.ensures.too_wide (search rules)
    (narrow_names level image c.deref.result.now (contour_edges level image) (c.deref.ensures.value ∙ c.in_ok-names.ensures.names)
    ((c.contours_are_sections.ensures.narrow level image c.in_ok-names.ensures.fits c.extent-extent.ensures.valid).0 narrow))

pub new-requires : goal.new-requires
new-requires c =
    let level = c.args.level.now in
    let image = c.args.image.now in
    let is_names = c.in_ok-names.ensures.names in
    let is_deref = c.deref.ensures.value in
    let matched = ap length c.in_ok-places.ensures.value ∙ length-map_of (named_point level image) c.deref.result.now ∙ ap length is_deref in
    record {
      ranks = are_ranks_of (contour_cells level image) _ _ (points_in c.in_ok-places.places) is_names c.in_ok-names.ensures.ranks
          (are_triangles image.extent (insides level image.values.items)) c.in_ok-names.ensures.few matched;
    }

pub returns-clause-value : goal.returns-clause-value
returns-clause-value c =
    let level = c.args.level.now in
    let image = c.args.image.now in
    let is_names = c.in_ok-names.ensures.names in
    let points = points_of_edges level image c.deref.result.now (contour_edges level image) (c.deref.ensures.value ∙ is_names) _ c.in_ok-places.ensures.value in
    seen_is c.new.result _ _ _ (c.new.ensures.names ∙ is_names) (c.new.ensures.points ∙ points)
    (c.new.ensures.cells ∙ cells_of (contour_cells level image) _ _ is_names c.in_ok-names.ensures.ranks)
    ∙ sym (c.contours_are_sections.ensures.section level image c.extent-extent.ensures.valid)

pub returns-clause-narrow : goal.returns-clause-narrow
returns-clause-narrow c =
    let level = c.args.level.now in
    let image = c.args.image.now in
    (c.contours_are_sections.ensures.narrow level image c.in_ok-names.ensures.fits c.extent-extent.ensures.valid).1
    (narrow_edges level image c.deref.result.now (contour_edges level image) (c.deref.ensures.value ∙ c.in_ok-names.ensures.names) c.in_ok-places.ensures.ok)
