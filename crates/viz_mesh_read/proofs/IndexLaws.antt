-- The indices that rules let through are those of points.
use Rattle.std.proofs.Common.{ℕ, zero, suc, Bool, List, [], sym, subst, inl, inr}
use Rattle.std.proofs.lemmas.List.Elements.{All-nil}
use Rattle.viz_lex.specs.Reading.{Reading}
use Rattle.viz_counted_cells.specs.Sections.{HasIndices, HaveIndices}
use Rattle.viz_mesh_read.proofs.SectionLaws.{cell_section-below}
use Rattle.viz_mesh_read.specs.Grid.{Grid, grid}
use Rattle.viz_mesh_read.specs.declared.poly.SectionKind.{SectionKind}
use Rattle.viz_mesh_read.specs.declared.poly.SectionKind.TheVariants.{Vertices, Lines, Polygons, Strips}
use Rattle.viz_mesh_read.specs.declared.poly.Seen.{Seen}
use Rattle.viz_mesh_read.specs.Poly.{ByKind, for_each, with_kind, kind_named, none_seen, seen_with, sections, Poly, polydata, HaveIndicesByKind}

pub grid-below : (binary later : Bool) (old new : Reading) (g : Grid) → (grid binary later).is old new g → HaveIndices g.points.count g.cells
grid-below binary later old new g h =
    let behind = h.3.3.3.3 in
    subst (λ (k : Grid). HaveIndices k.points.count k.cells) (sym behind.3.3.3.1) (cell_section-below later binary h.3.0.count h.3.3.3.1 behind.1 behind.0 behind.2)

-- ---- polydata

with_kind-below : (points : ℕ) (all : ByKind (List (List ℕ))) (kind : SectionKind) (cells : List (List ℕ)) → HaveIndicesByKind points all → HaveIndices points cells → HaveIndicesByKind points (with_kind all kind cells)
with_kind-below points all Vertices cells h c = record { vertices = c; lines = h.lines; polygons = h.polygons; strips = h.strips }
with_kind-below points all Lines cells h c = record { vertices = h.vertices; lines = c; polygons = h.polygons; strips = h.strips }
with_kind-below points all Polygons cells h c = record { vertices = h.vertices; lines = h.lines; polygons = c; strips = h.strips }
with_kind-below points all Strips cells h c = record { vertices = h.vertices; lines = h.lines; polygons = h.polygons; strips = c }

sections-below : (binary later : Bool) (points n : ℕ) (seen : Seen) (all : ByKind (List (List ℕ))) (old new : Reading) (found : ByKind (List (List ℕ))) → HaveIndicesByKind points all → (sections binary later points n seen all).is old new found → HaveIndicesByKind points found
sections-below binary later points zero seen all old new found so_far h = subst (HaveIndicesByKind points) (sym h.1) so_far
sections-below binary later points (suc n) seen all old new found so_far h =
    elim h.3 [
      | inl due ↦ (
          let key = due.1.0 in
          let behind = due.1.3 in
          sections-below binary later points n (seen_with seen (kind_named key.1)) (with_kind all (kind_named key.1) behind.0) behind.1 new found (with_kind-below points all (kind_named key.1) behind.0 so_far (cell_section-below later binary points due.1.1 behind.1 behind.0 behind.2)) behind.3)
      | inr done ↦ subst (HaveIndicesByKind points) (sym done.1.1) so_far
    ]

none-below : (points : ℕ) → HaveIndicesByKind points (for_each [])
none-below points =
    let none = All-nil (HasIndices points) in
    record { vertices = none; lines = none; polygons = none; strips = none }

pub polydata-below : (binary later : Bool) (old new : Reading) (p : Poly) → (polydata binary later).is old new p → HaveIndicesByKind p.points.count p.cells
polydata-below binary later old new p h =
    let cells = h.3.3 in
    subst (λ (k : Poly). HaveIndicesByKind k.points.count k.cells) (sym cells.3.1) (sections-below binary later h.3.0.count 4 none_seen (for_each []) h.3.1 cells.1 cells.0 (none-below h.3.0.count) cells.2)
