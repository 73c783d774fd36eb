-- What filters of meshes give fits.
use Rattle.std.proofs.Common.{◌≡◌, ◌≤◌, ℤ, Bool, List, length, get_or, sym, subst, arith}
use Rattle.std.specs.List.{All, filter, flat_map}
use Rattle.std.proofs.lemmas.List.Elements.{All-contains, All-filter}
use Rattle.viz_sheet.specs.Sheet.{SheetData, IsFit, IsSheet, most_names}
use Rattle.viz_meaning.proofs.LeafCells.{leaf-names}
use Rattle.viz_meaning.proofs.SectionLemmas.{all-cells}
use Rattle.viz_mesh_meaning.specs.Cells.{Cell}
use Rattle.viz_mesh_meaning.specs.Facets.{boundary_of, is_same_name, lone_facets}
use Rattle.viz_mesh_meaning.specs.Merge.{all_points, cells_by_leaves, firsts, has_no_repeat, merged}
use Rattle.viz_mesh_meaning.specs.Select.{is_selected, selected}
use Rattle.viz_mesh_meaning.proofs.CellLemmas.{of-names}
use Rattle.viz_mesh_meaning.proofs.FacetLemmas.{lone-facets_of}

-- a cell fits
abbrev FitsCell : Cell → Type 0
FitsCell cell = All (λ n. length cell ≤ most_names (length n)) cell

pub selection-fits : (all : Bool) (lo hi : ℤ) (s : SheetData) → IsFit s → IsFit (selected all lo hi s)
selection-fits all lo hi s fit = record { each = All-filter (is_selected all lo hi s) FitsCell s.cells fit.each }

pub boundary-fits : (s : SheetData) → IsSheet s → IsFit s → IsFit (boundary_of s)
boundary-fits s h fit = record {
  each =
      all-cells FitsCell (lone_facets is_same_name s.cells) s.cells (λ k d l j e jl.
      let cell = get_or s.cells k d in
      let facet = get_or (lone_facets is_same_name s.cells cell) j e in
      let of = lone-facets_of s.cells cell (h.each k d l) j e jl in
      λ i n il.
      let room : length cell ≤ most_names (length (get_or facet i n)) = All-contains (λ m. length cell ≤ most_names (length m)) cell (get_or facet i n) (fit.each k d l) (of.names i n il) in
      let fewer = of.fewer in
      omega (arith, room, fewer));
}

pub merge-fits : (sheets : List SheetData) → IsSheet (merged sheets) → IsFit (merged sheets)
merge-fits sheets h =
    let groups = firsts (all_points sheets) in
    let s : SheetData = merged sheets in
    let one = (leaf-names (length groups) groups (filter has_no_repeat (flat_map (cells_by_leaves groups) sheets))).sized in
    record {
      each = λ k d l i n il.
          let cell = get_or s.cells k d in
          let leaf : length (get_or cell i n) ≡ 1 = All-contains (λ m. length m ≡ 1) s.names (get_or cell i n) one (of-names s h k d l i n il) in
          subst (λ m. length cell ≤ most_names m) (sym leaf) (h.each k d l).most;
    }
