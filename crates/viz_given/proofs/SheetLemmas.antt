-- What filters make of sheets by names of one level that fit is so too.
use Rattle.std.proofs.Common.{◌≡◌, ℕ, ℤ, ◌+◌, Bool, List, [], ◌∷◌, length, get_or, map, sym, subst}
use Rattle.std.specs.List.{All, filter, flat_map}
use Rattle.std.proofs.lemmas.List.Elements.{All-cons, All-from_get_or, All-map, All-nil, All-weaker}
use Rattle.std.proofs.lemmas.List.FromFn.{length-map-range_with_len}
use Rattle.viz_dataset.specs.Images.{ImageData}
use Rattle.viz_dataset.specs.declared.dataset.Dataset.{Dataset}
use Rattle.viz_extent.specs.Extent.{count_of}
use Rattle.viz_fraction.specs.Points.{Point}
use Rattle.viz_fraction.specs.declared.forms.Form.{Form}
use Rattle.viz_kuhn.specs.Cubes.{tetrahedra_of}
use Rattle.viz_kuhn.specs.Kuhn.{EdgesAreSteps, OnlyCorners}
use Rattle.viz_meaning.specs.Section.{section_of, sections_of, zero_point}
use Rattle.viz_meaning.specs.SectionLaws.{SectionFits, SectionHasNextNames, SectionIsSheet}
use Rattle.viz_meaning.specs.Tetrahedra.{leaf_points, point_of_leaf, sheets_of, tetrahedra_sheet}
use Rattle.viz_meaning.proofs.LeafCells.{leaf-fits, leaf-names, leaves-sheet}
use Rattle.viz_meaning.proofs.SectionLemmas.{all-cells}
use Rattle.viz_meaning.proofs.TetrahedraLemmas.{tetrahedra-cells}
use Rattle.viz_mesh_meaning.specs.Facets.{boundaries, boundary_of}
use Rattle.viz_mesh_meaning.specs.FitLaws.{BoundaryFits, MergeFits, SelectionFits}
use Rattle.viz_mesh_meaning.specs.Laws.{
  BoundaryIsSheet,
  IsMadeOf,
  MergeIsSheet,
  SelectionIsSheet,
}
use Rattle.viz_mesh_meaning.specs.Merge.{all_points, cells_by_leaves, firsts, has_no_repeat, merged}
use Rattle.viz_mesh_meaning.specs.Select.{selected, selections}
use Rattle.viz_piece_divisions.specs.Pieces.{HasLevel}
use Rattle.viz_sheet.specs.Kept.{sheet_with}
use Rattle.viz_sheet.specs.Ranked.{IsCell, leaf_names}
use Rattle.viz_sheet.specs.Sheet.{IsFit, IsSheet, SheetData}

-- a sheet by names of one level that fits
pub record IsLeveled (s : SheetData) : Type 0 where
  pub sheet : IsSheet s
  pub level : HasLevel s
  pub fit : IsFit s

-- such are the sheets that a dataset is taken through
abbrev pub AreLeveled : Dataset → Type 0
AreLeveled whole = All IsLeveled (sheets_of whole)

pub one_sheet : (s : SheetData) → IsLeveled s → All IsLeveled (s ∷ [])
one_sheet s h = All-cons IsLeveled s [] h (All-nil IsLeveled)

-- ---- cells between leaves

pub leaf_sheet : (count : ℕ) (points : List Point) (cells : List (List ℕ)) → length points ≡ count
    → All (IsCell count) cells → IsLeveled (sheet_with (leaf_names count) points cells)
leaf_sheet count points cells matched each = record {
  sheet = leaves-sheet count points cells matched each;
  level = record { size = 1; names = leaf-names count points cells };
  fit = leaf-fits count points cells each;
}

-- the tetrahedra of an image, whatever it is
abbrev pub TetrahedraAreLeveled : Type 0
TetrahedraAreLeveled = (image : ImageData) → IsLeveled (tetrahedra_sheet image)

pub tetrahedra : OnlyCorners → EdgesAreSteps → TetrahedraAreLeveled
tetrahedra only edges image =
    let b = image.extent in
    leaf_sheet (count_of b) (leaf_points image) (tetrahedra_of b)
    (length-map-range_with_len (point_of_leaf image) 0 (count_of b))
    (tetrahedra-cells only edges b)

abbrev pub MergesAreLeveled : Type 0
MergesAreLeveled =
    (sheets : List SheetData) → All IsLeveled sheets → All IsLeveled (merged sheets ∷ [])

pub merge : MergeIsSheet → MergeFits → MergesAreLeveled
merge is_sheet fits sheets h =
    let groups = firsts (all_points sheets) in
    let whole = is_sheet sheets (All-weaker IsLeveled IsSheet (λ s is. is.sheet) sheets h) in
    one_sheet (merged sheets)
    (record {
      sheet = whole;
      level = record {
        size = 1;
        names =
            leaf-names (length groups) groups
            (filter has_no_repeat (flat_map (cells_by_leaves groups) sheets));
      };
      fit = fits sheets whole;
    })

-- ---- cells of names of a sheet

-- names among those of a sheet are of its level
kept_level : (s t : SheetData) → IsMadeOf s t → HasLevel s → HasLevel t
kept_level s t made h = record {
  size = h.size;
  names = record {
    sized = All-from_get_or (λ n. length n ≡ h.size) t.names [] (λ k l.
        let at = made.points k zero_point l in
        subst (λ n. length n ≡ h.size) (sym at.2) (h.names.sized at.0 [] at.1));
    ascending = made.sheet.ascending;
  };
}

abbrev pub SelectionsAreLeveled : Type 0
SelectionsAreLeveled =
    (all : Bool) (lo hi : ℤ) (sheets : List SheetData) → All IsLeveled sheets
    → All IsLeveled (selections all lo hi sheets)

pub selection : SelectionIsSheet → SelectionFits → SelectionsAreLeveled
selection is_sheet fits all lo hi sheets h =
    All-map IsLeveled (selected all lo hi) sheets
    (All-weaker IsLeveled (λ s. IsLeveled (selected all lo hi s)) one sheets h)
  where
    one : (s : SheetData) → IsLeveled s → IsLeveled (selected all lo hi s)
    one s is =
        let made = is_sheet all lo hi s is.sheet in
        record {
          sheet = made.sheet;
          level = kept_level s (selected all lo hi s) made is.level;
          fit = fits all lo hi s is.fit;
        }

abbrev pub BoundariesAreLeveled : Type 0
BoundariesAreLeveled =
    (sheets : List SheetData) → All IsLeveled sheets → All IsLeveled (boundaries sheets)

pub boundary : BoundaryIsSheet → BoundaryFits → BoundariesAreLeveled
boundary is_sheet fits sheets h =
    All-map IsLeveled boundary_of sheets
    (All-weaker IsLeveled (λ s. IsLeveled (boundary_of s)) one sheets h)
  where
    one : (s : SheetData) → IsLeveled s → IsLeveled (boundary_of s)
    one s is =
        let made = is_sheet s is.sheet in
        record {
          sheet = made.sheet;
          level = kept_level s (boundary_of s) made is.level;
          fit = fits s is.sheet is.fit;
        }

-- ---- sections

abbrev pub SectionsAreLeveled : Type 0
SectionsAreLeveled =
    (forms : List Form) (sheets : List SheetData) → All IsLeveled sheets
    → All IsLeveled (sections_of forms sheets)

pub section : SectionIsSheet → SectionHasNextNames → SectionFits → SectionsAreLeveled
section is_sheet has_names fits forms sheets h =
    all-cells IsLeveled (λ f. map (section_of f) sheets) forms (λ k d l.
    let f = get_or forms k d in
    All-map IsLeveled (section_of f) sheets
    (All-weaker IsLeveled (λ s. IsLeveled (section_of f s)) (one f) sheets h))
  where
    one : (f : Form) (s : SheetData) → IsLeveled s → IsLeveled (section_of f s)
    one f s is =
        let size = is.level.size in
        let names = is.level.names in
        record {
          sheet = is_sheet f s size is.sheet names;
          level = record { size = size + size; names = has_names f s size is.sheet names };
          fit = fits f s size is.sheet names is.fit;
        }
