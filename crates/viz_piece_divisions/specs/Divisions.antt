-- How what a filter makes of a mesh is shared out: the own cells of a piece are those that come
-- from own cells (VTK User's Guide, "Streaming").
use Rattle.std.specs.Prelude.{ℤ, Bool, List, [], ◌∷◌, map}
use Rattle.std.specs.List.{flat_map}
use Rattle.viz_fraction.specs.declared.forms.Form.{Form}
use Rattle.viz_parts.specs.Parts.{PartSheetData}
use Rattle.viz_parts.specs.Pieces.{Division}
use Rattle.viz_sheet.specs.Sheet.{SheetData}
use Rattle.viz_piece_filters.specs.Filters.{handed_boundary, handed_section, kept_selected}
use Rattle.viz_piece_filters.specs.Filters.{section_part}

-- the own positions of a piece in each sheet of a mesh
abbrev pub Owns : Type 0
Owns = List (List Bool)

-- what is handed on to the sheets made of sheets: to each from the own positions in its sheet
abbrev pub handed_each : (SheetData → List Bool → List Bool) → List SheetData → Owns → Owns
handed_each hand [] owns = []
handed_each hand (s ∷ sheets) [] = []
handed_each hand (s ∷ sheets) (own ∷ owns) = hand s own ∷ handed_each hand sheets owns

-- own positions in the selections of sheets
abbrev pub selected_owns : Bool → ℤ → ℤ → List SheetData → Owns → Owns
selected_owns all lo hi sheets owns = handed_each (kept_selected all lo hi) sheets owns

-- own positions in the sections of sheets by forms
abbrev pub section_owns : List Form → List SheetData → Owns → Owns
section_owns forms sheets owns = flat_map (λ f. handed_each (handed_section f) sheets owns) forms

-- own positions in the boundaries of sheets
abbrev pub boundary_owns : List SheetData → Owns → Owns
boundary_owns sheets owns = handed_each handed_boundary sheets owns

-- own positions in joined meshes, from those in each of them
abbrev pub appended_owns : List Owns → Owns
appended_owns owns = flat_map (λ o. o) owns

-- how what a filter makes of sheets is shared out, from how these are
abbrev pub handed_division : (List SheetData → Owns → Owns) → List SheetData → Division → Division
handed_division hand sheets division p n = hand sheets (division p n)

-- how joined meshes are shared out, from how each of them is
abbrev pub appended_division : List Division → Division
appended_division divisions p n = appended_owns (map (λ division. division p n) divisions)

-- the sections of parts by forms: of each form a part for each
abbrev pub section_parts : List Form → List PartSheetData → List PartSheetData
section_parts forms parts = flat_map (λ f. map (section_part f) parts) forms
