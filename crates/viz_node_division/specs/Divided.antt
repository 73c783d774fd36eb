-- How what a node gives is shared out in pieces, kind by kind (VTK User's Guide, "Streaming").
use Rattle.std.specs.Prelude.{◌≡◌, ℕ, List, [], ◌∷◌, ◌++◌, map, Option, None, Some, Ok, Err}
use Rattle.std.specs.Option.{option_map}
use Rattle.viz_dataset.specs.declared.dataset.Dataset.{Dataset}
use Rattle.viz_dataset.specs.declared.dataset.Dataset.TheVariants.{Image, Mesh}
use Rattle.viz_kinds.specs.declared.settings.Settings.{Settings}
use Rattle.viz_kinds.specs.declared.settings.Settings.TheVariants as settings
use Rattle.viz_meaning.specs.Tetrahedra.{sheets_of}
use Rattle.viz_network.specs.Cone.{Tree}
use Rattle.viz_node_meaning.specs.Data.{contour_forms, cut_forms}
use Rattle.viz_node_meaning.specs.Fold.{IsGiven}
use Rattle.viz_node_meaning.specs.Information.{fed_at}
use Rattle.viz_node_meaning.specs.Rules.{Inputs, NodeRule}
use Rattle.viz_parts.specs.Pieces.{Division, in_turn}
use Rattle.viz_piece_divisions.specs.Divisions.{
  Owns,
  appended_division,
  boundary_owns,
  handed_division,
  section_owns,
  selected_owns,
}
use Rattle.viz_piece_tets.specs.Tets.{by_layers}
use Rattle.viz_sheet.specs.Sheet.{SheetData}
use Rattle.viz_node_division.specs.Exact.{IsExact}

-- a dataset, and how it is shared out
pub record Divided : Type 0 where
  pub whole : Dataset
  pub division : Division

-- the datasets at the ports
abbrev pub wholes : Inputs Divided → Inputs Dataset
wholes inputs = map (option_map (λ d. d.whole)) inputs

-- ---- divisions

-- by cells in turn; an image, whose parts are blocks, has no sheets
abbrev pub turn_of : Dataset → Division
turn_of (Image image) = in_turn []
turn_of (Mesh sheets) = in_turn sheets

-- that of the sheets that a dataset is taken through: an image's tetrahedra go by layers of cubes
abbrev pub sheets_division : Dataset → Division → Division
sheets_division (Image image) division = by_layers image.extent
sheets_division (Mesh sheets) division = division

-- the same at a port
abbrev pub sheets_at : Option Divided → Division
sheets_at None = in_turn []
sheets_at (Some d) = sheets_division d.whole d.division

-- what is handed on of it to what is made of these sheets
abbrev pub handed_at : (List SheetData → Owns → Owns) → Option Divided → Division
handed_at hand None = in_turn []
handed_at hand (Some d) = handed_division hand (sheets_of d.whole) (sheets_at (Some d))

-- that of the dataset at a port
abbrev pub division_at : Option Divided → Division
division_at None = in_turn []
division_at (Some d) = d.division

-- that of a mesh, as the one of a list, and none of an image
abbrev pub mesh_division : Dataset → Division → List Division
mesh_division (Image image) division = []
mesh_division (Mesh sheets) division = division ∷ []

-- those of the meshes at the ports, ports ascending
abbrev pub divisions_in : Inputs Divided → List Division
divisions_in [] = []
divisions_in (None ∷ inputs) = divisions_in inputs
divisions_in (Some d ∷ inputs) = mesh_division d.whole d.division ++ divisions_in inputs

-- ---- all kinds

-- how what a node makes is shared out, from how the datasets at its ports are
abbrev pub division_of : Settings → Inputs Divided → Dataset → Division
division_of (settings.File array unit) inputs made = turn_of made
division_of (settings.Crop x0 x1 y0 y1 z0 z1) inputs made = turn_of made
division_of (settings.Sample x y z) inputs made = turn_of made
division_of (settings.Threshold lo hi) inputs made = turn_of made
division_of (settings.Smooth radius) inputs made = turn_of made
division_of (settings.Arith op) inputs made = turn_of made
division_of settings.Tets inputs made = sheets_at (fed_at 1 inputs)
division_of (settings.Select lo hi all) inputs made =
    handed_at (selected_owns all lo hi) (fed_at 1 inputs)
division_of (settings.Contour count levels) inputs made =
    handed_at (section_owns (contour_forms count levels)) (fed_at 1 inputs)
division_of (settings.Cut a b c r) inputs made =
    handed_at (section_owns (cut_forms a b c r)) (fed_at 1 inputs)
division_of settings.Append inputs made = appended_division (divisions_in inputs)
division_of settings.Boundary inputs made = handed_at boundary_owns (fed_at 1 inputs)
division_of settings.Merge inputs made = turn_of made
division_of (settings.Writer binary digits version) inputs made = division_at (fed_at 1 inputs)

-- ---- nodes

-- what a node with these parameters and this file makes of what is at its ports, in whole numbers
-- without bound
pub record IsMadeOf (s : Settings) (file : Option (List ℕ)) (inputs : Inputs Divided)
    (made : Divided) : Type 0 where
  pub exact : IsExact s file (wholes inputs) (Ok made.whole)
  pub divided : made.division ≡ division_of s inputs made.whole

-- the rule of a node for datasets with their divisions: the exact one of datasets, and the division
abbrev pub DividedRule : NodeRule Divided
DividedRule n inputs (Ok made) = IsMadeOf n.settings n.file inputs made
DividedRule n inputs (Err cause) = IsExact n.settings n.file (wholes inputs) (Err cause)

-- what the node at the foot of a cone gives in whole numbers without bound, and how it is shared
-- out
pub record IsDivided (cone : Option Tree) (whole : Dataset) (division : Division) : Type 0 where
  pub given : IsGiven DividedRule cone (Ok (record { whole = whole; division = division }))
