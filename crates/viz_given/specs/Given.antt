-- What holds of each mesh that a node gives in whole numbers without bound
-- (docs/FORMATS-OF-FILTERS.md, "Exact points").
use Rattle.std.specs.Prelude.{List, Option}
use Rattle.std.specs.List.{All}
use Rattle.viz_dataset.specs.declared.dataset.Dataset.TheVariants.{Mesh}
use Rattle.viz_network.specs.Cone.{Tree}
use Rattle.viz_node_division.specs.Divided.{IsDivided}
use Rattle.viz_parts.specs.Pieces.{Division}
use Rattle.viz_piece_divisions.specs.Pieces.{HasLevel}
use Rattle.viz_sheet.specs.Sheet.{IsFit, SheetData}

-- names of one level in each sheet
abbrev pub AllAreLeveled : Type 0
AllAreLeveled =
    (cone : Option Tree) (sheets : List SheetData) (division : Division)
    → IsDivided cone (Mesh sheets) division → All HasLevel sheets

-- sheets that fit
abbrev pub AllAreFit : Type 0
AllAreFit =
    (cone : Option Tree) (sheets : List SheetData) (division : Division)
    → IsDivided cone (Mesh sheets) division → All IsFit sheets
