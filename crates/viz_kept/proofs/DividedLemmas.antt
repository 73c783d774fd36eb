-- How what a node gives is divided where there is one piece.
use Rattle.std.proofs.Common.{◌≡◌, Option, List, Ok, map, subst}
use Rattle.viz_dataset.specs.declared.dataset.Dataset.{Dataset}
use Rattle.viz_dataset.specs.declared.dataset.Dataset.TheVariants.{Mesh}
use Rattle.viz_network.specs.Cone.{Tree}
use Rattle.viz_node_division.specs.Divided.{IsDivided}
use Rattle.viz_node_division.specs.Laws.{DatasetsAreDivided, OnlyPieceOwnsAll}
use Rattle.viz_node_division.specs.Shares.{all_own}
use Rattle.viz_node_meaning.specs.Scratch.{IsScratchOf}
use Rattle.viz_parts.specs.Pieces.{Division}
use Rattle.viz_sheet.specs.Sheet.{SheetData}

-- a division of a dataset of which the only piece is whole
pub record IsWholeDivision (cone : Option Tree) (whole : Dataset) (division : Division)
    : Type 0 where
  pub divided : IsDivided cone whole division
  pub only : (sheets : List SheetData) → whole ≡ Mesh sheets → division 0 1 ≡ map all_own sheets

-- each dataset that a node gives has one
pub whole_division : DatasetsAreDivided → OnlyPieceOwnsAll → (cone : Option Tree) (whole : Dataset)
    → IsScratchOf cone (Ok whole) → (division : Division) × IsWholeDivision cone whole division
whole_division some only cone whole given =
    let d = some cone whole given in (
      d.0,
      record {
        divided = d.1;
        only = λ sheets is. only cone sheets d.0 (subst (λ w. IsDivided cone w d.0) is d.1);
      },
    )
