-- What is told of a node before its numbers are, and the dataset that it gives (VTK User's Guide,
-- "The visualization pipeline": the information pass and the data pass).
use Rattle.std.specs.Prelude.{◌≡◌, List, Option, Ok}
use Rattle.viz_dataset.specs.Images.{ImageData}
use Rattle.viz_dataset.specs.declared.dataset.Dataset.{Dataset}
use Rattle.viz_dataset.specs.declared.dataset.Dataset.TheVariants.{Image, Mesh}
use Rattle.viz_extent.specs.Extent.{Bounds}
use Rattle.viz_network.specs.Cone.{Tree}
use Rattle.viz_node_division.specs.Exact.{ExactRule}
use Rattle.viz_node_meaning.specs.Data.{DataRule}
use Rattle.viz_node_meaning.specs.Fold.{IsGiven}
use Rattle.viz_node_meaning.specs.Information.{InformationRule, information_of}
use Rattle.viz_node_meaning.specs.declared.information.Grid.{Grid}
use Rattle.viz_node_meaning.specs.declared.information.Information.{Information}
use Rattle.viz_node_meaning.specs.declared.information.Information.TheVariants.{OfImage, OfMesh}
use Rattle.viz_sheet.specs.Sheet.{SheetData}

-- where a node gives a dataset by the exact rule, the information of that dataset is told
abbrev pub DatasetsAreTold : Type 0
DatasetsAreTold =
    (cone : Option Tree) (d : Dataset) → IsGiven ExactRule cone (Ok d)
    → IsGiven InformationRule cone (Ok (information_of d))

-- what is told of a node is the information of the dataset that it gives
abbrev pub ToldIsOfDatasets : Type 0
ToldIsOfDatasets =
    (cone : Option Tree) (i : Information) (d : Dataset) → IsGiven InformationRule cone (Ok i)
    → IsGiven ExactRule cone (Ok d) → information_of d ≡ i

-- the same of the dataset that the data of a node come to
abbrev pub ToldIsOfGiven : Type 0
ToldIsOfGiven =
    (cone : Option Tree) (i : Information) (d : Dataset) → IsGiven InformationRule cone (Ok i)
    → IsGiven DataRule cone (Ok d) → information_of d ≡ i

-- the dataset is an image with this extent
abbrev pub IsImageOn : Bounds → Dataset → Type 0
IsImageOn extent d = (image : ImageData) × (d ≡ Image image) × (image.extent ≡ extent)

-- a node of which a grid is told gives an image with the grid's extent
abbrev pub ToldExtentsAreOwn : Type 0
ToldExtentsAreOwn =
    (cone : Option Tree) (g : Grid) (d : Dataset) → IsGiven InformationRule cone (Ok (OfImage g))
    → IsGiven ExactRule cone (Ok d) → IsImageOn g.extent d

-- a node of which a mesh is told gives a mesh
abbrev pub ToldMeshesAreGiven : Type 0
ToldMeshesAreGiven =
    (cone : Option Tree) (d : Dataset) → IsGiven InformationRule cone (Ok OfMesh)
    → IsGiven ExactRule cone (Ok d) → (sheets : List SheetData) × (d ≡ Mesh sheets)
