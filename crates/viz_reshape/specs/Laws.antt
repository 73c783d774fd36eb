-- What is made of a file is one (docs/FORMATS-OF-OUTPUT.md, "Strips and clips of a file").
use Rattle.std.specs.Prelude.{◌≡◌, ℕ, List, Result}
use Rattle.viz_network.specs.declared.fault.Fault.{Fault}
use Rattle.viz_reshape.specs.declared.reshape.Reshape.{Reshape}
use Rattle.viz_reshape.specs.declared.reshape.MadeFile.{MadeFile}
use Rattle.viz_reshape.specs.Reshape.{IsReshaped}

-- of a file there is one text with its counts, or one fault
abbrev pub ReshapesAreOne : Type 0
ReshapesAreOne =
    (reshape : Reshape) (source op : ℕ) (bytes : List ℕ) (a b : Result MadeFile Fault)
    → IsReshaped reshape source op bytes a → IsReshaped reshape source op bytes b → a ≡ b
