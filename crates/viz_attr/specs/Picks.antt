-- The picked array: the first that fits the pick (docs/FORMATS-OF-FILES.md, "Attribute parts").
use Rattle.std.specs.Prelude.{ℕ, Bool, true, false, not, ◌&&◌, ◌||◌, ◌==◌, List, [], ◌∷◌, ◌++◌}
use Rattle.std.specs.Prelude.{Option, Some, None, option_map, if◌then◌else◌}
use Rattle.viz_base.specs.declared.node.Pick.{Pick}
use Rattle.viz_base.specs.declared.node.Pick.TheVariants.{First, Zero, Named}
use Rattle.viz_column.specs.Numbers.{Numbers}
use Rattle.viz_attr.specs.declared.parts.Association.{Association}
use Rattle.viz_attr.specs.declared.parts.Association.TheVariants.{Points, Cells}
use Rattle.viz_attr.specs.declared.parts.Sort.{Sort}
use Rattle.viz_attr.specs.declared.parts.Sort.TheVariants.{Scalars, Field, Other}

-- what is known of a file in front of its attribute parts, and which array is asked for
pub record Given : Type 0 where
  pub binary : Bool
  pub points : ℕ
  pub cells : ℕ
  pub pick : Pick

-- what stands in front of an array's values: whose attribute it is, of which sort, its name, and
-- how many tuples it has
pub record Head : Type 0 where
  pub association : Association
  pub sort : Sort
  pub name : List ℕ
  pub tuples : ℕ

-- a part of the attributes: those of points or of cells begin there, or an array stands there,
-- whose numbers are kept where it is the picked one
pub data Part : Type 0 where
  Begins : Association → Part
  Holds : Head → Option Numbers → Part

-- two names are the same, byte for byte
abbrev pub same_name : List ℕ → List ℕ → Bool
same_name [] [] = true
same_name [] (b ∷ bs) = false
same_name (a ∷ more) [] = false
same_name (a ∷ more) (b ∷ bs) = a == b && same_name more bs

-- attributes of points
abbrev pub is_of_points : Association → Bool
is_of_points Points = true
is_of_points Cells = false

-- an array of SCALARS
abbrev pub is_scalars : Sort → Bool
is_scalars Scalars = true
is_scalars Field = false
is_scalars Other = false

-- an array of a FIELD
abbrev pub is_field : Sort → Bool
is_field Scalars = false
is_field Field = true
is_field Other = false

-- the pick names an array of this sort, name and number of tuples: the first of SCALARS, none, or
-- one of this name that has a tuple for each point
abbrev pub names : Pick → ℕ → Head → Bool
names First points head = is_scalars head.sort
names Zero points head = false
names (Named name) points head = same_name name head.name
    && (is_scalars head.sort || (is_field head.sort && head.tuples == points))

-- an array fits the pick: it is one of points, and the pick names it
abbrev pub fits_pick : Given → Head → Bool
fits_pick g head = is_of_points head.association && names g.pick g.points head

-- some array of these parts fits the pick
abbrev pub has_fit : Given → List Part → Bool
has_fit g [] = false
has_fit g (Begins association ∷ parts) = has_fit g parts
has_fit g (Holds head column ∷ parts) = fits_pick g head || has_fit g parts

-- an array is the first that fits the pick
abbrev pub is_picked : Given → List Part → Head → Bool
is_picked g before head = fits_pick g head && not (has_fit g before)

-- the numbers of the first array that fits the pick
abbrev pub picked_of : Given → List Part → Option Numbers
picked_of g [] = None
picked_of g (Begins association ∷ parts) = picked_of g parts
picked_of g (Holds head column ∷ parts) = if fits_pick g head then column else picked_of g parts

-- whose attributes were begun last
abbrev pub association_of : Option Association → List Part → Option Association
association_of last [] = last
association_of last (Begins association ∷ parts) = association_of (Some association) parts
association_of last (Holds head column ∷ parts) = association_of last parts

-- how many tuples an attribute of points, or of cells, has
abbrev pub count_of : Given → Association → ℕ
count_of g Points = g.points
count_of g Cells = g.cells
