-- The parameters of a node, typed by its kind (docs/FORMATS-OF-FILTERS.md, "Kinds of node").
use Rattle.std.specs.Prelude.{ℕ, Bool, true, false, ◌&&◌, if◌then◌else◌, ℤ, pos, int_le}
use Rattle.std.specs.Prelude.{unsigned_abs, List, ◌∷◌, replicate, codes, Option, None, Some}
use Rattle.std.specs.Ordering.{int_eq}
use Rattle.viz_base.specs.declared.node.Pick.{Pick}
use Rattle.viz_base.specs.declared.node.Pick.TheVariants.{First, Zero, Named}
use Rattle.viz_kinds.specs.declared.kind.Kind.{Kind}
use Rattle.viz_kinds.specs.declared.kind.Kind.TheVariants as kind
use Rattle.viz_kinds.specs.declared.param.Param.{Param}
use Rattle.viz_kinds.specs.declared.param.Param.TheVariants as param
use Rattle.viz_kinds.specs.declared.param.Value.{Value}
use Rattle.viz_kinds.specs.declared.param.Value.TheVariants.{Numbers, Text}
use Rattle.viz_kinds.specs.declared.settings.Op.{Op}
use Rattle.viz_kinds.specs.declared.settings.Op.TheVariants as op
use Rattle.viz_kinds.specs.declared.settings.Settings.{Settings}
use Rattle.viz_kinds.specs.declared.settings.Settings.TheVariants as settings
use Rattle.viz_kinds.specs.Values.{first_number, last_number, number, is_text}

-- the parameters of a new node
abbrev pub defaults : Kind → Settings
defaults kind.File = settings.File First 0
defaults kind.Crop = settings.Crop 0 2147483647 0 2147483647 0 2147483647
defaults kind.Sample = settings.Sample 1 1 1
defaults kind.Threshold = settings.Threshold first_number last_number
defaults kind.Smooth = settings.Smooth 1
defaults kind.Arith = settings.Arith op.Add
defaults kind.Tets = settings.Tets
defaults kind.Select = settings.Select first_number last_number true
defaults kind.Contour = settings.Contour 1 (replicate 8 (pos 0))
defaults kind.Cut = settings.Cut (pos 0) (pos 0) (pos 1) (pos 0)
defaults kind.Append = settings.Append
defaults kind.Boundary = settings.Boundary
defaults kind.Merge = settings.Merge
defaults kind.Writer = settings.Writer false 3 3

-- the kind of a node
abbrev pub kind_of : Settings → Kind
kind_of (settings.File array unit) = kind.File
kind_of (settings.Crop x0 x1 y0 y1 z0 z1) = kind.Crop
kind_of (settings.Sample x y z) = kind.Sample
kind_of (settings.Threshold lo hi) = kind.Threshold
kind_of (settings.Smooth radius) = kind.Smooth
kind_of (settings.Arith op) = kind.Arith
kind_of settings.Tets = kind.Tets
kind_of (settings.Select lo hi all) = kind.Select
kind_of (settings.Contour count levels) = kind.Contour
kind_of (settings.Cut a b c r) = kind.Cut
kind_of settings.Append = kind.Append
kind_of settings.Boundary = kind.Boundary
kind_of settings.Merge = kind.Merge
kind_of (settings.Writer binary digits version) = kind.Writer

-- the greatest index along an axis
abbrev pub index_limit : ℕ
index_limit = 2147483647

-- the number, where it is one from 0 to the limit
abbrev pub natural : ℕ → ℤ → ℕ
natural limit n = if int_le (pos 0) n && int_le n (pos limit) then unsigned_abs n else 0

-- the version of a number: 5 where it is 5, else 3
abbrev pub version_of : ℤ → ℕ
version_of n = if int_eq n (pos 5) then 5 else 3

-- the array that a text picks
abbrev pub pick_of : List ℕ → Pick
pick_of text = if is_text text (codes "*") then First
    else (if is_text text (codes "-") then Zero else Named text)

-- the text that picks an array
abbrev pub pick_text : Pick → List ℕ
pick_text First = codes "*"
pick_text Zero = codes "-"
pick_text (Named name) = name

-- what a text tells arith to reckon
abbrev pub op_of : List ℕ → Op
op_of text = if is_text text (codes "add") then op.Add
    else (if is_text text (codes "sub") then op.Sub
    else (if is_text text (codes "min") then op.Min else op.Max))

-- the text of what arith reckons
abbrev pub op_text : Op → List ℕ
op_text op.Add = codes "add"
op_text op.Sub = codes "sub"
op_text op.Min = codes "min"
op_text op.Max = codes "max"

-- the bounds of a crop
abbrev pub boxed : List ℤ → Settings
boxed n = settings.Crop (natural index_limit (number n 0)) (natural index_limit (number n 1))
    (natural index_limit (number n 2)) (natural index_limit (number n 3))
    (natural index_limit (number n 4)) (natural index_limit (number n 5))

-- the rates of a sample
abbrev pub rated : List ℤ → Settings
rated n = settings.Sample (natural 1024 (number n 0)) (natural 1024 (number n 1))
    (natural 1024 (number n 2))

-- the parameters with other numbers of one
abbrev pub with_numbers : Settings → Param → ℕ → List ℤ → Settings
with_numbers (settings.File array unit) param.Unit count n = settings.File array
    (natural 9 (number n 0))
with_numbers (settings.Crop x0 x1 y0 y1 z0 z1) param.Bounds count n = boxed n
with_numbers (settings.Sample x y z) param.Rate count n = rated n
with_numbers (settings.Threshold lo hi) param.Range count n = settings.Threshold (number n 0)
    (number n 1)
with_numbers (settings.Smooth radius) param.Radius count n = settings.Smooth
    (natural 8 (number n 0))
with_numbers (settings.Select lo hi all) param.Range count n = settings.Select (number n 0)
    (number n 1) all
with_numbers (settings.Contour levels_count levels) param.Levels count n = settings.Contour count n
with_numbers (settings.Cut a b c r) param.Plane count n = settings.Cut (number n 0) (number n 1)
    (number n 2) (number n 3)
with_numbers (settings.Writer binary digits version) param.Digits count n = settings.Writer binary
    (natural 9 (number n 0)) version
with_numbers (settings.Writer binary digits version) param.Version count n = settings.Writer binary
    digits (version_of (number n 0))
with_numbers settings _ _ _ = settings

-- the parameters with another text of one
abbrev pub with_text : Settings → Param → List ℕ → Settings
with_text (settings.File array unit) param.Array text = settings.File (pick_of text) unit
with_text (settings.Arith op) param.Op text = settings.Arith (op_of text)
with_text (settings.Select lo hi all) param.Mode text = settings.Select lo hi
    (is_text text (codes "all"))
with_text (settings.Writer binary digits version) param.Style text = settings.Writer
    (is_text text (codes "binary")) digits version
with_text settings _ _ = settings

-- the parameters with another value of one
abbrev pub with : Settings → Param → Value → Settings
with settings param (Numbers count items) = with_numbers settings param count items
with settings param (Text text) = with_text settings param text

-- whether the node's parts are given up, after another value of a parameter
abbrev pub release_with : Bool → Param → Value → Bool
release_with release param.Release (Numbers count items) = int_eq (number items 0) (pos 1)
release_with release _ _ = release

-- one number
abbrev pub one : ℤ → Option Value
one n = Some (Numbers 1 (n ∷ replicate 7 (pos 0)))

-- the value of a parameter that the kind has; none of another, nor of release
abbrev pub setting : Settings → Param → Option Value
setting (settings.File array unit) param.Array = Some (Text (pick_text array))
setting (settings.File array unit) param.Unit = one (pos unit)
setting (settings.Crop x0 x1 y0 y1 z0 z1) param.Bounds = Some
    (Numbers 6 (pos x0 ∷ pos x1 ∷ pos y0 ∷ pos y1 ∷ pos z0 ∷ pos z1 ∷ replicate 2 (pos 0)))
setting (settings.Sample x y z) param.Rate = Some
    (Numbers 3 (pos x ∷ pos y ∷ pos z ∷ replicate 5 (pos 0)))
setting (settings.Threshold lo hi) param.Range = Some (Numbers 2 (lo ∷ hi ∷ replicate 6 (pos 0)))
setting (settings.Smooth radius) param.Radius = one (pos radius)
setting (settings.Arith op) param.Op = Some (Text (op_text op))
setting (settings.Select lo hi all) param.Range = Some (Numbers 2 (lo ∷ hi ∷ replicate 6 (pos 0)))
setting (settings.Select lo hi all) param.Mode = Some
    (Text (if all then codes "all" else codes "any"))
setting (settings.Contour count levels) param.Levels = Some (Numbers count levels)
setting (settings.Cut a b c r) param.Plane = Some (Numbers 4 (a ∷ b ∷ c ∷ r ∷ replicate 4 (pos 0)))
setting (settings.Writer binary digits version) param.Style = Some
    (Text (if binary then codes "binary" else codes "ascii"))
setting (settings.Writer binary digits version) param.Digits = one (pos digits)
setting (settings.Writer binary digits version) param.Version = one (pos version)
setting _ _ = None

-- the value of a node's parameter; none where the kind hasn't it
abbrev pub value_of : Settings → Bool → Param → Option Value
value_of settings release param.Release = one (if release then pos 1 else pos 0)
value_of settings release param = setting settings param
