-- The kinds of node: their ports and their parameters (docs/FORMATS-OF-FILTERS.md, "Kinds of
-- node").
use Rattle.std.specs.Prelude.{ℕ, Bool, true, false, nat_le, ◌&&◌}
use Rattle.viz_kinds.specs.declared.kind.Kind.{Kind}
use Rattle.viz_kinds.specs.declared.kind.Kind.TheVariants.{File, Crop, Sample, Threshold, Smooth}
use Rattle.viz_kinds.specs.declared.kind.Kind.TheVariants.{Arith, Tets, Select, Contour, Cut}
use Rattle.viz_kinds.specs.declared.kind.Kind.TheVariants.{Append, Boundary, Merge, Writer}
use Rattle.viz_kinds.specs.declared.param.Param.{Param}
use Rattle.viz_kinds.specs.declared.param.Param.TheVariants as param

-- how many ports a node of the kind has
abbrev pub ports_of : Kind → ℕ
ports_of File = 0
ports_of Crop = 1
ports_of Sample = 1
ports_of Threshold = 1
ports_of Smooth = 1
ports_of Arith = 2
ports_of Tets = 1
ports_of Select = 1
ports_of Contour = 1
ports_of Cut = 1
ports_of Append = 8
ports_of Boundary = 1
ports_of Merge = 1
ports_of Writer = 1

-- a kind's ports are numbered from 1
abbrev pub has_port : Kind → ℕ → Bool
has_port kind port = nat_le 1 port && nat_le port (ports_of kind)

-- whether a node of the kind has the parameter
abbrev pub has_param : Kind → Param → Bool
has_param kind param.Release = true
has_param File param.Array = true
has_param File param.Unit = true
has_param Crop param.Bounds = true
has_param Sample param.Rate = true
has_param Threshold param.Range = true
has_param Smooth param.Radius = true
has_param Arith param.Op = true
has_param Select param.Range = true
has_param Select param.Mode = true
has_param Contour param.Levels = true
has_param Cut param.Plane = true
has_param Writer param.Style = true
has_param Writer param.Digits = true
has_param Writer param.Version = true
has_param _ _ = false
