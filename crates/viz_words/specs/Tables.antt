-- The words of commands, kinds and parameters (docs/FORMATS-OF-SCRIPTS.md, "Scripts", and
-- docs/FORMATS-OF-FILTERS.md, "Kinds of node").
use Rattle.std.specs.Prelude.{ℕ, List, [], ◌∷◌, codes, Option, None, Some, if◌then◌else◌}
use Rattle.viz_kinds.specs.Values.{is_text}
use Rattle.viz_kinds.specs.declared.kind.Kind.{Kind}
use Rattle.viz_kinds.specs.declared.kind.Kind.TheVariants as kind
use Rattle.viz_kinds.specs.declared.param.Param.{Param}
use Rattle.viz_kinds.specs.declared.param.Param.TheVariants as param
use Rattle.viz_words.specs.declared.command.Command.{Command}
use Rattle.viz_words.specs.declared.command.Command.TheVariants as command

-- the first of a list that has this word
abbrev pub with_word : {A : Type 0} → (A → List ℕ) → List A → List ℕ → Option A
with_word word [] text = None
with_word word (x ∷ xs) text = if is_text text (word x) then Some x else with_word word xs text

-- the word of a command
abbrev pub command_word : Command → List ℕ
command_word command.Add = codes "add"
command_word command.Remove = codes "remove"
command_word command.Connect = codes "connect"
command_word command.Disconnect = codes "disconnect"
command_word command.Set = codes "set"
command_word command.Load = codes "load"
command_word command.Update = codes "update"
command_word command.Audit = codes "audit"
command_word command.Begin = codes "begin"
command_word command.End = codes "end"

-- the word of a kind of node
abbrev pub kind_word : Kind → List ℕ
kind_word kind.File = codes "file"
kind_word kind.Crop = codes "crop"
kind_word kind.Sample = codes "sample"
kind_word kind.Threshold = codes "threshold"
kind_word kind.Smooth = codes "smooth"
kind_word kind.Arith = codes "arith"
kind_word kind.Tets = codes "tets"
kind_word kind.Select = codes "select"
kind_word kind.Contour = codes "contour"
kind_word kind.Cut = codes "cut"
kind_word kind.Append = codes "append"
kind_word kind.Boundary = codes "boundary"
kind_word kind.Merge = codes "merge"
kind_word kind.Writer = codes "writer"

-- the word of a parameter
abbrev pub param_word : Param → List ℕ
param_word param.Array = codes "array"
param_word param.Unit = codes "unit"
param_word param.Bounds = codes "box"
param_word param.Rate = codes "rate"
param_word param.Range = codes "range"
param_word param.Radius = codes "radius"
param_word param.Op = codes "op"
param_word param.Mode = codes "mode"
param_word param.Levels = codes "levels"
param_word param.Plane = codes "plane"
param_word param.Style = codes "form"
param_word param.Digits = codes "digits"
param_word param.Release = codes "release"
param_word param.Version = codes "version"

-- the commands
abbrev pub commands : List Command
commands = command.Add ∷ command.Remove ∷ command.Connect ∷ command.Disconnect ∷ command.Set
    ∷ command.Load ∷ command.Update ∷ command.Audit ∷ command.Begin
    ∷ command.End ∷ []

-- the kinds
abbrev pub kinds : List Kind
kinds =
    kind.File ∷ kind.Crop ∷ kind.Sample ∷ kind.Threshold ∷ kind.Smooth ∷ kind.Arith ∷ kind.Tets
    ∷ kind.Select ∷ kind.Contour
    ∷ kind.Cut ∷ kind.Append ∷ kind.Boundary ∷ kind.Merge ∷ kind.Writer ∷ []

-- the parameters
abbrev pub params : List Param
params = param.Array ∷ param.Unit ∷ param.Bounds ∷ param.Rate ∷ param.Range ∷ param.Radius
    ∷ param.Op ∷ param.Mode ∷ param.Levels ∷ param.Plane ∷ param.Style ∷ param.Digits
    ∷ param.Release ∷ param.Version ∷ []

-- the command, the kind and the parameter of a word
abbrev pub command_named : List ℕ → Option Command
command_named text = with_word command_word commands text

abbrev pub kind_named : List ℕ → Option Kind
kind_named text = with_word kind_word kinds text

abbrev pub param_named : List ℕ → Option Param
param_named text = with_word param_word params text
