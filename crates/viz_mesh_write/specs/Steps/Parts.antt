-- Rows in parts that are made by workers.
use Rattle.std.specs.Prelude.{◌≡◌, ℕ, ◌*◌, Bool, ℤ, List, Result, Ok, Err, IfOk, take, drop}
use Rattle.std.specs.List.{flat_map}
use Rattle.viz_fraction.specs.Points.{Point}
use Rattle.viz_image_write.specs.declared.stop.WriteStop.{WriteStop}
use Rattle.viz_image_write.specs.declared.stop.WriteStop.TheVariants as stop
use Rattle.viz_mesh_write.specs.Steps.Passes.{rows_by, FitBy}

-- how many rows a part has, but the last one
abbrev pub per_part : ℕ
per_part = 16384

-- the part of this number
abbrev pub part_of : {X : Type 0} → List X → ℕ → List X
part_of items t = take per_part (drop (t * per_part) items)

-- the rows of a part of points, or why there are none
abbrev pub IsPointPart : {X : Type 0} → (X → Point) → (Point → List ℤ) → Bool → List X → ℕ
    → Result (List ℕ) WriteStop → Type 0
IsPointPart point numbers binary points t (Ok text) =
    (text ≡ rows_by point numbers binary (part_of points t)) × FitBy point numbers (part_of points t)
IsPointPart point numbers binary points t (Err stop.TooWide) = ¬ FitBy point numbers (part_of points t)
IsPointPart point numbers binary points t (Err stop.TooMany) = ⊥
IsPointPart point numbers binary points t (Err stop.Memory) = Unit {0}

-- the rows of a part of cells, unless memory ran out
abbrev pub IsCellPart : {X : Type 0} {E : Type 0} → (X → List ℕ) → List X → ℕ → Result (List ℕ) E
    → Type 0
IsCellPart row cells t part = IfOk part (λ text. text ≡ flat_map row (part_of cells t))
