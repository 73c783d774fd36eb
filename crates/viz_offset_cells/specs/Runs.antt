-- The runs of a list between offsets (VTK User's Guide, "Simple legacy formats";
-- docs/FORMATS-OF-FILES.md, "Sections of version 5.1").
use Rattle.std.specs.Prelude.{ℕ, ◌-◌, List, [], ◌∷◌, take, drop}

-- the run of a list from the place of one offset to that of another
abbrev pub run_between : ℕ → ℕ → List ℕ → List ℕ
run_between first next list = take (next - first) (drop first list)

-- the runs from an offset on, each to the next of those behind it
abbrev pub runs_from : ℕ → List ℕ → List ℕ → List (List ℕ)
runs_from first [] list = []
runs_from first (next ∷ offsets) list = run_between first next list ∷ runs_from next offsets list

-- the runs of a list between neighbouring offsets
abbrev pub runs_between : List ℕ → List ℕ → List (List ℕ)
runs_between [] list = []
runs_between (first ∷ offsets) list = runs_from first offsets list
