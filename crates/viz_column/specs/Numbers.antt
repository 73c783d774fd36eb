-- A typed array (VTK User's Guide, "Simple legacy formats"): what contracts see of a column.
use Rattle.std.specs.Prelude.{◌≡◌, ℤ, List, true}
use Rattle.std.specs.List.{list_all}
use Rattle.viz_column.specs.declared.kind.Kind8.{Kind8}
use Rattle.viz_column.specs.Kinds.{fits}

-- a kind and a list of whole numbers
pub record Numbers : Type 0 where
  pub kind : Kind8
  pub items : List ℤ

-- each number lies in the range of the kind
abbrev pub AreInRange : Numbers → Type 0
AreInRange n = list_all (fits n.kind) n.items ≡ true
