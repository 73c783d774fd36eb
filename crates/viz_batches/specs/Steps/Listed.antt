-- The edits of a batch as one list. Only its type speaks of it.
use Rattle.std.specs.Prelude.{List, [], ◌∷◌}
use Rattle.viz_network.specs.declared.edit.Edit.{Edit}
use Rattle.viz_batches.specs.declared.batch.Edits.{Edits}
use Rattle.viz_batches.specs.declared.batch.Edits.TheVariants.{One, Several}

abbrev pub listed : Edits → List Edit
listed (One edit) = edit ∷ []
listed (Several edits) = edits.items
