use Rattle.std.proofs.Common.{◌≡◌, map, take}
use Rattle.viz_fraction.specs.Forms.{contour_form}
use Rattle.viz_node_rules.proofs.parameters.forms_of.Given as goal

abbrev pub invariant-loop-level : goal.invariant-loop-level
invariant-loop-level l = l.forms.items ≡ map contour_form (take l.level-index l.levels)
