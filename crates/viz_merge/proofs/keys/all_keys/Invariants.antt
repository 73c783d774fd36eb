use Rattle.std.proofs.Common.{◌≡◌, ◌^◌, ◌<◌, length, take}
use Rattle.viz_mesh_meaning.specs.Merge.{all_points}
use Rattle.viz_merge.specs.Steps.Leads.{keys_from}
use Rattle.viz_merge.proofs.keys.all_keys.Given as goal

abbrev pub invariant-loop-sheet : goal.invariant-loop-sheet
invariant-loop-sheet l = record {
  made : l.keys.items ≡ keys_from 0 (all_points (take l.sheet-index l.sheets));
  few : length l.keys.items < 2 ^ 32;
}
