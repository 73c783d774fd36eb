use Rattle.std.proofs.Common.{◌≡◌, ◌≤◌, ◌*◌, take, sum}
use Rattle.viz_make.proofs.volume.sum_of.Given as goal

abbrev pub invariant-loop-value : goal.invariant-loop-value
invariant-loop-value l = record {
  value : l.sum ≡ sum (take l.value-index l.values);
  most : l.sum ≤ 255 * l.value-index;
}
