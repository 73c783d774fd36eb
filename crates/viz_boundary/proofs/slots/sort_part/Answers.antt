use Rattle.std.proofs.Common.{rules}
use Rattle.std.proofs.lemmas.List.Sorted.{IsPermutation-put_mid}
use Rattle.viz_boundary.proofs.slots.sort_part.Goals as goal

pub returns-then-to-keys : goal.returns-then-to-keys
returns-then-to-keys c = search (rules, IsPermutation-put_mid)
