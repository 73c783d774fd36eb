use Rattle.std.proofs.Common.{◌≡◌, ◌++◌, ◌<◌, ◌≤◌, ◌^◌}
use Rattle.viz_lex.specs.Written.{places, IsBegun}
use Rattle.viz_lex.proofs.written.put_places.Given as goal

-- the digits so far and those of the rest make the whole
abbrev pub invariant-loop-rest : goal.invariant-loop-rest
invariant-loop-rest l = record {
  few : l.place ≤ l.count;
  small : l.rest < 10 ^ l.place;
  begun : IsBegun l.fn.text.items l.text.items;
  told : l.text.items ++ places l.place l.rest ≡ l.fn.text.items ++ places l.count l.n;
}

abbrev pub decreases-loop-rest : goal.decreases-loop-rest
decreases-loop-rest l = l.place
