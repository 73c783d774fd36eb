use Rattle.std.proofs.Common.{◌≡◌, ◌+◌, ◌-◌, ◌/◌, ◌%◌, ◌≤◌, length, drop}
use Rattle.viz_surface_law.specs.Steps.Keys.{any_side, in_two, in_one, tallied}
use Rattle.viz_surface_law.specs.Steps.Ranked.{in_border, HasRanks}
use Rattle.viz_surface_law.proofs.passes.pass.Given as goal

abbrev pub invariant-loop-key : goal.invariant-loop-key
invariant-loop-key l =
    record {
      sides : l.t.sides + tallied any_side l.t.side l.t.forth l.t.back (drop l.key-index l.rest) ≡ tallied any_side (l.first / 2) (1 - l.first % 2) (l.first % 2) l.rest;
      two : l.t.two + tallied in_two l.t.side l.t.forth l.t.back (drop l.key-index l.rest) ≡ tallied in_two (l.first / 2) (1 - l.first % 2) (l.first % 2) l.rest;
      lone : l.t.lone + tallied in_one l.t.side l.t.forth l.t.back (drop l.key-index l.rest) ≡ tallied in_one (l.first / 2) (1 - l.first % 2) (l.first % 2) l.rest;
      border : l.t.border + tallied (in_border l.whole l.sheet.names) l.t.side l.t.forth l.t.back (drop l.key-index l.rest) ≡ tallied (in_border l.whole l.sheet.names) (l.first / 2) (1 - l.first % 2) (l.first % 2) l.rest;
      most_two : l.t.two ≤ l.t.sides;
      most_lone : l.t.lone ≤ l.t.sides;
      most_border : l.t.border ≤ l.t.sides;
      few : l.t.sides ≤ l.key-index;
      times : l.t.forth + l.t.back ≤ l.key-index + 1;
      ranks : HasRanks (length l.sheet.names) l.t.side;
    }
