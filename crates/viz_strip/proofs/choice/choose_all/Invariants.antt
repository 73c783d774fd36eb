use Rattle.viz_strip.specs.Steps.Grown.{AreTaken, HaveMade, IsReady}
use Rattle.viz_strip.specs.Steps.Marks.{left}
use Rattle.viz_strip.proofs.choice.choose_all.Given as goal

abbrev pub invariant-loop-index : goal.invariant-loop-index
invariant-loop-index l = record {
  ready : IsReady l.triangles l.marks l.links.firsts.items l.links.nexts.items;
  taken : AreTaken l.marks l.index;
  made : HaveMade (left l.fn.marks l.triangles) (left l.marks l.triangles) l.fn.rows l.rows;
}
