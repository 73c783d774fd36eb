use Rattle.std.proofs.Common.{◌≡◌, ◌+◌, ◌++◌, drop, map}
use Rattle.viz_mesh_write.specs.Steps.Starts.{count_all, starts_all}
use Rattle.viz_mesh_write.proofs.starts.offsets_of.Given as goal

-- the cells of the sheets so far, and of those to come
abbrev pub invariant-loop-sheet : goal.invariant-loop-sheet
invariant-loop-sheet g l = record {
  put : l.offsets.items ++ starts_all l.size l.next (map g.S.SheetCells.seen (drop l.sheet-index l.sheets))
      ≡ starts_all l.size 0 (map g.S.SheetCells.seen l.sheets);
  next : l.next + count_all l.size (map g.S.SheetCells.seen (drop l.sheet-index l.sheets))
      ≡ count_all l.size (map g.S.SheetCells.seen l.sheets);
}
