use Rattle.std.proofs.Common.{◌≡◌, ℕ, ◌<◌, ◌≤◌, List, [], arith, below_more, get_or, length, map, subst, sym}
use Rattle.std.specs.List.{All}
use Rattle.std.proofs.lemmas.List.{length-map}
use Rattle.std.proofs.lemmas.List.Elements.{All-from_get_or, All-map}
use Rattle.viz_sheet.specs.Ranked.{names_at}
use Rattle.viz_sheet.specs.Sheet.{most_names}
use Rattle.viz_cells.proofs.FitLemmas.{FitsCell}
use Rattle.viz_piece_plain.proofs.fit.is_fit.Goals as goal

-- a cell by ranks that isn't too large
fits : (size most : ℕ) (names : List (List ℕ)) (cell : List ℕ) → All (λ n. length n ≡ size) names → All (λ r. r < length names) cell
    → most ≡ most_names size → length cell ≤ most → FitsCell (names_at names cell)
fits size most names cell sized below is small =
    let at = λ (r : ℕ). get_or names r [] in
    let few : length (map at cell) ≤ most_names size = subst (λ m. length (map at cell) ≤ m) is (omega (arith, length-map cell at, small)) in
    All-map (λ n. length (map at cell) ≤ most_names (length n)) at cell
    (λ i d l. subst (λ m. length (map at cell) ≤ most_names m) (sym (sized (get_or cell i d) [] (below i d l))) few)

pub loop-i-preserved : goal.loop-i-preserved
loop-i-preserved c =
    let names = c.args.sheet.now.names in
    let size = c.size.result in
    let sized : All (λ (n : List ℕ). length n ≡ size) names = subst (λ (l : List (List ℕ)). All (λ (n : List ℕ). length n ≡ size) l) c.leaves.ensures.value c.size.ensures.each in
    below_more _ _ c.loop-i.invariant
    (subst FitsCell c.cell.ensures.names (fits size c.most_names-most.result names c.cell.result.now sized c.cell.ensures.below c.most_names-most.ensures c.if-cell-most.false))

pub returns : goal.returns
returns c _ = record {
  each = All-from_get_or FitsCell c.args.sheet.now.cells [] (λ k l. c.loop-i.invariant k (omega (arith, l, c.loop-i-test.false, c.cell_count-i-end.ensures.value)));
}
