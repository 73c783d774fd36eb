use Rattle.std.proofs.Common.{◌≡◌, ◌<◌, ◌++◌, All, List, ℕ, length, map, ap, sym, subst, ◌∙◌, rules}
use Rattle.std.specs.List.{Contains}
use Rattle.std.proofs.lemmas.List.Elements.{All-weaker}
use Rattle.viz_parts.specs.Stitching.{own_items}
use Rattle.viz_sheet.specs.Arrays.{names_in, ranks_in}
use Rattle.viz_sheet.specs.Ranked.{IsCell, rank_of, ranks_of}
use Rattle.viz_sheet.specs.Sheet.{SheetData}
use Rattle.viz_sheet.specs.Steps.Lookup.{looked_up}
use Rattle.viz_piece_stitch.specs.Steps.Walk.{AreAmong}
use Rattle.viz_piece_stitch.proofs.RankLemmas.{looked-cells, rank-below}
use Rattle.viz_piece_stitch.proofs.joining.with_part.Goals as goal

pub ranks_among-requires : goal.ranks_among-requires
ranks_among-requires c =
    let names = names_in c.args.names.now in
    let part = c.args.part.now.sheet.names in
    let is : names_in c.leaves.result.now ≡ part = search rules in
    subst (AreAmong names) (sym is) (record {
      ascending = c.requires.ascending;
      few = c.requires.few;
      rising = c.requires.held.sheet.ascending;
      held = All-weaker (Contains names) (λ n. rank_of names n < length names) (λ n h. rank-below names n c.requires.ascending h) part c.requires.held.held;
    })

pub returns-clause-cells : goal.returns-clause-cells
returns-clause-cells c =
    let names = names_in c.args.names.now in
    let part = c.args.part.now.sheet.names in
    let cells = ranks_in c.ranks.result.now in
    let is : names_in c.leaves.result.now ≡ part = search rules in
    let sheet : c.sheet-sheet.result.now ≡ c.args.part.now.sheet = c.sheet-sheet.ensures.value in
    let numbers : c.deref-2.result.now ≡ map (rank_of names) part = c.deref-2.ensures.value ∙ c.in_ok-numbers.ensures ∙ ap (map (rank_of names)) is in
    let same : map (looked_up c.deref-2.result.now) cells ≡ map (ranks_of names) c.args.part.now.sheet.cells =
    ap (λ (ns : List ℕ). map (looked_up ns) cells) numbers
    ∙ looked-cells names part cells (subst (λ (s : SheetData). All (IsCell (length s.names)) cells) sheet c.ranks.ensures.valid.rule.each)
    ∙ ap (map (ranks_of names)) (search rules) in
    c.in_ok-ranks.ensures ∙ ap (λ (cs : List (List ℕ)). ranks_in c.args.joined.ranks ++ own_items cs c.args.part.now.levels) same
