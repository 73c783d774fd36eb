use Rattle.std.proofs.Common.{All, List, length, ap, sym, subst, ◌∙◌}
use Rattle.std.specs.List.{flat_map}
use Rattle.viz_parts.specs.Parts.{PartSheetData}
use Rattle.viz_sheet.specs.Arrays.{names_in, points_in, ranks_in}
use Rattle.viz_sheet.specs.Ranked.{IsCell, by_names}
use Rattle.viz_piece_stitch.specs.Steps.Walk.{AreUnited}
use Rattle.viz_piece_stitch.proofs.JoinLemmas.{all-cells, all-points}
use Rattle.viz_piece_stitch.proofs.SheetLemmas.{all-held, all-there, joined-all, joined-cells, joined-points}
use Rattle.viz_piece_stitch.proofs.sheet.joined_sheet.Goals as goal

pub with_parts-requires-clause-held : goal.with_parts-requires-clause-held
with_parts-requires-clause-held c =
    let parts = c.args.parts.items in
    let names = names_in c.in_ok-names.names in
    let u : AreUnited (flat_map (λ p. p.sheet.names) parts) names =
    subst (λ (ps : List PartSheetData). AreUnited (flat_map (λ p. p.sheet.names) ps) names) c.deref.ensures.value c.in_ok-names.ensures.united in
    all-held names parts c.requires.sheets u.keeps

pub sheet_of-requires : goal.sheet_of-requires
sheet_of-requires c =
    let parts = c.args.parts.items in
    let names = names_in c.in_ok-names.names in
    let joined = c.in_ok-joined.joined in
    let u : AreUnited (flat_map (λ p. p.sheet.names) parts) names =
    subst (λ (ps : List PartSheetData). AreUnited (flat_map (λ p. p.sheet.names) ps) names) c.deref.ensures.value c.in_ok-names.ensures.united in
    let held = all-held names parts c.requires.sheets u.keeps in
    let cells = all-cells parts names (ranks_in c.in_ok-ranks.ranks) (ranks_in joined.ranks) (points_in joined.places) c.in_ok-joined.ensures c.in_ok-ranks.ensures in
    let all = all-points parts names (ranks_in c.in_ok-ranks.ranks) (ranks_in joined.ranks) (points_in joined.places) c.in_ok-joined.ensures in
    record {
      cells = record {
        ascending = u.ascending;
        matched = all-there names u.ascending parts (points_in joined.places) u.adds_none all c.in_ok-joined.ensures.size;
        few = c.in_ok-names.ensures.few;
        each = subst (All (IsCell (length names))) (sym cells) (joined-all names u.ascending parts held);
      };
    }

pub returns : goal.returns
returns c =
    let parts = c.args.parts.items in
    let names = names_in c.in_ok-names.names in
    let joined = c.in_ok-joined.joined in
    let u : AreUnited (flat_map (λ p. p.sheet.names) parts) names =
    subst (λ (ps : List PartSheetData). AreUnited (flat_map (λ p. p.sheet.names) ps) names) c.deref.ensures.value c.in_ok-names.ensures.united in
    let held = all-held names parts c.requires.sheets u.keeps in
    let cells = all-cells parts names (ranks_in c.in_ok-ranks.ranks) (ranks_in joined.ranks) (points_in joined.places) c.in_ok-joined.ensures c.in_ok-ranks.ensures in
    let all = all-points parts names (ranks_in c.in_ok-ranks.ranks) (ranks_in joined.ranks) (points_in joined.places) c.in_ok-joined.ensures in
    record {
      valid = c.known.ensures.valid;
      cells = c.in_ok-sheet.ensures.cells ∙ ap (by_names names) cells ∙ joined-cells names u.ascending parts held;
      points = joined-points names u.ascending parts (points_in joined.places) c.in_ok-sheet.sheet held u.adds_none all c.in_ok-sheet.ensures.points;
    }
