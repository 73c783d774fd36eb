-- Filters one after the other.
use Rattle.std.proofs.Common.{◌≡◌, ℕ, suc, ◌+◌, Option, Some, None, List, [], ◌∷◌, ◌++◌, length, get_or, refl, sym, ap, ◌∙◌, arith}
use Rattle.std.specs.List.{All, Contains, flat_map}
use Rattle.std.proofs.lemmas.List.{get_or_default}
use Rattle.std.proofs.lemmas.List.Elements.{All-contains, Contains-get_or}
use Rattle.viz_fraction.specs.Points.{Point}
use Rattle.viz_meaning.specs.Section.{zero_point}
use Rattle.viz_meaning.proofs.ListLemmas.{all-among}
use Rattle.viz_meaning.proofs.SectionLemmas.{section-names, section-sheet}
use Rattle.viz_mesh_meaning.specs.Facets.{boundary_of, is_same_name, lone_facets}
use Rattle.viz_mesh_meaning.specs.Laws.{IsFacetOf}
use Rattle.viz_mesh_meaning.specs.Select.{is_selected}
use Rattle.viz_mesh_meaning.proofs.CellLemmas.{cells-made, of-names}
use Rattle.viz_mesh_meaning.proofs.FacetLemmas.{boundary-sheet, lone-facets_of}
use Rattle.viz_mesh_meaning.proofs.SelectLemmas.{selection-sheet}
use Rattle.viz_sheet.specs.PairNames.{AreNames}
use Rattle.viz_sheet.specs.Sheet.{IsNamedCell, KeepPoints}
use Rattle.viz_mesh_meaning.specs.Cells.{Cell}
use Rattle.viz_piece_filters.specs.Names.{Name}
use Rattle.viz_parts.specs.Seen.{Seen, cell_if, cells_seen, level_if, levels_seen}
use Rattle.viz_piece_filters.specs.Chains.{BoundariesChain, PartsHaveLevels, SectionsChain, SelectionsChain, SelectionsHandOn, TrimmedChain}
use Rattle.viz_piece_filters.specs.Filters.{near_items}
use Rattle.viz_piece_filters.proofs.BoundaryLemmas.{boundaries_keep, near_among, trimmed_keep}
use Rattle.viz_piece_filters.proofs.MadeLemmas.{cell_name}
use Rattle.viz_piece_filters.proofs.PartLemmas.{from_flat_map, into_flat_map}
use Rattle.viz_piece_filters.proofs.SectionLemmas.{sections_keep}
use Rattle.viz_piece_filters.proofs.SelectedLemmas.{selections_keep, spread_kept}

all_from : {X : Type 0} (P : X → Type 0) (xs : List X) → ((x : X) → Contains xs x → P x) → All P xs
all_from P xs h k d l = h (get_or xs k d) (Contains-get_or xs k d l)

-- ---- selection

pub selections_chain : SelectionsChain
selections_chain all lo hi whole own ghosts part h = record {
  whole_is = (selection-sheet all lo hi whole h.whole_is).sheet;
  sheet_is = (selection-sheet all lo hi part.sheet h.sheet_is).sheet;
  part_is = selections_keep all lo hi whole own ghosts part h.whole_is h.sheet_is h.part_is;
}

pub selections_hand_on : SelectionsHandOn
selections_hand_on all lo hi s own = sym (spread_kept (is_selected all lo hi s) s.cells own)

-- ---- fewer levels

pub trimmed_chain : TrimmedChain
trimmed_chain more whole own ghosts part less h =
    let w = part.sheet in
    let near = near_items ghosts part.levels w.cells in
    let among = near_among whole own ghosts more part h.part_is in
    let made = cells-made w near h.sheet_is (all-among IsNamedCell near w.cells h.sheet_is.each among) (all-among (All (Contains w.names)) near w.cells (of-names w h.sheet_is) among) in
    record {
      whole_is = h.whole_is;
      sheet_is = made.sheet;
      part_is = trimmed_keep more whole own ghosts part less h.sheet_is h.part_is;
    }

-- ---- boundary

pub boundaries_chain : BoundariesChain
boundaries_chain whole own ghosts part h =
    let w = part.sheet in
    let hw = h.sheet_is in
    let g = lone_facets is_same_name w.cells in
    let near = near_items ghosts part.levels w.cells in
    let among = near_among whole own ghosts (ghosts + 1) part h.part_is in
    let named = all-among IsNamedCell (flat_map g near) (boundary_of w).cells (boundary-sheet w hw).sheet.each
    (λ x i. let c = from_flat_map g near x i in into_flat_map g w.cells c.0 x (among c.0 c.1) c.2) in
    let names = all_from (All (Contains w.names)) (flat_map g near) (λ x i.
    let c = from_flat_map g near x i in
    let in_part = among c.0 c.1 in
    let facet = All-contains (IsFacetOf c.0) (g c.0) x (lone-facets_of w.cells c.0 (All-contains IsNamedCell w.cells c.0 hw.each in_part)) c.2 in
    all_from (Contains w.names) x (λ n j. cell_name w hw c.0 n in_part (All-contains (Contains c.0) x n facet.names j))) in
    record {
      whole_is = (boundary-sheet whole h.whole_is).sheet;
      sheet_is = (cells-made w (flat_map g near) hw named names).sheet;
      part_is = boundaries_keep whole own ghosts part h.whole_is hw h.part_is;
    }

-- ---- section

-- names that keep their points are among the others
kept_name : (ns : List Name) (ps : List Point) (ms : List Name) (qs : List Point) → KeepPoints ns ps ms qs → (n : Name) → Contains ns n → Contains ms n
kept_name ns ps ms qs h n c =
    let from = h c.0 zero_point c.1 in
    (from.0, from.1, get_or_default ms from.0 n [] from.1 ∙ sym from.2 ∙ get_or_default ns c.0 [] n c.1 ∙ c.2)

pub sections_chain : SectionsChain
sections_chain f size whole own ghosts part names h =
    let w = part.sheet in
    let hw = h.sheet_is in
    let kept = h.part_is.points in
    let made = sections_keep f size whole own ghosts part h.whole_is names hw h.part_is in
    let in_whole = kept_name w.names w.points whole.names whole.points kept in
    let part_names : AreNames size w.names = record {
      sized = all_from (λ n. length n ≡ size) w.names (λ n c. All-contains (λ m. length m ≡ size) whole.names n names.sized (in_whole n c));
      ascending = hw.ascending;
    } in
    record {
      part_is = record {
        whole_is = section-sheet f whole size h.whole_is names;
        sheet_is = section-sheet f w size hw part_names;
        part_is = made;
      };
      names_are = section-names f whole size h.whole_is names;
    }

-- ---- levels

one_each : (c : Cell) (o : Option ℕ) (ls : List ℕ) (cs : List Cell) → length ls ≡ length cs → length (level_if o ++ ls) ≡ length (cell_if c o ++ cs)
one_each c (Some l) ls cs e = ap suc e
one_each c None ls cs e = e

each_level : (seen : List Seen) → length (levels_seen seen) ≡ length (cells_seen seen)
each_level [] = refl
each_level (s ∷ seen) = one_each s.cell s.level (levels_seen seen) (cells_seen seen) (each_level seen)

pub parts_have_levels : PartsHaveLevels
parts_have_levels whole own ghosts part is = record {
  matched = ap length (sym is.levels) ∙ each_level is.seen ∙ ap length is.cells;
}
