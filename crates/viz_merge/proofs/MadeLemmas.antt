-- The sheet of the groups and the cells that are left is the merge.
use Rattle.std.proofs.Common.{◌≡◌, ℕ, ◌^◌, ◌<◌, Bool, List, length, get_or, map, nat_eq, ℤ, refl, sym, ap, subst, ◌∙◌, arith}
use Rattle.std.specs.List.{All, filter, flat_map}
use Rattle.std.specs.List.Sorted.{IsPermutation, IsSorted}
use Rattle.std.specs.Cmp.Lexicographic.{slice_cmp}
use Rattle.std.specs.Ordering.{int_cmp}
use Rattle.std.proofs.lemmas.List.{get_or_default, get_or-map, length-map, same_lists}
use Rattle.std.proofs.lemmas.List.FromFn.{length-map-range_with_len}
use Rattle.viz_fraction.specs.Points.{Point}
use Rattle.viz_sheet.specs.Sheet.{SheetData, IsSheet}
use Rattle.viz_sheet.specs.Kept.{kept, kept_rank, sheet_with}
use Rattle.viz_sheet.specs.Ranked.{AreCells, IsCell, leaf_names}
use Rattle.viz_sheet.proofs.KeptLemmas.{kept-most}
use Rattle.viz_meaning.proofs.LeafCells.{leaf-cells}
use Rattle.viz_meaning.specs.Section.{zero_point}
use Rattle.viz_mesh_meaning.specs.Merge.{all_points, cells_by_leaves, firsts, group_of, has_no_repeat, merged}
use Rattle.viz_merge.specs.Steps.Cells.{AreNumbers}
use Rattle.viz_merge.specs.Steps.Leads.{AreLeads, AreWritten, HaveIndices, first_marks, keys_from}
use Rattle.viz_mesh_meaning.proofs.MergeLemmas.{merged-cells}
use Rattle.viz_merge.proofs.LeadLemmas.{leads-are, length-keys, sorted-indices}
use Rattle.viz_merge.proofs.GroupLemmas.{groups-are, rank-is_group}

-- ---- numbers

marks-size : (leads : List ℕ) (marks : List Bool) → marks ≡ first_marks leads → length marks ≡ length leads
marks-size leads marks e = ap length e ∙ length-map-range_with_len (λ j. nat_eq (get_or leads j 0) j) 0 (length leads)

pub marks-matched : (ps : List Point) (leads : List ℕ) (marks lent : List Bool) → AreLeads ps leads → marks ≡ first_marks leads → lent ≡ marks → length lent ≡ length ps
marks-matched ps leads marks lent h e same = ap length same ∙ marks-size leads marks e ∙ h.size

pub leads-below : (ps : List Point) (leads : List ℕ) (marks : List Bool) → AreLeads ps leads → marks ≡ first_marks leads → All (λ lead. lead < length marks) leads
leads-below ps leads marks h e k d l =
    let size = marks-size leads marks e in
    let below : k < length ps = omega (arith, h.size, l) in
    let most = (h.each k below).most in
    subst (λ n. n < length marks) (get_or_default leads k 0 d l) (omega (arith, most, size, l))

pub numbers-are : (ps : List Point) (leads numbers : List ℕ) (marks : List Bool) → AreLeads ps leads → marks ≡ first_marks leads → numbers ≡ map (kept_rank marks) leads → AreNumbers ps numbers
numbers-are ps leads numbers marks h em en =
    let count : length (map (kept_rank (first_marks leads)) leads) ≡ length leads = simp length-map in
    let other : length (map (group_of (firsts ps)) ps) ≡ length ps = simp length-map in
    record {
      each =
          en ∙ ap (λ ms. map (kept_rank ms) leads) em
          ∙ same_lists (map (kept_rank (first_marks leads)) leads) (map (group_of (firsts ps)) ps) (count ∙ h.size ∙ sym other) (λ j d l.
          let below : j < length leads = omega (arith, count, l) in
          let in_ps : j < length ps = omega (arith, h.size, below) in
          get_or-map (kept_rank (first_marks leads)) leads j 0 d below ∙ rank-is_group ps leads j zero_point h in_ps ∙ sym (get_or-map (group_of (firsts ps)) ps j zero_point d in_ps));
    }

-- the same of lists that are lent
pub marks-few : (leads : List ℕ) (marks lent : List Bool) → length leads < 2 ^ 32 → marks ≡ first_marks leads → lent ≡ marks → length lent < 2 ^ 32
marks-few leads marks lent few e same = omega (arith, ap length same, marks-size leads marks e, few)

pub leads-lent : (ps : List Point) (leads lent_leads : List ℕ) (marks lent : List Bool) → AreLeads ps leads → marks ≡ first_marks leads → lent ≡ marks → lent_leads ≡ leads → All (λ lead. lead < length lent) lent_leads
leads-lent ps leads lent_leads marks lent h e same el =
    subst (λ (ls : List ℕ). All (λ lead. lead < length lent) ls) (sym el) (subst (λ (ms : List Bool). All (λ lead. lead < length ms) leads) (sym same) (leads-below ps leads marks h e))

pub numbers-lent : (ps : List Point) (leads lent_leads numbers lent_numbers : List ℕ) (marks lent : List Bool) → AreLeads ps leads → marks ≡ first_marks leads → lent ≡ marks → lent_leads ≡ leads
    → numbers ≡ map (kept_rank lent) lent_leads → lent_numbers ≡ numbers → AreNumbers ps lent_numbers
numbers-lent ps leads lent_leads numbers lent_numbers marks lent h e same el en es =
    subst (AreNumbers ps) (sym es) (numbers-are ps leads numbers marks h e (en ∙ ap (λ (ms : List Bool). map (kept_rank ms) lent_leads) same ∙ ap (map (kept_rank marks)) el))

-- ---- the sheet

-- what the passes made
pub record AreMade (sheets : List SheetData) (leads : List ℕ) (names : List (List ℕ)) (points : List Point) (cells : List (List ℕ)) : Type 0 where
  pub led : AreLeads (all_points sheets) leads
  pub few : length leads < 2 ^ 32
  pub each : All IsSheet sheets
  pub placed : points ≡ kept (first_marks leads) (all_points sheets)
  pub named : names ≡ leaf_names (length points)
  pub left : cells ≡ filter has_no_repeat (flat_map (cells_by_leaves (firsts (all_points sheets))) sheets)

pub points-few : (ps : List Point) (leads : List ℕ) (marks : List Bool) (points : List Point) → AreLeads ps leads → length leads < 2 ^ 32 → points ≡ kept marks ps → length points < 2 ^ 32
points-few ps leads marks points h few e = omega (arith, ap length e, kept-most marks ps, h.size, few)

points-are : (sheets : List SheetData) (leads : List ℕ) (names : List (List ℕ)) (points : List Point) (cells : List (List ℕ)) → AreMade sheets leads names points cells → points ≡ firsts (all_points sheets)
points-are sheets leads names points cells m = m.placed ∙ groups-are (all_points sheets) leads m.led

pub made-cells : (sheets : List SheetData) (leads : List ℕ) (names : List (List ℕ)) (points : List Point) (cells : List (List ℕ)) → AreMade sheets leads names points cells → AreCells names points cells
made-cells sheets leads names points cells m =
    let gs = firsts (all_points sheets) in
    let is = points-are sheets leads names points cells m in
    let few = points-few (all_points sheets) leads (first_marks leads) points m.led m.few m.placed in
    let all = leaf-cells (length points) points (filter has_no_repeat (flat_map (cells_by_leaves gs) sheets)) (omega arith) refl (subst (λ (ps : List Point). All (IsCell (length ps)) (filter has_no_repeat (flat_map (cells_by_leaves gs) sheets))) (sym is) (merged-cells sheets m.each)) in
    subst (λ (ns : List (List ℕ)). AreCells ns points cells) (sym m.named)
    (subst (λ (cs : List (List ℕ)). AreCells (leaf_names (length points)) points cs) (sym m.left) all)

pub made-sheet : (sheets : List SheetData) (s : SheetData) (leads : List ℕ) (names : List (List ℕ)) (points : List Point) (cells : List (List ℕ)) → AreMade sheets leads names points cells → s ≡ sheet_with names points cells → s ≡ merged sheets
made-sheet sheets s leads names points cells m e =
    let is = points-are sheets leads names points cells m in
    e ∙ ap (λ ns. sheet_with ns points cells) m.named ∙ ap (λ ps. sheet_with (leaf_names (length ps)) ps cells) is
    ∙ ap (sheet_with (leaf_names (length (firsts (all_points sheets)))) (firsts (all_points sheets))) m.left

-- ---- keys that are sorted

pub indices-for : (ps : List Point) (keys sorted lent : List (List ℤ)) → keys ≡ keys_from 0 ps → length keys < 2 ^ 32 → IsPermutation keys sorted → lent ≡ sorted → HaveIndices lent
indices-for ps keys sorted lent e few p same =
    subst HaveIndices (sym same) (sorted-indices ps sorted (subst (λ (ks : List (List ℤ)). IsPermutation ks sorted) e p) (omega (arith, ap length e, length-keys 0 ps, few)))

pub leads-for : (ps : List Point) (keys sorted lent : List (List ℤ)) (leads : List ℕ) → keys ≡ keys_from 0 ps → IsPermutation keys sorted → IsSorted (slice_cmp int_cmp) sorted → lent ≡ sorted → AreWritten lent (length lent) leads → AreLeads ps leads
leads-for ps keys sorted lent leads e p s same w =
    leads-are ps sorted leads (subst (λ (ks : List (List ℤ)). IsPermutation ks sorted) e p) s (subst (λ (ks : List (List ℤ)). AreWritten ks (length ks) leads) same w)
