-- All parts of a sheet joined: its cells, and where each of its points comes from.
use Rattle.std.proofs.Common.{◌≡◌, ℕ, ◌-◌, ◌<◌, ◌≤◌, inl, inr, List, [], ◌∷◌, ◌++◌, length, get_or, map, refl, subst, sym, ap, ap₂, ◌∙◌, arith}
use Rattle.std.specs.List.{All, Contains, flat_map}
use Rattle.std.proofs.lemmas.Bool.{cases_lt}
use Rattle.std.proofs.lemmas.List.{get_or_default, map-append}
use Rattle.std.proofs.lemmas.List.Elements.{All-nil, All-head, All-tail, All-append, All-contains, Contains-get_or}
use Rattle.viz_fraction.specs.Points.{Point}
use Rattle.viz_parts.specs.Parts.{PartSheetData}
use Rattle.viz_parts.specs.Stitching.{own_items}
use Rattle.viz_sheet.specs.Ranked.{IsCell, by_names, names_at, rank_of, ranks_of}
use Rattle.viz_sheet.specs.Sheet.{AreAscending, IsSheet, KeepPoints, SheetData}
use Rattle.viz_sheet.proofs.RankLemmas.{rank-at}
use Rattle.viz_piece_stitch.specs.Steps.Joining.{HasPoints, HavePoints, IsHeld, IsPointAt, own_ranks}
use Rattle.viz_piece_stitch.proofs.ListLemmas.{from_flat_map, into_flat_map, own-all, own-map}
use Rattle.viz_piece_stitch.proofs.RankLemmas.{cells-back, cells-held, cells-ranked, name-at_rank}

abbrev pub IsPartSheet : PartSheetData → Type 0
IsPartSheet part = IsSheet part.sheet

-- all names have those of each part
pub all-held : (names : List (List ℕ)) (parts : List PartSheetData) → All IsPartSheet parts → ((n : List ℕ) → Contains (flat_map (λ p. p.sheet.names) parts) n → Contains names n) → All (IsHeld names) parts
all-held names parts h keeps k d l = record {
  sheet = h k d l;
  held = λ j e m. keeps (get_or (get_or parts k d).sheet.names j e)
      (into_flat_map (λ p. p.sheet.names) parts (get_or parts k d) (get_or (get_or parts k d).sheet.names j e) (Contains-get_or parts k d l) (Contains-get_or (get_or parts k d).sheet.names j e m));
}

module _ (names : List (List ℕ)) (s : AreAscending names) where
  cells-of : (part : PartSheetData) → IsHeld names part → All (All (Contains names)) part.sheet.cells
  cells-of part h k d l j e m =
      let c = cells-held part.sheet h.sheet k d l j e m in
      All-contains (Contains names) part.sheet.names (get_or (get_or part.sheet.cells k d) j e) h.held c

  own-names : (part : PartSheetData) → IsHeld names part → by_names names (own_ranks names part) ≡ own_items part.sheet.cells part.levels
  own-names part h =
      own-map (names_at names) (map (ranks_of names) part.sheet.cells) part.levels
      ∙ ap (λ cells. own_items cells part.levels) (cells-back names part.sheet.cells s (cells-of part h))

  own-cells : (part : PartSheetData) → IsHeld names part → All (IsCell (length names)) (own_ranks names part)
  own-cells part h =
      own-all (IsCell (length names)) (map (ranks_of names) part.sheet.cells) part.levels (cells-ranked names part.sheet.cells s (cells-of part h) h.sheet.each)

  -- the cells by names are the own cells of all parts
  pub joined-cells : (parts : List PartSheetData) → All (IsHeld names) parts → by_names names (flat_map (own_ranks names) parts) ≡ flat_map (λ p. own_items p.sheet.cells p.levels) parts
  joined-cells [] h = refl
  joined-cells (p ∷ ps) h =
      map-append (names_at names) (own_ranks names p) (flat_map (own_ranks names) ps)
      ∙ ap₂ (λ (a : List (List (List ℕ))) (b : List (List (List ℕ))). a ++ b) (own-names p (All-head (IsHeld names) p ps h)) (joined-cells ps (All-tail (IsHeld names) p ps h))

  -- and they are cells
  pub joined-all : (parts : List PartSheetData) → All (IsHeld names) parts → All (IsCell (length names)) (flat_map (own_ranks names) parts)
  joined-all [] h = All-nil (IsCell (length names))
  joined-all (p ∷ ps) h =
      All-append (IsCell (length names)) (own_ranks names p) (flat_map (own_ranks names) ps)
      (own-cells p (All-head (IsHeld names) p ps h)) (joined-all ps (All-tail (IsHeld names) p ps h))

  -- at each rank stands the point of a name of one of the parts
  point-at : (parts : List PartSheetData) (points : List Point) → ((n : List ℕ) → Contains names n → Contains (flat_map (λ p. p.sheet.names) parts) n)
      → All (HasPoints parts names points) parts → (r : ℕ) → r < length names → IsPointAt parts names points r
  point-at parts points adds all r l =
      let name = get_or names r [] in
      let m = from_flat_map (λ (p : PartSheetData). p.sheet.names) parts name (adds name (Contains-get_or names r [] l)) in
      let at : get_or m.0.sheet.names m.2.0 [] ≡ name = get_or_default m.0.sheet.names m.2.0 [] name m.2.1 ∙ m.2.2 in
      let rank : rank_of names (get_or m.0.sheet.names m.2.0 []) ≡ r = ap (rank_of names) at ∙ rank-at names r s l in
      let has : HasPoints parts names points m.0 = All-contains (HasPoints parts names points) parts m.0 all m.1 in
      subst (λ q. IsPointAt parts names points q) rank (has m.2.0 m.2.1)

  -- so there are as many points as names
  pub all-there : (parts : List PartSheetData) (points : List Point) → ((n : List ℕ) → Contains names n → Contains (flat_map (λ p. p.sheet.names) parts) n)
      → All (HasPoints parts names points) parts → length points ≤ length names → length points ≡ length names
  all-there parts points adds all most = elim (cases_lt 0 (length names)) [
    | inl some ↦
        let last : IsPointAt parts names points (length names - 1) = point-at parts points adds all (length names - 1) (omega (arith, some)) in
        omega (arith, some, most, last.5)
    | inr none ↦ omega (arith, none, most)
  ]

  -- each name that is left has its point from a part
  pub joined-points : (parts : List PartSheetData) (points : List Point) (whole : SheetData) → All (IsHeld names) parts → ((n : List ℕ) → Contains names n → Contains (flat_map (λ p. p.sheet.names) parts) n)
      → All (HasPoints parts names points) parts → KeepPoints whole.names whole.points names points → HavePoints parts whole
  joined-points parts points whole held adds all keep k d l =
      let kept = keep k d l in
      let r = kept.0 in
      let name = get_or names r [] in
      let from : IsPointAt parts names points r = point-at parts points adds all r kept.1 in
      let part = from.0 in
      let other = get_or part.sheet.names from.2 [] in
      let its : IsHeld names part = All-contains (IsHeld names) parts part held from.1 in
      let there : Contains names other = its.held from.2 [] from.3 in
      let same : name ≡ other = sym (ap (λ q. get_or names q []) from.4) ∙ name-at_rank names other s there in
      (part, from.1, from.2, from.3, kept.2 ∙ same, kept.3 ∙ from.6 d)
