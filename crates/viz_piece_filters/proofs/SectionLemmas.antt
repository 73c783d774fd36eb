-- The section of a part.
use Rattle.std.proofs.Common.{◌≡◌, ℕ, ◌<◌, ⊎_elim, Bool, List, [], ◌∷◌, length, get_or, map, refl, sym, ap, ap₂, subst, ◌∙◌, arith}
use Rattle.std.specs.List.{All, Contains}
use Rattle.std.proofs.lemmas.List.Elements.{All-contains, Contains-get_or}
use Rattle.viz_fraction.specs.Cases.{cells_at}
use Rattle.viz_fraction.specs.CaseRows.{End}
use Rattle.viz_fraction.specs.Crossings.{edge_crossing}
use Rattle.viz_meaning.specs.Names.{greater_end, lesser_end}
use Rattle.viz_meaning.specs.Section.{bits_of, cells_in, crossing_at, end_name, is_inside_at}
use Rattle.viz_meaning.proofs.EndLemmas.{IsNamedEnd, by-ends, edge-ends}
use Rattle.viz_meaning.proofs.SectionLemmas.{flag_of, sized-cells}
use Rattle.viz_sheet.specs.PairNames.{AreNames}
use Rattle.viz_sheet.specs.Sheet.{SheetData, IsNamedCell, IsSheet}
use Rattle.viz_sheet.proofs.MemberLemmas.{here, there}
use Rattle.viz_mesh_meaning.specs.Cells.{Cell}
use Rattle.viz_piece_filters.specs.Names.{Name}
use Rattle.viz_piece_filters.specs.Filters.{SectionsKeepParts}
use Rattle.viz_piece_filters.proofs.MadeLemmas.{cell_name, in_whole, made_keep, same_point}

-- both ends of a name are names of a cell
pub record HasEndsIn (cell : Cell) (name : Name) : Type 0 where
  pub lesser : Contains cell (lesser_end name)
  pub greater : Contains cell (greater_end name)

-- those of a name in its section are
end_in : (size : ℕ) (inside : Name → Bool) (cell : Cell) (e : End) → All (λ n. length n ≡ size) cell → IsNamedEnd inside cell e → HasEndsIn cell (end_name cell e)
end_in size inside cell e sized is =
    let low : e.low < length cell = omega (arith, is.order, is.within) in
    let a = get_or cell e.low [] in
    let b = get_or cell e.high [] in
    let first : Contains cell a = Contains-get_or cell e.low [] low in
    let second : Contains cell b = Contains-get_or cell e.high [] is.within in
    ⊎_elim
    (λ p. record { lesser = subst (Contains cell) (sym p.0) first; greater = subst (Contains cell) (sym p.1) second })
    (λ p. record { lesser = subst (Contains cell) (sym p.0) second; greater = subst (Contains cell) (sym p.1) first })
    (edge-ends a b (sized e.low [] low ∙ sym (sized e.high [] is.within))).ends

ends_in : (size : ℕ) (inside : Name → Bool) (s : SheetData) → IsSheet s → AreNames size s.names → (c x : Cell) (n : Name) → Contains s.cells c → Contains (cells_in inside c) x → Contains x n → HasEndsIn c n
ends_in size inside s h names c x n i j k =
    let sized = All-contains (All (λ m. length m ≡ size)) s.cells c (sized-cells size s h names) i in
    let named = All-contains IsNamedCell s.cells c h.each i in
    All-contains (HasEndsIn c) x n
    (All-contains (All (HasEndsIn c)) (cells_in inside c) x (by-ends (HasEndsIn c) inside c named (λ e is. end_in size inside c e sized is)) j) k

flags_same : (t u : Name → Bool) (xs : List Name) → ((n : Name) → Contains xs n → t n ≡ u n) → map t xs ≡ map u xs
flags_same t u [] h = refl
flags_same t u (x ∷ xs) h = ap₂ (λ a b. a ∷ b) (h x (here x xs)) (flags_same t u xs (λ n c. h n (there x xs n c)))

pub sections_keep : SectionsKeepParts
sections_keep f size whole own ghosts part hw names hp is =
    let w = part.sheet in
    let same = same_point whole w hw hp is.points in
    let inside = flag_of f whole in
    let made = made_keep (cells_in inside) (cells_in (flag_of f w)) (crossing_at f whole) (crossing_at f w) lesser_end whole own ghosts part
    (λ c x n i j k. (ends_in size inside whole hw names c x n i j k).lesser)
    (record {
      cells = λ c i. ap (λ bs. map (map (end_name c)) (cells_at (length c) (bits_of bs)))
          (flags_same (flag_of f w) inside c (λ n j. ap (is_inside_at f) (same n (cell_name w hp c n i j))));
      points = λ c x n i j k.
          let ends = ends_in size inside whole hw names c x n (in_whole whole own ghosts part is c i) j k in
          ap₂ (edge_crossing f)
          (same (lesser_end n) (cell_name w hp c (lesser_end n) i ends.lesser))
          (same (greater_end n) (cell_name w hp c (greater_end n) i ends.greater));
    })
    is in
    made
