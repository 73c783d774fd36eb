-- The boundary of a part with one level more.
use Rattle.std.proofs.Common.{◌≡◌, ℕ, ◌+◌, ◌<◌, ◌≤◌, ◌==◌, ◌&&◌, Bool, true, false, true≢false, Option, Some, None, cond, List, [], ◌∷◌, ◌++◌, length, get_or, Ordering, Less, Equal, Greater, refl, sym, ap, ap₂, subst, ◌∙◌, arith}
use Rattle.std.specs.List.{All, Contains, filter, sum_by, list_all, list_any}
use Rattle.std.specs.Cmp.Lexicographic.{slice_cmp}
use Rattle.std.specs.Ordering.{nat_cmp, is_eq}
use Rattle.std.proofs.lemmas.List.Sums.{sum_by-cons}
use Rattle.std.proofs.lemmas.List.Elements.{All-contains, All-contains_itself}
use Rattle.std.proofs.lemmas.Map.Lookups.{exact_bytes}
use Rattle.std.proofs.lemmas.Map.Views.{Contains-from_any}
use Rattle.viz_fraction.specs.Points.{Point}
use Rattle.viz_meaning.specs.Section.{point_of}
use Rattle.viz_meaning.proofs.ListLemmas.{all-among}
use Rattle.viz_mesh_meaning.specs.Cells.{with_cells}
use Rattle.viz_mesh_meaning.specs.Facets.{facets_of, has_each, is_same_name, lone_facets, occurrences}
use Rattle.viz_mesh_meaning.specs.Laws.{IsFacetOf}
use Rattle.viz_mesh_meaning.proofs.CellLemmas.{cells-made, of-names}
use Rattle.viz_mesh_meaning.proofs.FacetLemmas.{IsFacetSize, facets-all, facets-size, lone-facets_of}
use Rattle.viz_parts.specs.Parts.{PartSheetData}
use Rattle.viz_sheet.specs.Sheet.{SheetData, IsNamedCell, KeepPoints}
use Rattle.viz_sheet.proofs.MemberLemmas.{here, there}
use Rattle.viz_mesh_meaning.specs.Cells.{Cell}
use Rattle.viz_piece_filters.specs.Names.{Name}
use Rattle.viz_parts.specs.Seen.{Seen, Meet, IsUpTo, AreSeen, whole_seen, cells_seen, cell_if, seen_as}
use Rattle.viz_parts.specs.Pieces.{IsPartOf}
use Rattle.viz_piece_filters.specs.Filters.{BoundariesKeepParts, TrimmedKeepParts, near_items}
use Rattle.viz_piece_filters.proofs.PartLemmas.{from_map, into_flat_map}
use Rattle.viz_piece_filters.proofs.CutLemmas.{cells_cut, cut, cut_level, cut_some, fewer_ghosts, levels_cut, owned_cut, seen_from, whole_cut}
use Rattle.viz_piece_filters.proofs.MadeLemmas.{cell_name, in_whole, made_keep, same_point}

-- ---- counts

-- cells that aren't there don't count
counted : (hits : Cell → ℕ) (seen : List Seen) → ((t : Seen) → Contains seen t → t.level ≡ None → hits t.cell ≡ 0) → sum_by hits (cells_seen seen) ≡ sum_by hits (whole_seen seen)
counted hits [] h = refl
counted hits (s ∷ seen) h = by_level s.level refl (counted hits seen (λ t c e. h t (there s seen t c) e)) ∙ sym (sum_by-cons hits s.cell (whole_seen seen))
  where
    by_level : (l : Option ℕ) → s.level ≡ l → sum_by hits (cells_seen seen) ≡ sum_by hits (whole_seen seen) → sum_by hits (cell_if s.cell l ++ cells_seen seen) ≡ hits s.cell + sum_by hits (whole_seen seen)
    by_level (Some l) e rest = sum_by-cons hits s.cell (cells_seen seen) ∙ ap (λ r. hits s.cell + r) rest
    by_level None e rest = rw (h s (here s seen) e) (omega (arith, rest))

none_up_to : (most : ℕ) (l : Option ℕ) → l ≡ None → IsUpTo most l → ⊥
none_up_to most l e u = subst (IsUpTo most) e u

filter_same : (p q : Cell → Bool) (xs : List Cell) → ((x : Cell) → Contains xs x → p x ≡ q x) → filter p xs ≡ filter q xs
filter_same p q [] h = refl
filter_same p q (x ∷ xs) h = ap₂ (λ b r. cond b (x ∷ r) r) (h x (here x xs)) (filter_same p q xs (λ y c. h y (there x xs y c)))

-- ---- a cell that has all names of a facet shares a name with the facet's cell

eq_is_equal : (o : Ordering) → is_eq o ≡ true → o ≡ Equal
eq_is_equal Less h = absurd (true≢false (sym h))
eq_is_equal Equal h = refl
eq_is_equal Greater h = absurd (true≢false (sym h))

same_is : (m n : Name) → is_same_name m n ≡ true → m ≡ n
same_is m n h = exact_bytes m n (eq_is_equal (slice_cmp nat_cmp m n) h)

both_true : (a b : Bool) → (a && b) ≡ true → (a ≡ true) × (b ≡ true)
both_true true true h = (refl, refl)
both_true true false h = absurd (true≢false (sym h))
both_true false b h = absurd (true≢false (sym h))

first_holds : (t : Name → Bool) (xs : List Name) → 1 ≤ length xs → list_all t xs ≡ true → t (get_or xs 0 []) ≡ true
first_holds t [] l h = absurd (omega arith)
first_holds t (x ∷ xs) l h = (both_true (t x) (list_all t xs) h).0

meets : (c d x : Cell) → IsNamedCell c → Contains (facets_of c) x → ((length d == length c) && has_each is_same_name d x) ≡ true → Meet c d
meets c d x h i t =
    let has = (both_true (length d == length c) (has_each is_same_name d x) t).1 in
    let some = (All-contains (IsFacetSize c) (facets_of c) x (facets-size c h.most) i).some in
    let names = All-contains (All (Contains c)) (facets_of c) x (facets-all (Contains c) c h.most (All-contains_itself c)) i in
    let n = get_or x 0 [] in
    (n, names 0 [] some, Contains-from_any same_is n d (first_holds (λ m. list_any (is_same_name m) d) x some has))

zero_if : (b : Bool) → (b ≡ true → ⊥) → ◌≡◌ {A = ℕ} (cond b 1 0) 0
zero_if true h = absurd (h refl)
zero_if false h = refl

-- facets of cells below the last level are counted as in the whole
same_count : (more : ℕ) (seen : List Seen) → AreSeen more seen → (s : Seen) (l : ℕ) → Contains seen s → s.level ≡ Some l → l < more → IsNamedCell s.cell → (x : Cell) → Contains (facets_of s.cell) x
    → occurrences is_same_name (cells_seen seen) (length s.cell) x ≡ occurrences is_same_name (whole_seen seen) (length s.cell) x
same_count more seen p s l c e b h x i =
    let test : Cell → Bool = λ d. (length d == length s.cell) && has_each is_same_name d x in
    counted (λ d. cond (test d) 1 0) seen (λ t d none. zero_if (test t.cell) (λ yes.
    none_up_to (l + 1) t.level none (p.near s t l c d e b (meets s.cell t.cell x h i yes))))

-- ---- the law

-- a cell of a part up to a level
record IsNear (seen : List Seen) (ghosts : ℕ) (c : Cell) : Type 0 where
  pub one : Seen
  pub level : ℕ
  pub there_is : Contains seen one
  pub has : one.level ≡ Some level
  pub most : level ≤ ghosts
  pub is_cell : one.cell ≡ c

near_from : (seen : List Seen) (ghosts : ℕ) (c : Cell) → Contains (cells_seen (cut ghosts seen)) c → IsNear seen ghosts c
near_from seen ghosts c i =
    let a = seen_from (cut ghosts seen) c i in
    let b = from_map (λ s. seen_as s.own (cut_level ghosts s.level) s.cell) seen a.0 a.2 in
    let was = cut_some ghosts b.0.level a.1 (ap (λ u. u.level) b.2 ∙ a.3) in
    record { one = b.0; level = a.1; there_is = b.1; has = was.0; most = was.1; is_cell = ap (λ u. u.cell) b.2 ∙ a.4 }

-- it is one of the part's cells
near_in : (seen : List Seen) (ghosts : ℕ) (c : Cell) → IsNear seen ghosts c → Contains (cells_seen seen) c
near_in seen ghosts c h =
    into_flat_map (λ (s : Seen). cell_if s.cell s.level) seen h.one c h.there_is
    (subst (λ o. Contains (cell_if h.one.cell o) c) (sym h.has) (subst (λ d. Contains (h.one.cell ∷ []) d) h.is_cell (here h.one.cell [])))

same_lone : (seen : List Seen) (ghosts : ℕ) → AreSeen (ghosts + 1) seen → (c : Cell) → IsNamedCell c → IsNear seen ghosts c → lone_facets is_same_name (cells_seen seen) c ≡ lone_facets is_same_name (whole_seen seen) c
same_lone seen ghosts p c named h =
    subst (λ d. lone_facets is_same_name (cells_seen seen) d ≡ lone_facets is_same_name (whole_seen seen) d) h.is_cell
    (filter_same _ _ (facets_of h.one.cell) (λ x j. ap (λ n. n == 1)
    (same_count (ghosts + 1) seen p h.one h.level h.there_is h.has (omega (arith, h.most)) (subst IsNamedCell (sym h.is_cell) named) x j)))

-- the part's cells up to a level, at all its points
abbrev near_part : ℕ → PartSheetData → PartSheetData
near_part ghosts part = record {
  sheet = record { names = part.sheet.names; points = part.sheet.points; cells = near_items ghosts part.levels part.sheet.cells };
  levels = near_items ghosts part.levels part.levels;
}

pub near_is : (whole : SheetData) (own : List Bool) (ghosts more : ℕ) (part : PartSheetData) → ghosts ≤ more → IsPartOf whole own more part → IsPartOf whole own ghosts (near_part ghosts part)
near_is whole own ghosts more part less is = record {
  seen = cut ghosts is.seen;
  covered = whole_cut ghosts is.seen ∙ is.covered;
  owned = owned_cut ghosts is.seen ∙ is.owned;
  rule = fewer_ghosts ghosts more is.seen less is.rule;
  cells = cells_cut ghosts is.seen ∙ ap₂ (near_items ghosts) is.levels is.cells;
  levels = levels_cut ghosts is.seen ∙ ap (λ ls. near_items ghosts ls ls) is.levels;
  points = is.points;
}

-- ---- fewer levels

near_cells : (whole : SheetData) (own : List Bool) (ghosts more : ℕ) (part : PartSheetData) (is : IsPartOf whole own more part) → (c : Cell) → Contains (near_items ghosts part.levels part.sheet.cells) c → IsNear is.seen ghosts c
near_cells whole own ghosts more part is c i =
    near_from is.seen ghosts c (subst (λ cs. Contains cs c) (sym (cells_cut ghosts is.seen ∙ ap₂ (near_items ghosts) is.levels is.cells)) i)

pub near_among : (whole : SheetData) (own : List Bool) (ghosts more : ℕ) (part : PartSheetData) → IsPartOf whole own more part → (c : Cell) → Contains (near_items ghosts part.levels part.sheet.cells) c → Contains part.sheet.cells c
near_among whole own ghosts more part is c i =
    subst (λ cs. Contains cs c) is.cells (near_in is.seen ghosts c (near_cells whole own ghosts more part is c i))

keep_on : (a b c : List Name) (pa pb pc : List Point) → KeepPoints a pa b pb → KeepPoints b pb c pc → KeepPoints a pa c pc
keep_on a b c pa pb pc h j k d l =
    let x = h k d l in
    let y = j x.0 d x.1 in
    (y.0, y.1, x.2 ∙ y.2, x.3 ∙ y.3)

pub trimmed_keep : TrimmedKeepParts
trimmed_keep more whole own ghosts part less hp is =
    let w = part.sheet in
    let near = near_items ghosts part.levels w.cells in
    let among = near_among whole own ghosts more part is in
    let made = cells-made w near hp (all-among IsNamedCell near w.cells hp.each among) (all-among (All (Contains w.names)) near w.cells (of-names w hp) among) in
    let of = near_is whole own ghosts more part less is in
    let t = with_cells w near in
    record {
      seen = of.seen;
      covered = of.covered;
      owned = of.owned;
      rule = of.rule;
      cells = of.cells;
      levels = of.levels;
      points = keep_on t.names w.names whole.names t.points w.points whole.points made.points is.points;
    }

-- ---- the boundary

pub boundaries_keep : BoundariesKeepParts
boundaries_keep whole own ghosts part hw hp is =
    let w = part.sheet in
    let f = lone_facets is_same_name whole.cells in
    let g = lone_facets is_same_name w.cells in
    let near = near_items ghosts part.levels w.cells in
    let same = same_point whole w hw hp is.points in
    let named : (c : Cell) → Contains whole.cells c → IsNamedCell c = λ c i. All-contains IsNamedCell whole.cells c hw.each i in
    let names : (c x : Cell) (n : Name) → Contains whole.cells c → Contains (f c) x → Contains x n → Contains c n =
    λ c x n i j k. All-contains (Contains c) x n (All-contains (IsFacetOf c) (f c) x (lone-facets_of whole.cells c (named c i)) j).names k in
    let is_near = near_cells whole own ghosts (ghosts + 1) part is in
    let in_part = near_among whole own ghosts (ghosts + 1) part is in
    let in_all : (c : Cell) → Contains near c → Contains whole.cells c = λ c i. in_whole whole own (ghosts + 1) part is c (in_part c i) in
    made_keep f g (point_of whole) (point_of w) (λ n. n) whole own ghosts (near_part ghosts part) names
    (record {
      cells = λ c i.
          ap (λ cs. lone_facets is_same_name cs c) (sym is.cells)
          ∙ same_lone is.seen ghosts is.rule c (named c (in_all c i)) (is_near c i)
          ∙ ap (λ cs. lone_facets is_same_name cs c) is.covered;
      points = λ c x n i j k. same n (cell_name w hp c n (in_part c i) (names c x n (in_all c i) j k));
    })
    (near_is whole own ghosts (ghosts + 1) part (omega arith) is)
