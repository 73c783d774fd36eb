-- What is made of a part, with its levels, is what the definition says.
use Rattle.std.proofs.Common.{◌≡◌, ℕ, zero, suc, ◌+◌, ◌<◌, ◌≤◌, ◌==◌, Bool, true, false, cond, Option, Some, None, List, [], ◌∷◌, ◌++◌, length, get_or, map, replicate, take, refl, sym, ap, ap₂, subst, ◌∙◌, arith}
use Rattle.std.specs.Prelude.{ℤ, nat_le}
use Rattle.std.specs.List.{All, Contains, filter, flat_map}
use Rattle.std.proofs.lemmas.Bool.{le-leb}
use Rattle.std.proofs.lemmas.List.{get_or-map, length-map, length-replicate}
use Rattle.std.proofs.lemmas.List.Elements.{All-head, All-tail}
use Rattle.viz_fraction.specs.Points.{Point}
use Rattle.viz_fraction.specs.declared.forms.Form.{Form}
use Rattle.viz_fraction.specs.Cases.{cells_at}
use Rattle.viz_meaning.specs.Section.{bits_of, cells_in, end_name, is_inside_at, mask_of, point_of, section_of, zero_point}
use Rattle.viz_meaning.proofs.ListLemmas.{map-same, map-twice}
use Rattle.viz_mesh_meaning.specs.Cells.{Cell, with_cells}
use Rattle.viz_mesh_meaning.specs.Facets.{boundary_of, facets_of, is_same_name, lone_facets, occurrences}
use Rattle.viz_mesh_meaning.specs.Select.{is_selected, selected}
use Rattle.viz_mesh_meaning.proofs.CellLemmas.{made-is, point-at}
use Rattle.viz_mesh_meaning.proofs.FacetLemmas.{boundary-sheet, facets-size}
use Rattle.viz_mesh_meaning.proofs.SelectLemmas.{filter-as_flat}
use Rattle.viz_parts.specs.Parts.{PartSheetData}
use Rattle.viz_parts.specs.Pieces.{IsSheetPart}
use Rattle.viz_parts.specs.Seen.{Seen, cell_if, cells_seen, level_if, levels_seen}
use Rattle.viz_parts.specs.Stitching.{own_items}
use Rattle.viz_piece_filters.specs.Filters.{boundary_part, handed_section, kept_selected, near_items, section_part}
use Rattle.viz_piece_filters.specs.HandedOn.{counts, handed_on}
use Rattle.viz_piece_filters.proofs.SelectedLemmas.{spread_kept}
use Rattle.viz_piece_restrict.specs.Restricting.{IsGrownPart}
use Rattle.viz_piece_stitch.proofs.WholeLemmas.{own_is}
use Rattle.viz_sheet.specs.Kept.{kept}
use Rattle.viz_sheet.specs.Ranked.{names_at}
use Rattle.viz_sheet.specs.Sheet.{SheetData, IsSheet, KeepPoints}
use Rattle.viz_sheet.proofs.MemberLemmas.{here, there}
use Rattle.viz_mesh_parts.specs.Steps.{AreHandedOn, IsNear, itself, passing}
use Rattle.viz_mesh_parts.proofs.HandedLemmas.{handed-more, handed-same, length-handed_on}

-- the same part
pub same-part : (p q : PartSheetData) → p.sheet ≡ q.sheet → p.levels ≡ q.levels → p ≡ q
same-part p q e f = λ i. record { sheet = e i; levels = f i }

-- ---- filters that make the same of each cell

pub flat-same : (f g : Cell → List Cell) (cs : List Cell) → All (λ c. f c ≡ g c) cs → flat_map f cs ≡ flat_map g cs
flat-same f g [] h = refl
flat-same f g (c ∷ cs) h = ap₂ (λ a b. a ++ b) (All-head (λ c. f c ≡ g c) c cs h) (flat-same f g cs (All-tail (λ c. f c ≡ g c) c cs h))

pub counts-same : (f g : Cell → List Cell) (cs : List Cell) → All (λ c. f c ≡ g c) cs → counts f cs ≡ counts g cs
counts-same f g [] h = refl
counts-same f g (c ∷ cs) h = ap₂ (λ a b. length a ∷ b) (All-head (λ c. f c ≡ g c) c cs h) (counts-same f g cs (All-tail (λ c. f c ≡ g c) c cs h))

-- ---- selections

module _ (all : Bool) (lo hi : ℤ) (part : PartSheetData) where
  abbrev test : Cell → Bool
  test = is_selected all lo hi part.sheet

  selected-flat : (selected all lo hi part.sheet).cells ≡ flat_map (passing itself test) part.sheet.cells
  selected-flat = filter-as_flat test part.sheet.cells

  pub selected-levels : (levels : List ℕ) (made : List Cell) → made ≡ (selected all lo hi part.sheet).cells → AreHandedOn itself part made levels
      → levels ≡ kept_selected all lo hi part.sheet part.levels
  selected-levels levels made is h = h.each test (is ∙ selected-flat) ∙ spread_kept test part.sheet.cells part.levels

  pub selected-count : (levels : List ℕ) (made : List Cell) → length part.levels ≡ length part.sheet.cells → made ≡ (selected all lo hi part.sheet).cells → AreHandedOn itself part made levels
      → length levels ≡ length made
  selected-count levels made matched is h =
      ap length (h.each test (is ∙ selected-flat)) ∙ length-handed_on (passing itself test) part.levels part.sheet.cells matched ∙ ap length (sym (is ∙ selected-flat))

  pub selected-own : part.levels ≡ replicate (length part.sheet.cells) 0 → replicate (length (selected all lo hi part.sheet).cells) 0 ≡ kept_selected all lo hi part.sheet part.levels
  selected-own own =
      ap (λ n. replicate n 0) (ap length selected-flat) ∙ sym (handed-same (passing itself test) 0 part.sheet.cells)
      ∙ spread_kept test part.sheet.cells (replicate (length part.sheet.cells) 0) ∙ ap (kept_selected all lo hi part.sheet) (sym own)

-- ---- boundaries

filter-same : {X : Type 0} (p q : X → Bool) (xs : List X) → All (λ x. p x ≡ q x) xs → filter p xs ≡ filter q xs
filter-same p q [] h = refl
filter-same p q (x ∷ xs) h = ap₂ (λ b ys. cond b (x ∷ ys) ys) (All-head (λ x. p x ≡ q x) x xs h) (filter-same p q xs (All-tail (λ x. p x ≡ q x) x xs h))

module _ (part : PartSheetData) (valid : IsSheet part.sheet) where
  abbrev lone : Cell → List Cell
  lone = lone_facets is_same_name part.sheet.cells

  -- whether a facet is a lone one can be asked of it alone
  abbrev is_lone : Cell → Bool
  is_lone names = occurrences is_same_name part.sheet.cells (length names + 1) names == 1

  lone-is : All (λ c. passing facets_of is_lone c ≡ lone c) part.sheet.cells
  lone-is k d l =
      let c = get_or part.sheet.cells k d in
      filter-same is_lone (λ names. occurrences is_same_name part.sheet.cells (length c) names == 1) (facets_of c)
      (λ i e m. ap (λ n. occurrences is_same_name part.sheet.cells n (get_or (facets_of c) i e) == 1) (facets-size c (valid.each k d l).most i e m).fewer)

  pub facet-levels : (levels : List ℕ) (made : List Cell) → made ≡ (boundary_of part.sheet).cells → AreHandedOn facets_of part made levels
      → levels ≡ handed_on part.levels (counts (lone_facets is_same_name part.sheet.cells) part.sheet.cells)
  facet-levels levels made is h =
      h.each is_lone (is ∙ sym (flat-same (passing facets_of is_lone) lone part.sheet.cells lone-is))
      ∙ ap (handed_on part.levels) (counts-same (passing facets_of is_lone) lone part.sheet.cells lone-is)

  pub facet-count : (levels : List ℕ) (made : List Cell) → length part.levels ≡ length part.sheet.cells → made ≡ (boundary_of part.sheet).cells → AreHandedOn facets_of part made levels
      → length levels ≡ length made
  facet-count levels made matched is h =
      ap length (facet-levels levels made is h) ∙ length-handed_on lone part.levels part.sheet.cells matched ∙ ap length (sym is)

-- ---- the cells up to a level

module _ (ghosts : ℕ) where
  abbrev near : ℕ → Bool
  near l = nat_le l ghosts

  block-yes : {X : Type 0} (n l : ℕ) (ls : List ℕ) (xs ys : List X) → near l ≡ true → length xs ≡ n → near_items ghosts (replicate n l ++ ls) (xs ++ ys) ≡ xs ++ near_items ghosts ls ys
  block-yes zero l ls [] ys is e = refl
  block-yes zero l ls (x ∷ xs) ys is e = absurd (omega (arith, e))
  block-yes (suc n) l ls [] ys is e = absurd (omega (arith, e))
  block-yes (suc n) l ls (x ∷ xs) ys is e =
      ap (λ b. cond b (x ∷ near_items ghosts (replicate n l ++ ls) (xs ++ ys)) (near_items ghosts (replicate n l ++ ls) (xs ++ ys))) is
      ∙ ap (λ r. x ∷ r) (block-yes n l ls xs ys is (omega (arith, e)))

  block-no : {X : Type 0} (n l : ℕ) (ls : List ℕ) (xs ys : List X) → near l ≡ false → length xs ≡ n → near_items ghosts (replicate n l ++ ls) (xs ++ ys) ≡ near_items ghosts ls ys
  block-no zero l ls [] ys is e = refl
  block-no zero l ls (x ∷ xs) ys is e = absurd (omega (arith, e))
  block-no (suc n) l ls [] ys is e = absurd (omega (arith, e))
  block-no (suc n) l ls (x ∷ xs) ys is e =
      ap (λ b. cond b (x ∷ near_items ghosts (replicate n l ++ ls) (xs ++ ys)) (near_items ghosts (replicate n l ++ ls) (xs ++ ys))) is
      ∙ block-no n l ls xs ys is (omega (arith, e))

  -- made cells up to a level are made of the cells up to it
  pub near-flat : (f : Cell → List Cell) (ls : List ℕ) (cs : List Cell) → length ls ≡ length cs
      → near_items ghosts (handed_on ls (counts f cs)) (flat_map f cs) ≡ flat_map f (near_items ghosts ls cs)
  near-flat f [] [] e = refl
  near-flat f [] (c ∷ cs) e = absurd (omega (arith, e))
  near-flat f (l ∷ ls) [] e = absurd (omega (arith, e))
  near-flat f (l ∷ ls) (c ∷ cs) e = by_test (near l) refl (near-flat f ls cs (omega (arith, e)))
    where
      by_test : (b : Bool) → near l ≡ b → near_items ghosts (handed_on ls (counts f cs)) (flat_map f cs) ≡ flat_map f (near_items ghosts ls cs)
          → near_items ghosts (replicate (length (f c)) l ++ handed_on ls (counts f cs)) (f c ++ flat_map f cs) ≡ flat_map f (cond b (c ∷ near_items ghosts ls cs) (near_items ghosts ls cs))
      by_test true is h = block-yes (length (f c)) l (handed_on ls (counts f cs)) (f c) (flat_map f cs) is refl ∙ ap (λ r. f c ++ r) h
      by_test false is h = block-no (length (f c)) l (handed_on ls (counts f cs)) (f c) (flat_map f cs) is refl ∙ h

  -- and have their levels
  pub near-handed : (f : Cell → List Cell) (ls : List ℕ) (cs : List Cell) → length ls ≡ length cs
      → near_items ghosts (handed_on ls (counts f cs)) (handed_on ls (counts f cs)) ≡ handed_on (near_items ghosts ls ls) (counts f (near_items ghosts ls cs))
  near-handed f [] [] e = refl
  near-handed f [] (c ∷ cs) e = absurd (omega (arith, e))
  near-handed f (l ∷ ls) [] e = absurd (omega (arith, e))
  near-handed f (l ∷ ls) (c ∷ cs) e = by_test (near l) refl (near-handed f ls cs (omega (arith, e)))
    where
      rest : List ℕ
      rest = handed_on ls (counts f cs)

      by_test : (b : Bool) → near l ≡ b → near_items ghosts rest rest ≡ handed_on (near_items ghosts ls ls) (counts f (near_items ghosts ls cs))
          → near_items ghosts (replicate (length (f c)) l ++ rest) (replicate (length (f c)) l ++ rest)
          ≡ handed_on (cond b (l ∷ near_items ghosts ls ls) (near_items ghosts ls ls)) (counts f (cond b (c ∷ near_items ghosts ls cs) (near_items ghosts ls cs)))
      by_test true is h = block-yes (length (f c)) l rest (replicate (length (f c)) l) rest is (length-replicate (length (f c)) l) ∙ ap (λ r. replicate (length (f c)) l ++ r) h
      by_test false is h = block-no (length (f c)) l rest (replicate (length (f c)) l) rest is (length-replicate (length (f c)) l) ∙ h

-- names that keep their points among others that keep theirs
keep-on : (a b c : List (List ℕ)) (pa pb pc : List Point) → KeepPoints a pa b pb → KeepPoints b pb c pc → KeepPoints a pa c pc
keep-on a b c pa pb pc h j k d l =
    let x = h k d l in
    let y = j x.0 d x.1 in
    (y.0, y.1, x.2 ∙ y.2, x.3 ∙ y.3)

-- a part of a boundary, up to a level
pub boundary-near : (ghosts : ℕ) (part p : PartSheetData) (made : SheetData) (levels : List ℕ) → IsSheet part.sheet → length part.levels ≡ length part.sheet.cells
    → made ≡ boundary_of part.sheet → AreHandedOn facets_of part made.cells levels → IsNear ghosts made levels p → p ≡ boundary_part ghosts part
boundary-near ghosts part p made levels valid matched is handed n =
    let s = part.sheet in
    let g = lone_facets is_same_name s.cells in
    let cells_are : made.cells ≡ flat_map g s.cells = ap (λ (t : SheetData). t.cells) is in
    let levels_are = facet-levels part valid levels made.cells cells_are handed in
    let cells : p.sheet.cells ≡ flat_map g (near_items ghosts part.levels s.cells) =
    n.cells ∙ ap₂ (near_items ghosts) levels_are cells_are ∙ near-flat ghosts g part.levels s.cells matched in
    let bounds = boundary-sheet s valid in
    let points : KeepPoints p.sheet.names p.sheet.points s.names s.points =
    keep-on p.sheet.names made.names s.names p.sheet.points made.points s.points n.points
    (subst (λ (t : SheetData). KeepPoints t.names t.points s.names s.points) (sym is) bounds.points) in
    same-part p (boundary_part ghosts part)
    (made-is s p.sheet valid n.sheet_is points ∙ ap (with_cells s) cells)
    (n.levels_are ∙ ap₂ (near_items ghosts) levels_are levels_are ∙ near-handed ghosts g part.levels s.cells matched)

near-all : {X : Type 0} (ghosts : ℕ) (xs : List X) → near_items ghosts (replicate (length xs) 0) xs ≡ xs
near-all ghosts [] = refl
near-all {X = X} ghosts (x ∷ xs) =
    let rest : List X = near_items ghosts (replicate (length xs) 0) xs in
    ap (λ b. cond b (x ∷ rest) rest) (le-leb 0 ghosts (omega arith)) ∙ ap (λ r. x ∷ r) (near-all ghosts xs)

near-zeros : (ghosts n : ℕ) (zeros : List ℕ) → zeros ≡ replicate n 0 → near_items ghosts zeros zeros ≡ zeros
near-zeros ghosts n zeros e =
    ap (λ ls. near_items ghosts ls zeros) (e ∙ ap (λ k. replicate k 0) (sym (ap length e ∙ length-replicate n 0))) ∙ near-all ghosts zeros

-- all of it, where all cells are own
pub boundary-own : (ghosts : ℕ) (part p : PartSheetData) (made : SheetData) → part.levels ≡ replicate (length part.sheet.cells) 0 → made ≡ boundary_of part.sheet
    → p.sheet ≡ made → p.levels ≡ replicate (length made.cells) 0 → p ≡ boundary_part ghosts part
boundary-own ghosts part p made own is sheet levels =
    let s = part.sheet in
    let g = lone_facets is_same_name s.cells in
    let near : near_items ghosts part.levels s.cells ≡ s.cells = ap (λ ls. near_items ghosts ls s.cells) own ∙ near-all ghosts s.cells in
    let zeros : near_items ghosts part.levels part.levels ≡ replicate (length s.cells) 0 = near-zeros ghosts (length s.cells) part.levels own ∙ own in
    same-part p (boundary_part ghosts part)
    (sheet ∙ is ∙ ap (λ cs. with_cells s (flat_map g cs)) (sym near))
    (levels ∙ ap (λ (t : SheetData). replicate (length t.cells) 0) is ∙ sym (handed-same g 0 s.cells) ∙ ap₂ (λ a b. handed_on a (counts g b)) (sym zeros) (sym near))

-- ---- a piece without ghosts has its own cells

own-seen : (seen : List Seen) → ((s : Seen) (l : ℕ) → Contains seen s → s.level ≡ Some l → l ≤ 0) → own_items (cells_seen seen) (levels_seen seen) ≡ cells_seen seen
own-seen [] h = refl
own-seen (s ∷ seen) h = by_level s.level refl (own-seen seen (λ t l c. h t l (there s seen t c)))
  where
    by_level : (o : Option ℕ) → s.level ≡ o → own_items (cells_seen seen) (levels_seen seen) ≡ cells_seen seen
        → own_items (cell_if s.cell o ++ cells_seen seen) (level_if o ++ levels_seen seen) ≡ cell_if s.cell o ++ cells_seen seen
    by_level (Some zero) e r = ap (λ t. s.cell ∷ t) r
    by_level (Some (suc l)) e r = absurd (omega (arith, h s (suc l) (here s seen) e))
    by_level None e r = r

pub own-cells : (whole : SheetData) (own : List Bool) (part : PartSheetData) → IsSheetPart whole own 0 part → part.sheet.cells ≡ kept own whole.cells
own-cells whole own part h =
    let is = h.part_is in
    sym (ap₂ (λ cs ls. own_items cs ls) (sym is.cells) (sym is.levels) ∙ own-seen is.seen (λ s l c e. is.rule.most s l c e) ∙ is.cells)
    ∙ own_is whole own 0 part is

-- ---- sections

pub section-part-is : (f : Form) (part p : PartSheetData) (made : SheetData) → made ≡ section_of f part.sheet → p.sheet ≡ made → p.levels ≡ handed_section f part.sheet part.levels → p ≡ section_part f part
section-part-is f part p made is sheet levels = same-part p (section_part f part) (sheet ∙ is) levels

pub section-own : (f : Form) (part : PartSheetData) (made : SheetData) → part.levels ≡ replicate (length part.sheet.cells) 0 → made ≡ section_of f part.sheet
    → replicate (length made.cells) 0 ≡ handed_section f part.sheet part.levels
section-own f part made own is =
    ap (λ (t : SheetData). replicate (length t.cells) 0) is
    ∙ sym (handed-same (cells_in (λ n. is_inside_at f (point_of part.sheet n))) 0 part.sheet.cells)
    ∙ ap (handed_section f part.sheet) (sym own)

pub section-count : (f : Form) (part : PartSheetData) (made : SheetData) (levels : List ℕ) → length part.levels ≡ length part.sheet.cells → made ≡ section_of f part.sheet
    → levels ≡ handed_section f part.sheet part.levels → length levels ≡ length made.cells
section-count f part made levels matched is e =
    ap length e ∙ length-handed_on (cells_in (λ n. is_inside_at f (point_of part.sheet n))) part.levels part.sheet.cells matched ∙ ap (λ (t : SheetData). length t.cells) (sym is)

-- a cell by ranks has as many cells in it as by names
pub count-is : (f : Form) (s : SheetData) (ranks : List ℕ) (cell : Cell) (inside : List Bool) → IsSheet s → inside ≡ map (is_inside_at f) s.points → All (λ r. r < length s.names) ranks
    → names_at s.names ranks ≡ cell
    → length (cells_at (length ranks) (mask_of (λ r. get_or inside r false) ranks)) ≡ length (cells_in (λ n. is_inside_at f (point_of s n)) cell)
count-is f s ranks cell inside valid is below named =
    let g = λ (n : List ℕ). is_inside_at f (point_of s n) in
    let flags : map (λ r. get_or inside r false) ranks ≡ map g (names_at s.names ranks) =
    map-same (λ r. get_or inside r false) (λ r. g (get_or s.names r [])) ranks (λ k d l.
    let r = get_or ranks k d in
    ap (λ bs. get_or bs r false) is
    ∙ get_or-map (is_inside_at f) s.points r zero_point false (omega (arith, below k d l, valid.matched))
    ∙ ap (is_inside_at f) (sym (point-at s r zero_point valid.ascending valid.matched (below k d l))))
    ∙ sym (map-twice g (λ r. get_or s.names r []) ranks) in
    ap₂ (λ n bs. length (cells_at n (bits_of bs))) (sym (length-map ranks (λ r. get_or s.names r []))) flags
    ∙ ap (λ (c : Cell). length (cells_at (length c) (mask_of g c))) named
    ∙ sym (length-map (cells_at (length cell) (mask_of g cell)) (map (end_name cell)))

-- one cell's section more
pub section-next : (f : Form) (part : PartSheetData) (s : SheetData) (i count level : ℕ) (ranks : List ℕ) (inside : List Bool) (old new : List ℕ)
    → s ≡ part.sheet → length part.levels ≡ length part.sheet.cells → IsSheet s → inside ≡ map (is_inside_at f) s.points → i < length s.cells
    → names_at s.names ranks ≡ get_or s.cells i [] → All (λ r. r < length s.names) ranks
    → count ≡ length (cells_at (length ranks) (mask_of (λ r. get_or inside r false) ranks)) → level ≡ get_or part.levels i 0
    → old ≡ handed_on (take i part.levels) (counts (cells_in (λ n. is_inside_at f (point_of part.sheet n))) (take i part.sheet.cells))
    → new ≡ old ++ replicate count level
    → new ≡ handed_on (take (i + 1) part.levels) (counts (cells_in (λ n. is_inside_at f (point_of part.sheet n))) (take (i + 1) part.sheet.cells))
section-next f part s i count level ranks inside old new e matched valid is l named below many at so_far more =
    let cell = get_or part.sheet.cells i [] in
    let here : i < length part.sheet.cells = omega (arith, l, ap (λ (t : SheetData). length t.cells) e) in
    let same : names_at part.sheet.names ranks ≡ cell =
    ap (λ (t : SheetData). names_at t.names ranks) (sym e) ∙ named ∙ ap (λ (t : SheetData). get_or t.cells i []) e in
    let made : count ≡ length (cells_in (λ n. is_inside_at f (point_of part.sheet n)) cell) =
    many
    ∙ count-is f part.sheet ranks cell inside (subst IsSheet e valid) (is ∙ ap (λ (t : SheetData). map (is_inside_at f) t.points) e)
    (subst (λ (t : SheetData). All (λ r. r < length t.names) ranks) e below) same in
    more ∙ ap₂ (λ a b. a ++ replicate count b) so_far at
    ∙ sym (handed-more (cells_in (λ n. is_inside_at f (point_of part.sheet n))) part.levels part.sheet.cells i count matched here made)

-- ---- the cells of a sheet up to a level

pub kept-lengths : {X Y : Type 0} (ms : List Bool) (xs : List X) (ys : List Y) → length xs ≡ length ys → length (kept ms xs) ≡ length (kept ms ys)
kept-lengths [] xs ys e = refl
kept-lengths (m ∷ ms) [] [] e = refl
kept-lengths (m ∷ ms) [] (y ∷ ys) e = absurd (omega (arith, e))
kept-lengths (m ∷ ms) (x ∷ xs) [] e = absurd (omega (arith, e))
kept-lengths (true ∷ ms) (x ∷ xs) (y ∷ ys) e = ap suc (kept-lengths ms xs ys (omega (arith, e)))
kept-lengths (false ∷ ms) (x ∷ xs) (y ∷ ys) e = kept-lengths ms xs ys (omega (arith, e))

pub near-count : (ghosts : ℕ) (s cut : SheetData) (part : PartSheetData) (levels left : List ℕ) (near : List Bool) → length levels ≡ length s.cells → near ≡ map (λ l. nat_le l ghosts) levels
    → left ≡ kept near levels → IsGrownPart s near 0 part → cut ≡ part.sheet → length left ≡ length cut.cells
near-count ghosts s cut part levels left near matched is kept_is grown e =
    ap length kept_is ∙ kept-lengths near levels s.cells matched ∙ ap length (sym (own-cells s near part grown.part_is)) ∙ ap (λ (t : SheetData). length t.cells) (sym e)

pub near-made : (ghosts : ℕ) (s cut : SheetData) (part p : PartSheetData) (levels left : List ℕ) (near : List Bool) → near ≡ map (λ l. nat_le l ghosts) levels
    → left ≡ kept near levels → IsGrownPart s near 0 part → cut ≡ part.sheet → p.sheet ≡ cut → p.levels ≡ left → IsNear ghosts s levels p
near-made ghosts s cut part p levels left near is kept_is grown e sheet levels_are =
    let h = grown.part_is in
    let from : part.sheet ≡ p.sheet = sym e ∙ sym sheet in
    record {
      sheet_is = subst IsSheet from h.sheet_is;
      cells = ap (λ (t : SheetData). t.cells) (sym from) ∙ own-cells s near part h ∙ ap (λ ms. kept ms s.cells) is;
      points = subst (λ (t : SheetData). KeepPoints t.names t.points s.names s.points) from h.part_is.points;
      levels_are = levels_are ∙ kept_is ∙ ap (λ ms. kept ms levels) is;
    }
