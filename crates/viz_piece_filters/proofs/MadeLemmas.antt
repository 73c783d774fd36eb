-- What is made of a part, cell by cell, is a part of what is made of the whole.
use Rattle.std.proofs.Common.{◌≡◌, ℕ, Bool, ⊎_elim, Option, Some, None, List, [], ◌∷◌, ◌++◌, length, get_or, map, refl, sym, ap, ap₂, subst, ◌∙◌}
use Rattle.std.specs.List.{Contains, flat_map}
use Rattle.std.proofs.lemmas.List.{get_or-map, get_or_default}
use Rattle.std.proofs.lemmas.List.Elements.{Contains-get_or}
use Rattle.viz_fraction.specs.Points.{Point}
use Rattle.viz_meaning.specs.Names.{names_of}
use Rattle.viz_meaning.specs.Section.{point_of, zero_point}
use Rattle.viz_meaning.proofs.NameSets.{in-each_once, of-each_once}
use Rattle.viz_mesh_meaning.proofs.CellLemmas.{point-at}
use Rattle.viz_parts.specs.Parts.{PartSheetData}
use Rattle.viz_sheet.specs.Sheet.{SheetData, IsSheet, KeepPoints}
use Rattle.viz_sheet.proofs.MemberLemmas.{here, there, member_cases}
use Rattle.viz_mesh_meaning.specs.Cells.{Cell}
use Rattle.viz_piece_filters.specs.Names.{Name}
use Rattle.viz_parts.specs.Seen.{Seen, cell_if, cells_seen, whole_seen}
use Rattle.viz_parts.specs.Pieces.{IsPartOf}
use Rattle.viz_piece_filters.specs.HandedOn.{counts, handed_on}
use Rattle.viz_piece_filters.specs.Made.{AgreeOn, HaveParents, MadeKeepParts}
use Rattle.viz_piece_filters.proofs.PartLemmas.{cells_through, from_flat_map, into_flat_map, levels_handed, own_handed, part_through, through, whole_through}

-- ---- filters that agree

flat_map_same : (f g : Cell → List Cell) (xs : List Cell) → ((x : Cell) → Contains xs x → g x ≡ f x) → flat_map f xs ≡ flat_map g xs
flat_map_same f g [] h = refl
flat_map_same f g (x ∷ xs) h = ap₂ (λ a b. a ++ b) (sym (h x (here x xs))) (flat_map_same f g xs (λ y c. h y (there x xs y c)))

counts_same : (f g : Cell → List Cell) (xs : List Cell) → ((x : Cell) → Contains xs x → g x ≡ f x) → counts f xs ≡ counts g xs
counts_same f g [] h = refl
counts_same f g (x ∷ xs) h = ap₂ (λ a b. length a ∷ b) (sym (h x (here x xs))) (counts_same f g xs (λ y c. h y (there x xs y c)))

-- ---- cells and names of a part

one_there : (c : Cell) (s : Seen) (rest : List Seen) → ((d : Cell) → Contains (cells_seen rest) d → Contains (whole_seen rest) d) → (l : Option ℕ) → Contains (cell_if s.cell l ++ cells_seen rest) c → Contains (s.cell ∷ whole_seen rest) c
one_there c s rest h (Some l) m =
    ⊎_elim (λ e. subst (Contains (s.cell ∷ whole_seen rest)) e (here s.cell (whole_seen rest))) (λ d. there s.cell (whole_seen rest) c (h c d))
    (member_cases s.cell (cells_seen rest) c m)
one_there c s rest h None m = there s.cell (whole_seen rest) c (h c m)

-- the cells of a part are cells of the whole
cells_there : (seen : List Seen) (c : Cell) → Contains (cells_seen seen) c → Contains (whole_seen seen) c
cells_there [] c m = m
cells_there (s ∷ seen) c m = one_there c s seen (cells_there seen) s.level m

pub in_whole : (whole : SheetData) (own : List Bool) (ghosts : ℕ) (part : PartSheetData) → IsPartOf whole own ghosts part → (c : Cell) → Contains part.sheet.cells c → Contains whole.cells c
in_whole whole own ghosts part is c m =
    subst (λ cs. Contains cs c) is.covered (cells_there is.seen c (subst (λ cs. Contains cs c) (sym is.cells) m))

-- a name of a cell of a sheet is one of the sheet's
pub cell_name : (s : SheetData) → IsSheet s → (c : Cell) (n : Name) → Contains s.cells c → Contains c n → Contains s.names n
cell_name s h c n i j = (h.used n).1 (into_flat_map (λ cell. cell) s.cells c n i j)

-- a name that a part has has the same point there as in the whole
pub same_point : (w s : SheetData) → IsSheet w → IsSheet s → KeepPoints s.names s.points w.names w.points → (n : Name) → Contains s.names n → point_of s n ≡ point_of w n
same_point w s hw hs keep n c =
    let at : get_or s.names c.0 [] ≡ n = get_or_default s.names c.0 [] n c.1 ∙ c.2 in
    let from = keep c.0 zero_point c.1 in
    ap (point_of s) (sym at) ∙ point-at s c.0 zero_point hs.ascending hs.matched c.1
    ∙ from.3 ∙ sym (point-at w from.0 zero_point hw.ascending hw.matched from.1) ∙ ap (point_of w) (sym from.2 ∙ at)

-- names that are among others, with the same points
keep_mapped : (q p : Name → Point) (ns ms : List Name) → ((n : Name) → Contains ns n → Contains ms n × (q n ≡ p n)) → KeepPoints ns (map q ns) ms (map p ms)
keep_mapped q p ns ms h k d l =
    let n = get_or ns k [] in
    let one = h n (Contains-get_or ns k [] l) in
    let at = one.0 in
    let is : get_or ns k [] ≡ get_or ms at.0 [] = sym at.2 ∙ get_or_default ms at.0 n [] at.1 in
    (at.0, at.1, is, get_or-map q ns k [] d l ∙ one.1 ∙ ap p is ∙ sym (get_or-map p ms at.0 [] d at.1))

-- ---- the law

made_points : (f g : Cell → List Cell) (p q : Name → Point) (some all : List Cell) → ((c : Cell) → Contains some c → Contains all c) → AgreeOn some f g p q
    → KeepPoints (names_of (flat_map g some)) (map q (names_of (flat_map g some))) (names_of (flat_map f all)) (map p (names_of (flat_map f all)))
made_points f g p q some all among a =
    keep_mapped q p (names_of (flat_map g some)) (names_of (flat_map f all)) (λ n m.
    let x = from_flat_map (λ (cell : Cell). cell) (flat_map g some) n (of-each_once (flat_map (λ cell. cell) (flat_map g some)) n m) in
    let c = from_flat_map g some x.0 x.1 in
    let made : Contains (f c.0) x.0 = subst (λ l. Contains l x.0) (a.cells c.0 c.1) c.2 in (
      in-each_once (flat_map (λ cell. cell) (flat_map f all)) n
          (into_flat_map (λ (cell : Cell). cell) (flat_map f all) x.0 n (into_flat_map f all c.0 x.0 (among c.0 c.1) made) x.2),
      a.points c.0 x.0 n c.1 made x.2,
    ))

pub made_keep : MadeKeepParts
made_keep f g p q parent whole own ghosts part h a is = record {
  seen = through f is.seen;
  covered = whole_through f is.seen ∙ ap (flat_map f) is.covered;
  owned = own_handed f is.seen ∙ ap₂ (λ os cs. handed_on os (counts f cs)) is.owned is.covered;
  rule = part_through f parent ghosts is.seen (subst (HaveParents f parent) (sym is.covered) h) is.rule;
  cells = cells_through f is.seen ∙ ap (flat_map f) is.cells ∙ flat_map_same f g part.sheet.cells a.cells;
  levels =
      levels_handed f is.seen ∙ ap₂ (λ ls cs. handed_on ls (counts f cs)) is.levels is.cells
      ∙ ap (handed_on part.levels) (counts_same f g part.sheet.cells a.cells);
  points = made_points f g p q part.sheet.cells whole.cells (in_whole whole own ghosts part is) a;
}
