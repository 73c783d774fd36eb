-- The own cells of all pieces of a sheet, with their points, are the sheet.
use Rattle.std.proofs.Common.{◌≡◌, ℕ, zero, suc, ◌+◌, ◌<◌, ◌≤◌, Bool, true, false, Option, Some, None, ◌==◌, if◌then◌else◌, get_or, List, [], ◌∷◌, ◌++◌, length, map, append-nil, refl, sym, ap, ap₂, subst, ◌∙◌, arith}
use Rattle.std.specs.List.{Contains, flat_map, range_with_len}
use Rattle.std.proofs.lemmas.Option.{none-some, same_Some}
use Rattle.std.proofs.lemmas.List.{same_lists, get_or-map, length-map, map-append, get_or_default}
use Rattle.std.proofs.lemmas.List.FromFn.{length-range_with_len, get_or-range_with_len}
use Rattle.viz_fraction.specs.Points.{Point}
use Rattle.viz_parts.specs.Parts.{PartSheetData}
use Rattle.viz_parts.specs.Pieces.{AreAll, IsPartOf, IsSheetPart}
use Rattle.viz_parts.specs.Seen.{Seen, cell_if, cells_seen, level_if, levels_seen, owned_seen, whole_seen}
use Rattle.viz_parts.specs.Stitching.{own_items}
use Rattle.viz_sheet.specs.Kept.{kept}
use Rattle.viz_sheet.specs.Ranked.{rank_of}
use Rattle.viz_sheet.specs.Sheet.{SheetData, IsSheet, KeepPoints}
use Rattle.viz_sheet.proofs.MemberLemmas.{here, there}
use Rattle.viz_sheet.proofs.RankLemmas.{rank-at}
use Rattle.viz_sheet.proofs.SheetLemmas.{same_names}
use Rattle.viz_piece_stitch.specs.Steps.Joining.{HavePoints}

-- ---- the cells of level 0 are the own ones

zero_is : (l : ℕ) (o : Bool) → (Some l ≡ Some 0 → o ≡ true) → (o ≡ true → Some l ≡ Some 0) → (l == 0) ≡ o
zero_is zero o f g = sym (f refl)
zero_is (suc l) true f g = absurd (omega (arith, same_Some (suc l) 0 (g refl)))
zero_is (suc l) false f g = grind arith

none_is : (o : Bool) → (o ≡ true → ◌≡◌ {A = Option ℕ} None (Some 0)) → o ≡ false
none_is true g = absurd (none-some 0 (g refl))
none_is false g = refl

own_level : (seen : List Seen) → ((s : Seen) → Contains seen s → (s.level ≡ Some 0 → s.own ≡ true) × (s.own ≡ true → s.level ≡ Some 0)) → own_items (cells_seen seen) (levels_seen seen) ≡ kept (owned_seen seen) (whole_seen seen)
own_level [] h = refl
own_level (s ∷ seen) h = by_level s.level refl (own_level seen (λ t c. h t (there s seen t c)))
  where
    rest : List (List (List ℕ))
    rest = kept (owned_seen seen) (whole_seen seen)

    by_level : (l : Option ℕ) → s.level ≡ l → own_items (cells_seen seen) (levels_seen seen) ≡ rest
        → own_items (cell_if s.cell l ++ cells_seen seen) (level_if l ++ levels_seen seen) ≡ (if s.own then s.cell ∷ rest else rest)
    by_level (Some l) e r =
        let o = h s (here s seen) in
        ap₂ (λ b t. if b then s.cell ∷ t else t) (zero_is l s.own (λ q. o.0 (e ∙ q)) (λ q. sym e ∙ o.1 q)) r
    by_level None e r =
        let o = h s (here s seen) in
        r ∙ sym (ap (λ b. if b then s.cell ∷ rest else rest) (none_is s.own (λ q. sym e ∙ o.1 q)))

-- the own cells of a part
pub own_is : (whole : SheetData) (own : List Bool) (ghosts : ℕ) (part : PartSheetData) → IsPartOf whole own ghosts part → own_items part.sheet.cells part.levels ≡ kept own whole.cells
own_is whole own ghosts part p =
    ap₂ (λ cs ls. own_items cs ls) (sym p.cells) (sym p.levels) ∙ own_level p.seen p.rule.own ∙ ap₂ (λ os cs. kept os cs) p.owned p.covered

-- ---- all positions are all items

kept-map : {X Y : Type 0} (f : X → Y) (marks : List Bool) (xs : List X) → kept marks (map f xs) ≡ map f (kept marks xs)
kept-map f [] xs = refl
kept-map f (b ∷ bs) [] = refl
kept-map f (true ∷ bs) (x ∷ xs) = ap (λ r. f x ∷ r) (kept-map f bs xs)
kept-map f (false ∷ bs) (x ∷ xs) = kept-map f bs xs

all-map : {X Y : Type 0} (f : X → Y) (owns : List (List Bool)) (xs : List X) → flat_map (λ own. kept own (map f xs)) owns ≡ map f (flat_map (λ own. kept own xs) owns)
all-map f [] xs = refl
all-map f (own ∷ owns) xs = ap₂ (λ a b. a ++ b) (kept-map f own xs) (all-map f owns xs) ∙ sym (map-append f (kept own xs) (flat_map (λ o. kept o xs) owns))

-- a list by its places
pub by_place : {X : Type 0} (z : X) (xs : List X) → map (λ i. get_or xs i z) (range_with_len 0 (length xs)) ≡ xs
by_place z xs =
    same_lists (map (λ i. get_or xs i z) (range_with_len 0 (length xs))) xs (length-map (range_with_len 0 (length xs)) (λ i. get_or xs i z) ∙ length-range_with_len 0 (length xs))
    (λ k d l. let b : k < length xs = omega (arith, l, length-map (range_with_len 0 (length xs)) (λ i. get_or xs i z), length-range_with_len 0 (length xs)) in
    get_or-map (λ i. get_or xs i z) (range_with_len 0 (length xs)) k 0 d (omega (arith, b, length-range_with_len 0 (length xs)))
    ∙ ap (λ i. get_or xs i z) {y = k} (get_or-range_with_len 0 (length xs) k 0 b ∙ omega arith)
    ∙ get_or_default xs k z d b)

pub all_items : {X : Type 0} (z : X) (xs : List X) (owns : List (List Bool)) → AreAll (length xs) owns → flat_map (λ own. kept own xs) owns ≡ xs
all_items z xs owns h =
    let at = λ (i : ℕ). get_or xs i z in
    ap (λ cs. flat_map (λ own. kept own cs) owns) (sym (by_place z xs)) ∙ all-map at owns (range_with_len 0 (length xs)) ∙ ap (map at) h ∙ by_place z xs

-- ---- lists over ranges

flat-map : {X Y Z : Type 0} (f : Y → List Z) (g : X → Y) (xs : List X) → flat_map f (map g xs) ≡ flat_map (λ x. f (g x)) xs
flat-map f g [] = refl
flat-map f g (x ∷ xs) = ap (λ t. f (g x) ++ t) (flat-map f g xs)

flat-same : {X : Type 0} (f g : ℕ → List X) (from n : ℕ) → ((p : ℕ) → p < from + n → f p ≡ g p) → flat_map f (range_with_len from n) ≡ flat_map g (range_with_len from n)
flat-same f g from zero h = refl
flat-same f g from (suc n) h = ap₂ (λ a b. a ++ b) (h from (omega arith)) (flat-same f g (from + 1) n (λ p l. h p (omega (arith, l))))

-- a part without cells, where an item of a list is asked for that may not be there
pub no_part : PartSheetData
no_part = record { sheet = record { names = []; points = []; cells = [] }; levels = [] }

-- the own cells of all pieces are the cells of the whole
pub all_own : (whole : SheetData) (owns : ℕ → List Bool) (ghosts : ℕ → ℕ) (parts : List PartSheetData) → AreAll (length whole.cells) (map owns (range_with_len 0 (length parts)))
    → ((p : ℕ) (d : PartSheetData) → p < length parts → IsSheetPart whole (owns p) (ghosts p) (get_or parts p d))
    → flat_map (λ p. own_items p.sheet.cells p.levels) parts ≡ whole.cells
all_own whole owns ghosts parts all each =
    let own = λ (p : PartSheetData). own_items p.sheet.cells p.levels in
    let n = length parts in
    ap (flat_map own) (sym (by_place no_part parts))
    ∙ flat-map own (λ i. get_or parts i no_part) (range_with_len 0 n)
    ∙ flat-same (λ i. own (get_or parts i no_part)) (λ i. kept (owns i) whole.cells) 0 n
    (λ p l. let b : p < n = omega (arith, l) in own_is whole (owns p) (ghosts p) (get_or parts p no_part) (each p no_part b).part_is)
    ∙ sym (flat-map (λ own. kept own whole.cells) owns (range_with_len 0 n))
    ∙ all_items [] whole.cells (map owns (range_with_len 0 n)) all

-- ---- sheets of the same cells

-- each point of one stands in the other
abbrev pub PointsOf : SheetData → SheetData → Type 0
PointsOf s whole = (k : ℕ) (d : Point) → k < length s.names → (r : ℕ) × (r < length whole.names) × (get_or s.names k [] ≡ get_or whole.names r []) × (get_or s.points k d ≡ get_or whole.points r d)

module _ (s whole : SheetData) (v : IsSheet s) (w : IsSheet whole) (cells : s.cells ≡ whole.cells) (from : PointsOf s whole) where
  names : s.names ≡ whole.names
  names = same_names s whole v w cells

  point_same : (k : ℕ) (d : Point) → k < length s.points → get_or s.points k d ≡ get_or whole.points k d
  point_same k d l =
      let b : k < length s.names = omega (arith, l, v.matched) in
      let q = from k d b in
      let bw : k < length whole.names = omega (arith, b, ap length names) in
      let name : get_or whole.names k [] ≡ get_or whole.names q.0 [] = ap (λ ns. get_or ns k []) (sym names) ∙ q.2 in
      let place : k ≡ q.0 = sym (rank-at whole.names k w.ascending bw) ∙ ap (rank_of whole.names) name ∙ rank-at whole.names q.0 w.ascending q.1 in
      q.3 ∙ ap (λ i. get_or whole.points i d) (sym place)

  points : s.points ≡ whole.points
  points = same_lists s.points whole.points (v.matched ∙ ap length names ∙ sym w.matched) point_same

  pub same_sheet : s ≡ whole
  same_sheet = λ i. record { names = names i; points = points i; cells = cells i }

-- points from parts are the whole's
points_of : (whole s : SheetData) (owns : ℕ → List Bool) (ghosts : ℕ → ℕ) (parts : List PartSheetData)
    → ((p : ℕ) (d : PartSheetData) → p < length parts → IsSheetPart whole (owns p) (ghosts p) (get_or parts p d)) → HavePoints parts s → PointsOf s whole
points_of whole s owns ghosts parts each have k d l =
    let h = have k d l in
    let at : get_or parts h.1.0 h.0 ≡ h.0 = h.1.2 in
    let part = each h.1.0 h.0 h.1.1 in
    let keep : KeepPoints h.0.sheet.names h.0.sheet.points whole.names whole.points =
    subst (λ (p : PartSheetData). KeepPoints p.sheet.names p.sheet.points whole.names whole.points) at part.part_is.points in
    let q = keep h.2 d h.3 in
    (q.0, q.1, h.4 ∙ q.2, h.5 ∙ q.3)

-- what is joined of all pieces is the whole
pub joined_is_whole : (whole s : SheetData) (owns : ℕ → List Bool) (ghosts : ℕ → ℕ) (parts : List PartSheetData) → IsSheet whole → IsSheet s
    → AreAll (length whole.cells) (map owns (range_with_len 0 (length parts)))
    → ((p : ℕ) (d : PartSheetData) → p < length parts → IsSheetPart whole (owns p) (ghosts p) (get_or parts p d))
    → s.cells ≡ flat_map (λ p. own_items p.sheet.cells p.levels) parts → HavePoints parts s → s ≡ whole
joined_is_whole whole s owns ghosts parts w v all each cells have =
    same_sheet s whole v w (cells ∙ all_own whole owns ghosts parts all each) (points_of whole s owns ghosts parts each have)

-- ---- the only piece

kept_fewer : {X : Type 0} (own : List Bool) (xs : List X) → length (kept own xs) ≤ length xs
kept_fewer [] xs = omega arith
kept_fewer (o ∷ os) [] = omega arith
kept_fewer (true ∷ os) (x ∷ xs) = omega (arith, kept_fewer os xs)
kept_fewer (false ∷ os) (x ∷ xs) = omega (arith, kept_fewer os xs)

-- with all cells its own, it has all
all_there : (seen : List Seen) → ((s : Seen) → Contains seen s → (s.own ≡ true → s.level ≡ Some 0)) → length (kept (owned_seen seen) (whole_seen seen)) ≡ length (whole_seen seen) → cells_seen seen ≡ whole_seen seen
all_there [] h e = refl
all_there (s ∷ seen) h e = by_own s.own refl (λ f. all_there seen (λ t c. h t (there s seen t c)) f) e
  where
    by_own : (o : Bool) → s.own ≡ o → (length (kept (owned_seen seen) (whole_seen seen)) ≡ length (whole_seen seen) → cells_seen seen ≡ whole_seen seen)
        → length (if o then s.cell ∷ kept (owned_seen seen) (whole_seen seen) else kept (owned_seen seen) (whole_seen seen)) ≡ length (s.cell ∷ whole_seen seen)
        → cell_if s.cell s.level ++ cells_seen seen ≡ s.cell ∷ whole_seen seen
    by_own true is rest f = ap (λ l. cell_if s.cell l ++ cells_seen seen) (h s (here s seen) is) ∙ ap (λ t. s.cell ∷ t) (rest (omega (arith, f)))
    by_own false is rest f = absurd (omega (arith, f, kept_fewer (owned_seen seen) (whole_seen seen)))

-- the sheet of the only piece is the whole
pub only_is_whole : (whole : SheetData) (own : List Bool) (ghosts : ℕ) (part : PartSheetData) → IsSheetPart whole own ghosts part → AreAll (length whole.cells) (own ∷ []) → part.sheet ≡ whole
only_is_whole whole own ghosts part h all =
    let p = h.part_is in
    let every : kept own whole.cells ≡ whole.cells = sym (append-nil (kept own whole.cells)) ∙ all_items [] whole.cells (own ∷ []) all in
    let counted : length (kept (owned_seen p.seen) (whole_seen p.seen)) ≡ length (whole_seen p.seen) =
    ap₂ (λ os cs. length (kept os cs)) p.owned p.covered ∙ ap length every ∙ ap length (sym p.covered) in
    let cells : part.sheet.cells ≡ whole.cells = sym p.cells ∙ all_there p.seen (λ s c. (p.rule.own s c).1) counted ∙ p.covered in
    same_sheet part.sheet whole h.sheet_is h.whole_is cells p.points
