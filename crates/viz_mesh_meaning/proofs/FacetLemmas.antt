-- Facets of cells of up to four names: what names they have, and that their names differ.
use Rattle.std.proofs.Common.{◌≡◌, ◌≢◌, ◌+◌, ◌≤◌, List, [], ◌∷◌, length, map, refl, sym, arith}
use Rattle.std.specs.List.{All, Contains, flat_map}
use Rattle.std.proofs.lemmas.List.Elements.{All-contains_itself, All-nil, All-cons, All-filter}
use Rattle.viz_sheet.specs.Sheet.{SheetData, AreApart, IsNamedCell, IsSheet}
use Rattle.viz_meaning.proofs.SectionLemmas.{all-cells}
use Rattle.viz_mesh_meaning.specs.Cells.{Cell}
use Rattle.viz_mesh_meaning.specs.Facets.{boundary_of, facets_of, is_same_name, lone_facets}
use Rattle.viz_mesh_meaning.specs.Laws.{IsFacetOf, IsMadeOf}
use Rattle.viz_mesh_meaning.proofs.CellLemmas.{cells-made, of-names}

-- ---- the table

pub two-facets : {X : Type 0} (a b : X) → facets_of (a ∷ b ∷ []) ≡ (b ∷ []) ∷ (a ∷ []) ∷ []
two-facets a b = refl

pub three-facets : {X : Type 0} (a b c : X) → facets_of (a ∷ b ∷ c ∷ []) ≡ (b ∷ c ∷ []) ∷ (c ∷ a ∷ []) ∷ (a ∷ b ∷ []) ∷ []
three-facets a b c = refl

pub four-facets : {X : Type 0} (a b c d : X) → facets_of (a ∷ b ∷ c ∷ d ∷ []) ≡ (b ∷ c ∷ d ∷ []) ∷ (c ∷ a ∷ d ∷ []) ∷ (a ∷ b ∷ d ∷ []) ∷ (b ∷ a ∷ c ∷ []) ∷ []
four-facets a b c d = refl

-- ---- what holds of few items

pub all-one : {X : Type 0} (P : X → Type 0) (a : X) → P a → All P (a ∷ [])
all-one P a p = All-cons P a [] p (All-nil P)

pub all-two : {X : Type 0} (P : X → Type 0) (a b : X) → P a → P b → All P (a ∷ b ∷ [])
all-two P a b p q = All-cons P a (b ∷ []) p (all-one P b q)

pub all-three : {X : Type 0} (P : X → Type 0) (a b c : X) → P a → P b → P c → All P (a ∷ b ∷ c ∷ [])
all-three P a b c p q r = All-cons P a (b ∷ c ∷ []) p (all-two P b c q r)

pub all-four : {X : Type 0} (P : X → Type 0) (a b c d : X) → P a → P b → P c → P d → All P (a ∷ b ∷ c ∷ d ∷ [])
all-four P a b c d p q r s = All-cons P a (b ∷ c ∷ d ∷ []) p (all-three P b c d q r s)

-- ---- names

-- what holds of all names of a cell holds of all names of its facets
pub facets-all : {X : Type 0} (P : X → Type 0) (cell : List X) → length cell ≤ 4 → All P cell → All (All P) (facets_of cell)
facets-all P [] l h = All-nil (All P)
facets-all P (a ∷ []) l h = All-nil (All P)
facets-all P (a ∷ b ∷ []) l h =
    all-two (All P) (b ∷ []) (a ∷ []) (all-one P b (h 1 b (omega arith))) (all-one P a (h 0 a (omega arith)))
facets-all P (a ∷ b ∷ c ∷ []) l h =
    let pa = h 0 a (omega arith) in
    let pb = h 1 b (omega arith) in
    let pc = h 2 c (omega arith) in
    all-three (All P) (b ∷ c ∷ []) (c ∷ a ∷ []) (a ∷ b ∷ []) (all-two P b c pb pc) (all-two P c a pc pa) (all-two P a b pa pb)
facets-all P (a ∷ b ∷ c ∷ d ∷ []) l h =
    let pa = h 0 a (omega arith) in
    let pb = h 1 b (omega arith) in
    let pc = h 2 c (omega arith) in
    let pd = h 3 d (omega arith) in
    all-four (All P) (b ∷ c ∷ d ∷ []) (c ∷ a ∷ d ∷ []) (a ∷ b ∷ d ∷ []) (b ∷ a ∷ c ∷ [])
    (all-three P b c d pb pc pd) (all-three P c a d pc pa pd) (all-three P a b d pa pb pd) (all-three P b a c pb pa pc)
facets-all P (a ∷ b ∷ c ∷ d ∷ e ∷ rest) l h = absurd (omega arith)

-- ---- different names

turned : {X : Type 0} (x y : X) → x ≢ y → y ≢ x
turned x y h e = h (sym e)

pub apart-one : {X : Type 0} (a : X) → AreApart (a ∷ [])
apart-one a = (All-nil (λ y. a ≢ y), tt)

pub apart-two : {X : Type 0} (a b : X) → a ≢ b → AreApart (a ∷ b ∷ [])
apart-two a b h = (all-one (λ y. a ≢ y) b h, apart-one b)

pub apart-three : {X : Type 0} (a b c : X) → a ≢ b → a ≢ c → b ≢ c → AreApart (a ∷ b ∷ c ∷ [])
apart-three a b c h k l = (all-two (λ y. a ≢ y) b c h k, apart-two b c l)

pub facets-apart : {X : Type 0} (cell : List X) → length cell ≤ 4 → AreApart cell → All AreApart (facets_of cell)
facets-apart [] l h = All-nil AreApart
facets-apart (a ∷ []) l h = All-nil AreApart
facets-apart (a ∷ b ∷ []) l h = all-two AreApart (b ∷ []) (a ∷ []) (apart-one b) (apart-one a)
facets-apart (a ∷ b ∷ c ∷ []) l h =
    let ab = h.0 0 b (omega arith) in
    let ac = h.0 1 c (omega arith) in
    let bc = h.1.0 0 c (omega arith) in
    all-three AreApart (b ∷ c ∷ []) (c ∷ a ∷ []) (a ∷ b ∷ []) (apart-two b c bc) (apart-two c a (turned a c ac)) (apart-two a b ab)
facets-apart (a ∷ b ∷ c ∷ d ∷ []) l h =
    let ab = h.0 0 b (omega arith) in
    let ac = h.0 1 c (omega arith) in
    let ad = h.0 2 d (omega arith) in
    let bc = h.1.0 0 c (omega arith) in
    let bd = h.1.0 1 d (omega arith) in
    let cd = h.1.1.0 0 d (omega arith) in
    all-four AreApart (b ∷ c ∷ d ∷ []) (c ∷ a ∷ d ∷ []) (a ∷ b ∷ d ∷ []) (b ∷ a ∷ c ∷ [])
    (apart-three b c d bc bd cd) (apart-three c a d (turned a c ac) cd ad) (apart-three a b d ab ad bd) (apart-three b a c (turned a b ab) bc ac)
facets-apart (a ∷ b ∷ c ∷ d ∷ e ∷ rest) l h = absurd (omega arith)

-- ---- sizes

-- a facet has one name fewer than its cell, and one at least
pub record IsFacetSize {X : Type 0} (cell facet : List X) : Type 0 where
  pub some : 1 ≤ length facet
  pub most : length facet ≤ 3
  pub fewer : length facet + 1 ≡ length cell

pub facets-size : {X : Type 0} (cell : List X) → length cell ≤ 4 → All (IsFacetSize cell) (facets_of cell)
facets-size [] l = All-nil (IsFacetSize [])
facets-size (a ∷ []) l = All-nil (IsFacetSize (a ∷ []))
facets-size (a ∷ b ∷ []) l =
    let P = IsFacetSize (a ∷ b ∷ []) in
    all-two P (b ∷ []) (a ∷ []) (record { some = omega arith; most = omega arith; fewer = omega arith }) (record { some = omega arith; most = omega arith; fewer = omega arith })
facets-size (a ∷ b ∷ c ∷ []) l =
    let P = IsFacetSize (a ∷ b ∷ c ∷ []) in
    all-three P (b ∷ c ∷ []) (c ∷ a ∷ []) (a ∷ b ∷ [])
    (record { some = omega arith; most = omega arith; fewer = omega arith }) (record { some = omega arith; most = omega arith; fewer = omega arith })
    (record { some = omega arith; most = omega arith; fewer = omega arith })
facets-size (a ∷ b ∷ c ∷ d ∷ []) l =
    let P = IsFacetSize (a ∷ b ∷ c ∷ d ∷ []) in
    all-four P (b ∷ c ∷ d ∷ []) (c ∷ a ∷ d ∷ []) (a ∷ b ∷ d ∷ []) (b ∷ a ∷ c ∷ [])
    (record { some = omega arith; most = omega arith; fewer = omega arith }) (record { some = omega arith; most = omega arith; fewer = omega arith })
    (record { some = omega arith; most = omega arith; fewer = omega arith }) (record { some = omega arith; most = omega arith; fewer = omega arith })
facets-size (a ∷ b ∷ c ∷ d ∷ e ∷ rest) l = absurd (omega arith)

-- ---- facets of names at ranks

pub facets-map : {X Y : Type 0} (g : X → Y) (cell : List X) → length cell ≤ 4 → map (map g) (facets_of cell) ≡ facets_of (map g cell)
facets-map g [] l = refl
facets-map g (a ∷ []) l = refl
facets-map g (a ∷ b ∷ []) l = refl
facets-map g (a ∷ b ∷ c ∷ []) l = refl
facets-map g (a ∷ b ∷ c ∷ d ∷ []) l = refl
facets-map g (a ∷ b ∷ c ∷ d ∷ e ∷ rest) l = absurd (omega arith)

-- ---- the boundary

lone-named : (cells : List Cell) (cell : Cell) → IsNamedCell cell → All IsNamedCell (lone_facets is_same_name cells cell)
lone-named cells cell h =
    All-filter _ IsNamedCell (facets_of cell) (λ k d l. record {
      some = (facets-size cell h.most k d l).some;
      most = let most = (facets-size cell h.most k d l).most in omega arith;
      apart = facets-apart cell h.most h.apart k d l;
    })

lone-among : (s : SheetData) (cell : Cell) → IsNamedCell cell → All (Contains s.names) cell → All (All (Contains s.names)) (lone_facets is_same_name s.cells cell)
lone-among s cell h among = All-filter _ (All (Contains s.names)) (facets_of cell) (facets-all (Contains s.names) cell h.most among)

pub boundary-sheet : (s : SheetData) → IsSheet s → IsMadeOf s (boundary_of s)
boundary-sheet s h =
    let f = lone_facets is_same_name s.cells in
    cells-made s (flat_map f s.cells) h
    (all-cells IsNamedCell f s.cells (λ k d l. lone-named s.cells _ (h.each k d l)))
    (all-cells (All (Contains s.names)) f s.cells (λ k d l. lone-among s _ (h.each k d l) (of-names s h k d l)))

-- the lone facets of a cell are facets of it
pub lone-facets_of : (cells : List Cell) (cell : Cell) → IsNamedCell cell → All (IsFacetOf cell) (lone_facets is_same_name cells cell)
lone-facets_of cells cell h =
    All-filter _ (IsFacetOf cell) (facets_of cell) (λ k d l. record {
      fewer = (facets-size cell h.most k d l).fewer;
      names = facets-all (Contains cell) cell h.most (All-contains_itself cell) k d l;
    })
