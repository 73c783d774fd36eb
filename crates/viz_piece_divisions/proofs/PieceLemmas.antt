-- Pieces of meshes, sheet by sheet.
use Rattle.std.proofs.Common.{◌≡◌, ℕ, zero, suc, ◌+◌, ◌<◌, ◌≤◌, Bool, List, [], ◌∷◌, ◌++◌, length, get_or, map, refl, ap, arith}
use Rattle.std.specs.List.{All, flat_map}
use Rattle.std.proofs.lemmas.List.Elements.{All-contains, All-head, All-tail, Contains-get_or}
use Rattle.viz_fraction.specs.declared.forms.Form.{Form}
use Rattle.viz_meaning.specs.Section.{section_of, sections_of}
use Rattle.viz_mesh_meaning.specs.Cells.{Cell}
use Rattle.viz_mesh_meaning.specs.Facets.{boundary_of}
use Rattle.viz_mesh_meaning.specs.Select.{selected}
use Rattle.viz_parts.specs.Parts.{PartSheetData}
use Rattle.viz_parts.specs.Pieces.{IsPieceOf, IsSheetPart}
use Rattle.viz_piece_filters.specs.Filters.{boundary_part, handed_boundary, handed_section, kept_selected, section_part, selected_part}
use Rattle.viz_piece_filters.proofs.ChainLemmas.{boundaries_chain, sections_chain, selections_chain}
use Rattle.viz_piece_filters.proofs.MadeLemmas.{in_whole}
use Rattle.viz_sheet.specs.Sheet.{SheetData, most_names}
use Rattle.viz_piece_divisions.specs.Divisions.{Owns, appended_owns, handed_each, section_owns, section_parts}
use Rattle.viz_piece_divisions.specs.Pieces.{AppendedPieces, BoundariesOfPieces, HasLevel, PartsFit, SectionsOfPieces, SelectionsOfPieces}

-- ---- a piece as three lists that go together

abbrev pub AreParts : List SheetData → Owns → ℕ → List PartSheetData → Type 0
AreParts [] [] g [] = Unit {0}
AreParts [] [] g (p ∷ ps) = ⊥
AreParts [] (o ∷ os) g ps = ⊥
AreParts (s ∷ ss) [] g ps = ⊥
AreParts (s ∷ ss) (o ∷ os) g [] = ⊥
AreParts (s ∷ ss) (o ∷ os) g (p ∷ ps) = IsSheetPart s o g p × AreParts ss os g ps

behind : (s : SheetData) (sheets : List SheetData) (own : List Bool) (owns : Owns) (g : ℕ) (p : PartSheetData) (parts : List PartSheetData)
    → IsPieceOf (s ∷ sheets) (own ∷ owns) g (p ∷ parts) → IsPieceOf sheets owns g parts
behind s sheets own owns g p parts h = record {
  matched = omega (arith, h.matched);
  owned = omega (arith, h.owned);
  each = λ k d e l. h.each (suc k) d e (omega (arith, l));
}

pub to_parts : (sheets : List SheetData) (owns : Owns) (g : ℕ) (parts : List PartSheetData) → IsPieceOf sheets owns g parts → AreParts sheets owns g parts
to_parts [] [] g [] h = tt
to_parts [] [] g (p ∷ ps) h = absurd (omega (arith, h.matched))
to_parts [] (o ∷ os) g ps h = absurd (omega (arith, h.owned))
to_parts (s ∷ ss) [] g ps h = absurd (omega (arith, h.owned))
to_parts (s ∷ ss) (o ∷ os) g [] h = absurd (omega (arith, h.matched))
to_parts (s ∷ ss) (o ∷ os) g (p ∷ ps) h = (h.each 0 s p (omega arith), to_parts ss os g ps (behind s ss o os g p ps h))

in_front : (s : SheetData) (sheets : List SheetData) (own : List Bool) (owns : Owns) (g : ℕ) (p : PartSheetData) (parts : List PartSheetData)
    → IsSheetPart s own g p → IsPieceOf sheets owns g parts → IsPieceOf (s ∷ sheets) (own ∷ owns) g (p ∷ parts)
in_front s sheets own owns g p parts is h = record {
  matched = ap suc h.matched;
  owned = ap suc h.owned;
  each = each;
}
  where
    each : (k : ℕ) (d : SheetData) (e : PartSheetData) → k < length (s ∷ sheets) → IsSheetPart (get_or (s ∷ sheets) k d) (get_or (own ∷ owns) k []) g (get_or (p ∷ parts) k e)
    each zero d e l = is
    each (suc k) d e l = h.each k d e (omega (arith, l))

pub from_parts : (sheets : List SheetData) (owns : Owns) (g : ℕ) (parts : List PartSheetData) → AreParts sheets owns g parts → IsPieceOf sheets owns g parts
from_parts [] [] g [] h = record { matched = refl; owned = refl; each = λ k d e l. absurd (omega (arith, l)) }
from_parts [] [] g (p ∷ ps) h = absurd h
from_parts [] (o ∷ os) g ps h = absurd h
from_parts (s ∷ ss) [] g ps h = absurd h
from_parts (s ∷ ss) (o ∷ os) g [] h = absurd h
from_parts (s ∷ ss) (o ∷ os) g (p ∷ ps) h = in_front s ss o os g p ps h.0 (from_parts ss os g ps h.1)

-- ---- what is made of each sheet

-- a filter of sheets takes parts to parts, of sheets of one kind
abbrev pub TakesParts : (SheetData → Type 0) → (SheetData → SheetData) → (SheetData → List Bool → List Bool) → ℕ → ℕ → (PartSheetData → PartSheetData) → Type 0
TakesParts Is make hand more fewer part_of =
    (s : SheetData) (own : List Bool) (part : PartSheetData) → Is s → IsSheetPart s own more part → IsSheetPart (make s) (hand s own) fewer (part_of part)

pub parts-made : (Is : SheetData → Type 0) (make : SheetData → SheetData) (hand : SheetData → List Bool → List Bool) (more fewer : ℕ) (part_of : PartSheetData → PartSheetData)
    → TakesParts Is make hand more fewer part_of → (sheets : List SheetData) (owns : Owns) (parts : List PartSheetData) → All Is sheets
    → AreParts sheets owns more parts → AreParts (map make sheets) (handed_each hand sheets owns) fewer (map part_of parts)
parts-made Is make hand more fewer part_of t [] [] [] are h = tt
parts-made Is make hand more fewer part_of t [] [] (p ∷ ps) are h = absurd h
parts-made Is make hand more fewer part_of t [] (o ∷ os) ps are h = absurd h
parts-made Is make hand more fewer part_of t (s ∷ ss) [] ps are h = absurd h
parts-made Is make hand more fewer part_of t (s ∷ ss) (o ∷ os) [] are h = absurd h
parts-made Is make hand more fewer part_of t (s ∷ ss) (o ∷ os) (p ∷ ps) are h = (
  t s o p (All-head Is s ss are) h.0,
  parts-made Is make hand more fewer part_of t ss os ps (All-tail Is s ss are) h.1,
)

abbrev IsAny : SheetData → Type 0
IsAny s = Unit {0}

any-of : (sheets : List SheetData) → All IsAny sheets
any-of sheets k d l = tt

pub selections_of_pieces : SelectionsOfPieces
selections_of_pieces all lo hi parts = record {
  each = λ sheets owns ghosts h.
      from_parts (map (selected all lo hi) sheets) (handed_each (kept_selected all lo hi) sheets owns) ghosts (map (selected_part all lo hi) parts)
      (parts-made IsAny (selected all lo hi) (kept_selected all lo hi) ghosts ghosts (selected_part all lo hi)
      (λ s own part i is. selections_chain all lo hi s own ghosts part is)
      sheets owns parts (any-of sheets) (to_parts sheets owns ghosts parts h));
}

pub boundaries_of_pieces : BoundariesOfPieces
boundaries_of_pieces ghosts parts = record {
  each = λ sheets owns h.
      from_parts (map boundary_of sheets) (handed_each handed_boundary sheets owns) ghosts (map (boundary_part ghosts) parts)
      (parts-made IsAny boundary_of handed_boundary (ghosts + 1) ghosts (boundary_part ghosts)
      (λ s own part i is. boundaries_chain s own ghosts part is)
      sheets owns parts (any-of sheets) (to_parts sheets owns (ghosts + 1) parts h));
}

-- ---- sections by forms

section-part : (f : Form) (g : ℕ) → TakesParts HasLevel (section_of f) (handed_section f) g g (section_part f)
section-part f g s own part has is = (sections_chain f has.size s own g part has.names is).part_is

-- pieces of two meshes, one behind the other
pub parts-append : (sheets : List SheetData) (owns : Owns) (g : ℕ) (parts : List PartSheetData) (more : List SheetData) (others : Owns) (rest : List PartSheetData)
    → AreParts sheets owns g parts → AreParts more others g rest → AreParts (sheets ++ more) (owns ++ others) g (parts ++ rest)
parts-append [] [] g [] more others rest h j = j
parts-append [] [] g (p ∷ ps) more others rest h j = absurd h
parts-append [] (o ∷ os) g ps more others rest h j = absurd h
parts-append (s ∷ ss) [] g ps more others rest h j = absurd h
parts-append (s ∷ ss) (o ∷ os) g [] more others rest h j = absurd h
parts-append (s ∷ ss) (o ∷ os) g (p ∷ ps) more others rest h j = (h.0, parts-append ss os g ps more others rest h.1 j)

section-parts : (forms : List Form) (sheets : List SheetData) (owns : Owns) (g : ℕ) (parts : List PartSheetData) → All HasLevel sheets
    → AreParts sheets owns g parts → AreParts (sections_of forms sheets) (section_owns forms sheets owns) g (section_parts forms parts)
section-parts [] sheets owns g parts levels h = tt
section-parts (f ∷ fs) sheets owns g parts levels h =
    parts-append (map (section_of f) sheets) (handed_each (handed_section f) sheets owns) g (map (section_part f) parts)
    (sections_of fs sheets) (section_owns fs sheets owns) (section_parts fs parts)
    (parts-made HasLevel (section_of f) (handed_section f) g g (section_part f) (section-part f g) sheets owns parts levels h)
    (section-parts fs sheets owns g parts levels h)

pub sections_of_pieces : SectionsOfPieces
sections_of_pieces forms parts = record {
  each = λ sheets owns ghosts levels h.
      from_parts (sections_of forms sheets) (section_owns forms sheets owns) ghosts (section_parts forms parts)
      (section-parts forms sheets owns ghosts parts levels (to_parts sheets owns ghosts parts h));
}

-- ---- joined meshes

joined-parts : (meshes : List (List SheetData)) (owns : List Owns) (g : ℕ) (pieces : List (List PartSheetData)) → length pieces ≡ length meshes → length owns ≡ length meshes
    → ((k : ℕ) → k < length meshes → IsPieceOf (get_or meshes k []) (get_or owns k []) g (get_or pieces k []))
    → AreParts (flat_map (λ mesh. mesh) meshes) (appended_owns owns) g (flat_map (λ piece. piece) pieces)
joined-parts [] [] g [] m o h = tt
joined-parts [] [] g (p ∷ ps) m o h = absurd (omega (arith, m))
joined-parts [] (q ∷ qs) g ps m o h = absurd (omega (arith, o))
joined-parts (s ∷ ss) [] g ps m o h = absurd (omega (arith, o))
joined-parts (s ∷ ss) (q ∷ qs) g [] m o h = absurd (omega (arith, m))
joined-parts (s ∷ ss) (q ∷ qs) g (p ∷ ps) m o h =
    parts-append s q g p (flat_map (λ mesh. mesh) ss) (appended_owns qs) (flat_map (λ piece. piece) ps) (to_parts s q g p (h 0 (omega arith)))
    (joined-parts ss qs g ps (omega (arith, m)) (omega (arith, o)) (λ k l. h (suc k) (omega (arith, l))))

pub appended_pieces : AppendedPieces
appended_pieces pieces = record {
  each = λ meshes owns ghosts h.
      from_parts (flat_map (λ mesh. mesh) meshes) (appended_owns owns) ghosts (flat_map (λ piece. piece) pieces)
      (joined-parts meshes owns ghosts pieces h.matched h.owned h.each);
}

-- ---- parts of sheets that fit

pub parts_fit : PartsFit
parts_fit whole own ghosts part is fit = record {
  each = λ k d l.
      let c = get_or part.sheet.cells k d in
      All-contains (λ (cell : Cell). All (λ n. length cell ≤ most_names (length n)) cell) whole.cells c fit.each
      (in_whole whole own ghosts part is.part_is c (Contains-get_or part.sheet.cells k d l));
}
