-- Own positions of all pieces of what is made of a mesh.
use Rattle.std.proofs.Common.{◌≡◌, ℕ, zero, suc, ◌+◌, ◌-◌, ◌<◌, ⊎_elim, Bool, List, [], ◌∷◌, ◌++◌, length, length-append, get_or, map, refl, sym, ap, ap₂, subst, ◌∙◌, arith}
use Rattle.std.specs.List.{flat_map, range_with_len, sum}
use Rattle.std.proofs.lemmas.Bool.{cases_lt}
use Rattle.std.proofs.lemmas.List.{get_or-map, get_or_append_left, get_or-append_right, length-map}
use Rattle.std.proofs.lemmas.List.Sums.{sum_by-cons}
use Rattle.viz_fraction.specs.declared.forms.Form.{Form}
use Rattle.viz_meaning.specs.Section.{cells_in, is_inside_at, point_of, section_of, sections_of}
use Rattle.viz_mesh_meaning.specs.Cells.{Cell}
use Rattle.viz_mesh_meaning.specs.Facets.{boundary_of, is_same_name, lone_facets}
use Rattle.viz_mesh_meaning.specs.Select.{if_selected, is_selected, selected}
use Rattle.viz_mesh_meaning.proofs.SelectLemmas.{filter-as_flat}
use Rattle.viz_parts.specs.Pieces.{AreAll, Division, SharesOut, in_turn, own_share}
use Rattle.viz_piece_filters.specs.Filters.{handed_boundary, handed_section, kept_selected}
use Rattle.viz_piece_filters.specs.HandedOn.{counts, handed_on}
use Rattle.viz_piece_filters.proofs.ChainLemmas.{selections_hand_on}
use Rattle.viz_piece_filters.proofs.OwnLemmas.{owns_hand_on, shares_are_all}
use Rattle.viz_sheet.specs.Sheet.{SheetData}
use Rattle.viz_piece_divisions.specs.Divisions.{Owns, appended_division, handed_division, handed_each, section_owns}
use Rattle.viz_piece_divisions.specs.Shares.{AppendedShareOut, BoundariesShareOut, SectionsShareOut, SelectionsShareOut, TurnSharesOut}

-- ---- lists over ranges

pub map-range : {X : Type 0} (f g : ℕ → X) (from n : ℕ) → ((p : ℕ) → p < from + n → f p ≡ g p) → map f (range_with_len from n) ≡ map g (range_with_len from n)
map-range f g from zero h = refl
map-range f g from (suc n) h = ap₂ (λ a b. a ∷ b) (h from (omega arith)) (map-range f g (from + 1) n (λ p l. h p (omega (arith, l))))

map-twice : {X Y Z : Type 0} (f : Y → Z) (g : X → Y) (xs : List X) → map f (map g xs) ≡ map (λ x. f (g x)) xs
map-twice f g [] = refl
map-twice f g (x ∷ xs) = ap (λ r. f (g x) ∷ r) (map-twice f g xs)

-- ---- by cells in turn

pub turn_shares_out : TurnSharesOut
turn_shares_out sheets n some = record {
  matched = λ p below. length-map sheets (λ s. own_share p n (length s.cells));
  all = λ k s below.
      subst (AreAll (length (get_or sheets k s).cells))
      (sym (map-range (λ p. get_or (in_turn sheets p n) k []) (λ p. own_share p n (length (get_or sheets k s).cells)) 0 n
      (λ p l. get_or-map (λ t. own_share p n (length t.cells)) sheets k s [] below)))
      (shares_are_all n (length (get_or sheets k s).cells) some);
}

-- ---- what is handed on to each sheet

pub length-handed : (hand : SheetData → List Bool → List Bool) (sheets : List SheetData) (owns : Owns) → length owns ≡ length sheets → length (handed_each hand sheets owns) ≡ length sheets
length-handed hand [] owns e = refl
length-handed hand (s ∷ ss) [] e = absurd (omega (arith, e))
length-handed hand (s ∷ ss) (o ∷ os) e = ap suc (length-handed hand ss os (omega (arith, e)))

pub handed-at : (hand : SheetData → List Bool → List Bool) (sheets : List SheetData) (owns : Owns) (k : ℕ) (s : SheetData) → length owns ≡ length sheets → k < length sheets
    → get_or (handed_each hand sheets owns) k [] ≡ hand (get_or sheets k s) (get_or owns k [])
handed-at hand [] owns k s e l = absurd (omega (arith, l))
handed-at hand (t ∷ ss) [] k s e l = absurd (omega (arith, e))
handed-at hand (t ∷ ss) (o ∷ os) zero s e l = refl
handed-at hand (t ∷ ss) (o ∷ os) (suc k) s e l = handed-at hand ss os k s (omega (arith, e)) (omega (arith, l))

-- a filter makes so many cells of each cell, and hands own positions on to them
record HandsOn (make : SheetData → SheetData) (hand : SheetData → List Bool → List Bool) (made : SheetData → List ℕ) : Type 0 where
  handed : (s : SheetData) (own : List Bool) → hand s own ≡ handed_on own (made s)
  each : (s : SheetData) → length (made s) ≡ length s.cells
  all : (s : SheetData) → length (make s).cells ≡ sum (made s)

made-shares : (make : SheetData → SheetData) (hand : SheetData → List Bool → List Bool) (made : SheetData → List ℕ) → HandsOn make hand made
    → (sheets : List SheetData) (division : Division) (n : ℕ) → SharesOut division sheets n → SharesOut (handed_division (handed_each hand) sheets division) (map make sheets) n
made-shares make hand made on sheets division n h = record {
  matched = λ p below. length-handed hand sheets (division p n) (h.matched p below) ∙ sym (length-map sheets make);
  all = λ k s l.
      let below : k < length sheets = omega (arith, l, length-map sheets make) in
      let w = get_or sheets k s in
      let own = λ (p : ℕ). get_or (division p n) k [] in
      let all : AreAll (length (made w)) (map own (range_with_len 0 n)) =
      subst (λ c. AreAll c (map own (range_with_len 0 n))) (sym (on.each w)) (h.all k s below) in
      let owns : map (λ o. handed_on o (made w)) (map own (range_with_len 0 n)) ≡ map (λ p. get_or (handed_each hand sheets (division p n)) k []) (range_with_len 0 n) =
      map-twice (λ o. handed_on o (made w)) own (range_with_len 0 n)
      ∙ map-range (λ p. handed_on (own p) (made w)) (λ p. get_or (handed_each hand sheets (division p n)) k []) 0 n
      (λ p b. sym (handed-at hand sheets (division p n) k s (h.matched p (omega (arith, b))) below ∙ on.handed w (own p))) in
      subst (λ c. AreAll c (map (λ p. get_or (handed_each hand sheets (division p n)) k []) (range_with_len 0 n)))
      (sym (ap (λ (t : SheetData). length t.cells) (get_or-map make sheets k s s below) ∙ on.all w))
      (subst (AreAll (sum (made w))) owns (owns_hand_on (made w) (map own (range_with_len 0 n)) all));
}

length-made : (f : Cell → List Cell) (cells : List Cell) → length (flat_map f cells) ≡ sum (counts f cells)
length-made f [] = refl
length-made f (c ∷ cs) =
    length-append (f c) (flat_map f cs) ∙ ap (λ k. length (f c) + k) (length-made f cs) ∙ sym (sum_by-cons (λ x. x) (length (f c)) (counts f cs))

length-counts : (f : Cell → List Cell) (cells : List Cell) → length (counts f cells) ≡ length cells
length-counts f cells = length-map cells (λ c. length (f c))

pub selections_share_out : SelectionsShareOut
selections_share_out all lo hi =
    made-shares (selected all lo hi) (kept_selected all lo hi) (λ s. counts (if_selected all lo hi s) s.cells) (record {
      handed = λ s own. selections_hand_on all lo hi s own;
      each = λ s. length-counts (if_selected all lo hi s) s.cells;
      all = λ s. ap length (filter-as_flat (is_selected all lo hi s) s.cells) ∙ length-made (if_selected all lo hi s) s.cells;
    })

pub boundaries_share_out : BoundariesShareOut
boundaries_share_out =
    made-shares boundary_of handed_boundary (λ s. counts (lone_facets is_same_name s.cells) s.cells) (record {
      handed = λ s own. refl;
      each = λ s. length-counts (lone_facets is_same_name s.cells) s.cells;
      all = λ s. length-made (lone_facets is_same_name s.cells) s.cells;
    })

-- ---- meshes one behind the other

joined-shares : (d e : Division) (a b : List SheetData) (n : ℕ) → SharesOut d a n → SharesOut e b n → SharesOut (λ p m. d p m ++ e p m) (a ++ b) n
joined-shares d e a b n h j = record {
  matched = λ p below. length-append (d p n) (e p n) ∙ ap₂ (λ x y. x + y) (h.matched p below) (j.matched p below) ∙ sym (length-append a b);
  all = λ k s l. ⊎_elim
      (λ before.
      subst (λ (t : SheetData). AreAll (length t.cells) (map (λ p. get_or (d p n ++ e p n) k []) (range_with_len 0 n))) (sym (get_or_append_left a b s k before))
      (subst (AreAll (length (get_or a k s).cells))
      (map-range (λ p. get_or (d p n) k []) (λ p. get_or (d p n ++ e p n) k []) 0 n
      (λ p q. sym (get_or_append_left (d p n) (e p n) [] k (omega (arith, before, h.matched p (omega (arith, q)))))))
      (h.all k s before)))
      (λ from.
      let at = k - length a in
      let below : at < length b = omega (arith, l, from, length-append a b) in
      subst (λ (t : SheetData). AreAll (length t.cells) (map (λ p. get_or (d p n ++ e p n) k []) (range_with_len 0 n))) (sym (get_or-append_right a b (length a) k s refl from))
      (subst (AreAll (length (get_or b at s).cells))
      (map-range (λ p. get_or (e p n) at []) (λ p. get_or (d p n ++ e p n) k []) 0 n
      (λ p q. sym (get_or-append_right (d p n) (e p n) (length a) k [] (h.matched p (omega (arith, q))) from)))
      (j.all at s below)))
      (cases_lt k (length a));
}

no-shares : (n : ℕ) → SharesOut (λ p m. []) [] n
no-shares n = record { matched = λ p below. refl; all = λ k s l. absurd (omega (arith, l)) }

section-shares : (f : Form) (sheets : List SheetData) (division : Division) (n : ℕ) → SharesOut division sheets n → SharesOut (handed_division (handed_each (handed_section f)) sheets division) (map (section_of f) sheets) n
section-shares f =
    made-shares (section_of f) (handed_section f) (λ s. counts (cells_in (λ n. is_inside_at f (point_of s n))) s.cells) (record {
      handed = λ s own. refl;
      each = λ s. length-counts (cells_in (λ n. is_inside_at f (point_of s n))) s.cells;
      all = λ s. length-made (cells_in (λ n. is_inside_at f (point_of s n))) s.cells;
    })

pub sections_share_out : SectionsShareOut
sections_share_out [] sheets division n h = no-shares n
sections_share_out (f ∷ fs) sheets division n h =
    joined-shares (handed_division (handed_each (handed_section f)) sheets division) (handed_division (section_owns fs) sheets division)
    (map (section_of f) sheets) (sections_of fs sheets) n
    (section-shares f sheets division n h) (sections_share_out fs sheets division n h)

appended-shares : (meshes : List (List SheetData)) (divisions : List Division) (n : ℕ) → length divisions ≡ length meshes
    → ((k : ℕ) (d : Division) → k < length meshes → SharesOut (get_or divisions k d) (get_or meshes k []) n)
    → SharesOut (appended_division divisions) (flat_map (λ mesh. mesh) meshes) n
appended-shares [] [] n e h = no-shares n
appended-shares [] (d ∷ ds) n e h = absurd (omega (arith, e))
appended-shares (m ∷ ms) [] n e h = absurd (omega (arith, e))
appended-shares (m ∷ ms) (d ∷ ds) n e h =
    joined-shares d (appended_division ds) m (flat_map (λ mesh. mesh) ms) n (h 0 d (omega arith))
    (appended-shares ms ds n (omega (arith, e)) (λ k c l. h (suc k) c (omega (arith, l))))

pub appended_share_out : AppendedShareOut
appended_share_out meshes divisions n h = appended-shares meshes divisions n h.matched h.each
