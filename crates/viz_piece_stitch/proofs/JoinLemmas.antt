-- One more part joined.
use Rattle.std.proofs.Common.{◌≡◌, ℕ, ◌+◌, ◌<◌, ⊎_elim, List, [], ◌∷◌, ◌++◌, length, get_or, map, take, append-nil, append_assoc, subst, sym, ap, ◌∙◌, arith}
use Rattle.std.specs.List.{All, Contains, flat_map}
use Rattle.std.proofs.lemmas.List.{get_or-map, length-map, take_all, take_more}
use Rattle.std.proofs.lemmas.List.Concat.{flat_map-append}
use Rattle.std.proofs.lemmas.List.Elements.{All-more}
use Rattle.viz_fraction.specs.Points.{Point}
use Rattle.viz_parts.specs.Parts.{PartSheetData}
use Rattle.viz_sheet.specs.Ranked.{rank_of}
use Rattle.viz_piece_stitch.specs.Steps.Joining.{AreJoined, HasPoints, IsPointAt, own_ranks}
use Rattle.viz_piece_stitch.specs.Steps.Put.{IsFrom, IsPut}

-- the points of one part more
module _ (parts : List PartSheetData) (part : PartSheetData) (at : Contains parts part) (names : List (List ℕ)) (old new : List Point) (put : IsPut old (map (rank_of names) part.sheet.names) part.sheet.points new) where
  from_part : (r : ℕ) → IsFrom (map (rank_of names) part.sheet.names) part.sheet.points r new → IsPointAt parts names new r
  from_part r h =
      let below : h.0 < length part.sheet.names = omega (arith, h.1, length-map part.sheet.names (rank_of names)) in
      (part, at, h.0, below, sym (get_or-map (rank_of names) part.sheet.names h.0 [] 0 below) ∙ h.2, h.3, h.4)

  stays : (r : ℕ) → IsPointAt parts names old r → IsPointAt parts names new r
  stays r h =
      ⊎_elim (λ f. from_part r f) (λ same. (h.0, h.1, h.2, h.3, h.4, omega (arith, h.5, put.size), λ d. same d ∙ h.6 d)) (put.others r h.5)

  has_points : HasPoints parts names new part
  has_points j below =
      let e = get_or-map (rank_of names) part.sheet.names j [] 0 below in
      let within : j < length (map (rank_of names) part.sheet.names) = omega (arith, below, length-map part.sheet.names (rank_of names)) in
      from_part (rank_of names (get_or part.sheet.names j [])) (subst (λ r. IsFrom (map (rank_of names) part.sheet.names) part.sheet.points r new) e (put.put j within))

  pub points-more : (i : ℕ) (d : PartSheetData) → i < length parts → get_or parts i d ≡ part → All (HasPoints parts names old) (take i parts) → All (HasPoints parts names new) (take (i + 1) parts)
  points-more i d l e h =
      All-more (HasPoints parts names new) parts i d l (λ k c below. λ j under. stays (rank_of names (get_or (get_or (take i parts) k c).sheet.names j [])) (h k c below j under)) (subst (HasPoints parts names new) (sym e) has_points)

-- the lists of one item more
pub flat-more : {X Y : Type 0} (f : X → List Y) (xs : List X) (i : ℕ) (d : X) → i < length xs → flat_map f (take (i + 1) xs) ≡ flat_map f (take i xs) ++ f (get_or xs i d)
flat-more f xs i d l =
    ap (flat_map f) (take_more xs i d l) ∙ flat_map-append f (take i xs) (get_or xs i d ∷ []) ∙ ap (λ t. flat_map f (take i xs) ++ t) (append-nil (f (get_or xs i d)))

-- one part more is joined
pub joined-more : (parts : List PartSheetData) (names : List (List ℕ)) (start : List (List ℕ)) (i : ℕ) (part : PartSheetData) (before after : List (List ℕ)) (old new : List Point)
    → AreJoined parts names start i before old → i < length parts → part ≡ get_or parts i part → after ≡ before ++ own_ranks names part
    → IsPut old (map (rank_of names) part.sheet.names) part.sheet.points new → All (λ r. r < length names) (map (rank_of names) part.sheet.names) → AreJoined parts names start (i + 1) after new
joined-more parts names start i part before after old new h l is pushed put below = record {
  all_cells = pushed
      ∙ ap (λ b. b ++ own_ranks names part) h.all_cells
      ∙ ap (λ p. (start ++ flat_map (own_ranks names) (take i parts)) ++ own_ranks names p) is
      ∙ append_assoc start (flat_map (own_ranks names) (take i parts)) (own_ranks names (get_or parts i part))
      ∙ ap (λ t. start ++ t) (sym (flat-more (own_ranks names) parts i part l));
  size = put.most (length names) h.size below;
  there = points-more parts part (i, l, sym is) names old new put i part l (sym is) h.there;
}

-- all are joined
pub all-cells : (parts : List PartSheetData) (names : List (List ℕ)) (start cells : List (List ℕ)) (points : List Point) → AreJoined parts names start (length parts) cells points → start ≡ []
    → cells ≡ flat_map (own_ranks names) parts
all-cells parts names start cells points h e =
    h.all_cells ∙ ap (λ s. s ++ flat_map (own_ranks names) (take (length parts) parts)) e ∙ ap (flat_map (own_ranks names)) (take_all (length parts) parts (omega arith))

pub all-points : (parts : List PartSheetData) (names : List (List ℕ)) (start cells : List (List ℕ)) (points : List Point) → AreJoined parts names start (length parts) cells points
    → All (HasPoints parts names points) parts
all-points parts names start cells points h = subst (All (HasPoints parts names points)) (take_all (length parts) parts (omega arith)) h.there
