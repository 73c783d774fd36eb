-- Pieces that are cut in turn are all pieces.
use Rattle.std.proofs.Common.{◌≡◌, ℕ, ◌+◌, ◌<◌, ⊎_elim, get_or, List, [], ◌∷◌, ◌++◌, length, map, refl, sym, ap, ap₂, subst, ◌∙◌, arith}
use Rattle.std.specs.List.{range_with_len}
use Rattle.std.proofs.lemmas.Bool.{cases_lt}
use Rattle.std.proofs.lemmas.List.{get_or-map, get_or_append_left, get_or_push, length-map, length_push}
use Rattle.viz_parts.specs.Pieces.{AreAll, IsMeshPiece, SharesOut, in_turn, own_share}
use Rattle.viz_parts.specs.Stitching.{ArePiecesOf}
use Rattle.viz_parts.specs.declared.request.Part.{Part}
use Rattle.viz_sheet.specs.Sheet.{SheetData}
use Rattle.viz_piece_filters.proofs.OwnLemmas.{shares_are_all}
use Rattle.viz_piece_tests.specs.Steps.Cut.{AreCut}

map-same : {X Y : Type 0} (f g : X → Y) → ((x : X) → f x ≡ g x) → (xs : List X) → map f xs ≡ map g xs
map-same f g same [] = refl
map-same f g same (x ∷ xs) = ap₂ (λ y ys. y ∷ ys) (same x) (map-same f g same xs)

-- sheets that are shared out in turn are shared out
shares-out : (sheets : List SheetData) (n : ℕ) → 0 < n → SharesOut (in_turn sheets) sheets n
shares-out sheets n some = record {
  matched = λ p below. length-map sheets (λ s. own_share p n (length s.cells));
  all = λ k s below.
      subst (AreAll (length (get_or sheets k s).cells))
      (sym (map-same (λ p. get_or (in_turn sheets p n) k []) (λ p. own_share p n (length (get_or sheets k s).cells))
      (λ p. get_or-map (λ t. own_share p n (length t.cells)) sheets k s [] below) (range_with_len 0 n)))
      (shares_are_all n (length (get_or sheets k s).cells) some);
}

-- pieces of n, all of them, are all pieces
pub all-pieces : (sheets : List SheetData) (n ghosts : ℕ) (parts : List Part) → 0 < n → AreCut sheets n ghosts n parts → ArePiecesOf sheets parts
all-pieces sheets n ghosts parts some cut = record {
  division = in_turn sheets;
  ghosts = λ p. ghosts;
  some = omega (arith, cut.size, some);
  shared = subst (SharesOut (in_turn sheets) sheets) (sym cut.size) (shares-out sheets n some);
  each = λ p part below.
      subst (λ m. IsMeshPiece sheets (in_turn sheets p m) ghosts (get_or parts p part)) (sym cut.size)
      (cut.each p part (omega (arith, below, cut.size)));
}

-- one piece more
pub cut-more : (sheets : List SheetData) (n ghosts count : ℕ) (parts new : List Part) (part : Part) → AreCut sheets n ghosts count parts → IsMeshPiece sheets (in_turn sheets count n) ghosts part
    → new ≡ parts ++ part ∷ [] → AreCut sheets n ghosts (count + 1) new
cut-more sheets n ghosts count parts new part h piece is = record {
  size = ap length is ∙ length_push parts part ∙ ap (λ k. k + 1) h.size;
  each = λ p q below.
      subst (λ ps. IsMeshPiece sheets (in_turn sheets p n) ghosts (get_or ps p q)) (sym is)
      (⊎_elim
      (λ before.
      subst (IsMeshPiece sheets (in_turn sheets p n) ghosts) (sym (get_or_append_left parts (part ∷ []) q p (omega (arith, before, h.size))))
      (h.each p q before))
      (λ from.
      let last : count ≡ p = omega (arith, from, below) in
      subst (IsMeshPiece sheets (in_turn sheets p n) ghosts) (sym (get_or_push parts part q p (h.size ∙ last)))
      (subst (λ k. IsMeshPiece sheets (in_turn sheets k n) ghosts part) last piece))
      (cases_lt p count));
}
