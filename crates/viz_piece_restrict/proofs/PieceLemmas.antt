-- Pieces of sheets.
use Rattle.std.proofs.Common.{refl, zero, suc, ap₂, append-nil, ◌≡◌, ℕ, ◌+◌, ◌-◌, ◌<◌, ◌≤◌, Bool, true, false, List, [], ◌∷◌, ◌++◌, length, get_or, replicate, sym, ap, subst, ◌∙◌, ⊎_elim, length-append, arith}
use Rattle.std.proofs.lemmas.Bool.{cases_lt}
use Rattle.std.proofs.lemmas.List.{get_or_append_left, get_or_push, length-replicate, length_push, map_push}
use Rattle.std.proofs.lemmas.List.Elements.{All-push}
use Rattle.viz_extent.specs.Slabs.{share_begin}
use Rattle.viz_extent.proofs.SlabLemmas.{first_begins, last_ends, begins_within, shares_rise}
use Rattle.viz_parts.specs.Parts.{PartSheetData}
use Rattle.viz_piece_restrict.specs.Restricting.{IsGrownPart}
use Rattle.viz_parts.specs.Pieces.{IsPartOf, IsSheetPart, own_range, own_share}
use Rattle.viz_sheet.specs.Kept.{kept}
use Rattle.viz_sheet.specs.Sheet.{SheetData, IsSheet, KeepPoints}
use Rattle.viz_sheet.proofs.KeptLemmas.{kept-lengths}
use Rattle.viz_piece_restrict.specs.Steps.Cuts.{ArePieces, AreWholes, IsKeptSheet, all_own}
use Rattle.viz_piece_restrict.specs.Steps.Levels.{IsGrown, seen_in}
use Rattle.viz_piece_restrict.proofs.SeenLemmas.{start-seen, cells-seen_in, levels-seen_in, owned-seen_in, whole-seen_in}

-- a level for each kept cell
pub kept-matched : (s t : SheetData) (there : List Bool) (levels left : List ℕ) → length levels ≡ length s.cells → IsKeptSheet s there t → left ≡ kept there levels → length left ≡ length t.cells
kept-matched s t there levels left e k is = ap length is ∙ kept-lengths there levels s.cells e ∙ sym (ap length k.cells)

-- the kept cells with their levels are the piece
piece-seen : (s t : SheetData) (own there : List Bool) (levels left : List ℕ) (ghosts : ℕ) (part : PartSheetData)
    → length own ≡ length s.cells → IsGrown s own ghosts there levels → IsKeptSheet s there t → left ≡ kept there levels → part.sheet ≡ t → part.levels ≡ left
    → IsPartOf s own ghosts part
piece-seen s t own there levels left ghosts part o g k is sheet level = record {
  seen = seen_in s.cells own there levels;
  covered = whole-seen_in s.cells own there levels;
  owned = owned-seen_in s.cells own there levels o;
  rule = g.seen;
  cells = cells-seen_in s.cells own there levels g.there_size ∙ sym k.cells ∙ ap (λ (u : SheetData). u.cells) (sym sheet);
  levels = levels-seen_in s.cells own there levels g.there_size g.levels_size ∙ sym is ∙ sym level;
  points = subst (λ (u : SheetData). KeepPoints u.names u.points s.names s.points) (sym sheet) k.points;
}

pub piece-made : (s t : SheetData) (own there : List Bool) (levels left : List ℕ) (ghosts : ℕ) (part : PartSheetData)
    → length own ≡ length s.cells → IsGrown s own ghosts there levels → IsKeptSheet s there t → left ≡ kept there levels → part.sheet ≡ t → part.levels ≡ left
    → IsGrownPart s own ghosts part
unfolding piece-seen
piece-made s t own there levels left ghosts part o g k is sheet level = record {
  part_is = record {
    whole_is = k.whole_is;
    sheet_is = subst IsSheet (sym sheet) k.made_is;
    part_is = piece-seen s t own there levels left ghosts part o g k is sheet level;
  };
  steps = g.steps;
}

-- marks of a range are as many as the cells
pub length-own_range : (count first next : ℕ) → first ≤ next → next ≤ count → length (own_range count first next) ≡ count
length-own_range count first next l m =
    let marks : List Bool = replicate (next - first) true ++ replicate (count - next) false in
    length-append (replicate first false) marks
    ∙ omega (arith, l, m, length-append (replicate (next - first) true) (replicate (count - next) false), length-replicate first false, length-replicate (next - first) true, length-replicate (count - next) false)

pub share-rises : (n count p : ℕ) → p < n → share_begin n count p ≤ share_begin n count (p + 1)
share-rises n count p l = shares_rise n count p (p + 1) (omega (arith, l)) (omega arith)

pub share-within : (n count p : ℕ) → p < n → share_begin n count (p + 1) ≤ count
share-within n count p l = begins_within n count (p + 1) (omega (arith, l)) (omega (arith, l))

pub length-own_share : (p n count : ℕ) → p < n → length (own_share p n count) ≡ count
length-own_share p n count l = length-own_range count (share_begin n count p) (share_begin n count (p + 1)) (share-rises n count p l) (share-within n count p l)

-- a cut is the piece p of n of a sheet in turn
abbrev pub IsTurnPiece : ℕ → ℕ → ℕ → PartSheetData → PartSheetData → Type 0
IsTurnPiece p n ghosts whole cut = IsSheetPart whole.sheet (own_share p n (length whole.sheet.cells)) ghosts cut

-- no sheet yet, and one more
pub no-pieces : (p n ghosts : ℕ) (parts cuts : List PartSheetData) → cuts ≡ [] → ArePieces p n ghosts 0 parts cuts
no-pieces p n ghosts parts cuts e = record { size = ap length e; each = λ k d l. absurd (omega (arith, l)) }

pub pieces-more : (p n ghosts i : ℕ) (parts cuts : List PartSheetData) (item cut : PartSheetData)
    → ((d : PartSheetData) → get_or parts i d ≡ item) → IsTurnPiece p n ghosts item cut
    → ArePieces p n ghosts i parts cuts → ArePieces p n ghosts (i + 1) parts (cuts ++ cut ∷ [])
pieces-more p n ghosts i parts cuts item cut at is h = record {
  size = length_push cuts cut ∙ ap (λ k. k + 1) h.size;
  each = λ k d l. ⊎_elim
      (λ below. subst (IsTurnPiece p n ghosts (get_or parts k d)) (sym (get_or_append_left cuts (cut ∷ []) d k (omega (arith, below, h.size)))) (h.each k d below))
      (λ from. last k d (omega (arith, l, from)))
      (cases_lt k i);
}
  where
    last : (k : ℕ) (d : PartSheetData) → k ≡ i → IsTurnPiece p n ghosts (get_or parts k d) (get_or (cuts ++ cut ∷ []) k d)
    last k d same =
        subst (λ q. IsTurnPiece p n ghosts (get_or parts q d) (get_or (cuts ++ cut ∷ []) q d)) (sym same)
        (subst (λ x. IsTurnPiece p n ghosts x (get_or (cuts ++ cut ∷ []) i d)) (sym (at d))
        (subst (IsTurnPiece p n ghosts item) (sym (get_or_push cuts cut d i h.size)) is))

-- ---- all cells own

kept-all : {X : Type 0} (n : ℕ) (xs : List X) → length xs ≡ n → kept (replicate n true) xs ≡ xs
kept-all zero [] e = refl
kept-all zero (x ∷ xs) e = absurd (omega (arith, e))
kept-all (suc n) [] e = absurd (omega (arith, e))
kept-all (suc n) (x ∷ xs) e = ap (λ r. x ∷ r) (kept-all n xs (omega (arith, e)))

own-all : (n : ℕ) → own_share 0 1 n ≡ replicate n true
own-all n =
    ap₂ (own_range n) (first_begins 1 n (omega arith)) (last_ends 1 n (omega arith))
    ∙ ap₂ (λ (a b : ℕ). replicate 0 false ++ (replicate a true ++ replicate b false)) {x = n - 0} {y = n} {u = n - n} {v = 0} (omega arith) (omega arith)
    ∙ append-nil (replicate n true)

pub whole-part : (s : SheetData) → IsSheet s → IsSheetPart s (own_share 0 1 (length s.cells)) 0 (all_own s)
whole-part s h =
    let n : ℕ = length s.cells in
    let own : List Bool = own_share 0 1 n in
    let zeros : List ℕ = replicate n 0 in
    let counted : length own ≡ n = length-own_share 0 1 n (omega arith) in
    record {
      whole_is = h;
      sheet_is = h;
      part_is = record {
        seen = seen_in s.cells own own zeros;
        covered = whole-seen_in s.cells own own zeros;
        owned = owned-seen_in s.cells own own zeros counted;
        rule = start-seen s.cells own;
        cells = cells-seen_in s.cells own own zeros counted ∙ ap (λ ms. kept ms s.cells) (own-all n) ∙ kept-all n s.cells refl;
        levels = levels-seen_in s.cells own own zeros counted (length-replicate n 0) ∙ ap (λ ms. kept ms zeros) (own-all n) ∙ kept-all n zeros (length-replicate n 0);
        points = λ k d l. (k, l, refl, refl);
      };
    }

-- one sheet more
pub wholes-more : (sheets : List SheetData) (parts : List PartSheetData) (s : SheetData) (part : PartSheetData)
    → part ≡ all_own s → IsSheetPart s (own_share 0 1 (length s.cells)) 0 (all_own s) → AreWholes sheets parts → AreWholes (sheets ++ s ∷ []) (parts ++ part ∷ [])
wholes-more sheets parts s part e is h = record {
  value = ap₂ (λ ps q. ps ++ q ∷ []) h.value e ∙ sym (map_push all_own sheets s);
  parts_are = All-push (λ u. IsSheetPart u (own_share 0 1 (length u.cells)) 0 (all_own u)) sheets s h.parts_are is;
}
