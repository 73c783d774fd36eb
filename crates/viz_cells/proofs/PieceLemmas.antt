-- Masks of up to four corners, and the cells that a case holds.
use Rattle.std.proofs.Common.{◌≡◌, ◌≢◌, ℕ, ◌+◌, ◌-◌, ◌*◌, ◌<◌, ◌≤◌, Bool, List, [], ◌∷◌, ◌++◌, length, get_or, map, take, refl, sym, ap, ◌∙◌, append_assoc, append-nil, arith}
use Rattle.std.specs.List.{flat_map}
use Rattle.std.proofs.lemmas.Bool.Decides.{nat_tests}
use Rattle.std.proofs.lemmas.Grind.{flat_map-append}
use Rattle.std.proofs.lemmas.List.{take_more}
use Rattle.viz_fraction.specs.declared.case_table.Case.{Case}
use Rattle.viz_fraction.specs.Cases.{IsCase, cells_at, case_at}
use Rattle.viz_fraction.proofs.CaseTable.{each_case}
use Rattle.viz_meaning.specs.Section.{mask_of}
use Rattle.viz_cells.specs.Steps.Pieces.{end_key, held, held_at, keys_in, pieces_of}

-- ---- masks

pub mask_four : (f : ℕ → Bool) (xs : List ℕ) (a b c d : ℕ) → length xs ≤ 4
    → (0 < length xs → a ≡ mask_of f (get_or xs 0 0 ∷ [])) → (1 < length xs → b ≡ mask_of f (get_or xs 1 0 ∷ [])) → (2 < length xs → c ≡ mask_of f (get_or xs 2 0 ∷ [])) → (3 < length xs → d ≡ mask_of f (get_or xs 3 0 ∷ []))
    → (length xs ≤ 0 → a ≡ 0) → (length xs ≤ 1 → b ≡ 0) → (length xs ≤ 2 → c ≡ 0) → (length xs ≤ 3 → d ≡ 0)
    → a + 2 * (b + 2 * (c + 2 * d)) ≡ mask_of f xs
mask_four f [] a b c d l ha hb hc hd na nb nc nd =
    omega (arith, na (omega arith), nb (omega arith), nc (omega arith), nd (omega arith))
mask_four f (x ∷ []) a b c d l ha hb hc hd na nb nc nd =
    omega (arith, ha (omega arith), nb (omega arith), nc (omega arith), nd (omega arith))
mask_four f (x ∷ y ∷ []) a b c d l ha hb hc hd na nb nc nd =
    omega (arith, ha (omega arith), hb (omega arith), nc (omega arith), nd (omega arith))
mask_four f (x ∷ y ∷ z ∷ []) a b c d l ha hb hc hd na nb nc nd =
    omega (arith, ha (omega arith), hb (omega arith), hc (omega arith), nd (omega arith))
mask_four f (x ∷ y ∷ z ∷ w ∷ []) a b c d l ha hb hc hd na nb nc nd =
    omega (arith, ha (omega arith), hb (omega arith), hc (omega arith), hd (omega arith))
mask_four f (x ∷ y ∷ z ∷ w ∷ v ∷ vs) a b c d l ha hb hc hd na nb nc nd = absurd (omega arith)

-- ---- cases

pub held-case : (cell : List ℕ) (corners mask : ℕ) → IsCase corners mask → held cell (case_at corners mask) ≡ map (map (end_key cell)) (cells_at corners mask)
unfolding case_at cells_at
held-case cell =
    each_case (λ corners mask. held cell (case_at corners mask) ≡ map (map (end_key cell)) (cells_at corners mask))
    (refl, (refl, tt))
    (refl, (refl, (refl, (refl, tt))))
    (refl, (refl, (refl, (refl, (refl, (refl, (refl, (refl, tt))))))))
    (refl, (refl, (refl, (refl, (refl, (refl, (refl, (refl, (refl, (refl, (refl, (refl, (refl, (refl, (refl, (refl, tt))))))))))))))))

pub size-case : (corners mask : ℕ) → (case_at corners mask).size ≡ corners - 1
unfolding case_at
size-case corners mask = refl

-- two cells
held-two : (cell : List ℕ) (case : Case) → case.count ≢ 0 → case.count ≢ 1 → held cell case ≡ held_at cell case 0 1 2 ∷ held_at cell case 3 4 5 ∷ []
held-two cell case some more = grind (arith, nat_tests)

pub two_held : (cell : List ℕ) (case : Case) (old mid new : List (List ℕ)) (p q : List ℕ) → case.count ≢ 0 → case.count ≢ 1
    → p ≡ held_at cell case 0 1 2 → q ≡ held_at cell case 3 4 5 → mid ≡ old ++ p ∷ [] → new ≡ mid ++ q ∷ [] → new ≡ old ++ held cell case
two_held cell case old mid new p q some more is_p is_q e f =
    f ∙ ap (λ l. l ++ q ∷ []) e ∙ append_assoc old (p ∷ []) (q ∷ []) ∙ ap (λ r. old ++ r ∷ q ∷ []) is_p ∙ ap (λ r. old ++ held_at cell case 0 1 2 ∷ r ∷ []) is_q
    ∙ ap (λ t. old ++ t) (sym (held-two cell case some more))

-- ---- cell by cell

pub pieces-none : (inside : List Bool) → pieces_of inside [] ≡ []
unfolding pieces_of
pieces-none inside = refl

pub pieces-more : (inside : List Bool) (cells : List (List ℕ)) (i : ℕ) → i < length cells
    → pieces_of inside (take (i + 1) cells) ≡ pieces_of inside (take i cells) ++ keys_in inside (get_or cells i [])
unfolding pieces_of
pieces-more inside cells i l =
    ap (flat_map (keys_in inside)) (take_more cells i [] l) ∙ flat_map-append (keys_in inside) (take i cells) (get_or cells i [] ∷ [])
    ∙ ap (λ m. flat_map (keys_in inside) (take i cells) ++ m) (append-nil (keys_in inside (get_or cells i [])))
