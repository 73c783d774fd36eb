-- Cubes that aren't mixed have no cell, and a row of cubes is some and then some more.
use Rattle.std.proofs.Common.{◌≡◌, ℕ, zero, suc, ◌+◌, ◌*◌, ◌<◌, ◌≤◌, ◌==◌, ◌&&◌, ◌⊎◌, inl, inr, ⊎_elim, Bool, true, false, true≢false, not, List, [], ◌∷◌, ◌++◌, append-nil, append_assoc, cond, get_or, length, map, refl, sym, ap, ap₂, ◌∙◌, arith, slice_index}
use Rattle.std.specs.Int.{bit_at}
use Rattle.std.specs.List.{All, list_all, list_any}
use Rattle.std.proofs.lemmas.List.Elements.{All-get_or}
use Rattle.std.proofs.lemmas.Nat.Bits.{bit_at-zero}
use Rattle.viz_grid_section.specs.Edges.{Edge}
use Rattle.viz_grid_section.specs.GridSection.{bit_of, mask_of}
use Rattle.viz_grid_section.specs.Steps.Rows.{cells_between, cells_in_row, eight_from}
use Rattle.viz_grid_section.proofs.SectionLemmas.{row-more, row-none}
use Rattle.viz_mixed.specs.Mixed.{corners_from, mixed_from}
use Rattle.viz_flags.proofs.CountLemmas.{all_of_eight, none_of_eight}

abbrev same : Bool → Bool
same f = f

-- none of some flags, and all of them
none-any : (fs : List Bool) → list_any same fs ≡ false → (k : ℕ) → get_or fs k false ≡ false
none-any [] e k = refl
none-any (true ∷ fs) e k = absurd (true≢false e)
none-any (false ∷ fs) e zero = refl
none-any (false ∷ fs) e (suc k) = none-any fs e k

each-all : (fs : List Bool) → list_all same fs ≡ true → (k : ℕ) → k < length fs → get_or fs k false ≡ true
each-all [] e k l = absurd (omega arith)
each-all (false ∷ fs) e k l = absurd (true≢false (sym e))
each-all (true ∷ fs) e zero l = refl
each-all (true ∷ fs) e (suc k) l = each-all fs e k (omega (arith, l))

-- a corner of a cube, by its number
corner-at : (inside : List Bool) (eight : List ℕ) (k : ℕ) → k < length eight
    → get_or (map (λ leaf. get_or inside leaf false) eight) k false ≡ get_or inside (slice_index eight k) false
corner-at inside [] k l = absurd (omega arith)
corner-at inside (leaf ∷ leaves) zero l = refl
corner-at inside (leaf ∷ leaves) (suc k) l = corner-at inside leaves k (omega (arith, l))

two-ways : (some each : Bool) → (some && not each) ≡ false → (some ≡ false) ⊎ (each ≡ true)
two-ways false each e = inl refl
two-ways true true e = inr refl
two-ways true false e = absurd (true≢false e)

-- a cube that isn't mixed has no cell
pub unmixed : (inside : List Bool) (row plane lowest : ℕ) → mixed_from inside row plane lowest ≡ false
    → cells_between inside (eight_from lowest row plane) ≡ []
unmixed inside row plane lowest e =
    let fs = corners_from inside row plane lowest in
    let eight = eight_from lowest row plane in
    ⊎_elim
    (λ none. none_of_eight inside eight (λ k l. ap (λ b. cond b 1 0) (sym (corner-at inside eight k l) ∙ none-any fs none k)))
    (λ each. all_of_eight inside eight (λ k l. ap (λ b. cond b 1 0) (sym (corner-at inside eight k l) ∙ each-all fs each k l)))
    (two-ways (list_any same fs) (list_all same fs) e)

-- no bit of 0 is set
pub none-set : (word t : ℕ) → word ≡ 0 → (bit_at word t == 1) ≡ false
none-set word t e = ap (λ w. bit_at w t == 1) e ∙ ap (λ k. k == 1) (bit_at-zero t)

-- a cube that isn't mixed adds nothing to a row
pub row-same : (inside : List Bool) (row plane i first : ℕ) (t0 t1 : List (List Edge))
    → t1 ≡ t0 ++ cells_in_row inside row plane i first
    → mixed_from inside row plane (first + i) ≡ false
    → t1 ≡ t0 ++ cells_in_row inside row plane (i + 1) first
row-same inside row plane i first t0 t1 is none =
    row-more inside row plane i first t0 t1 t1 is (sym (append-nil t1) ∙ ap (λ cs. t1 ++ cs) (sym (unmixed inside row plane (first + i) none)))

-- nor do so many of them
pub row-unmixed : (inside : List Bool) (row plane first n : ℕ) (t : List (List Edge))
    → ((i : ℕ) → i < n → mixed_from inside row plane (first + i) ≡ false)
    → t ≡ t ++ cells_in_row inside row plane n first
row-unmixed inside row plane first zero t none = row-none inside row plane first t
row-unmixed inside row plane first (suc n) t none =
    row-same inside row plane n first t t (row-unmixed inside row plane first n t (λ i l. none i (omega (arith, l)))) (none n (omega arith))
    ∙ ap (λ k. t ++ cells_in_row inside row plane k first) {x = n + 1} {y = suc n} (omega arith)

-- so many cubes of a row, and some more behind them
joined : (inside : List Bool) (row plane first i n : ℕ)
    → cells_in_row inside row plane i first ++ cells_in_row inside row plane n (first + i) ≡ cells_in_row inside row plane (i + n) first
joined inside row plane first i zero =
    sym (row-none inside row plane (first + i) (cells_in_row inside row plane i first))
    ∙ ap (λ k. cells_in_row inside row plane k first) {x = i} {y = i + 0} (omega arith)
joined inside row plane first i (suc n) =
    let some = cells_in_row inside row plane i first in
    let last = λ (k : ℕ). cells_between inside (eight_from k row plane) in
    let more = row-more inside row plane n (first + i) some (some ++ cells_in_row inside row plane n (first + i)) _ refl refl in
    let all = row-more inside row plane (i + n) first [] (cells_in_row inside row plane (i + n) first) _ refl refl in
    ap (λ k. some ++ cells_in_row inside row plane k (first + i)) {x = suc n} {y = n + 1} (omega arith)
    ∙ sym more
    ∙ ap (λ t. t ++ last (first + i + n)) (joined inside row plane first i n)
    ∙ ap (λ k. cells_in_row inside row plane (i + n) first ++ last k) {x = first + i + n} {y = first + (i + n)} (omega arith)
    ∙ all
    ∙ ap (λ k. cells_in_row inside row plane k first) {x = i + n + 1} {y = i + suc n} (omega arith)

pub row-some : (inside : List Bool) (row plane i n first : ℕ) (t0 t1 t2 : List (List Edge))
    → t1 ≡ t0 ++ cells_in_row inside row plane i first
    → t2 ≡ t1 ++ cells_in_row inside row plane n (first + i)
    → t2 ≡ t0 ++ cells_in_row inside row plane (i + n) first
row-some inside row plane i n first t0 t1 t2 p q =
    q ∙ ap (λ t. t ++ cells_in_row inside row plane n (first + i)) p
    ∙ append_assoc t0 (cells_in_row inside row plane i first) (cells_in_row inside row plane n (first + i))
    ∙ ap (λ t. t0 ++ t) (joined inside row plane first i n)

-- ---- the bits of a cube's corners

bit-at : (bits : List ℕ) (k : ℕ) → k < length bits → get_or (map (λ b. b == 1) bits) k false ≡ (get_or bits k 0 == 1)
bit-at [] k l = absurd (omega arith)
bit-at (b ∷ bs) zero l = refl
bit-at (b ∷ bs) (suc k) l = bit-at bs k (omega (arith, l))

one-or-none : (x : ℕ) (f : Bool) → x ≤ 1 → (x == 1) ≡ f → x ≡ cond f 1 0
one-or-none zero f l e = ap (λ g. cond g 1 0) e
one-or-none (suc zero) f l e = ap (λ g. cond g 1 0) e
one-or-none (suc (suc x)) f l e = absurd (omega (arith, l))

-- each of the bits is that of a corner
pub corner-bit : (inside : List Bool) (bits : List ℕ) (lowest row plane k : ℕ) → map (λ b. b == 1) bits ≡ corners_from inside row plane lowest
    → All (λ b. b ≤ 1) bits → length bits ≡ 8 → k < 8 → get_or bits k 0 ≡ bit_of inside (slice_index (eight_from lowest row plane) k)
corner-bit inside bits lowest row plane k are each size l =
    let within : k < length bits = omega (arith, l, size) in
    one-or-none (get_or bits k 0) _ (All-get_or (λ b. b ≤ 1) bits k 0 within each)
    (sym (bit-at bits k within) ∙ ap (λ fs. get_or fs k false) are ∙ corner-at inside (eight_from lowest row plane) k l)

-- four of them are a mask
pub mask-of : (inside : List Bool) (w x y z a b c d m : ℕ) → m ≡ a + 2 * (b + 2 * (c + 2 * d))
    → a ≡ bit_of inside w → b ≡ bit_of inside x → c ≡ bit_of inside y → d ≡ bit_of inside z → m ≡ mask_of inside (w ∷ x ∷ y ∷ z ∷ [])
mask-of inside w x y z a b c d m is ea eb ec ed =
    is ∙ ap₂ (λ p q. p + 2 * q) ea (ap₂ (λ p q. p + 2 * q) eb (ap₂ (λ p q. p + 2 * q) ec (ed ∙ omega arith)))
