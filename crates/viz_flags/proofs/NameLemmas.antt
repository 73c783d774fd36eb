-- The names of flagged edges, byte by byte.
use Rattle.std.proofs.Common.{◌≡◌, ℕ, ◌+◌, ◌*◌, ◌/◌, ◌%◌, ◌<◌, ◌==◌, Bool, true, false, if◌then◌else◌, List, [], ◌∷◌, ◌++◌, length, get_or, map, take, refl, sym, ap, ◌∙◌, arith, append-nil, append_assoc}
use Rattle.std.specs.Int.{bit_at}
use Rattle.std.specs.List.{range_with_len}
use Rattle.std.proofs.lemmas.List.{take_more, map-append, length-take-le, take_all}
use Rattle.std.proofs.lemmas.List.FromFn.{length-map-range_with_len}
use Rattle.std.proofs.lemmas.Grind.{flat_map-append}
use Rattle.std.proofs.lemmas.Simd.{map-map}
use Rattle.viz_sheet.specs.Kept.{kept}
use Rattle.viz_flags.specs.Flags.{flags_of, flags}
use Rattle.viz_flags.proofs.ByteLemmas.{flags-length}
use Rattle.viz_flags.proofs.BitLemmas.{range-append}
use Rattle.viz_flags.specs.Edges.{edge, step_of, leaves_from}
use Rattle.viz_flags.specs.Steps.Named.{name_up, eight_names}
use Rattle.viz_flags.specs.Flagged.{flagged}

-- ---- the names of a byte

kept-cons : {X : Type 0} (b : Bool) (bs : List Bool) (x : X) (xs : List X) → kept (b ∷ bs) (x ∷ xs) ≡ (if b then x ∷ [] else []) ++ kept bs xs
kept-cons true bs x xs = refl
kept-cons false bs x xs = refl

-- a name where its bit is set
abbrev pub some_name : Bool → ℕ → ℕ → List (List ℕ)
some_name b leaf step = if b then name_up leaf step ∷ [] else []

-- names of eight bits, one after the other
eight-kept : {X : Type 0} (b0 b1 b2 b3 b4 b5 b6 b7 : Bool) (x0 x1 x2 x3 x4 x5 x6 x7 : X) (t0 t1 t2 t3 t4 t5 t6 t7 t8 : List X)
    → t1 ≡ t0 ++ (if b0 then x0 ∷ [] else []) → t2 ≡ t1 ++ (if b1 then x1 ∷ [] else []) → t3 ≡ t2 ++ (if b2 then x2 ∷ [] else []) → t4 ≡ t3 ++ (if b3 then x3 ∷ [] else [])
    → t5 ≡ t4 ++ (if b4 then x4 ∷ [] else []) → t6 ≡ t5 ++ (if b5 then x5 ∷ [] else []) → t7 ≡ t6 ++ (if b6 then x6 ∷ [] else []) → t8 ≡ t7 ++ (if b7 then x7 ∷ [] else [])
    → t8 ≡ t0 ++ kept (b0 ∷ b1 ∷ b2 ∷ b3 ∷ b4 ∷ b5 ∷ b6 ∷ b7 ∷ []) (x0 ∷ x1 ∷ x2 ∷ x3 ∷ x4 ∷ x5 ∷ x6 ∷ x7 ∷ [])
eight-kept {X} b0 b1 b2 b3 b4 b5 b6 b7 x0 x1 x2 x3 x4 x5 x6 x7 t0 t1 t2 t3 t4 t5 t6 t7 t8 e1 e2 e3 e4 e5 e6 e7 e8 =
    let step : (b : Bool) (bs : List Bool) (x : X) (xs t t' u : List X) → t' ≡ t ++ (if b then x ∷ [] else []) → u ≡ t' ++ kept bs xs → u ≡ t ++ kept (b ∷ bs) (x ∷ xs) =
    λ b bs x xs t t' u p q. q ∙ ap (λ l. l ++ kept bs xs) p ∙ append_assoc t (if b then x ∷ [] else []) (kept bs xs) ∙ ap (λ l. t ++ l) (sym (kept-cons b bs x xs)) in
    step b0 (b1 ∷ b2 ∷ b3 ∷ b4 ∷ b5 ∷ b6 ∷ b7 ∷ []) x0 (x1 ∷ x2 ∷ x3 ∷ x4 ∷ x5 ∷ x6 ∷ x7 ∷ []) t0 t1 t8 e1 (step b1 (b2 ∷ b3 ∷ b4 ∷ b5 ∷ b6 ∷ b7 ∷ []) x1 (x2 ∷ x3 ∷ x4 ∷ x5 ∷ x6 ∷ x7 ∷ []) t1 t2 t8 e2 (
    step b2 (b3 ∷ b4 ∷ b5 ∷ b6 ∷ b7 ∷ []) x2 (x3 ∷ x4 ∷ x5 ∷ x6 ∷ x7 ∷ []) t2 t3 t8 e3 (step b3 (b4 ∷ b5 ∷ b6 ∷ b7 ∷ []) x3 (x4 ∷ x5 ∷ x6 ∷ x7 ∷ []) t3 t4 t8 e4 (
    step b4 (b5 ∷ b6 ∷ b7 ∷ []) x4 (x5 ∷ x6 ∷ x7 ∷ []) t4 t5 t8 e5 (step b5 (b6 ∷ b7 ∷ []) x5 (x6 ∷ x7 ∷ []) t5 t6 t8 e6 (
    step b6 (b7 ∷ []) x6 (x7 ∷ []) t6 t7 t8 e7 (step b7 [] x7 [] t7 t8 t8 e8 (sym (append-nil t8)))))))))

pub names_pushed : (mask leaf row plane : ℕ) (b0 b1 b2 b3 b4 b5 b6 b7 : Bool) (t0 t1 t2 t3 t4 t5 t6 t7 t8 : List (List ℕ))
    → b0 ≡ (bit_at mask 0 == 1) → b1 ≡ (bit_at mask 1 == 1) → b2 ≡ (bit_at mask 2 == 1) → b3 ≡ (bit_at mask 3 == 1)
    → b4 ≡ (bit_at mask 4 == 1) → b5 ≡ (bit_at mask 5 == 1) → b6 ≡ (bit_at mask 6 == 1) → b7 ≡ (bit_at mask 7 == 1)
    → t1 ≡ t0 ++ some_name b0 leaf 1 → t2 ≡ t1 ++ some_name b1 leaf row → t3 ≡ t2 ++ some_name b2 leaf (row + 1) → t4 ≡ t3 ++ some_name b3 leaf plane
    → t5 ≡ t4 ++ some_name b4 leaf (plane + 1) → t6 ≡ t5 ++ some_name b5 leaf (plane + row) → t7 ≡ t6 ++ some_name b6 leaf (plane + row + 1) → t8 ≡ t7 ++ some_name b7 leaf (plane + row + 2)
    → t8 ≡ t0 ++ kept (flags_of mask) (eight_names leaf row plane)
names_pushed mask leaf row plane b0 b1 b2 b3 b4 b5 b6 b7 t0 t1 t2 t3 t4 t5 t6 t7 t8 i0 i1 i2 i3 i4 i5 i6 i7 e1 e2 e3 e4 e5 e6 e7 e8 =
    let bits : (b0 ∷ b1 ∷ b2 ∷ b3 ∷ b4 ∷ b5 ∷ b6 ∷ b7 ∷ []) ≡ flags_of mask = λ i. i0 i ∷ i1 i ∷ i2 i ∷ i3 i ∷ i4 i ∷ i5 i ∷ i6 i ∷ i7 i ∷ [] in
    let name = name_up leaf in
    eight-kept b0 b1 b2 b3 b4 b5 b6 b7 (name 1) (name row) (name (row + 1)) (name plane) (name (plane + 1)) (name (plane + row)) (name (plane + row + 1)) (name (plane + row + 2))
    t0 t1 t2 t3 t4 t5 t6 t7 t8 e1 e2 e3 e4 e5 e6 e7 e8
    ∙ ap (λ bs. t0 ++ kept bs (eight_names leaf row plane)) bits

-- ---- names by number

edge_at : (row plane leaf d : ℕ) → d < 8 → edge row plane (8 * leaf + d) ≡ record { low = leaf; high = leaf + step_of row plane d }
unfolding edge
edge_at row plane leaf d h =
    let low : (8 * leaf + d) / 8 ≡ leaf = omega arith in
    let direction : (8 * leaf + d) % 8 ≡ d = omega arith in
    λ i. record { low = low i; high = low i + step_of row plane (direction i) }

-- the name of the edge with a number, in a window from a leaf on
abbrev pub name_by : ℕ → ℕ → ℕ → ℕ → List ℕ
name_by first row plane n = leaves_from first (edge row plane n)

name_at : (first row plane leaf d n : ℕ) → d < 8 → n ≡ 8 * leaf + d → name_up (first + leaf) (step_of row plane d) ≡ name_by first row plane n
name_at first row plane leaf d n h is =
    let sum : first + leaf + step_of row plane d ≡ first + (leaf + step_of row plane d) = omega arith in
    ap (λ m. (first + leaf) ∷ m ∷ []) sum
    ∙ ap (leaves_from first) (sym (ap (edge row plane) is ∙ edge_at row plane leaf d h))

pub eight_by_number : (first row plane leaf : ℕ) → eight_names (first + leaf) row plane ≡ map (name_by first row plane) (range_with_len (8 * leaf) 8)
eight_by_number first row plane leaf =
    let at = name_at first row plane leaf in
    let a0 = at 0 (8 * leaf) (omega arith) (omega arith) in
    let a1 = at 1 (8 * leaf + 1) (omega arith) (omega arith) in
    let a2 = at 2 (8 * leaf + 1 + 1) (omega arith) (omega arith) in
    let a3 = at 3 (8 * leaf + 1 + 1 + 1) (omega arith) (omega arith) in
    let a4 = at 4 (8 * leaf + 1 + 1 + 1 + 1) (omega arith) (omega arith) in
    let a5 = at 5 (8 * leaf + 1 + 1 + 1 + 1 + 1) (omega arith) (omega arith) in
    let a6 = at 6 (8 * leaf + 1 + 1 + 1 + 1 + 1 + 1) (omega arith) (omega arith) in
    let a7 = at 7 (8 * leaf + 1 + 1 + 1 + 1 + 1 + 1 + 1) (omega arith) (omega arith) in
    λ i. a0 i ∷ a1 i ∷ a2 i ∷ a3 i ∷ a4 i ∷ a5 i ∷ a6 i ∷ a7 i ∷ []

-- ---- the names of bytes

kept-append : {X : Type 0} (bs cs : List Bool) (xs ys : List X) → length bs ≡ length xs → kept (bs ++ cs) (xs ++ ys) ≡ kept bs xs ++ kept cs ys
kept-append [] cs [] ys h = refl
kept-append [] cs (x ∷ xs) ys h = absurd (omega arith)
kept-append (b ∷ bs) cs [] ys h = absurd (omega arith)
kept-append (true ∷ bs) cs (x ∷ xs) ys h = ap (λ l. x ∷ l) (kept-append bs cs xs ys (omega arith))
kept-append (false ∷ bs) cs (x ∷ xs) ys h = kept-append bs cs xs ys (omega arith)

kept-map : {X Y : Type 0} (f : X → Y) (bs : List Bool) (xs : List X) → kept bs (map f xs) ≡ map f (kept bs xs)
kept-map f [] xs = refl
kept-map f (b ∷ bs) [] = refl
kept-map f (true ∷ bs) (x ∷ xs) = ap (λ l. f x ∷ l) (kept-map f bs xs)
kept-map f (false ∷ bs) (x ∷ xs) = kept-map f bs xs

-- the names of bytes so far
abbrev pub names_so_far : (ℕ → List ℕ) → List ℕ → ℕ → List (List ℕ)
names_so_far name masks i = kept (flags (take i masks)) (map name (range_with_len 0 (8 * i)))

pub names_more : (name : ℕ → List ℕ) (masks : List ℕ) (i : ℕ) → i < length masks
    → names_so_far name masks (i + 1) ≡ names_so_far name masks i ++ kept (flags_of (get_or masks i 0)) (map name (range_with_len (8 * i) 8))
names_more name masks i l =
    let m = get_or masks i 0 in
    let bits : flags (take (i + 1) masks) ≡ flags (take i masks) ++ flags_of m = ap flags (take_more masks i 0 l) ∙ flat_map-append flags_of (take i masks) (m ∷ []) in
    let count : 8 * (i + 1) ≡ 8 * i + 8 = omega arith in
    let range : range_with_len 0 (8 * (i + 1)) ≡ range_with_len 0 (8 * i) ++ range_with_len (8 * i) 8 = ap (range_with_len 0) count ∙ range-append 0 (8 * i) 8 ∙ ap (λ a. range_with_len 0 (8 * i) ++ range_with_len a 8) {x = 0 + 8 * i} {y = 8 * i} (omega arith) in
    let names : map name (range_with_len 0 (8 * (i + 1))) ≡ map name (range_with_len 0 (8 * i)) ++ map name (range_with_len (8 * i) 8) = ap (map name) range ∙ map-append name (range_with_len 0 (8 * i)) (range_with_len (8 * i) 8) in
    let size : length (take i masks) ≡ i = length-take-le i masks (omega arith) in
    let same : length (flags (take i masks)) ≡ length (map name (range_with_len 0 (8 * i))) =
    flags-length (take i masks) ∙ ap (λ n. 8 * n) size ∙ sym (length-map-range_with_len name 0 (8 * i)) in
    ap (λ bs. kept bs (map name (range_with_len 0 (8 * (i + 1))))) bits ∙ ap (kept (flags (take i masks) ++ flags_of m)) names
    ∙ kept-append (flags (take i masks)) (flags_of m) (map name (range_with_len 0 (8 * i))) (map name (range_with_len (8 * i) 8)) same

-- one more byte of names
pub names_grow : (first row plane : ℕ) (masks : List ℕ) (i : ℕ) (t0 t1 : List (List ℕ)) → i < length masks → t0 ≡ names_so_far (name_by first row plane) masks i
    → t1 ≡ t0 ++ kept (flags_of (get_or masks i 0)) (eight_names (first + i) row plane) → t1 ≡ names_so_far (name_by first row plane) masks (i + 1)
names_grow first row plane masks i t0 t1 l so_far pushed =
    let m = get_or masks i 0 in
    pushed ∙ ap (λ t. t ++ kept (flags_of m) (eight_names (first + i) row plane)) so_far
    ∙ ap (λ ns. names_so_far (name_by first row plane) masks i ++ kept (flags_of m) ns) (eight_by_number first row plane i)
    ∙ sym (names_more (name_by first row plane) masks i l)

pub names_all : (first row plane : ℕ) (masks : List ℕ) (i : ℕ) (names : List (List ℕ)) → i ≡ length masks → names ≡ names_so_far (name_by first row plane) masks i
    → names ≡ map (leaves_from first) (flagged row plane (flags masks))
unfolding flagged
names_all first row plane masks i names last is =
    let name = name_by first row plane in
    let all = range_with_len 0 (length (flags masks)) in
    is ∙ ap (names_so_far name masks) last
    ∙ ap (λ ms. kept (flags ms) (map name (range_with_len 0 (8 * length masks)))) (take_all (length masks) masks (omega arith))
    ∙ ap (λ n. kept (flags masks) (map name (range_with_len 0 n))) (sym (flags-length masks))
    ∙ ap (kept (flags masks)) (sym (map-map (leaves_from first) (edge row plane) all))
    ∙ kept-map (leaves_from first) (flags masks) (map (edge row plane) all)
