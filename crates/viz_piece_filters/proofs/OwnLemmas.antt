-- Own positions.
use Rattle.std.proofs.Common.{get_or, ◌≡◌, ℕ, zero, suc, ◌+◌, ◌-◌, ◌<◌, ◌≤◌, append-nil, Bool, true, false, List, [], ◌∷◌, ◌++◌, length, map, replicate, refl, sym, ap, ap₂, subst, ◌∙◌, arith}
use Rattle.std.specs.List.{flat_map, range_with_len, sum}
use Rattle.std.proofs.lemmas.List.{same_lists, get_or-map, get_or_default, length-map, map-append}
use Rattle.std.proofs.lemmas.List.FromFn.{length-range_with_len, get_or-range_with_len}
use Rattle.viz_extent.proofs.SlabLemmas.{begins_within, shares_follow, shares_rise}
use Rattle.std.proofs.lemmas.List.Concat.{flat_map-append}
use Rattle.std.proofs.lemmas.List.Sums.{sum_by-cons}
use Rattle.viz_sheet.specs.Kept.{kept}
use Rattle.viz_parts.specs.Pieces.{AreAll, own_range, own_share}
use Rattle.viz_piece_filters.specs.Owns.{OwnsHandOn, SharesAreAll}
use Rattle.viz_piece_filters.specs.HandedOn.{handed_on}
use Rattle.viz_extent.specs.Slabs.{share_begin}

-- ---- all positions are all items

kept-map : {X Y : Type 0} (f : X → Y) (marks : List Bool) (xs : List X) → kept marks (map f xs) ≡ map f (kept marks xs)
kept-map f [] xs = refl
kept-map f (b ∷ bs) [] = refl
kept-map f (true ∷ bs) (x ∷ xs) = ap (λ r. f x ∷ r) (kept-map f bs xs)
kept-map f (false ∷ bs) (x ∷ xs) = kept-map f bs xs

all-map : {X Y : Type 0} (f : X → Y) (owns : List (List Bool)) (xs : List X) → flat_map (λ own. kept own (map f xs)) owns ≡ map f (flat_map (λ own. kept own xs) owns)
all-map f [] xs = refl
all-map f (own ∷ owns) xs = ap₂ (λ a b. a ++ b) (kept-map f own xs) (all-map f owns xs) ∙ sym (map-append f (kept own xs) (flat_map (λ o. kept o xs) owns))

by_place : {X : Type 0} (z : X) (xs : List X) → map (λ i. get_or xs i z) (range_with_len 0 (length xs)) ≡ xs
by_place z xs =
    same_lists (map (λ i. get_or xs i z) (range_with_len 0 (length xs))) xs (length-map (range_with_len 0 (length xs)) (λ i. get_or xs i z) ∙ length-range_with_len 0 (length xs))
    (λ k d l. let b : k < length xs = omega (arith, l, length-map (range_with_len 0 (length xs)) (λ i. get_or xs i z), length-range_with_len 0 (length xs)) in
    get_or-map (λ i. get_or xs i z) (range_with_len 0 (length xs)) k 0 d (omega (arith, b, length-range_with_len 0 (length xs)))
    ∙ ap (λ i. get_or xs i z) {y = k} (get_or-range_with_len 0 (length xs) k 0 b ∙ omega arith)
    ∙ get_or_default xs k z d b)

all_items : {X : Type 0} (z : X) (xs : List X) (owns : List (List Bool)) → AreAll (length xs) owns → flat_map (λ own. kept own xs) owns ≡ xs
all_items z xs owns h =
    let at = λ (i : ℕ). get_or xs i z in
    ap (λ cs. flat_map (λ own. kept own cs) owns) (sym (by_place z xs)) ∙ all-map at owns (range_with_len 0 (length xs)) ∙ ap (map at) h ∙ by_place z xs

-- the positions of what each cell makes
abbrev blocks : ℕ → List ℕ → List (List ℕ)
blocks from [] = []
blocks from (n ∷ ns) = range_with_len from n ∷ blocks (from + n) ns

range_split : (from n m : ℕ) → range_with_len from (n + m) ≡ range_with_len from n ++ range_with_len (from + n) m
range_split from zero m = ap (range_with_len from) {x = 0 + m} {y = m} (omega arith) ∙ ap (λ k. range_with_len k m) {x = from} {y = from + 0} (omega arith)
range_split from (suc n) m =
    ap (λ k. range_with_len from k) {x = suc n + m} {y = suc (n + m)} (omega arith)
    ∙ ap (λ r. from ∷ r) (range_split (from + 1) n m ∙ ap (λ k. range_with_len (from + 1) n ++ range_with_len k m) {x = from + 1 + n} {y = from + suc n} (omega arith))

kept_yes : (from n : ℕ) (marks : List Bool) (rest : List ℕ) → kept (replicate n true ++ marks) (range_with_len from n ++ rest) ≡ range_with_len from n ++ kept marks rest
kept_yes from zero marks rest = refl
kept_yes from (suc n) marks rest = ap (λ r. from ∷ r) (kept_yes (from + 1) n marks rest)

kept_no : (from n : ℕ) (marks : List Bool) (rest : List ℕ) → kept (replicate n false ++ marks) (range_with_len from n ++ rest) ≡ kept marks rest
kept_no from zero marks rest = refl
kept_no from (suc n) marks rest = kept_no (from + 1) n marks rest

kept_handed : (own : List Bool) (counts : List ℕ) (from : ℕ) → kept (handed_on own counts) (range_with_len from (sum counts)) ≡ flat_map (λ b. b) (kept own (blocks from counts))
kept_handed [] counts from = refl
kept_handed (o ∷ os) [] from = refl
kept_handed (true ∷ os) (n ∷ ns) from =
    ap (λ k. kept (replicate n true ++ handed_on os ns) (range_with_len from k)) (sum_by-cons (λ x. x) n ns)
    ∙ ap (kept (replicate n true ++ handed_on os ns)) (range_split from n (sum ns))
    ∙ kept_yes from n (handed_on os ns) (range_with_len (from + n) (sum ns))
    ∙ ap (λ r. range_with_len from n ++ r) (kept_handed os ns (from + n))
kept_handed (false ∷ os) (n ∷ ns) from =
    ap (λ k. kept (replicate n false ++ handed_on os ns) (range_with_len from k)) (sum_by-cons (λ x. x) n ns)
    ∙ ap (kept (replicate n false ++ handed_on os ns)) (range_split from n (sum ns))
    ∙ kept_no from n (handed_on os ns) (range_with_len (from + n) (sum ns))
    ∙ kept_handed os ns (from + n)

all_blocks : (counts : List ℕ) (from : ℕ) → flat_map (λ b. b) (blocks from counts) ≡ range_with_len from (sum counts)
all_blocks [] from = refl
all_blocks (n ∷ ns) from =
    ap (λ r. range_with_len from n ++ r) (all_blocks ns (from + n))
    ∙ sym (range_split from n (sum ns))
    ∙ ap (range_with_len from) (sym (sum_by-cons (λ x. x) n ns))

length_blocks : (counts : List ℕ) (from : ℕ) → length (blocks from counts) ≡ length counts
length_blocks [] from = refl
length_blocks (n ∷ ns) from = ap suc (length_blocks ns (from + n))

owns_joined : (counts : List ℕ) (owns : List (List Bool)) → flat_map (λ own. kept own (range_with_len 0 (sum counts))) (map (λ own. handed_on own counts) owns) ≡ flat_map (λ b. b) (flat_map (λ own. kept own (blocks 0 counts)) owns)
owns_joined counts [] = refl
owns_joined counts (own ∷ owns) =
    ap₂ (λ a b. a ++ b) (kept_handed own counts 0) (owns_joined counts owns)
    ∙ sym (flat_map-append (λ b. b) (kept own (blocks 0 counts)) (flat_map (λ o. kept o (blocks 0 counts)) owns))

pub owns_hand_on : OwnsHandOn
owns_hand_on counts owns h =
    owns_joined counts owns
    ∙ ap (flat_map (λ b. b)) (all_items [] (blocks 0 counts) owns (subst (λ n. AreAll n owns) (sym (length_blocks counts 0)) h))
    ∙ all_blocks counts 0

-- ---- shares in turn

kept_nothing : (from k : ℕ) → kept (replicate k false) (range_with_len from k) ≡ []
kept_nothing from zero = refl
kept_nothing from (suc k) = kept_nothing (from + 1) k

one_range : (count lo hi : ℕ) → lo ≤ hi → hi ≤ count → kept (own_range count lo hi) (range_with_len 0 count) ≡ range_with_len lo (hi - lo)
one_range count lo hi l m =
    let marks : List Bool = replicate (hi - lo) true ++ replicate (count - hi) false in
    ap (λ k. kept (replicate lo false ++ marks) (range_with_len 0 k)) {x = count} {y = lo + (hi - lo + (count - hi))} (omega (arith, l, m))
    ∙ ap (kept (replicate lo false ++ marks)) (range_split 0 lo (hi - lo + (count - hi)))
    ∙ kept_no 0 lo marks (range_with_len (0 + lo) (hi - lo + (count - hi)))
    ∙ ap (λ k. kept marks (range_with_len k (hi - lo + (count - hi)))) {x = 0 + lo} {y = lo} (omega arith)
    ∙ ap (kept marks) (range_split lo (hi - lo) (count - hi))
    ∙ kept_yes lo (hi - lo) (replicate (count - hi) false) (range_with_len (lo + (hi - lo)) (count - hi))
    ∙ ap (λ r. range_with_len lo (hi - lo) ++ r) (kept_nothing (lo + (hi - lo)) (count - hi))
    ∙ append-nil (range_with_len lo (hi - lo))

flat-map : {X Y Z : Type 0} (f : Y → List Z) (g : X → Y) (xs : List X) → flat_map f (map g xs) ≡ flat_map (λ x. f (g x)) xs
flat-map f g [] = refl
flat-map f g (x ∷ xs) = ap (λ t. f (g x) ++ t) (flat-map f g xs)

-- the shares of all pieces are all positions
pub shares_are_all : SharesAreAll
shares_are_all n count some =
    let own = λ (p : ℕ). own_share p n count in
    flat-map (λ own. kept own (range_with_len 0 count)) own (range_with_len 0 n)
    ∙ shares_follow (λ p. kept (own p) (range_with_len 0 count)) 0 n count some
    (λ p below.
    one_range count (share_begin n count p) (share_begin n count (p + 1)) (shares_rise n count p (p + 1) some (omega arith)) (begins_within n count (p + 1) some (omega (arith, below)))
    ∙ ap (λ k. range_with_len k (share_begin n count (p + 1) - share_begin n count p)) {x = share_begin n count p} {y = 0 + share_begin n count p} (omega arith))
