-- Rows that stand at the end of a block, one part and one row more at a time.
use Rattle.std.proofs.Common.{◌≡◌, ℕ, ◌+◌, ◌-◌, ◌<◌, ◌≤◌, List, [], ◌∷◌, ◌++◌, length, get_or, take}
use Rattle.std.proofs.Common.{drop, sym, ap, subst, ◌∙◌, append_assoc, arith}
use Rattle.std.specs.List.{All, flat_map}
use Rattle.std.proofs.lemmas.List.{drop_more, take-append-drop}
use Rattle.std.proofs.lemmas.List.Concat.{flat_map-append}
use Rattle.std.proofs.lemmas.List.Elements.{All-nil, All-cons, All-get_or, All-append, All-take}
use Rattle.std.proofs.lemmas.List.Elements.{All-drop}

-- the rows of one part more are written
pub part_step : {X : Type 0} (row : X → List ℕ) (n : ℕ) (left front behind : List X)
    (text new all : List ℕ) → front ≡ take n left → behind ≡ drop n left
    → new ≡ text ++ flat_map row front → text ++ flat_map row left ≡ all
    → new ++ flat_map row behind ≡ all
part_step {X} row n left front behind text new all front-is behind-is put so_far =
    let f : List X → List ℕ = flat_map row in
    let whole : front ++ behind ≡ left =
    ap (λ (l : List X). l ++ behind) front-is ∙ ap (λ (l : List X). take n left ++ l) behind-is
    ∙ take-append-drop n left in
    ap (λ (t : List ℕ). t ++ f behind) put ∙ append_assoc text (f front) (f behind)
    ∙ ap (λ (t : List ℕ). text ++ t) (sym (flat_map-append row front behind) ∙ ap f whole)
    ∙ so_far

-- where what holds of the front and of what is behind it is asked, it holds of both
pub joins : {X : Type 0} (P : X → Type 0) (n : ℕ) (left front behind : List X)
    → front ≡ take n left → behind ≡ drop n left → All P front → All P behind → All P left
joins {X} P n left front behind front-is behind-is here rest =
    let whole : front ++ behind ≡ left =
    ap (λ (l : List X). l ++ behind) front-is ∙ ap (λ (l : List X). take n left ++ l) behind-is
    ∙ take-append-drop n left in
    subst (All P) whole (All-append P front behind here rest)

-- it holds of the front where it holds of both
pub in_front : {X : Type 0} (P : X → Type 0) (n : ℕ) (left front : List X)
    → front ≡ take n left → All P left → All P front
in_front P n left front is all = subst (All P) (sym is) (All-take P n left all)

-- and of what is behind it
pub in_rest : {X : Type 0} (P : X → Type 0) (n : ℕ) (left behind : List X)
    → behind ≡ drop n left → All P left → All P behind
in_rest P n left behind is all = subst (All P) (sym is) (All-drop P n left all)

-- the next item from the end stands in front of those behind it
next_item : {X : Type 0} (xs : List X) (k : ℕ) (x : X) → k < length xs
    → x ≡ get_or xs (length xs - 1 - k) x
    → drop (length xs - (k + 1)) xs ≡ x ∷ drop (length xs - k) xs
next_item {X} xs k x lt is =
    let i = length xs - 1 - k in
    let here : length xs - (k + 1) ≡ i = omega arith in
    let behind : i + 1 ≡ length xs - k = omega (arith, lt) in
    ap (λ (j : ℕ). drop j xs) here ∙ drop_more xs i x (omega (arith, lt))
    ∙ ap (λ (y : X). y ∷ drop (i + 1) xs) (sym is)
    ∙ ap (λ (j : ℕ). x ∷ drop j xs) behind

-- the row of the next item from the end stands in front of those behind it
pub row_step : {X : Type 0} (row : X → List ℕ) (xs : List X) (k : ℕ) (x : X) (old new : List ℕ)
    → k < length xs → x ≡ get_or xs (length xs - 1 - k) x
    → old ≡ flat_map row (drop (length xs - k) xs) → new ≡ row x ++ old
    → new ≡ flat_map row (drop (length xs - (k + 1)) xs)
row_step {X} row xs k x old new lt is so_far put =
    put ∙ ap (λ (t : List ℕ). row x ++ t) so_far ∙ sym (ap (flat_map row) (next_item xs k x lt is))

-- what holds of it and of those behind it holds from it on
pub all_step : {X : Type 0} (P : X → Type 0) (xs : List X) (k : ℕ) (x : X)
    → k < length xs → x ≡ get_or xs (length xs - 1 - k) x
    → All P (drop (length xs - k) xs) → P x → All P (drop (length xs - (k + 1)) xs)
all_step {X} P xs k x lt is so_far here =
    subst (All P) (sym (next_item xs k x lt is)) (All-cons P x (drop (length xs - k) xs) here so_far)

-- once all items are done it holds of all
pub all_done : {X : Type 0} (P : X → Type 0) (xs : List X) (k : ℕ) → length xs ≤ k
    → All P (drop (length xs - k) xs) → All P xs
all_done P xs k most all =
    let none : length xs - k ≡ 0 = omega (arith, most) in
    subst (λ (i : ℕ). All P (drop i xs)) none all

-- where there are none it holds of all
pub all_none : {X : Type 0} (P : X → Type 0) (xs : List X) → length xs ≡ 0 → All P xs
all_none P [] none = All-nil P
all_none P (x ∷ xs) none = absurd (omega (arith, none))

-- where it doesn't hold of one it doesn't hold of all
pub not_all : {X : Type 0} (P : X → Type 0) (xs : List X) (k : ℕ) (x : X)
    → k < length xs → x ≡ get_or xs (length xs - 1 - k) x → (P x → ⊥) → All P xs → ⊥
not_all P xs k x lt is misses all =
    misses (subst P (sym is) (All-get_or P xs (length xs - 1 - k) x (omega (arith, lt)) all))
