-- Lists of lists: their items, piece by piece.
use Rattle.std.proofs.Common.{◌≡◌, ◌≢◌, ℕ, zero, suc, ◌<◌, List, [], ◌∷◌, ◌++◌, length, get_or, map, refl, sym, ap, ap₂, subst, ◌∙◌, arith}
use Rattle.std.specs.List.{All, AllPairs, Contains, flat_map}
use Rattle.std.proofs.lemmas.List.{map-append, get_or-map, length-map}
use Rattle.std.proofs.lemmas.List.Elements.{All-nil, All-cons, All-head, All-tail, All-append, Contains-get_or}
use Rattle.viz_sheet.specs.Sheet.{AreApart}

-- what holds of the items of all pieces holds of the items in turn, and the other way round
pub all-flat : {X : Type 0} (P : X → Type 0) (pieces : List (List X)) → All (All P) pieces → All P (flat_map (λ piece. piece) pieces)
all-flat P [] h = All-nil P
all-flat P (p ∷ ps) h = All-append P p (flat_map (λ piece. piece) ps) (All-head (All P) p ps h) (all-flat P ps (All-tail (All P) p ps h))

pub front : {X : Type 0} (P : X → Type 0) (xs ys : List X) → All P (xs ++ ys) → All P xs
front P [] ys h = All-nil P
front P (x ∷ xs) ys h = All-cons P x xs (All-head P x (xs ++ ys) h) (front P xs ys (All-tail P x (xs ++ ys) h))

pub back : {X : Type 0} (P : X → Type 0) (xs ys : List X) → All P (xs ++ ys) → All P ys
back P [] ys h = h
back P (x ∷ xs) ys h = back P xs ys (All-tail P x (xs ++ ys) h)

pub all-pieces : {X : Type 0} (P : X → Type 0) (pieces : List (List X)) → All P (flat_map (λ piece. piece) pieces) → All (All P) pieces
all-pieces P [] h = All-nil (All P)
all-pieces P (p ∷ ps) h =
    All-cons (All P) p ps (front P p (flat_map (λ piece. piece) ps) h) (all-pieces P ps (back P p (flat_map (λ piece. piece) ps) h))

-- items by a function, piece by piece
pub flat-map : {X Y : Type 0} (f : X → Y) (pieces : List (List X)) → flat_map (λ piece. piece) (map (map f) pieces) ≡ map f (flat_map (λ piece. piece) pieces)
flat-map f [] = refl
flat-map f (p ∷ ps) = ap (λ rest. map f p ++ rest) (flat-map f ps) ∙ sym (map-append f p (flat_map (λ piece. piece) ps))

-- two functions that agree at each item make the same list
pub map-same : {X Y : Type 0} (f g : X → Y) (xs : List X) → All (λ x. f x ≡ g x) xs → map f xs ≡ map g xs
map-same f g [] h = refl
map-same f g (x ∷ xs) h =
    ap₂ (λ a b. a ∷ b) (All-head (λ y. f y ≡ g y) x xs h) (map-same f g xs (All-tail (λ y. f y ≡ g y) x xs h))

pub pieces-same : {X Y : Type 0} (f g : X → Y) (pieces : List (List X)) → All (All (λ x. f x ≡ g x)) pieces → map (map f) pieces ≡ map (map g) pieces
pieces-same f g [] h = refl
pieces-same f g (p ∷ ps) h =
    ap₂ (λ a b. a ∷ b) (map-same f g p (All-head (All (λ x. f x ≡ g x)) p ps h)) (pieces-same f g ps (All-tail (All (λ x. f x ≡ g x)) p ps h))

pub map-twice : {X Y Z : Type 0} (g : Y → Z) (f : X → Y) (xs : List X) → map g (map f xs) ≡ map (λ x. g (f x)) xs
map-twice g f [] = refl
map-twice g f (x ∷ xs) = ap (λ ys. g (f x) ∷ ys) (map-twice g f xs)

pub pieces-twice : {X Y Z : Type 0} (g : Y → Z) (f : X → Y) (pieces : List (List X)) → map (map g) (map (map f) pieces) ≡ map (map (λ x. g (f x))) pieces
pieces-twice g f [] = refl
pieces-twice g f (p ∷ ps) = ap₂ (λ a b. a ∷ b) (map-twice g f p) (pieces-twice g f ps)

pub all-map : {X Y : Type 0} (P : Y → Type 0) (f : X → Y) (xs : List X) → All (λ x. P (f x)) xs → All P (map f xs)
all-map P f [] h = All-nil P
all-map P f (x ∷ xs) h = All-cons P (f x) (map f xs) (All-head (λ y. P (f y)) x xs h) (all-map P f xs (All-tail (λ y. P (f y)) x xs h))

pub all-unmap : {X Y : Type 0} (P : Y → Type 0) (f : X → Y) (xs : List X) → All P (map f xs) → All (λ x. P (f x)) xs
all-unmap P f [] h = All-nil (λ x. P (f x))
all-unmap P f (x ∷ xs) h = All-cons (λ y. P (f y)) x xs (All-head P (f x) (map f xs) h) (all-unmap P f xs (All-tail P (f x) (map f xs) h))

-- piece by piece
pub all-weaker_pieces : {X : Type 0} (P Q : X → Type 0) (pieces : List (List X)) → ((x : X) → P x → Q x) → All (All P) pieces → All (All Q) pieces
all-weaker_pieces P Q pieces f h i d il j e jl = f (get_or (get_or pieces i d) j e) (h i d il j e jl)

pub map-pieces : {X Y : Type 0} (P : Y → Type 0) (g : X → Y) (pieces : List (List X)) → All (All (λ x. P (g x))) pieces → All (All P) (map (map g) pieces)
map-pieces P g pieces h = all-map (All P) (map g) pieces (λ k d l. all-map P g (get_or pieces k d) (h k d l))

-- one of the items by a function
pub contains-map : {X Y : Type 0} (f : X → Y) (xs : List X) (x : X) → Contains xs x → Contains (map f xs) (f x)
contains-map f xs x c =
    (c.0, subst (λ n. c.0 < n) (sym (length-map xs f)) c.1, get_or-map f xs c.0 x (f x) c.1 ∙ ap f c.2)

pub contains-unmap : {X Y : Type 0} (f : X → Y) (xs : List X) (y : Y) → Contains (map f xs) y → (x : X) × Contains xs x × (f x ≡ y)
contains-unmap f [] y c = absurd (omega (arith, c.1))
contains-unmap {X} {Y} f (x ∷ xs) y c = at c.0 c.1 c.2
  where
    at : (k : ℕ) → k < length (map f (x ∷ xs)) → get_or (map f (x ∷ xs)) k y ≡ y → (z : X) × Contains (x ∷ xs) z × (f z ≡ y)
    at k l e =
        let below : k < length (x ∷ xs) = subst (λ n. k < n) (length-map (x ∷ xs) f) l in
        (get_or (x ∷ xs) k x, Contains-get_or (x ∷ xs) k x below, sym (get_or-map f (x ∷ xs) k x y below) ∙ e)

-- where each item of a list is one of another, what holds of the other holds of it
pub all-among : {X : Type 0} (P : X → Type 0) (xs ys : List X) → All P ys → ((x : X) → Contains xs x → Contains ys x) → All P xs
all-among P xs ys h among k d l =
    let c = among (get_or xs k d) (Contains-get_or xs k d l) in
    subst P c.2 (h c.0 (get_or xs k d) c.1)

-- items that differ in pairs are apart
pub apart-map : {X Y : Type 0} (f : X → Y) (xs : List X) → AllPairs (λ x y. f x ≢ f y) xs → AreApart (map f xs)
apart-map f [] h = tt
apart-map {X} {Y} f (x ∷ xs) h = (
  all-map (λ y. f x ≢ y) f xs (λ k d l. h 0 (suc k) d (omega arith) (omega arith)),
  apart-map f xs (λ i j d r l. h (suc i) (suc j) d (omega arith) (omega arith)),
)

-- items that are apart are known by where they stand
pub apart-at : {X : Type 0} (xs : List X) (i j : ℕ) (d : X) → AreApart xs → i < length xs → j < length xs → get_or xs i d ≡ get_or xs j d → i ≡ j
apart-at [] i j d a il jl e = absurd (omega arith)
apart-at (x ∷ xs) zero zero d a il jl e = refl
apart-at (x ∷ xs) zero (suc j) d a il jl e = absurd (a.0 j d (omega arith) e)
apart-at (x ∷ xs) (suc i) zero d a il jl e = absurd (a.0 i d (omega arith) (sym e))
apart-at (x ∷ xs) (suc i) (suc j) d a il jl e = ap suc (apart-at xs i j d a.1 (omega arith) (omega arith) e)
