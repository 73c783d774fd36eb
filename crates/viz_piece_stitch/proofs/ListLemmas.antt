-- Members of lists of lists, and marked items of lists.
use Rattle.std.proofs.Common.{◌≡◌, ℕ, ◌+◌, ◌<◌, ◌==◌, if◌then◌else◌, Bool, true, false, ⊎_elim, List, [], ◌∷◌, ◌++◌, length, get_or, map, take, append_assoc, refl, sym, ap, ap₂, subst, ◌∙◌, arith}
use Rattle.std.specs.List.{All, Contains, flat_map}
use Rattle.std.proofs.lemmas.List.{length-map, length_push, length-take-le, map-append, map_more, take_more}
use Rattle.std.proofs.lemmas.List.Elements.{All-nil, All-cons, All-head, All-tail, Contains-append_cases, Contains-append_left, Contains-append_right}
use Rattle.viz_parts.specs.Stitching.{own_items}
use Rattle.viz_sheet.proofs.MemberLemmas.{here, there, member_cases, no_member}

-- a member of lists joined is one of one of them
pub from_flat_map : {X Y : Type 0} (f : X → List Y) (xs : List X) (y : Y) → Contains (flat_map f xs) y → (x : X) × Contains xs x × Contains (f x) y
from_flat_map f [] y c = absurd (no_member y c)
from_flat_map f (x ∷ xs) y c =
    ⊎_elim (λ d. (x, here x xs, d)) (λ d. let r = from_flat_map f xs y d in (r.0, there x xs r.0 r.1, r.2)) (Contains-append_cases (f x) (flat_map f xs) y c)

pub into_flat_map : {X Y : Type 0} (f : X → List Y) (xs : List X) (x : X) (y : Y) → Contains xs x → Contains (f x) y → Contains (flat_map f xs) y
into_flat_map f [] x y c d = absurd (no_member x c)
into_flat_map f (a ∷ xs) x y c d =
    ⊎_elim
    (λ e. Contains-append_left (f a) (flat_map f xs) y (subst (λ k. Contains (f k) y) (sym e) d))
    (λ rest. Contains-append_right (f a) (flat_map f xs) y (into_flat_map f xs x y rest d))
    (member_cases a xs x c)

-- the only item, taken out from behind
pub only_last : {X : Type 0} (xs rest : List X) (x : X) → length xs ≡ 1 → xs ≡ rest ++ x ∷ [] → xs ≡ x ∷ []
only_last xs [] x one e = e
only_last xs (y ∷ ys) x one e = absurd (omega (arith, one, ap length e, length_push ys x))

-- ---- own items

fork : {Y : Type 0} (b : Bool) (y : Y) (all before last : List Y) → all ≡ before ++ last → (if b then y ∷ all else all) ≡ (if b then y ∷ before else before) ++ last
fork true y all before last e = ap (λ ys. y ∷ ys) e
fork false y all before last e = e

own-push : {Y : Type 0} (ys : List Y) (ls : List ℕ) (y : Y) (l : ℕ) → length ys ≡ length ls → own_items (ys ++ y ∷ []) (ls ++ l ∷ []) ≡ own_items ys ls ++ (if l == 0 then y ∷ [] else [])
own-push [] [] y l e = refl
own-push [] (k ∷ ks) y l e = absurd (omega arith)
own-push (x ∷ xs) [] y l e = absurd (omega arith)
own-push (x ∷ xs) (k ∷ ks) y l e =
    fork (k == 0) x (own_items (xs ++ y ∷ []) (ks ++ l ∷ [])) (own_items xs ks) (if l == 0 then y ∷ [] else []) (own-push xs ks y l (omega arith))

-- one item more
pub own-more : {X Y : Type 0} (f : X → Y) (xs : List X) (ls : List ℕ) (i : ℕ) (d : X) → i < length xs → length ls ≡ length xs
    → own_items (map f (take (i + 1) xs)) (take (i + 1) ls) ≡ own_items (map f (take i xs)) (take i ls) ++ (if get_or ls i 0 == 0 then f (get_or xs i d) ∷ [] else [])
own-more f xs ls i d l e =
    let below : i < length ls = omega (arith, l, e) in
    let same : length (map f (take i xs)) ≡ length (take i ls) = length-map (take i xs) f ∙ length-take-le i xs (omega (arith, l)) ∙ sym (length-take-le i ls (omega (arith, below))) in
    ap₂ (λ a b. own_items a b) (map_more f xs i d l) (take_more ls i 0 below) ∙ own-push (map f (take i xs)) (take i ls) (f (get_or xs i d)) (get_or ls i 0) same

fork-map : {X Y : Type 0} (f : X → Y) (b : Bool) (x : X) (xs : List X) (ys : List Y) → map f xs ≡ ys → map f (if b then x ∷ xs else xs) ≡ (if b then f x ∷ ys else ys)
fork-map f true x xs ys e = ap (λ zs. f x ∷ zs) e
fork-map f false x xs ys e = e

pub own-map : {X Y : Type 0} (f : X → Y) (xs : List X) (ls : List ℕ) → map f (own_items xs ls) ≡ own_items (map f xs) ls
own-map f [] ls = refl
own-map f (x ∷ xs) [] = refl
own-map f (x ∷ xs) (l ∷ ls) = fork-map f (l == 0) x (own_items xs ls) (own_items (map f xs) ls) (own-map f xs ls)

fork-all : {X : Type 0} (P : X → Type 0) (b : Bool) (x : X) (xs : List X) → P x → All P xs → All P (if b then x ∷ xs else xs)
fork-all P true x xs h hs = All-cons P x xs h hs
fork-all P false x xs h hs = hs

pub own-all : {X : Type 0} (P : X → Type 0) (xs : List X) (ls : List ℕ) → All P xs → All P (own_items xs ls)
own-all P [] ls h = All-nil P
own-all P (x ∷ xs) [] h = All-nil P
own-all P (x ∷ xs) (l ∷ ls) h = fork-all P (l == 0) x (own_items xs ls) (All-head P x xs h) (own-all P xs ls (All-tail P x xs h))

-- one item more is looked at, and added where it is own
pub pushed-own : {X Y : Type 0} (f : X → Y) (xs : List X) (ls : List ℕ) (i : ℕ) (d : X) (start before after : List Y) (y : Y) (level : ℕ) → i < length xs → length ls ≡ length xs
    → after ≡ before ++ (if level == 0 then y ∷ [] else []) → level ≡ get_or ls i 0 → y ≡ f (get_or xs i d) → before ≡ start ++ own_items (map f (take i xs)) (take i ls)
    → after ≡ start ++ own_items (map f (take (i + 1) xs)) (take (i + 1) ls)
pushed-own f xs ls i d start before after y level l e pushed is item so_far =
    pushed ∙ ap₂ (λ a k. a ++ (if k == 0 then y ∷ [] else [])) so_far is ∙ ap (λ z. (start ++ own_items (map f (take i xs)) (take i ls)) ++ (if get_or ls i 0 == 0 then z ∷ [] else [])) item
    ∙ append_assoc start (own_items (map f (take i xs)) (take i ls)) (if get_or ls i 0 == 0 then f (get_or xs i d) ∷ [] else [])
    ∙ ap (λ z. start ++ z) (sym (own-more f xs ls i d l e))

-- the same, seen through a map
pub map-fork : {Z Y : Type 0} (v : Z → Y) (b : Bool) (z : Z) (before after : List Z) → after ≡ before ++ (if b then z ∷ [] else []) → map v after ≡ map v before ++ (if b then v z ∷ [] else [])
map-fork v true z before after e = ap (map v) e ∙ map-append v before (z ∷ [])
map-fork v false z before after e = ap (map v) e ∙ map-append v before []
