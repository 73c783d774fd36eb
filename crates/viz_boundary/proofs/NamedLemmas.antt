-- Lone facets by ranks are those by names.
use Rattle.std.proofs.Common.{◌≡◌, ℕ, ◌<◌, Bool, true, false, cond, ◌&&◌, ◌||◌, List, [], ◌∷◌, ◌++◌, length, get_or, map, is_eq, refl, sym, ap, ap₂, ◌∙◌, nat_eq, arith}
use Rattle.std.specs.List.{All, filter, flat_map, list_any}
use Rattle.std.specs.Ordering.{nat_cmp}
use Rattle.std.proofs.lemmas.Cmp.{nat_list_cmp_total}
use Rattle.std.proofs.lemmas.List.{length-map, map-append}
use Rattle.std.proofs.lemmas.List.Elements.{All-head, All-tail}
use Rattle.viz_sheet.specs.Sheet.{AreAscending}
use Rattle.viz_sheet.specs.Ranked.{IsCell, by_names, names_at}
use Rattle.viz_sheet.proofs.PairOrder.{compare_as_ranks}
use Rattle.viz_mesh_meaning.specs.Facets.{facets_of, has_each, is_same_name, lone_facets, occurrences}
use Rattle.viz_mesh_meaning.proofs.FacetLemmas.{facets-all, facets-map}
use Rattle.viz_boundary.proofs.CountLemmas.{count-alike}
use Rattle.viz_boundary.proofs.KeyedLemmas.{flat-same}

equal-numbers : (r q : ℕ) → is_eq (nat_cmp r q) ≡ nat_eq r q
equal-numbers r q = grind (arith)

same-name : (names : List (List ℕ)) (r q : ℕ) → AreAscending names → r < length names → q < length names → is_same_name (get_or names r []) (get_or names q []) ≡ nat_eq r q
same-name names r q s hr hq = ap is_eq (compare_as_ranks nat_list_cmp_total names r q [] s hr hq) ∙ equal-numbers r q

any-named : (names : List (List ℕ)) (r : ℕ) (cell : List ℕ) → AreAscending names → r < length names → All (λ q. q < length names) cell
    → list_any (is_same_name (get_or names r [])) (names_at names cell) ≡ list_any (nat_eq r) cell
any-named names r [] s hr h = refl
any-named names r (q ∷ qs) s hr h =
    ap₂ (λ a b. a || b) (same-name names r q s hr (All-head (λ p. p < length names) q qs h)) (any-named names r qs s hr (All-tail (λ p. p < length names) q qs h))

each-named : (names : List (List ℕ)) (cell x : List ℕ) → AreAscending names → All (λ q. q < length names) cell → All (λ q. q < length names) x
    → has_each is_same_name (names_at names cell) (names_at names x) ≡ has_each nat_eq cell x
each-named names cell [] s h k = refl
each-named names cell (r ∷ rs) s h k =
    ap₂ (λ a b. a && b) (any-named names r cell s (All-head (λ p. p < length names) r rs k) h) (each-named names cell rs s h (All-tail (λ p. p < length names) r rs k))

occurrences-named : (names : List (List ℕ)) (cells : List (List ℕ)) (size : ℕ) (x : List ℕ) → AreAscending names → All (IsCell (length names)) cells → All (λ q. q < length names) x
    → occurrences is_same_name (by_names names cells) size (names_at names x) ≡ occurrences nat_eq cells size x
occurrences-named names cells size x s h k =
    count-alike (λ d. nat_eq (length d) size && has_each is_same_name d (names_at names x)) (λ d. nat_eq (length d) size && has_each nat_eq d x) (by_names names cells) cells (tests cells h)
  where
    tests : (ds : List (List ℕ)) → All (IsCell (length names)) ds
        → map (λ d. nat_eq (length d) size && has_each is_same_name d (names_at names x)) (by_names names ds) ≡ map (λ d. nat_eq (length d) size && has_each nat_eq d x) ds
    tests [] g = refl
    tests (d ∷ ds) g =
        let count : length (names_at names d) ≡ length d = simp length-map in
        ap₂ (λ a b. a ∷ b)
        (ap₂ (λ a b. nat_eq a size && b) count (each-named names d x s (All-head (IsCell (length names)) d ds g).below k))
        (tests ds (All-tail (IsCell (length names)) d ds g))

filter-map : {X Y : Type 0} (g : X → Y) (p : X → Bool) (q : Y → Bool) (xs : List X) → All (λ x. q (g x) ≡ p x) xs → map g (filter p xs) ≡ filter q (map g xs)
filter-map g p q [] h = refl
filter-map {X = X} {Y = Y} g p q (x ∷ xs) h = one (p x) (q (g x)) (All-head (λ y. q (g y) ≡ p y) x xs h) (filter-map g p q xs (All-tail (λ y. q (g y) ≡ p y) x xs h))
  where
    one : (b c : Bool) → c ≡ b → map g (filter p xs) ≡ filter q (map g xs) → map g (cond b (x ∷ filter p xs) (filter p xs)) ≡ cond c (g x ∷ filter q (map g xs)) (filter q (map g xs))
    one b c e rest = ap (λ a. map g (cond a (x ∷ filter p xs) (filter p xs))) (sym e) ∙ two c
      where
        two : (a : Bool) → map g (cond a (x ∷ filter p xs) (filter p xs)) ≡ cond a (g x ∷ filter q (map g xs)) (filter q (map g xs))
        two true = ap (λ t. g x ∷ t) rest
        two false = rest

map-flat : {X Y Z : Type 0} (g : Y → Z) (f : X → List Y) (xs : List X) → map g (flat_map f xs) ≡ flat_map (λ x. map g (f x)) xs
map-flat g f [] = refl
map-flat g f (x ∷ xs) = map-append g (f x) (flat_map f xs) ∙ ap (λ t. map g (f x) ++ t) (map-flat g f xs)

flat-map : {X Y Z : Type 0} (f : Y → List Z) (g : X → Y) (xs : List X) → flat_map f (map g xs) ≡ flat_map (λ x. f (g x)) xs
flat-map f g [] = refl
flat-map f g (x ∷ xs) = ap (λ t. f (g x) ++ t) (flat-map f g xs)

lone-named : (names : List (List ℕ)) (cells : List (List ℕ)) (cell : List ℕ) → AreAscending names → All (IsCell (length names)) cells → IsCell (length names) cell
    → map (names_at names) (lone_facets nat_eq cells cell) ≡ lone_facets is_same_name (by_names names cells) (names_at names cell)
lone-named names cells cell s h hc =
    let g = names_at names in
    let count : length (g cell) ≡ length cell = simp length-map in
    filter-map g (λ x. nat_eq (occurrences nat_eq cells (length cell) x) 1) (λ x. nat_eq (occurrences is_same_name (by_names names cells) (length (g cell)) x) 1) (facets_of cell)
    (λ k d l.
    let x = get_or (facets_of cell) k d in
    ap (λ n. nat_eq n 1) (ap (λ size. occurrences is_same_name (by_names names cells) size (g x)) count
    ∙ occurrences-named names cells (length cell) x s h (facets-all (λ q. q < length names) cell hc.most hc.below k d l)))
    ∙ ap (filter (λ x. nat_eq (occurrences is_same_name (by_names names cells) (length (g cell)) x) 1)) (facets-map (λ r. get_or names r []) cell hc.most)

pub boundary-named : (names : List (List ℕ)) (cells : List (List ℕ)) → AreAscending names → All (IsCell (length names)) cells
    → by_names names (flat_map (lone_facets nat_eq cells) cells) ≡ flat_map (lone_facets is_same_name (by_names names cells)) (by_names names cells)
boundary-named names cells s h =
    let g = names_at names in
    let f = lone_facets is_same_name (by_names names cells) in
    map-flat g (lone_facets nat_eq cells) cells
    ∙ flat-same (λ c. map g (lone_facets nat_eq cells c)) (λ c. f (g c)) cells (λ k d l. lone-named names cells (get_or cells k d) s h (h k d l))
    ∙ sym (flat-map f g cells)
