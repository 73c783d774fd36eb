-- Keys of facets in turn, and the facets that the marks keep.
use Rattle.std.proofs.Common.{◌≡◌, ℕ, zero, suc, ◌+◌, ◌*◌, ◌^◌, ◌<◌, ◌≤◌, Bool, false, cond, List, [], ◌∷◌, ◌++◌, length, get_or, map, refl, sym, ap, ap₂, ◌∙◌, nat_eq, arith}
use Rattle.std.specs.List.{All, count_by, filter, flat_map}
use Rattle.std.proofs.lemmas.List.{get_or-map, get_or_default, length-map, same_lists}
use Rattle.std.proofs.lemmas.List.Elements.{All-head, All-tail, filter-append}
use Rattle.viz_sheet.specs.Kept.{kept}
use Rattle.viz_sheet.specs.Ranked.{IsCell}
use Rattle.viz_mesh_meaning.specs.Facets.{facets_of, lone_facets, occurrences}
use Rattle.viz_mesh_meaning.proofs.FacetLemmas.{facets-size}
use Rattle.viz_boundary.specs.Steps.Keys.{keyed, keyed_from, set_key}
use Rattle.viz_boundary.specs.Steps.Alone.{AreIndexed, TellAlone, index_of, is_alone, set_of}
use Rattle.viz_boundary.proofs.CountLemmas.{cells-count, count-alike, facet-sets}

pub keyed-append : (at : ℕ) (xs ys : List (List ℕ)) → keyed_from at (xs ++ ys) ≡ keyed_from at xs ++ keyed_from (at + length xs) ys
keyed-append at [] ys = ap (λ n. keyed_from n ys) {x = at} {y = at + 0} (omega arith)
keyed-append at (x ∷ xs) ys =
    ap (λ t. keyed at x ∷ t) (keyed-append (at + 1) xs ys ∙ ap (λ n. keyed_from (at + 1) xs ++ keyed_from n ys) {x = at + 1 + length xs} {y = at + length (x ∷ xs)} (omega arith))

pub length-keyed : (at : ℕ) (xs : List (List ℕ)) → length (keyed_from at xs) ≡ length xs
length-keyed at [] = refl
length-keyed at (x ∷ xs) = omega (arith, length-keyed (at + 1) xs)

set-keyed : (set at : ℕ) → at < 2 ^ 32 → set_of (set * 2 ^ 32 + at) ≡ set
set-keyed set at l = omega arith

index-keyed : (set at : ℕ) → at < 2 ^ 32 → index_of (set * 2 ^ 32 + at) ≡ at
index-keyed set at l = omega arith

keyed-at : (at : ℕ) (xs : List (List ℕ)) (j : ℕ) → j < length xs → get_or (keyed_from at xs) j 0 ≡ keyed (at + j) (get_or xs j [])
keyed-at at [] j l = absurd (omega arith)
keyed-at at (x ∷ xs) zero l = ap (λ n. keyed n x) {x = at} {y = at + 0} (omega arith)
keyed-at at (x ∷ xs) (suc j) l = keyed-at (at + 1) xs j (omega arith) ∙ ap (λ n. keyed n (get_or xs j [])) {x = at + 1 + j} {y = at + suc j} (omega arith)

pub keyed-indexed : (xs : List (List ℕ)) → length xs ≤ 2 ^ 32 → AreIndexed (keyed_from 0 xs)
keyed-indexed xs few = record {
  few = omega (arith, length-keyed 0 xs);
  each = λ j l.
      let below : j < length xs = omega (arith, length-keyed 0 xs) in
      ap index_of (keyed-at 0 xs j below ∙ ap (λ n. keyed n (get_or xs j [])) {x = 0 + j} {y = j} (omega arith)) ∙ index-keyed (set_key (get_or xs j [])) j (omega arith);
}

sets-of : (set at : ℕ) (xs : List (List ℕ)) → at + length xs ≤ 2 ^ 32 → map (λ k. nat_eq (set_of k) set) (keyed_from at xs) ≡ map (λ y. nat_eq (set_key y) set) xs
sets-of set at [] few = refl
sets-of set at (x ∷ xs) few =
    ap₂ (λ a b. a ∷ b) (ap (λ k. nat_eq k set) (set-keyed (set_key x) at (omega arith))) (sets-of set (at + 1) xs (omega arith))

-- how many facets have the set of one of them
abbrev pub facet_times : List (List ℕ) → List ℕ → ℕ
facet_times facets x = count_by (λ y. nat_eq (set_key y) (set_key x)) facets

times-keyed : (xs : List (List ℕ)) (j : ℕ) → length xs ≤ 2 ^ 32 → j < length xs → is_alone (keyed_from 0 xs) j ≡ nat_eq (facet_times xs (get_or xs j [])) 1
unfolding is_alone
times-keyed xs j few l =
    let set : set_of (get_or (keyed_from 0 xs) j 0) ≡ set_key (get_or xs j []) =
    ap set_of (keyed-at 0 xs j l ∙ ap (λ n. keyed n (get_or xs j [])) {x = 0 + j} {y = j} (omega arith)) ∙ set-keyed (set_key (get_or xs j [])) j (omega arith) in
    ap (λ n. nat_eq n 1)
    (count-alike (λ k. nat_eq (set_of k) (set_of (get_or (keyed_from 0 xs) j 0))) (λ y. nat_eq (set_key y) (set_of (get_or (keyed_from 0 xs) j 0))) (keyed_from 0 xs) xs (sets-of (set_of (get_or (keyed_from 0 xs) j 0)) 0 xs (omega arith))
    ∙ ap (λ s. count_by (λ y. nat_eq (set_key y) s) xs) set)

pub marks-lone : (xs : List (List ℕ)) (marks : List Bool) → length xs ≤ 2 ^ 32 → TellAlone (keyed_from 0 xs) marks → marks ≡ map (λ x. nat_eq (facet_times xs x) 1) xs
marks-lone xs marks few t =
    let count : length (map (λ x. nat_eq (facet_times xs x) 1) xs) ≡ length xs = simp length-map in
    let size : length marks ≡ length xs = t.size ∙ length-keyed 0 xs in
    same_lists marks (map (λ x. nat_eq (facet_times xs x) 1) xs) (size ∙ sym count) (λ j d l.
    let below : j < length xs = omega (arith, size) in
    get_or_default marks j d false l ∙ t.each j (omega (arith, length-keyed 0 xs, size)) ∙ times-keyed xs j few below
    ∙ sym (get_or-map (λ x. nat_eq (facet_times xs x) 1) xs j [] d below))

-- ---- what the marks keep

kept-marked : {X : Type 0} (p : X → Bool) (xs : List X) → kept (map p xs) xs ≡ filter p xs
kept-marked p [] = refl
kept-marked p (x ∷ xs) = ap (λ ys. cond (p x) (x ∷ ys) ys) (kept-marked p xs)

filter-flat : {X Y : Type 0} (p : Y → Bool) (f : X → List Y) (xs : List X) → filter p (flat_map f xs) ≡ flat_map (λ x. filter p (f x)) xs
filter-flat p f [] = refl
filter-flat p f (x ∷ xs) = filter-append p (f x) (flat_map f xs) ∙ ap (λ t. filter p (f x) ++ t) (filter-flat p f xs)

pub filter-same : {X : Type 0} (p q : X → Bool) (xs : List X) → All (λ x. p x ≡ q x) xs → filter p xs ≡ filter q xs
filter-same p q [] h = refl
filter-same p q (x ∷ xs) h =
    ap₂ (λ b ys. cond b (x ∷ ys) ys) (All-head (λ y. p y ≡ q y) x xs h) (filter-same p q xs (All-tail (λ y. p y ≡ q y) x xs h))

pub flat-same : {X Y : Type 0} (f g : X → List Y) (xs : List X) → All (λ x. f x ≡ g x) xs → flat_map f xs ≡ flat_map g xs
flat-same f g [] h = refl
flat-same f g (x ∷ xs) h =
    ap₂ (λ a b. a ++ b) (All-head (λ y. f y ≡ g y) x xs h) (flat-same f g xs (All-tail (λ y. f y ≡ g y) x xs h))

lone-count : (n : ℕ) (cells : List (List ℕ)) (cell : List ℕ) → n ≤ 2 ^ 32 → All (IsCell n) cells → IsCell n cell → (k : ℕ) (d : List ℕ) → k < length (facets_of cell)
    → nat_eq (facet_times (flat_map facets_of cells) (get_or (facets_of cell) k d)) 1 ≡ nat_eq (occurrences nat_eq cells (length cell) (get_or (facets_of cell) k d)) 1
lone-count n cells cell few h hc k d l =
    let y = get_or (facets_of cell) k d in
    ap (λ c. nat_eq c 1)
    (cells-count n y cells few (facet-sets n cell few hc k d l) h
    ∙ ap (λ size. occurrences nat_eq cells size y) ((facets-size cell hc.most k d l).fewer))

pub kept-lone : (n : ℕ) (cells : List (List ℕ)) (marks : List Bool) → n ≤ 2 ^ 32 → All (IsCell n) cells → length (flat_map facets_of cells) ≤ 2 ^ 32
    → TellAlone (keyed_from 0 (flat_map facets_of cells)) marks → kept marks (flat_map facets_of cells) ≡ flat_map (lone_facets nat_eq cells) cells
kept-lone n cells marks few h size t =
    let all = flat_map facets_of cells in
    let p = λ (x : List ℕ). nat_eq (facet_times all x) 1 in
    ap (λ ms. kept ms all) (marks-lone all marks size t) ∙ kept-marked p all ∙ filter-flat p facets_of cells
    ∙ flat-same (λ c. filter p (facets_of c)) (lone_facets nat_eq cells) cells (λ k d l.
    let c = get_or cells k d in
    filter-same p (λ x. nat_eq (occurrences nat_eq cells (length c) x) 1) (facets_of c) (λ j e m. lone-count n cells c few h (h k d l) j e m))
