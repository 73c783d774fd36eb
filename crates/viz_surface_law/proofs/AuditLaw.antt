-- The counts of an audit of a section.
use Rattle.std.proofs.Common.{◌≡◌, ℕ, ◌+◌, ◌<◌, ◌==◌, Bool, true, false, cond, ◌&&◌, ◌||◌, inl, inr, List, [], ◌∷◌, map, length, refl, sym, ap, ◌∙◌, if◌then◌else◌, arith}
use Rattle.std.specs.Prelude.{◌⊎◌, count_by, sum_by}
use Rattle.std.specs.List.{flat_map}
use Rattle.std.specs.Set.{unique_keys, is_member}
use Rattle.std.proofs.lemmas.Bool.Decides.{nat_tests}
use Rattle.std.proofs.lemmas.List.Sums.{sum_by-cons}
use Rattle.viz_extent.specs.Extent.{Bounds}
use Rattle.viz_grid_section.specs.Edges.{is_before}
use Rattle.viz_grid_section.specs.GridSection.{grid_cells}
use Rattle.viz_surface_law.specs.Sides.{Side, turned, sides_of, same_side, shares}
use Rattle.viz_surface_law.proofs.Cuts.{all_ends}
use Rattle.viz_surface_law.specs.Facets.{x_of, y_of, z_of}
use Rattle.viz_surface_law.specs.Closed.{on_boundary, run_through}
use Rattle.viz_surface_law.proofs.Cuts.{at_end_of}
use Rattle.viz_surface_law.specs.Audit.{undirected, sides_in, is_two, is_lone, is_border, count_sides, count_two, count_lone, count_border}
use Rattle.viz_surface_law.proofs.Sharing.ListCounts.{sum_by-same, sum_by-plus}
use Rattle.viz_surface_law.proofs.Sharing.FacetTable.{Each, Each_at}
use Rattle.viz_surface_law.proofs.Cuts.{swap_4, same_side-decides}
use Rattle.viz_surface_law.proofs.Law.{outcome, occ, run_through-occ}

-- ---- each key once

Each-unique : (P : Side → Type 0) (xs : List Side) → Each P xs → Each P (unique_keys same_side xs)
Each-unique P [] each = tt
Each-unique P (x ∷ xs) each = cases (is_member same_side xs x) (Each-unique P xs each.1)
  where
    cases : (t : Bool) → Each P (unique_keys same_side xs) → Each P (cond t (unique_keys same_side xs) (x ∷ unique_keys same_side xs))
    cases true rest = rest
    cases false rest = (each.0, rest)

Each-map : (P : Side → Type 0) (f : Side → Side) (xs : List Side) → Each (λ x. P (f x)) xs → Each P (map f xs)
Each-map P f [] each = tt
Each-map P f (x ∷ xs) each = (each.0, Each-map P f xs each.1)

pub Each-weaker : (P Q : Side → Type 0) → ((s : Side) → P s → Q s) → (xs : List Side) → Each P xs → Each Q xs
Each-weaker P Q f [] each = tt
Each-weaker P Q f (x ∷ xs) each = (f x each.0, Each-weaker P Q f xs each.1)

-- each item of a list occurs in it
pub each_occurs : (xs : List Side) → Each (λ s. 0 < count_by (same_side s) xs) xs
each_occurs [] = tt
each_occurs (x ∷ xs) =
    let hit : cond {A = ℕ} (same_side x x) 1 0 ≡ 1 = ap (λ t. cond t 1 0) ((same_side-decides x x).1 refl) in (
      omega (arith, sum_by-cons (λ (y : Side). cond {A = ℕ} (same_side x y) 1 0) x xs, hit),
      Each-weaker (λ s. 0 < count_by (same_side s) xs) (λ s. 0 < count_by (same_side s) (x ∷ xs))
          (λ s above. omega (arith, above, sum_by-cons (λ (y : Side). cond {A = ℕ} (same_side s y) 1 0) x xs)) xs (each_occurs xs),
    )

-- ---- the other direction

ends_turned : (q : ℕ → Bool) (s : Side) → all_ends q (turned s) ≡ all_ends q s
ends_turned q s = swap_4 (q s.tail.low) (q s.tail.high) (q s.head.low) (q s.head.high)

shares_turned : (s : Side) → shares (turned s) ≡ shares s
shares_turned s = grind (arith, nat_tests)

end_turned : (coordinate : ℕ → ℕ) (lo hi : ℕ) (s : Side) → at_end_of coordinate lo hi (turned s) ≡ at_end_of coordinate lo hi s
end_turned coordinate lo hi s = λ t. ends_turned (λ leaf. coordinate leaf == lo) s t || ends_turned (λ leaf. coordinate leaf == hi) s t

boundary_turned : (b : Bounds) (s : Side) → on_boundary b (turned s) ≡ on_boundary b s
boundary_turned b s = λ t.
    shares_turned s t && (end_turned (x_of b) b.x0 b.x1 s t || (end_turned (y_of b) b.y0 b.y1 s t || end_turned (z_of b) b.z0 b.z1 s t))

-- ---- one side

-- triangles run through it, one way or the other
abbrev Runs : Bounds → List Bool → Side → Type 0
Runs b inside s = (0 < run_through (grid_cells b inside) s) ⊎ (0 < run_through (grid_cells b inside) (turned s))

-- how often, forth and back
abbrev Known : Bounds → List Bool → Side → Type 0
Known b inside s =
    ((run_through (grid_cells b inside) s ≡ 1) × (run_through (grid_cells b inside) (turned s) ≡ cond (on_boundary b s) 0 1))
    ⊎ ((run_through (grid_cells b inside) (turned s) ≡ 1) × (run_through (grid_cells b inside) s ≡ cond (on_boundary b s) 0 1))

known : (b : Bounds) (inside : List Bool) (s : Side) → Runs b inside s → Known b inside s
known b inside s (inl some) =
    let out = outcome b inside s (omega (arith, some, run_through-occ b inside s)) in
    inl (run_through-occ b inside s ∙ out.0, run_through-occ b inside (turned s) ∙ out.1)
known b inside s (inr some) =
    let out = outcome b inside (turned s) (omega (arith, some, run_through-occ b inside (turned s))) in
    inr (run_through-occ b inside (turned s) ∙ out.0, run_through-occ b inside s ∙ out.1 ∙ ap (λ t. cond {A = ℕ} t 0 1) (boundary_turned b s))

one_of_both : (m n : ℕ) (e : Bool) → ((m ≡ 1) × (n ≡ cond e 0 1)) ⊎ ((n ≡ 1) × (m ≡ cond e 0 1))
    → cond {A = ℕ} ((m == 1) && (n == 1)) 1 0 + cond {A = ℕ} ((m + n == 1) && e) 1 0 ≡ 1
one_of_both m n true (inl h) = grind (arith, nat_tests, h.0, h.1)
one_of_both m n true (inr h) = grind (arith, nat_tests, h.0, h.1)
one_of_both m n false (inl h) = grind (arith, nat_tests, h.0, h.1)
one_of_both m n false (inr h) = grind (arith, nat_tests, h.0, h.1)

lone_on_border : (m n : ℕ) (e : Bool) → ((m ≡ 1) × (n ≡ cond e 0 1)) ⊎ ((n ≡ 1) × (m ≡ cond e 0 1)) → (m + n == 1) ≡ ((m + n == 1) && e)
lone_on_border m n true (inl h) = grind (arith, nat_tests, h.0, h.1)
lone_on_border m n true (inr h) = grind (arith, nat_tests, h.0, h.1)
lone_on_border m n false (inl h) = grind (arith, nat_tests, h.0, h.1)
lone_on_border m n false (inr h) = grind (arith, nat_tests, h.0, h.1)

runs_undirected : (b : Bounds) (inside : List Bool) (s : Side) → 0 < occ b inside s → Runs b inside (undirected s)
runs_undirected b inside s above = cases (is_before s.tail s.head)
  where
    some : 0 < run_through (grid_cells b inside) s
    some = omega (arith, above, run_through-occ b inside s)

    cases : (t : Bool) → Runs b inside (if t then s else turned s)
    cases true = inl some
    cases false = inr some

each_runs : (b : Bounds) (inside : List Bool) → Each (Runs b inside) (sides_in (grid_cells b inside))
each_runs b inside =
    let all = flat_map sides_of (grid_cells b inside) in
    Each-unique (Runs b inside) (map undirected all)
    (Each-map (Runs b inside) undirected all
    (Each-weaker (λ s. 0 < count_by (same_side s) all) (λ s. Runs b inside (undirected s)) (λ s above. runs_undirected b inside s above) all (each_occurs all)))

pub ones : (xs : List Side) → sum_by (λ (s : Side). 1) xs ≡ length xs
ones [] = refl
ones (x ∷ xs) = omega (arith, sum_by-cons (λ (s : Side). 1) x xs, ones xs)

pub audits_agree : (b : Bounds) (inside : List Bool)
    → let cells = grid_cells b inside in
    (count_sides cells ≡ count_two cells + count_border b cells) × (count_lone cells ≡ count_border b cells)
audits_agree b inside =
    let cells = grid_cells b inside in
    let xs = sides_in cells in
    let at = Each_at (Runs b inside) xs (each_runs b inside) in
    let f : Side → ℕ = λ s. cond (is_two cells s) 1 0 in
    let g : Side → ℕ = λ s. cond (is_border b cells s) 1 0 in (
      sym (ones xs)
          ∙ sym (sum_by-same (λ s. f s + g s) (λ s. 1) xs (λ k d less. one_of_both _ _ _ (known b inside _ (at k d less))))
          ∙ sum_by-plus f g xs,
      sum_by-same (λ s. cond (is_lone cells s) 1 0) g xs (λ k d less. ap (λ t. cond t 1 0) (lone_on_border _ _ _ (known b inside _ (at k d less)))),
    )
