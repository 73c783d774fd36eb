-- The 24 facets of the six tetrahedra of a cube, each with the direction that its tetrahedron gives it.
use Rattle.std.proofs.Common.{◌≡◌, ℕ, zero, suc, ◌+◌, ◌-◌, ◌<◌, ◌≤◌, ◌==◌, Bool, true, false, not, cond, leb, ltb, ◌&&◌, ◌||◌, true≢false, List, [], ◌∷◌, length, get_or, refl, sym, arith}
use Rattle.std.specs.Prelude.{count_by, filter, slice_index_or}
use Rattle.std.specs.List.{All, flat_map, list_all}
use Rattle.std.proofs.lemmas.Bool.Decides.{nat_tests}
use Rattle.viz_kuhn.specs.Corners.{Corner, corner, path_of}
use Rattle.viz_kuhn.specs.Kuhn.{Row, rows}
use Rattle.viz_surface_law.proofs.Sharing.CubeSums.{is_in}

-- three corners of a cube in ascending order, and whether the facet is run through so
pub record Facet : Type 0 where
  pub up : Bool
  pub a : Corner
  pub b : Corner
  pub c : Corner

abbrev pub facet : Bool → Corner → Corner → Corner → Facet
facet up a b c = record { up = up; a = a; b = b; c = c }

-- the same facet seen from the other side
abbrev pub flipped : Facet → Facet
flipped f = facet (not f.up) f.a f.b f.c

-- the four facets of a tetrahedron with corners in ascending order
abbrev pub four_of : Bool → List Corner → List Facet
four_of even (a ∷ b ∷ c ∷ d ∷ []) =
    facet even a b c ∷ facet (not even) a b d ∷ facet even a c d ∷ facet (not even) b c d ∷ []
four_of even _ = []

abbrev pub facets_of : Row → List Facet
facets_of r = four_of r.even (path_of r.axes)

-- those of all six
abbrev pub all_facets : List Facet
all_facets = flat_map facets_of rows

-- the steps from one corner to another
abbrev pub gap : Corner → Corner → Corner
gap from to = corner (to.x - from.x) (to.y - from.y) (to.z - from.z)

abbrev pub same_corner : Corner → Corner → Bool
same_corner a b = (a.x == b.x) && ((a.y == b.y) && (a.z == b.z))

abbrev pub same_flag : Bool → Bool → Bool
same_flag true true = true
same_flag true false = false
same_flag false true = false
same_flag false false = true

-- whether two facets are one but for where they lie
abbrev pub same_shape : Facet → Facet → Bool
same_shape f g = same_flag f.up g.up && (same_corner (gap f.a f.b) (gap g.a g.b) && same_corner (gap f.a f.c) (gap g.a g.c))

-- the facet of the six tetrahedra that has the shape of another seen from the other side
abbrev pub other : Facet → Facet
other f = slice_index_or (filter (λ g. same_shape g (flipped f)) all_facets) 0 f

-- each facet has its shape, and the other one alone has it from the other side
abbrev pub IsOnce : Facet → Type 0
IsOnce f = (h : Corner → Bool)
    → (count_by (λ g. same_shape g f && h g.a) all_facets ≡ cond (h f.a) 1 0)
    × (count_by (λ g. same_shape g (flipped f) && h g.a) all_facets ≡ cond (h (other f).a) 1 0)

abbrev pub Each : {X : Type 0} → (X → Type 0) → List X → Type 0
Each P [] = Unit {0}
Each P (x ∷ xs) = P x × Each P xs

once : Each IsOnce all_facets
unfolding rows
once = (
  λ h. (omega arith, omega arith),
  (
    λ h. (omega arith, omega arith),
    (
      λ h. (omega arith, omega arith),
      (
        λ h. (omega arith, omega arith),
        (
          λ h. (omega arith, omega arith),
          (
            λ h. (omega arith, omega arith),
            (
              λ h. (omega arith, omega arith),
              (
                λ h. (omega arith, omega arith),
                (
                  λ h. (omega arith, omega arith),
                  (
                    λ h. (omega arith, omega arith),
                    (
                      λ h. (omega arith, omega arith),
                      (
                        λ h. (omega arith, omega arith),
                        (
                          λ h. (omega arith, omega arith),
                          (
                            λ h. (omega arith, omega arith),
                            (
                              λ h. (omega arith, omega arith),
                              (
                                λ h. (omega arith, omega arith),
                                (
                                  λ h. (omega arith, omega arith),
                                  (
                                    λ h. (omega arith, omega arith),
                                    (
                                      λ h. (omega arith, omega arith),
                                      (
                                        λ h. (omega arith, omega arith),
                                        (
                                          λ h. (omega arith, omega arith),
                                          (
                                            λ h. (omega arith, omega arith),
                                            (
                                              λ h. (omega arith, omega arith),
                                              (
                                                λ h. (omega arith, omega arith),
                                                tt,
                                              ),
                                            ),
                                          ),
                                        ),
                                      ),
                                    ),
                                  ),
                                ),
                              ),
                            ),
                          ),
                        ),
                      ),
                    ),
                  ),
                ),
              ),
            ),
          ),
        ),
      ),
    ),
  ),
)

pub Each_at : {X : Type 0} (P : X → Type 0) (xs : List X) → Each P xs → (k : ℕ) (d : X) → k < length xs → P (get_or xs k d)
Each_at P [] each k d less = absurd (omega arith)
Each_at P (x ∷ xs) each zero d less = each.0
Each_at P (x ∷ xs) each (suc k) d less = Each_at P xs each.1 k d (omega arith)

pub facets_once : All IsOnce all_facets
facets_once = Each_at IsOnce all_facets once

-- ---- one axis

-- three indices of a facet along an axis all at the lower bound, or all at the upper one
abbrev pub at_end : ℕ → ℕ → ℕ → ℕ → ℕ → Bool
at_end lo hi p q r = ((p == lo) && ((q == lo) && (r == lo))) || ((p == hi) && ((q == hi) && (r == hi)))

-- how a facet's steps along an axis may lie to those of the other one's first corner
abbrev pub is_axis : ℕ → ℕ → ℕ → ℕ → Bool
is_axis zero zero (suc zero) zero = true
is_axis zero (suc zero) (suc zero) zero = true
is_axis zero zero zero (suc zero) = true
is_axis (suc zero) (suc zero) (suc zero) zero = true
is_axis _ _ _ _ = false

-- along an axis there is a cube behind a facet just where the facet isn't at an end
abbrev pub AxisLaw : ℕ → ℕ → ℕ → ℕ → Type 0
AxisLaw a b c o = (lo hi x : ℕ) → lo ≤ x → x < hi → is_in lo (hi - lo) o (x + a) ≡ not (at_end lo hi (x + a) (x + b) (x + c))

pub axis_law : (a b c o : ℕ) → is_axis a b c o ≡ true → AxisLaw a b c o
axis_law zero zero (suc zero) zero is lo hi x low high = grind (arith, nat_tests)
axis_law zero (suc zero) (suc zero) zero is lo hi x low high = grind (arith, nat_tests)
axis_law zero zero zero (suc zero) is lo hi x low high = grind (arith, nat_tests)
axis_law (suc zero) (suc zero) (suc zero) zero is lo hi x low high = grind (arith, nat_tests)
axis_law _ _ _ _ is lo hi x low high = absurd (true≢false (sym is))

-- so it is along each axis
abbrev pub is_apart : Facet → Bool
is_apart f =
    let o = (other f).a in
    is_axis f.a.x f.b.x f.c.x o.x && (is_axis f.a.y f.b.y f.c.y o.y && is_axis f.a.z f.b.z f.c.z o.z)

pub all_apart : list_all is_apart all_facets ≡ true
unfolding rows
all_apart = refl

-- corners ascend
abbrev pub is_up : Corner → Corner → Bool
is_up a b = leb a.x b.x && (leb a.y b.y && leb a.z b.z)

abbrev pub is_bits : Corner → Bool
is_bits a = ltb a.x 2 && (ltb a.y 2 && ltb a.z 2)

abbrev pub is_chain : Facet → Bool
is_chain f =
    is_up f.a f.b && (is_up f.b f.c && (not (same_corner f.a f.b) && (not (same_corner f.b f.c) && (is_bits f.a && (is_bits f.b && is_bits f.c)))))

pub all_chains : list_all is_chain all_facets ≡ true
unfolding rows
all_chains = refl
