-- Sections of a tetrahedron, a triangle and a line by hand, from the table of cells.
use Rattle.std.proofs.Common.{◌≡◌, ℕ, Bool, true, false, pos, negsuc, List, [], ◌∷◌, map, nat_eq, slice_index_or, refl}
use Rattle.std.specs.List.{list_any}
use Rattle.viz_fraction.specs.declared.forms.Form.{Form}
use Rattle.viz_fraction.specs.Points.{numbers, divisor_of}
use Rattle.viz_fraction.specs.Divisors.{gcd}
use Rattle.viz_fraction.specs.Cases.{cells_at}
use Rattle.viz_sheet.specs.Sheet.{SheetData}
use Rattle.viz_meaning.specs.Names.{edge_name, lesser_end, greater_end, names_of}
use Rattle.viz_meaning.specs.Section.{cells_in, mask_of, section_of}

-- the greater of two names first, and the lesser first
turned : edge_name (5 ∷ []) (3 ∷ []) ≡ 3 ∷ 5 ∷ []
turned = refl

in_order : edge_name (0 ∷ 7 ∷ []) (1 ∷ 2 ∷ []) ≡ 0 ∷ 7 ∷ 1 ∷ 2 ∷ []
in_order = refl

-- halves of a name
lesser_half : lesser_end (0 ∷ 7 ∷ 1 ∷ 2 ∷ []) ≡ 0 ∷ 7 ∷ []
lesser_half = refl

greater_half : greater_end (0 ∷ 7 ∷ 1 ∷ 2 ∷ []) ≡ 1 ∷ 2 ∷ []
greater_half = refl

-- each once, ascending
three_names : names_of (((3 ∷ 5 ∷ []) ∷ (0 ∷ 9 ∷ []) ∷ []) ∷ ((3 ∷ 4 ∷ []) ∷ (3 ∷ 5 ∷ []) ∷ []) ∷ []) ≡ (0 ∷ 9 ∷ []) ∷ (3 ∷ 4 ∷ []) ∷ (3 ∷ 5 ∷ []) ∷ []
three_names = refl

-- the names of a tetrahedron, a triangle and a line, and the ends between them
abbrev tetrahedron : List (List ℕ)
tetrahedron = (0 ∷ []) ∷ (1 ∷ []) ∷ (2 ∷ []) ∷ (3 ∷ []) ∷ []

abbrev triangle : List (List ℕ)
triangle = (0 ∷ []) ∷ (1 ∷ []) ∷ (2 ∷ []) ∷ []

abbrev line : List (List ℕ)
line = (0 ∷ []) ∷ (1 ∷ []) ∷ []

abbrev a01 : List ℕ
a01 = 0 ∷ 1 ∷ []

abbrev a02 : List ℕ
a02 = 0 ∷ 2 ∷ []

abbrev a03 : List ℕ
a03 = 0 ∷ 3 ∷ []

abbrev a12 : List ℕ
a12 = 1 ∷ 2 ∷ []

abbrev a13 : List ℕ
a13 = 1 ∷ 3 ∷ []

abbrev a23 : List ℕ
a23 = 2 ∷ 3 ∷ []

-- whether a name is the leaf of one of these numbers
abbrev is_one_of : List ℕ → List ℕ → Bool
is_one_of leaves n = list_any (λ leaf. nat_eq leaf (slice_index_or n 0 0)) leaves

-- the cells in a cell, where these corners are inside
abbrev cells_by : List (List ℕ) → List ℕ → List (List (List ℕ))
cells_by corners leaves = cells_in (is_one_of leaves) corners

-- a line: 0, 1, none and both
of_line : map (cells_by line) ((0 ∷ []) ∷ (1 ∷ []) ∷ [] ∷ (0 ∷ 1 ∷ []) ∷ [])
    ≡ ((a01 ∷ []) ∷ []) ∷ ((a01 ∷ []) ∷ []) ∷ [] ∷ [] ∷ []
unfolding cells_at
of_line = refl

-- a triangle, one inside and two
of_triangle : map (cells_by triangle) ((0 ∷ []) ∷ (1 ∷ []) ∷ (2 ∷ []) ∷ (1 ∷ 2 ∷ []) ∷ (0 ∷ 2 ∷ []) ∷ (0 ∷ 1 ∷ []) ∷ [])
    ≡ ((a01 ∷ a02 ∷ []) ∷ [])
    ∷ ((a12 ∷ a01 ∷ []) ∷ [])
    ∷ ((a02 ∷ a12 ∷ []) ∷ [])
    ∷ ((a02 ∷ a01 ∷ []) ∷ [])
    ∷ ((a01 ∷ a12 ∷ []) ∷ [])
    ∷ ((a12 ∷ a02 ∷ []) ∷ [])
    ∷ []
unfolding cells_at
of_triangle = refl

-- a tetrahedron, one inside
one_of_four : map (cells_by tetrahedron) ((0 ∷ []) ∷ (1 ∷ []) ∷ (2 ∷ []) ∷ (3 ∷ []) ∷ [])
    ≡ ((a01 ∷ a02 ∷ a03 ∷ []) ∷ [])
    ∷ ((a12 ∷ a01 ∷ a13 ∷ []) ∷ [])
    ∷ ((a02 ∷ a12 ∷ a23 ∷ []) ∷ [])
    ∷ ((a13 ∷ a03 ∷ a23 ∷ []) ∷ [])
    ∷ []
unfolding cells_at
one_of_four = refl

-- three inside
three_of_four : map (cells_by tetrahedron) ((1 ∷ 2 ∷ 3 ∷ []) ∷ (0 ∷ 2 ∷ 3 ∷ []) ∷ (0 ∷ 1 ∷ 3 ∷ []) ∷ (0 ∷ 1 ∷ 2 ∷ []) ∷ [])
    ≡ ((a02 ∷ a01 ∷ a03 ∷ []) ∷ [])
    ∷ ((a01 ∷ a12 ∷ a13 ∷ []) ∷ [])
    ∷ ((a12 ∷ a02 ∷ a23 ∷ []) ∷ [])
    ∷ ((a03 ∷ a13 ∷ a23 ∷ []) ∷ [])
    ∷ []
unfolding cells_at
three_of_four = refl

-- two inside
two_of_four : map (cells_by tetrahedron) ((0 ∷ 1 ∷ []) ∷ (0 ∷ 2 ∷ []) ∷ (0 ∷ 3 ∷ []) ∷ (1 ∷ 2 ∷ []) ∷ (1 ∷ 3 ∷ []) ∷ (2 ∷ 3 ∷ []) ∷ [])
    ≡ ((a02 ∷ a03 ∷ a13 ∷ []) ∷ (a02 ∷ a13 ∷ a12 ∷ []) ∷ [])
    ∷ ((a01 ∷ a12 ∷ a23 ∷ []) ∷ (a01 ∷ a23 ∷ a03 ∷ []) ∷ [])
    ∷ ((a01 ∷ a02 ∷ a23 ∷ []) ∷ (a01 ∷ a23 ∷ a13 ∷ []) ∷ [])
    ∷ ((a01 ∷ a13 ∷ a23 ∷ []) ∷ (a01 ∷ a23 ∷ a02 ∷ []) ∷ [])
    ∷ ((a01 ∷ a03 ∷ a23 ∷ []) ∷ (a01 ∷ a23 ∷ a12 ∷ []) ∷ [])
    ∷ ((a02 ∷ a12 ∷ a13 ∷ []) ∷ (a02 ∷ a13 ∷ a03 ∷ []) ∷ [])
    ∷ []
unfolding cells_at
two_of_four = refl

-- none inside, and all
one_side : map (cells_by tetrahedron) ([] ∷ (0 ∷ 1 ∷ 2 ∷ 3 ∷ []) ∷ []) ≡ [] ∷ [] ∷ []
unfolding cells_at
one_side = refl

-- corners whose names don't ascend: 01 02 03, each name's lesser half first
not_in_order : cells_in (is_one_of (8 ∷ [])) ((8 ∷ []) ∷ (2 ∷ []) ∷ (5 ∷ []) ∷ (9 ∷ []) ∷ []) ≡ ((2 ∷ 8 ∷ []) ∷ (5 ∷ 8 ∷ []) ∷ (8 ∷ 9 ∷ []) ∷ []) ∷ []
unfolding cells_at
not_in_order = refl

-- a vertex
one_of_one : cells_in (λ n. true) ((8 ∷ []) ∷ []) ≡ []
unfolding cells_at
one_of_one = refl

-- the corners 1 and 3 as bits
two_bits : mask_of (λ b. b) (false ∷ true ∷ false ∷ true ∷ []) ≡ 10
two_bits = refl

-- a tetrahedron of the points 0 to 3 with the scalars 3, 1, 0 and -2
abbrev cell : SheetData
cell = record {
  names = (0 ∷ []) ∷ (1 ∷ []) ∷ (2 ∷ []) ∷ (3 ∷ []) ∷ [];
  points =
      numbers (pos 0) (pos 0) (pos 0) (pos 3) (pos 1)
      ∷ numbers (pos 4) (pos 0) (pos 0) (pos 1) (pos 1)
      ∷ numbers (pos 0) (pos 4) (pos 0) (pos 0) (pos 1)
      ∷ numbers (pos 0) (pos 0) (pos 5) (negsuc 1) (pos 1)
      ∷ [];
  cells = ((0 ∷ []) ∷ (1 ∷ []) ∷ (2 ∷ []) ∷ (3 ∷ []) ∷ []) ∷ [];
}

-- the form that is the scalar above a level
abbrev above : ℕ → Form
above level = record { a = pos 0; b = pos 0; c = pos 0; q = pos 1; r = pos level }

-- at level 1 two corners are inside, the second one at the level itself: 02 03 13 and 02 13 12
two_inside : (section_of (above 1) cell).cells ≡ ((0 ∷ 2 ∷ []) ∷ (0 ∷ 3 ∷ []) ∷ (1 ∷ 3 ∷ []) ∷ []) ∷ ((0 ∷ 2 ∷ []) ∷ (1 ∷ 3 ∷ []) ∷ (1 ∷ 2 ∷ []) ∷ []) ∷ []
unfolding cells_at
two_inside = refl

two_inside_names : (section_of (above 1) cell).names ≡ (0 ∷ 2 ∷ []) ∷ (0 ∷ 3 ∷ []) ∷ (1 ∷ 2 ∷ []) ∷ (1 ∷ 3 ∷ []) ∷ []
unfolding cells_at
two_inside_names = refl

-- two thirds of the way from 3 to 0, two fifths from 3 to -2, and twice the second corner itself
two_inside_points : (section_of (above 1) cell).points
    ≡ numbers (pos 0) (pos 8) (pos 0) (pos 3) (pos 3)
    ∷ numbers (pos 0) (pos 0) (pos 2) (pos 1) (pos 1)
    ∷ numbers (pos 4) (pos 0) (pos 0) (pos 1) (pos 1)
    ∷ numbers (pos 4) (pos 0) (pos 0) (pos 1) (pos 1)
    ∷ []
unfolding cells_at gcd divisor_of
two_inside_points = refl

-- at level 4 none is
none_inside : (section_of (above 4) cell).cells ≡ []
unfolding cells_at
none_inside = refl
