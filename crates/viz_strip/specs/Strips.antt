-- Strips of triangles: each name behind the second one makes a triangle with the two before it
-- (VTK User's Guide, "Simple legacy formats"; docs/FORMATS-OF-OUTPUT.md, "Strips").
use Rattle.std.specs.Prelude.{◌≡◌, ℕ, ◌==◌, Bool, true, false, not, ◌&&◌, ◌||◌, List, [], ◌∷◌, ◌++◌}
use Rattle.std.specs.Prelude.{length, All, if◌then◌else◌}
use Rattle.std.specs.List.{flat_map, list_any}
use Rattle.viz_sheet.specs.Sheet.{AreApart}

-- a triangle by the names of its corners: three different ones
pub record IsTriangle (t : List ℕ) : Type 0 where
  pub three : length t ≡ 3
  pub apart : AreApart t

-- the names of a triangle, the first one moved to the end
abbrev pub rotated : List ℕ → List ℕ
rotated [] = []
rotated (a ∷ names) = names ++ a ∷ []

-- a triangle runs from one name to another: they follow each other in it, the first one behind the
-- last
abbrev pub runs : ℕ → ℕ → List ℕ → Bool
runs u v (a ∷ b ∷ c ∷ []) = (u == a && v == b) || ((u == b && v == c) || (u == c && v == a))
runs u v names = false

-- whether three names are those of a triangle, as they are listed
abbrev pub are : ℕ → ℕ → ℕ → List ℕ → Bool
are a b c (x ∷ y ∷ z ∷ []) = a == x && (b == y && c == z)
are a b c names = false

-- whether two triangles are the same oriented triangle: one is the other, or it rotated
abbrev pub is_same : List ℕ → List ℕ → Bool
is_same (a ∷ b ∷ c ∷ []) t = are a b c t || (are b c a t || are c a b t)
is_same names t = false

-- the third name of a triangle, beside two of its names
abbrev pub third : ℕ → ℕ → List ℕ → ℕ
third u v (a ∷ b ∷ c ∷ []) =
    if a == u || a == v then (if b == u || b == v then c else b) else a
third u v names = 0

-- the triangle of three names in turn, its first two exchanged where it is turned
abbrev pub piece : Bool → ℕ → ℕ → ℕ → List ℕ
piece turned a b c = if turned then b ∷ a ∷ c ∷ [] else a ∷ b ∷ c ∷ []

-- the triangles of names in turn, each other one turned, from one that is turned or not
abbrev pub pieces_from : Bool → List ℕ → List (List ℕ)
pieces_from turned (a ∷ b ∷ c ∷ names) = piece turned a b c ∷ pieces_from (not turned) (b ∷ c ∷ names)
pieces_from turned names = []

-- the triangles of a strip: those of an odd number are turned, counted from 0
abbrev pub pieces_of : List ℕ → List (List ℕ)
pieces_of strip = pieces_from false strip

-- the triangles of all strips, in turn
abbrev pub all_pieces : List (List ℕ) → List (List ℕ)
all_pieces strips = flat_map pieces_of strips

-- a triangle continues a strip of an even or an odd number of triangles that ends with two names:
-- it runs from the first to the second, or back where the number is odd
abbrev pub goes_on : Bool → ℕ → ℕ → List ℕ → Bool
goes_on odd u v t = if odd then runs v u t else runs u v t

-- the same of names, with an even or an odd number of triangles in front of them
abbrev pub continues_from : Bool → List ℕ → List ℕ → Bool
continues_from odd (u ∷ v ∷ []) t = goes_on odd u v t
continues_from odd (u ∷ v ∷ w ∷ names) t = continues_from (not odd) (v ∷ w ∷ names) t
continues_from odd names t = false

-- a triangle continues a strip
abbrev pub continues : List ℕ → List ℕ → Bool
continues strip t = continues_from false strip t

-- of triangles in order, one is the first that passes a test, and these are the others
pub record IsFirst (test : List ℕ → Bool) (left : List (List ℕ)) (t : List ℕ)
    (others : List (List ℕ)) : Type 0 where
  pub front : List (List ℕ)
  pub behind : List (List ℕ)
  pub all : left ≡ front ++ t ∷ behind
  pub others_are : others ≡ front ++ behind
  pub passes : test t ≡ true
  pub first : All (λ s. test s ≡ false) front

-- a strip of an even or an odd number of triangles that ends with u and v takes, again and again,
-- the first triangle of those left that continues it, and gains its third name: these names in
-- all, and then no triangle of the rest continues it
abbrev pub IsGrown : Bool → ℕ → ℕ → List ℕ → List (List ℕ) → List (List ℕ) → Type 0
IsGrown odd u v [] left rest = All (λ t. goes_on odd u v t ≡ false) left × (rest ≡ left)
IsGrown odd u v (w ∷ more) left rest =
    (t : List ℕ) × (others : List (List ℕ)) × IsFirst (goes_on odd u v) left t others
    × (w ≡ third u v t) × IsGrown (not odd) v w more others rest

-- whether one of these triangles continues a strip
abbrev pub is_continued : List (List ℕ) → List ℕ → Bool
is_continued left strip = list_any (continues strip) left

-- how a strip begins with a triangle: with the first of its rotations that one of the others
-- continues, or as it is listed where there is none
abbrev pub begun : List (List ℕ) → List ℕ → List ℕ
begun left t =
    if is_continued left t then t
    else (if is_continued left (rotated t) then rotated t
    else (if is_continued left (rotated (rotated t)) then rotated (rotated t) else t))

-- the strip that begins with a triangle, of some others that are left, and the rest of them
pub record IsStrip (t : List ℕ) (left : List (List ℕ)) (strip : List ℕ)
    (rest : List (List ℕ)) : Type 0 where
  pub a : ℕ
  pub b : ℕ
  pub c : ℕ
  pub more : List ℕ
  pub begins : begun left t ≡ a ∷ b ∷ c ∷ []
  pub is : strip ≡ a ∷ b ∷ c ∷ more
  pub grown : IsGrown true b c more left rest

-- the strips of triangles: each begins with the first one that is left, until none is
abbrev pub AreStrips : List (List ℕ) → List (List ℕ) → Type 0
AreStrips left [] = left ≡ []
AreStrips left (strip ∷ strips) =
    (t : List ℕ) × (others : List (List ℕ)) × (rest : List (List ℕ)) × (left ≡ t ∷ others)
    × IsStrip t others strip rest × AreStrips rest strips
