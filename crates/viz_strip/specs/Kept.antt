-- What strips keep of the triangles that they are made of (docs/FORMATS-OF-OUTPUT.md, "Strips").
use Rattle.std.specs.Prelude.{◌≡◌, ℕ, true, false, List, [], ◌∷◌, length, All, count_by}
use Rattle.viz_strip.specs.Strips.{IsTriangle, AreStrips, all_pieces, continues, is_same, runs}

-- the same oriented triangles, each as often
pub record AreSameTriangles (old new : List (List ℕ)) : Type 0 where
  pub each : (t : List ℕ) → count_by (is_same t) new ≡ count_by (is_same t) old

-- no triangle of a later strip continues an earlier one
abbrev pub AreEnded : List (List ℕ) → Type 0
AreEnded [] = Unit {0}
AreEnded (strip ∷ strips) =
    All (λ t. continues strip t ≡ false) (all_pieces strips) × AreEnded strips

-- a strip of one triangle shares no side, run in the opposite direction, with one of these
pub record IsAlone (strip : List ℕ) (later : List (List ℕ)) : Type 0 where
  pub each : length strip ≡ 3 → (u v : ℕ) → runs u v strip ≡ true
      → All (λ t. runs v u t ≡ false) later

-- a strip of one triangle shares no side, run in the opposite direction, with a triangle of a later
-- strip
abbrev pub AreLoneAlone : List (List ℕ) → Type 0
AreLoneAlone [] = Unit {0}
AreLoneAlone (strip ∷ strips) = IsAlone strip (all_pieces strips) × AreLoneAlone strips

-- what holds of strips: they have just the oriented triangles, none is continued by a later one,
-- and one triangle stands alone only where it must
pub record KeepTriangles (triangles strips : List (List ℕ)) : Type 0 where
  pub same : AreSameTriangles triangles (all_pieces strips)
  pub ended : AreEnded strips
  pub alone : AreLoneAlone strips

-- triangles have one list of strips
abbrev pub StripsAreOne : Type 0
StripsAreOne =
    (triangles a b : List (List ℕ)) → AreStrips triangles a → AreStrips triangles b → a ≡ b

-- the strips of any triangles keep these
abbrev pub StripsKeepTriangles : Type 0
StripsKeepTriangles = (triangles strips : List (List ℕ)) → All IsTriangle triangles
    → AreStrips triangles strips → KeepTriangles triangles strips
