-- What the rule for prisms gives where the corners of a cell ascend, row by row
-- (docs/FORMATS-OF-FILTERS.md, "Clipped volumes").
use Rattle.std.specs.Prelude.{◌≡◌, ℕ, Bool, not, List, [], ◌∷◌, length, map}
use Rattle.std.specs.Prelude.{if◌then◌else◌}
use Rattle.std.specs.List.Sorted.{IsStrictlySortedBy}
use Rattle.std.specs.Ordering.{is_lt, nat_cmp}
use Rattle.viz_sheet.specs.Kept.{kept}
use Rattle.viz_clip_meaning.specs.declared.vertex.Vertex.TheVariants.{Corner}
use Rattle.viz_clip_meaning.specs.Vertices.{cut}
use Rattle.viz_clip_meaning.specs.Solids.{kept_tets}

-- the tetrahedra by inside and outside corners, each in ascending order, the vertices of a corner
-- and of a cut edge being given
abbrev pub rows : {V : Type 0} → (ℕ → V) → (ℕ → ℕ → V) → List ℕ → List ℕ → List (List V)
rows corner cut (a ∷ []) (b ∷ c ∷ d ∷ []) = (corner a ∷ cut a b ∷ cut a c ∷ cut a d ∷ []) ∷ []
rows corner cut (a ∷ b ∷ []) (c ∷ d ∷ []) =
    (corner a ∷ corner b ∷ cut b c ∷ cut b d ∷ [])
    ∷ (if is_lt (nat_cmp a c)
    then (corner a ∷ cut a c ∷ cut a d ∷ cut b d ∷ [])
    ∷ (corner a ∷ cut a c ∷ cut b c ∷ cut b d ∷ []) ∷ []
    else (corner a ∷ cut a c ∷ cut b c ∷ cut b d ∷ [])
    ∷ (corner a ∷ cut a c ∷ cut a d ∷ cut b d ∷ []) ∷ [])
rows corner cut (a ∷ b ∷ c ∷ []) (d ∷ []) =
    (corner a ∷ corner b ∷ corner c ∷ cut c d ∷ [])
    ∷ (corner a ∷ corner b ∷ cut b d ∷ cut c d ∷ [])
    ∷ (corner a ∷ cut a d ∷ cut b d ∷ cut c d ∷ []) ∷ []
rows corner cut (a ∷ b ∷ c ∷ d ∷ []) [] = (corner a ∷ corner b ∷ corner c ∷ corner d ∷ []) ∷ []
rows corner cut inside outside = []

-- the tetrahedra that are kept of four leaves that ascend are those of the rows
abbrev pub SolidsSplitByRows : Type 0
SolidsSplitByRows =
    (inside : List Bool) (leaves : List ℕ) → length inside ≡ 4 → length leaves ≡ 4
    → IsStrictlySortedBy nat_cmp leaves
    → kept_tets inside leaves ≡ rows Corner cut (kept inside leaves) (kept (map not inside) leaves)
