-- What a piece sees of a whole: which cells it has, and how far each is from its own ones (VTK
-- User's Guide, "Streaming").
use Rattle.std.specs.Prelude.{◌≡◌, ◌↔◌, ℕ, ◌+◌, ◌<◌, ◌≤◌, Bool, true, Option, Some, None, List, []}
use Rattle.std.specs.Prelude.{◌∷◌, map, Contains}
use Rattle.std.specs.List.{flat_map}

-- a cell of the whole, by its names: whether it is the piece's own, and its ghost level where the
-- piece has it
pub record Seen : Type 0 where
  pub cell : List (List ℕ)
  pub own : Bool
  pub level : Option ℕ

-- two cells share a name
abbrev pub Meet : List (List ℕ) → List (List ℕ) → Type 0
Meet a b = (n : List ℕ) × Contains a n × Contains b n

-- a cell is there, with a level of at most so much
abbrev pub IsUpTo : ℕ → Option ℕ → Type 0
IsUpTo most (Some l) = l ≤ most
IsUpTo most None = ⊥

-- the rule of a piece with so many ghost levels: just its own cells have level 0, no level is
-- greater, and what meets a cell of a level before the last is there, at most one level further
pub record AreSeen (ghosts : ℕ) (seen : List Seen) : Type 0 where
  pub own : (s : Seen) → Contains seen s → (s.level ≡ Some 0) ↔ (s.own ≡ true)
  pub most : (s : Seen) (l : ℕ) → Contains seen s → s.level ≡ Some l → l ≤ ghosts
  pub near : (s t : Seen) (l : ℕ) → Contains seen s → Contains seen t → s.level ≡ Some l
      → l < ghosts
      → Meet s.cell t.cell → IsUpTo (l + 1) t.level

-- a cell that meets one, and is there one level before
pub record SeenBefore (seen : List Seen) (s : Seen) (l : ℕ) : Type 0 where
  pub other : Seen
  pub there_is : Contains seen other
  pub level : other.level ≡ Some l
  pub meet : Meet s.cell other.cell

-- each ghost cell meets one of the level before: with the rule, levels are the least numbers of
-- steps
abbrev pub AreSteps : List Seen → Type 0
AreSteps seen = (s : Seen) (l : ℕ) → Contains seen s → s.level ≡ Some (l + 1) → SeenBefore seen s l

-- a cell, if it is there
abbrev pub cell_if : List (List ℕ) → Option ℕ → List (List (List ℕ))
cell_if c (Some l) = c ∷ []
cell_if c None = []

-- its level
abbrev pub level_if : Option ℕ → List ℕ
level_if (Some l) = l ∷ []
level_if None = []

-- the cells that are there
abbrev pub cells_seen : List Seen → List (List (List ℕ))
cells_seen seen = flat_map (λ s. cell_if s.cell s.level) seen

-- their levels
abbrev pub levels_seen : List Seen → List ℕ
levels_seen seen = flat_map (λ s. level_if s.level) seen

-- all cells of the whole
abbrev pub whole_seen : List Seen → List (List (List ℕ))
whole_seen seen = map (λ s. s.cell) seen

-- which of them are the piece's own
abbrev pub owned_seen : List Seen → List Bool
owned_seen seen = map (λ s. s.own) seen

-- a cell with this ownership and level
abbrev pub seen_as : Bool → Option ℕ → List (List ℕ) → Seen
seen_as own level cell = record { cell = cell; own = own; level = level }
