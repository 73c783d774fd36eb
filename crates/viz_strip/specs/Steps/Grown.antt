-- A strip that takes one triangle after the other, by marks of those that are taken.
use Rattle.std.specs.Prelude.{◌≡◌, ℕ, ◌*◌, ◌<◌, Bool, true, false, not, List, [], ◌∷◌, ◌++◌, length}
use Rattle.std.specs.Prelude.{All, if◌then◌else◌}
use Rattle.viz_strip.specs.Strips.{AreStrips, IsFirst, IsGrown, goes_on, third}
use Rattle.viz_strip.specs.Steps.Links.{LeadBack, LeadOn}
use Rattle.viz_strip.specs.Steps.Marks.{is_taken, left, left_count}
use Rattle.viz_strip.specs.Steps.Sides.{from_of, to_of}

-- marks of triangles, and links that hold where these are taken
pub record IsReady (ts : List (List ℕ)) (marks : List Bool) (firsts nexts : List ℕ) : Type 0 where
  pub mark_size : length marks ≡ length ts
  pub first_size : length firsts ≡ 3 * length ts
  pub next_size : length nexts ≡ 3 * length ts
  pub back : LeadBack ts marks firsts
  pub on : LeadOn ts marks nexts

-- the last name but one of a strip with an even or an odd number of triangles, whose last side this
-- is: the side runs from it where the number is odd
abbrev pub second_last : List (List ℕ) → Bool → ℕ → ℕ
second_last ts odd side = if odd then from_of ts side else to_of ts side

-- its last name
abbrev pub last : List (List ℕ) → Bool → ℕ → ℕ
last ts odd side = if odd then to_of ts side else from_of ts side

-- the strip takes the first triangle that continues it, and has another last side then
pub record Takes (ts : List (List ℕ)) (odd : Bool) (side : ℕ) (marks new_marks : List Bool)
    (row new_row : List ℕ) (next : ℕ) : Type 0 where
  pub within : next < 3 * length ts
  pub t : List ℕ
  pub takes : IsFirst (goes_on odd (second_last ts odd side) (last ts odd side)) (left marks ts)
      t (left new_marks ts)
  pub third_is : last ts (not odd) next
      ≡ third (second_last ts odd side) (last ts odd side) t
  pub last_is : second_last ts (not odd) next ≡ last ts odd side
  pub row_is : new_row ≡ row ++ last ts (not odd) next ∷ []
  pub fewer : left_count new_marks < left_count marks

-- no triangle that is left continues the strip, and nothing is taken
pub record Stops (ts : List (List ℕ)) (odd : Bool) (side : ℕ) (marks new_marks : List Bool)
    (row new_row : List ℕ) : Type 0 where
  pub none : All (λ t. goes_on odd (second_last ts odd side) (last ts odd side) t ≡ false)
      (left marks ts)
  pub marks_are : new_marks ≡ marks
  pub row_is : new_row ≡ row

-- names that a strip gains from a first state to a later one: with what it gains from there on it
-- has gained these and those
pub record HasGained (u v : ℕ) (start : List (List ℕ)) (row new_row : List ℕ) (odd : Bool)
    (new_u new_v : ℕ) (now : List (List ℕ)) : Type 0 where
  pub done : List ℕ
  pub row_is : new_row ≡ row ++ done
  pub goes : (more : List ℕ) (rest : List (List ℕ)) → IsGrown odd new_u new_v more now rest
      → IsGrown true u v (done ++ more) start rest

-- names behind a row that its strip gains in all
pub record HasGrown (u v : ℕ) (start : List (List ℕ)) (row new_row : List ℕ)
    (rest : List (List ℕ)) : Type 0 where
  pub more : List ℕ
  pub row_is : new_row ≡ row ++ more
  pub grown : IsGrown true u v more start rest

-- strips that were made from first marks to later ones: with those of the triangles that are left
-- then they are the strips of all
pub record HaveMade (start now : List (List ℕ)) (rows new_rows : List (List ℕ)) : Type 0 where
  pub made : List (List ℕ)
  pub rows_are : new_rows ≡ rows ++ made
  pub goes : (strips : List (List ℕ)) → AreStrips now strips → AreStrips start (made ++ strips)

-- the first so many triangles are taken
pub record AreTaken (marks : List Bool) (count : ℕ) : Type 0 where
  pub each : (i : ℕ) → i < count → is_taken marks i ≡ true

-- triangles that were taken are taken
pub record AreKept (old new : List Bool) : Type 0 where
  pub each : (i : ℕ) → is_taken old i ≡ true → is_taken new i ≡ true
