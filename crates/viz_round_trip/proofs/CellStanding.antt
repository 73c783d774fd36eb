-- A section of cells of either version, as it is written.
use Rattle.std.proofs.Common.{◌≡◌, ℕ, ◌^◌, ◌<◌, Bool, true, false, List, ◌∷◌, ◌++◌, refl, sym, ap, ◌∙◌}
use Rattle.std.proofs.lemmas.List.{length-map}
use Rattle.viz_lex.specs.Reading.{Reading, rest_of}
use Rattle.viz_counted_cells.specs.Sections.{section, HaveIndices}
use Rattle.viz_offset_cells.specs.Offsets.{offset_section}
use Rattle.viz_mesh_read.specs.CellSections.{cell_section}
use Rattle.viz_mesh_write.specs.MeshText.{cell_numbers, size_of}
use Rattle.viz_mesh_write.specs.Sections.{indices_of}
use Rattle.viz_round_trip.proofs.StandingLemmas.{Stands, stands-first, stands-second}
use Rattle.viz_round_trip.proofs.FrontLemmas.{gap_of}
use Rattle.viz_round_trip.proofs.SectionStanding.{cells_gap, counted_behind, stands-section}
use Rattle.viz_round_trip.proofs.OffsetStanding.{HavePoints, offset_behind, indices_gap, stands-offset_section}

-- the text of a section behind its keyword and a space
abbrev pub numbers_behind : Bool → Bool → List (List ℕ) → List ℕ → List ℕ
numbers_behind true = offset_behind
numbers_behind false = counted_behind

-- the text of a section behind its keyword
abbrev pub section_behind : Bool → Bool → List (List ℕ) → List ℕ → List ℕ
section_behind later binary cs tail = 32 ∷ numbers_behind later binary cs tail

-- each cell has a point, where the cells are the runs between offsets
abbrev pub MayBeRuns : Bool → List (List ℕ) → Type 0
MayBeRuns true cs = HavePoints cs
MayBeRuns false cs = Unit {0}

-- cells that may be read
pub record AreRead (later : Bool) (points : ℕ) (cs : List (List ℕ)) : Type 0 where
  pub small : size_of cs < 2 ^ 31
  pub below : HaveIndices points cs
  pub some : MayBeRuns later cs

pub may-be-runs : (later : Bool) (cs : List (List ℕ)) → HavePoints cs → MayBeRuns later cs
may-be-runs true cs h = h
may-be-runs false cs h = tt

same_gap : (binary : Bool) (cs : List (List ℕ)) → indices_gap binary cs ≡ cells_gap binary cs
same_gap binary cs = ap (gap_of binary) (length-map cs indices_of ∙ sym (length-map cs cell_numbers))

-- the cells of a section stand behind its keyword
pub stands-cells : (later binary : Bool) (points : ℕ) (cs : List (List ℕ)) (old : Reading) (tail : List ℕ) → points < 2 ^ 31 → AreRead later points cs → rest_of old ≡ section_behind later binary cs tail
    → Stands (cell_section later binary points) old cs (cells_gap binary cs ++ tail)
stands-cells true binary points cs old tail few are e =
    let all = stands-offset_section binary points cs old tail few are.small are.below are.some e in
    stands-first true (offset_section binary points) (section binary points) old cs (cells_gap binary cs ++ tail) refl
    (record { new = all.new; is = all.is; rest = all.rest ∙ ap (λ (gap : List ℕ). gap ++ tail) (same_gap binary cs) })
stands-cells false binary points cs old tail few are e =
    stands-second false (offset_section binary points) (section binary points) old cs (cells_gap binary cs ++ tail) refl (stands-section binary points cs old tail few are.small are.below e)
