-- The two lines in front of a mesh, the form and the dataset, as they are written; and the file, where its contents stand behind them.
use Rattle.std.proofs.Common.{◌≡◌, ℕ, zero, suc, ◌+◌, ◌≤◌, Bool, true, false, not, List, [], ◌∷◌, ◌++◌, length, inl, inr, refl, ◌∙◌, append_assoc, arith}
use Rattle.std.specs.Prelude.{codes, nat_eq}
use Rattle.std.specs.List.{list_all}
use Rattle.std.specs.Fmt.{digits, decimal}
use Rattle.viz_base.specs.declared.node.Pick.{Pick}
use Rattle.viz_dataset.specs.declared.dataset.Dataset.TheVariants.{Mesh}
use Rattle.viz_sheet.specs.Sheet.{SheetData}
use Rattle.viz_lex.specs.declared.fault.FileFault.{FileFault}
use Rattle.viz_lex.specs.Reading.{Reading, rest_of}
use Rattle.viz_lex.specs.Rules.{Rule, gives, follow}
use Rattle.viz_attr.specs.Picks.{Given}
use Rattle.viz_attr.specs.Grammar.{attributes}
use Rattle.viz_mesh_read.specs.Grid.{grid}
use Rattle.viz_mesh_read.specs.Poly.{polydata}
use Rattle.viz_mesh_read.specs.Pieces.{pieces_of}
use Rattle.viz_file_mesh.specs.FileMesh.{mesh_of}
use Rattle.viz_file_mesh.specs.GridPieces.{grid_pieces}
use Rattle.viz_legacy_read.specs.Magic.{two_lines}
use Rattle.viz_legacy_read.specs.MeshFile.{cells_by_kind}
use Rattle.viz_legacy_read.specs.Header.{header}
use Rattle.viz_legacy_read.specs.Header.Heading.{OfMesh}
use Rattle.viz_legacy_read.specs.File.{file}
use Rattle.viz_legacy_read.proofs.HeaderLaws.{decides-header}
use Rattle.viz_image_write.specs.ImageText.{form_line}
use Rattle.viz_image_write.specs.Version.{version_line}
use Rattle.viz_mesh_write.specs.MeshText.{title_lines, dataset_line}
use Rattle.viz_round_trip.proofs.StandingLemmas.{Stands}
use Rattle.viz_round_trip.proofs.WordStanding.{word-solid, blank-one, stands-next, stands-keyword}
use Rattle.viz_round_trip.proofs.HeadStanding.{version, stands-two, stands-form}

-- ---- the two lines

abbrev title : ℕ → List ℕ
title digits = codes "vizrun fixed 10^-" ++ decimal digits

title_parts : (later : Bool) (digits : ℕ) (behind : List ℕ) → title_lines later digits ++ behind ≡ version later ++ 10 ∷ (title digits ++ 10 ∷ behind)
unfolding title_lines version_line
title_parts true digits behind =
    append_assoc (codes "# vtk DataFile Version 5.1\nvizrun fixed 10^-" ++ decimal digits) (10 ∷ []) behind
title_parts false digits behind =
    append_assoc (codes "# vtk DataFile Version 3.0\nvizrun fixed 10^-" ++ decimal digits) (10 ∷ []) behind

-- the title is one line
one_line : (n : ℕ) → n ≤ 9 → list_all (λ b. not (nat_eq b 10)) (title n) ≡ true
unfolding digits
one_line zero h = refl
one_line (suc zero) h = refl
one_line (suc (suc zero)) h = refl
one_line (suc (suc (suc zero))) h = refl
one_line (suc (suc (suc (suc zero)))) h = refl
one_line (suc (suc (suc (suc (suc zero))))) h = refl
one_line (suc (suc (suc (suc (suc (suc zero)))))) h = refl
one_line (suc (suc (suc (suc (suc (suc (suc zero))))))) h = refl
one_line (suc (suc (suc (suc (suc (suc (suc (suc zero)))))))) h = refl
one_line (suc (suc (suc (suc (suc (suc (suc (suc (suc zero))))))))) h = refl
one_line (suc (suc (suc (suc (suc (suc (suc (suc (suc (suc n)))))))))) h = absurd (omega arith)

pub stands-title : (later : Bool) (digits : ℕ) (old : Reading) (behind : List ℕ) → digits ≤ 9 → rest_of old ≡ title_lines later digits ++ behind → Stands two_lines old later behind
stands-title later digits old behind few e = stands-two later (title digits) old behind (one_line digits few) (e ∙ title_parts later digits behind)

-- ---- the file

-- a value stands, whatever is left
abbrev pub StandsHere : {V : Type 0} → Rule V → Reading → V → Type 0
StandsHere rule old value = (left : List ℕ) × Stands rule old value left

-- what is asked of the attributes
abbrev pub given_by : Bool → ℕ → ℕ → Pick → Given
given_by binary points cells pick = record { binary = binary; points = points; cells = cells; pick = pick }

-- a grid and its attributes
abbrev pub grid_rule : Bool → Bool → Pick → ℕ → Rule (List SheetData)
grid_rule later binary pick unit =
    follow (grid binary later) (λ g. follow (attributes (given_by binary g.points.count (length g.cells) pick)) (λ picked. gives (mesh_of unit g.points picked (grid_pieces g.cells))))

-- polydata and its attributes
abbrev pub poly_rule : Bool → Bool → Pick → ℕ → Rule (List SheetData)
poly_rule later binary pick unit =
    follow (polydata binary later) (λ all. follow (attributes (given_by binary all.points.count (cells_by_kind all.cells) pick)) (λ picked. gives (mesh_of unit all.points picked (pieces_of all.cells))))

-- the file of a grid, where it stands behind the dataset; the reader keeps the types of the holes to itself
pub stands-grid_file : (later binary : Bool) (digits : ℕ) (pick : Pick) (unit : ℕ) (old : Reading) (m : List SheetData) (behind : List ℕ) → digits ≤ 9 → rest_of old ≡ title_lines later digits ++ (form_line binary ++ (dataset_line true ++ behind))
    → ((new : Reading) → rest_of new ≡ 10 ∷ behind → StandsHere (grid_rule later binary pick unit) new m) → StandsHere (file pick unit) old (Mesh m)
unfolding dataset_line
stands-grid_file later binary digits pick unit old m behind few e contents =
    let name = codes "UNSTRUCTURED_GRID" in
    let a = stands-title later digits old (form_line binary ++ (dataset_line true ++ behind)) few e in
    let b = stands-form binary a.new (dataset_line true ++ behind) a.rest in
    let key = stands-keyword (codes "DATASET") b.new (10 ∷ []) (codes "DATASET") (32 ∷ (name ++ 10 ∷ behind)) refl (record { parts = b.rest; blank = blank-one 10 refl; is_word = word-solid (codes "DATASET") refl; ends = refl }) in
    let named = stands-next key.new (32 ∷ []) name (10 ∷ behind) (record { parts = key.rest; blank = blank-one 32 refl; is_word = word-solid name refl; ends = refl }) in
    let found = contents named.new named.rest in
    let all = found.1 in (
      found.0,
      record {
        new = all.new;
        is = (
          _,
          named.new,
          (
            _,
            named.new,
            (later, a.new, a.is, (binary, b.new, b.is, (_, named.new, (tt, key.new, key.is, ((key.new.place + 1, name), named.new, named.is, (refl {a = named.new}, refl))), (refl {a = named.new}, refl)))),
            (refl {a = named.new}, refl),
          ),
          (m, all.new, all.is, (refl {a = all.new}, refl)),
        );
        rest = all.rest;
      },
    )

-- the file of polydata, likewise
pub stands-poly_file : (later binary : Bool) (digits : ℕ) (pick : Pick) (unit : ℕ) (old : Reading) (m : List SheetData) (behind : List ℕ) → digits ≤ 9 → rest_of old ≡ title_lines later digits ++ (form_line binary ++ (dataset_line false ++ behind))
    → ((new : Reading) → rest_of new ≡ 10 ∷ behind → StandsHere (poly_rule later binary pick unit) new m) → StandsHere (file pick unit) old (Mesh m)
unfolding dataset_line
stands-poly_file later binary digits pick unit old m behind few e contents =
    let name = codes "POLYDATA" in
    let a = stands-title later digits old (form_line binary ++ (dataset_line false ++ behind)) few e in
    let b = stands-form binary a.new (dataset_line false ++ behind) a.rest in
    let key = stands-keyword (codes "DATASET") b.new (10 ∷ []) (codes "DATASET") (32 ∷ (name ++ 10 ∷ behind)) refl (record { parts = b.rest; blank = blank-one 10 refl; is_word = word-solid (codes "DATASET") refl; ends = refl }) in
    let named = stands-next key.new (32 ∷ []) name (10 ∷ behind) (record { parts = key.rest; blank = blank-one 32 refl; is_word = word-solid name refl; ends = refl }) in
    let found = contents named.new named.rest in
    let all = found.1 in (
      found.0,
      record {
        new = all.new;
        is = (
          _,
          named.new,
          (
            _,
            named.new,
            (later, a.new, a.is, (binary, b.new, b.is, (_, named.new, (tt, key.new, key.is, ((key.new.place + 1, name), named.new, named.is, (refl {a = named.new}, refl))), (refl {a = named.new}, refl)))),
            (refl {a = named.new}, refl),
          ),
          (m, all.new, all.is, (refl {a = all.new}, refl)),
        );
        rest = all.rest;
      },
    )

-- a fault behind the dataset of polydata, of the same bytes
pub stops-poly_file : (later binary : Bool) (digits : ℕ) (pick : Pick) (unit : ℕ) (old : Reading) (fault : FileFault) (behind : List ℕ) → digits ≤ 9 → rest_of old ≡ title_lines later digits ++ (form_line binary ++ (dataset_line false ++ behind))
    → ((new : Reading) → new.bytes ≡ old.bytes → rest_of new ≡ 10 ∷ behind → (poly_rule later binary pick unit).isnt new fault) → (file pick unit).isnt old fault
unfolding dataset_line
stops-poly_file later binary digits pick unit old fault behind few e contents =
    let name = codes "POLYDATA" in
    let a = stands-title later digits old (form_line binary ++ (dataset_line false ++ behind)) few e in
    let b = stands-form binary a.new (dataset_line false ++ behind) a.rest in
    let key = stands-keyword (codes "DATASET") b.new (10 ∷ []) (codes "DATASET") (32 ∷ (name ++ 10 ∷ behind)) refl (record { parts = b.rest; blank = blank-one 10 refl; is_word = word-solid (codes "DATASET") refl; ends = refl }) in
    let named = stands-next key.new (32 ∷ []) name (10 ∷ behind) (record { parts = key.rest; blank = blank-one 32 refl; is_word = word-solid name refl; ends = refl }) in
    let header_is : header.is old named.new (OfMesh _) = (
      _,
      named.new,
      (later, a.new, a.is, (binary, b.new, b.is, (_, named.new, (tt, key.new, key.is, ((key.new.place + 1, name), named.new, named.is, (refl {a = named.new}, refl))), (refl {a = named.new}, refl)))),
      (refl {a = named.new}, refl),
    ) in
    inr (_, named.new, header_is, inl (contents named.new (decides-header.along old named.new _ header_is).same named.rest))
