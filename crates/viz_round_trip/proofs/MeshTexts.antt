-- The text of a mesh, one piece behind the other.
use Rattle.std.proofs.Common.{◌≡◌, ℕ, ◌+◌, ◌<◌, Bool, true, false, List, [], ◌∷◌, ◌++◌, length, map, refl, sym, ap, ap₂, ◌∙◌, append_assoc, append-nil, arith}
use Rattle.std.specs.Prelude.{codes}
use Rattle.std.specs.List.{flat_map}
use Rattle.std.specs.Fmt.{digits, decimal}
use Rattle.viz_fraction.specs.Points.{Point}
use Rattle.viz_column.specs.declared.kind.Kind8.TheVariants.{I32, I64}
use Rattle.viz_column.specs.Bytes.{bytes_of}
use Rattle.viz_image_write.specs.ImageText.{row_text, rows_text, values_text}
use Rattle.viz_mesh_write.specs.Sections.{size_of, section_line, section_text, counted_section, offset_section, offsets_line, offsets_text, connectivity_line, connectivity_text, index_count}
use Rattle.viz_mesh_write.specs.MeshText.{coordinates, points_line, points_text, types_line, types_text, grid_text, some_section, parts_text, scalar, scalars, scalars_head, scalars_text}
use Rattle.viz_mesh_write.specs.Rows.{row_of, block_text}
use Rattle.viz_mesh_write.specs.Cells.{of_size}
use Rattle.viz_round_trip.proofs.AttributeStanding as attributes
use Rattle.viz_round_trip.specs.MeshTrip.{scalars_in_file}
use Rattle.viz_round_trip.proofs.FrontLemmas.{gap-some}
use Rattle.viz_round_trip.proofs.SectionStanding.{cells_block, type_row, types_behind}
use Rattle.viz_round_trip.proofs.OffsetStanding.{offsets_block, indices_block, blocks_behind}
use Rattle.viz_round_trip.proofs.CellStanding.{section_behind}
use Rattle.viz_round_trip.proofs.PointStanding.{points_behind}
use Rattle.viz_round_trip.proofs.PolyStanding.{some_behind}

-- ---- points

pub points_parts : (binary : Bool) (digits : ℕ) (ps : List Point) (tail : List ℕ) → points_text binary digits ps ++ tail ≡ codes "POINTS" ++ points_behind binary digits ps tail
unfolding points_text points_line
points_parts binary digits ps tail =
    let n = decimal (length ps) in
    let block = block_text binary I64 (map (coordinates digits) ps) in
    append_assoc (codes "POINTS " ++ n ++ codes " long\n") block tail ∙ append_assoc (codes "POINTS " ++ n) (codes " long\n") (block ++ tail) ∙ append_assoc (codes "POINTS ") n (codes " long\n" ++ (block ++ tail))

-- ---- cells

line_parts : (key : List ℕ) (n m : ℕ) (behind : List ℕ) → section_line key n m ++ behind ≡ key ++ 32 ∷ (decimal n ++ 32 ∷ (decimal m ++ 10 ∷ behind))
unfolding section_line
line_parts key n m behind =
    let a = 32 ∷ decimal n in
    let b = 32 ∷ decimal m in
    append_assoc (key ++ a ++ b) (10 ∷ []) behind ∙ append_assoc (key ++ a) b (10 ∷ behind) ∙ append_assoc key a (b ++ 10 ∷ behind)

-- both blocks of a section of version 5.1, and what is behind them
blocks_parts : (binary : Bool) (cs : List (List ℕ)) (tail : List ℕ) → (offsets_text binary cs ++ connectivity_text binary cs) ++ tail ≡ blocks_behind binary cs tail
unfolding offsets_text offsets_line connectivity_text connectivity_line
blocks_parts binary cs tail =
    let first = codes "OFFSETS vtktypeint64\n" in
    let second = codes "CONNECTIVITY vtktypeint64\n" in
    let a = offsets_block binary cs in
    let b = indices_block binary cs in
    append_assoc (first ++ a) (second ++ b) tail ∙ append_assoc first a ((second ++ b) ++ tail) ∙ ap (λ (t : List ℕ). first ++ (a ++ t)) (append_assoc second b tail)

pub section_parts : (later binary : Bool) (key : List ℕ) (cs : List (List ℕ)) (tail : List ℕ) → section_text later binary key cs ++ tail ≡ key ++ section_behind later binary cs tail
unfolding counted_section offset_section
section_parts false binary key cs tail =
    append_assoc (section_line key (length cs) (size_of cs)) (cells_block binary cs) tail ∙ line_parts key (length cs) (size_of cs) (cells_block binary cs ++ tail)
section_parts true binary key cs tail =
    let line = section_line key (length cs + 1) (index_count cs) in
    let a = offsets_text binary cs in
    let b = connectivity_text binary cs in
    append_assoc (line ++ a) b tail ∙ append_assoc line a (b ++ tail) ∙ ap (λ (t : List ℕ). line ++ t) (sym (append_assoc a b tail) ∙ blocks_parts binary cs tail) ∙ line_parts key (length cs + 1) (index_count cs) (blocks_behind binary cs tail)

types_parts : (binary : Bool) (cs : List (List ℕ)) (tail : List ℕ) → types_text binary cs ++ tail ≡ codes "CELL_TYPES" ++ types_behind binary cs tail
unfolding types_text types_line
types_parts binary cs tail =
    let n = decimal (length cs) in
    let block = block_text binary I32 (map type_row cs) in
    append_assoc (codes "CELL_TYPES " ++ n ++ 10 ∷ []) block tail ∙ append_assoc (codes "CELL_TYPES " ++ n) (10 ∷ []) (block ++ tail) ∙ append_assoc (codes "CELL_TYPES ") n (10 ∷ (block ++ tail))

pub grid_parts : (later binary : Bool) (cs : List (List ℕ)) (tail : List ℕ) → grid_text later binary cs ++ tail ≡ codes "CELLS" ++ section_behind later binary cs (codes "CELL_TYPES" ++ types_behind binary cs tail)
unfolding grid_text
grid_parts later binary cs tail =
    append_assoc (section_text later binary (codes "CELLS") cs) (types_text binary cs) tail ∙ ap (λ (t : List ℕ). section_text later binary (codes "CELLS") cs ++ t) (types_parts binary cs tail) ∙ section_parts later binary (codes "CELLS") cs (codes "CELL_TYPES" ++ types_behind binary cs tail)

pub some_parts : (later binary : Bool) (key : List ℕ) (cs : List (List ℕ)) (tail : List ℕ) → some_section later binary key cs ++ tail ≡ some_behind later binary key cs tail
some_parts later binary key [] tail = refl
some_parts later binary key (c ∷ cs) tail = section_parts later binary key (c ∷ cs) tail

pub kinds_parts : (later binary : Bool) (cs : List (List ℕ)) (tail : List ℕ)
    → parts_text later binary cs ++ tail ≡ some_behind later binary (codes "VERTICES") (of_size 1 cs) (some_behind later binary (codes "LINES") (of_size 2 cs) (some_behind later binary (codes "POLYGONS") (of_size 3 cs) tail))
unfolding parts_text
kinds_parts later binary cs tail =
    let v = some_section later binary (codes "VERTICES") (of_size 1 cs) in
    let l = some_section later binary (codes "LINES") (of_size 2 cs) in
    let p = some_section later binary (codes "POLYGONS") (of_size 3 cs) in
    let behind = some_behind later binary (codes "POLYGONS") (of_size 3 cs) tail in
    append_assoc (v ++ l) p tail ∙ append_assoc v l (p ++ tail) ∙ ap (λ (t : List ℕ). v ++ (l ++ t)) (some_parts later binary (codes "POLYGONS") (of_size 3 cs) tail) ∙ ap (λ (t : List ℕ). v ++ t) (some_parts later binary (codes "LINES") (of_size 2 cs) behind)
    ∙ some_parts later binary (codes "VERTICES") (of_size 1 cs) _

-- ---- scalars

scalar_bytes : (ps : List Point) → flat_map (row_of true I64) (map scalars ps) ≡ flat_map (bytes_of I64) (map scalar ps)
scalar_bytes [] = refl
scalar_bytes (p ∷ ps) = ap₂ (λ (a b : List ℕ). a ++ b) (append-nil (bytes_of I64 (scalar p))) (scalar_bytes ps)

scalar_rows : (ps : List Point) → flat_map (row_of false I64) (map scalars ps) ≡ rows_text (length ps) 1 (map scalar ps)
scalar_rows [] = refl
scalar_rows (p ∷ ps) = ap (λ (t : List ℕ). row_text (scalar p ∷ []) ++ t) (scalar_rows ps)

scalars_block : (binary : Bool) (ps : List Point) → 0 < length (map scalars ps) → block_text binary I64 (map scalars ps) ≡ values_text binary (length ps) 1 (scalars_in_file ps)
scalars_block true ps some = ap₂ (λ (a b : List ℕ). a ++ b) (scalar_bytes ps) (gap-some true (length (map scalars ps)) some)
scalars_block false ps some = append-nil (flat_map (row_of false I64) (map scalars ps)) ∙ scalar_rows ps

head_parts : (n : ℕ) (block : List ℕ) (ps : List Point) → scalars_head n ++ block ≡ attributes.parts_text (scalars_in_file ps) n block
unfolding scalars_head digits
head_parts n block ps =
    let tail = codes "\nSCALARS scalars long 1\nLOOKUP_TABLE default\n" in
    append_assoc (codes "POINT_DATA " ++ decimal n) tail block ∙ append_assoc (codes "POINT_DATA ") (decimal n) (tail ++ block)

pub scalars_parts : (binary : Bool) (p : Point) (ps : List Point) → scalars_text binary (p ∷ ps) ≡ attributes.parts_text (scalars_in_file (p ∷ ps)) (length (p ∷ ps)) (values_text binary (length (p ∷ ps)) 1 (scalars_in_file (p ∷ ps)))
scalars_parts binary p ps =
    ap (λ (t : List ℕ). scalars_head (length (p ∷ ps)) ++ t) (scalars_block binary (p ∷ ps) (omega arith)) ∙ head_parts (length (p ∷ ps)) _ (p ∷ ps)
