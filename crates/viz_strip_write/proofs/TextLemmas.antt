-- Sections of cells and of strips, and the cells as a whole.
use Rattle.std.proofs.Common.{◌≡◌, ℕ, suc, ◌+◌, ◌*◌, ◌<◌, ℤ, ap₂, false, List, [], ◌∷◌, ◌++◌, length, map, refl, sym, ap, ◌∙◌, append-nil, arith}
use Rattle.std.specs.Prelude.{codes}
use Rattle.std.specs.List.{flat_map}
use Rattle.viz_column.specs.declared.kind.Kind8.{Kind8}
use Rattle.viz_column.specs.declared.kind.Kind8.TheVariants.{I32}
use Rattle.viz_image_write.proofs.PassLemmas.{appended}
use Rattle.viz_mesh_write.specs.MeshText.{some_section}
use Rattle.viz_mesh_write.specs.Sections.{cell_numbers, section_line, counted_section, size_of}
use Rattle.viz_mesh_write.specs.Rows.{block_end, block_text, row_of as block_row}
use Rattle.viz_mesh_write.proofs.TallyLemmas.{size_of_size}
use Rattle.viz_mesh_write.specs.Cells.{of_size}
use Rattle.std.proofs.lemmas.List.{length-map}
use Rattle.std.proofs.lemmas.List.Folds.{flat_map-map}
use Rattle.viz_strip_write.specs.StripText.{cells_text, sections_text}
use Rattle.viz_strip_write.specs.Steps.Rows.{rows_of}

-- a block by the items that its rows are made of
pub block-is : {X : Type 0} (kind : Kind8) (numbers : X → List ℤ) (xs : List X) (n : ℕ) (rows : List ℕ) → n ≡ length xs → rows ≡ flat_map (λ x. block_row false kind (numbers x)) xs
    → rows ++ block_end false n ≡ block_text false kind (map numbers xs)
block-is kind numbers xs n rows e f =
    ap₂ (λ (a b : List ℕ). a ++ b) (f ∙ sym (flat_map-map (block_row false kind) numbers xs)) (ap (block_end false) (e ∙ sym (length-map xs numbers)))

is-section : (keyword : List ℕ) (cells : List (List ℕ)) → 0 < length cells → counted_section false keyword cells ≡ some_section false false keyword cells
is-section keyword [] lt = absurd (omega (arith, lt))
is-section keyword (c ∷ cells) lt = refl

section-is : (keyword : List ℕ) (cells : List (List ℕ)) (n size : ℕ) (block old mid new : List ℕ) → n ≡ length cells → size ≡ size_of cells → block ≡ block_text false I32 (map cell_numbers cells)
    → mid ≡ old ++ section_line keyword n size → new ≡ mid ++ block → new ≡ old ++ counted_section false keyword cells
unfolding counted_section
section-is keyword cells n size block old mid new e f g h k =
    appended old mid new (section_line keyword n size) block h k
    ∙ ap (λ (t : List ℕ). old ++ t) (ap₂ (λ (a b : ℕ). section_line keyword a b ++ block) e f ∙ ap (λ (b : List ℕ). section_line keyword (length cells) (size_of cells) ++ b) g)

-- how many numbers the cells of one size have
pub size-is : (size n : ℕ) (cells : List (List ℕ)) → n ≡ length (of_size size cells) → (size + 1) * n ≡ size_of (of_size size cells)
size-is size n cells e =
    let one : size + 1 ≡ suc size = omega arith in
    ap₂ (λ (a b : ℕ). a * b) one e ∙ sym (size_of_size size cells)

-- a section is its line and the lines of its cells
pub section-put : (keyword : List ℕ) (cells : List (List ℕ)) (n size : ℕ) (old mid new : List ℕ) → n ≡ length cells → size ≡ size_of cells → 0 < length cells → mid ≡ old ++ section_line keyword n size → new ≡ mid ++ rows_of cells
    → new ≡ old ++ some_section false false keyword cells
section-put keyword cells n size old mid new e f lt h k =
    section-is keyword cells n size (rows_of cells ++ []) old mid new e f (block-is I32 cell_numbers cells n (rows_of cells) e refl) h (k ∙ ap (λ (t : List ℕ). mid ++ t) (sym (append-nil (rows_of cells))))
    ∙ ap (λ (t : List ℕ). old ++ t) (is-section keyword cells lt)

-- without a cell there is a section of no polygons
pub no-cells : (cells strips : List (List ℕ)) (old new : List ℕ) → length cells ≡ 0 → new ≡ old ++ section_line (codes "POLYGONS") 0 0 → new ≡ old ++ cells_text cells strips
unfolding counted_section
no-cells [] strips old new e h = h ∙ ap (λ (t : List ℕ). old ++ t) (sym (append-nil (section_line (codes "POLYGONS") 0 0)))
no-cells (c ∷ cells) strips old new e h = absurd (omega (arith, e))

some-cells : (cells strips : List (List ℕ)) → 0 < length cells → sections_text cells strips ≡ cells_text cells strips
some-cells [] strips lt = absurd (omega (arith, lt))
some-cells (c ∷ cells) strips lt = refl

-- the three sections are the cells
pub cells-are : (cells strips : List (List ℕ)) (old one two new a b c : List ℕ) → 0 < length cells → one ≡ old ++ a → two ≡ one ++ b → new ≡ two ++ c → a ++ b ++ c ≡ sections_text cells strips → new ≡ old ++ cells_text cells strips
cells-are cells strips old one two new a b c lt e f g is =
    appended old two new (a ++ b) c (appended old one two a b e f) g
    ∙ ap (λ (t : List ℕ). old ++ t) (is ∙ some-cells cells strips lt)
