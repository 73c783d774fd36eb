-- The text of an image, one piece behind the other.
use Rattle.std.proofs.Common.{◌≡◌, ℕ, ◌*◌, Bool, List, [], ◌∷◌, ◌++◌, refl, ap, ◌∙◌, append_assoc}
use Rattle.std.specs.Prelude.{codes}
use Rattle.std.specs.Fmt.{digits, decimal}
use Rattle.viz_extent.specs.Extent.{size_x, size_y, size_z, count_of}
use Rattle.viz_column.specs.declared.kind.Kind8.{Kind8}
use Rattle.viz_column.specs.Numbers.{Numbers}
use Rattle.viz_dataset.specs.Images.{ImageData, corner}
use Rattle.viz_image_write.specs.ImageText.{title_lines, form_line, dataset_line, dimensions_line, origin_line, spacing_line, geometry_lines, point_data_line, type_word, array_line, table_line, header_lines, values_text, image_text}
use Rattle.viz_round_trip.proofs.HeaderStanding.{header_text}
use Rattle.viz_round_trip.proofs.ArrayStanding.{array_name}
use Rattle.viz_round_trip.proofs.AttributeStanding.{parts_text}

point_parts : (n : ℕ) (tail : List ℕ) → point_data_line n ++ tail ≡ codes "POINT_DATA" ++ 32 ∷ (decimal n ++ 10 ∷ tail)
unfolding point_data_line
point_parts n tail =
    append_assoc (codes "POINT_DATA " ++ decimal n) (10 ∷ []) tail ∙ append_assoc (codes "POINT_DATA ") (decimal n) (10 ∷ tail)

array_parts : (kind : Kind8) (tail : List ℕ) → array_line kind ++ tail ≡ codes "SCALARS" ++ 32 ∷ (array_name ++ 32 ∷ (type_word kind ++ 32 ∷ (decimal 1 ++ 10 ∷ tail)))
unfolding array_line digits
array_parts kind tail =
    append_assoc (codes "SCALARS scalars " ++ type_word kind) (codes " 1\n") tail ∙ append_assoc (codes "SCALARS scalars ") (type_word kind) (codes " 1\n" ++ tail)

table_parts : (tail : List ℕ) → table_line ++ tail ≡ codes "LOOKUP_TABLE" ++ 32 ∷ (codes "default" ++ 10 ∷ tail)
unfolding table_line
table_parts tail = refl

array_lines_parts : (n : Numbers) (points : ℕ) (values : List ℕ) → point_data_line points ++ (array_line n.kind ++ (table_line ++ values)) ≡ parts_text n points values
array_lines_parts n points values =
    ap (λ (t : List ℕ). point_data_line points ++ (array_line n.kind ++ t)) (table_parts values)
    ∙ ap (λ (t : List ℕ). point_data_line points ++ t) (array_parts n.kind _)
    ∙ point_parts points _

regrouped : (title form dataset dims origin spacing a b c values : List ℕ)
    → (title ++ form ++ dataset ++ (dims ++ origin ++ spacing) ++ a ++ b ++ c) ++ values ≡ title ++ (form ++ (dataset ++ (dims ++ (origin ++ (spacing ++ (a ++ (b ++ (c ++ values))))))))
regrouped title form dataset dims origin spacing a b c values = simp append_assoc refl

-- the values of an image
abbrev pub values_of : Bool → ImageData → List ℕ
values_of binary i = values_text binary (size_y i.extent * size_z i.extent) (size_x i.extent) i.values

pub image_parts : (later binary : Bool) (i : ImageData) → image_text later binary i ≡ header_text later binary (size_x i.extent) (size_y i.extent) (size_z i.extent) (corner i) i.spacing (parts_text i.values (count_of i.extent) (values_of binary i))
unfolding image_text header_lines geometry_lines
image_parts later binary i =
    regrouped (title_lines later) (form_line binary) dataset_line (dimensions_line (size_x i.extent) (size_y i.extent) (size_z i.extent)) (origin_line (corner i)) (spacing_line i.spacing) (point_data_line (count_of i.extent)) (array_line i.values.kind) table_line (values_of binary i)
    ∙ ap (λ (t : List ℕ). header_text later binary (size_x i.extent) (size_y i.extent) (size_z i.extent) (corner i) i.spacing t) (array_lines_parts i.values (count_of i.extent) (values_of binary i))
