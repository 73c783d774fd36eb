-- The readers of attribute parts, which proofs compare with the rules: each keeps what is known of
-- the parts before it (docs/FORMATS-OF-FILES.md, "Attribute parts").
pub mod Before
pub mod Counts
pub mod Values
pub mod Arrays
pub mod Parts
pub use Rattle.viz_attr.specs.Steps.Before.{Known, start, with_part, with_parts, is_wanted}
unfoldable pub use Rattle.viz_attr.specs.Steps.Counts.{type_at, count_from_at, dimension_at}
unfoldable pub use Rattle.viz_attr.specs.Steps.Counts.{same_count_at, components_at}
unfoldable pub use Rattle.viz_attr.specs.Steps.Values.{value_at, others_at, tuple_at, tuples_at}
unfoldable pub use Rattle.viz_attr.specs.Steps.Values.{column_at, text_values_at, line_bytes_at}
unfoldable pub use Rattle.viz_attr.specs.Steps.Values.{block_values_at, values_at}
pub use Rattle.viz_attr.specs.Steps.Arrays.{behind_part}
unfoldable pub use Rattle.viz_attr.specs.Steps.Arrays.{array_at, association_at, scalars_at}
unfoldable pub use Rattle.viz_attr.specs.Steps.Arrays.{vectors_at, texture_at, colors_at, table_at}
unfoldable pub use Rattle.viz_attr.specs.Steps.Parts.{field_values_at, field_array_at}
unfoldable pub use Rattle.viz_attr.specs.Steps.Parts.{field_arrays_at, field_at, arrays_at}
unfoldable pub use Rattle.viz_attr.specs.Steps.Parts.{arrays_in_at, behind_at, part_at, parts_at}
unfoldable pub use Rattle.viz_attr.specs.Steps.Parts.{picked_at, attributes_at}
