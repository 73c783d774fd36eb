-- The readers of offsets and indices decide their rules.
use Rattle.std.proofs.Common.{ℕ, Bool, not, List, [], Result, Ok, if◌then◌else◌}
use Rattle.std.specs.Prelude.{codes, unwrap_or, unsigned_abs}
use Rattle.viz_column.specs.declared.kind.Kind8.{Kind8}
use Rattle.viz_column.specs.declared.kind.Kind8.TheVariants.{U8}
use Rattle.viz_column.specs.Kinds.{size_of, fits}
use Rattle.viz_column.specs.Bytes.{number_in}
use Rattle.viz_lex.specs.declared.fault.FileFault.{FileFault}
use Rattle.viz_lex.specs.declared.fault.FileKind.TheVariants.{Keyword, ValueRange, Count, Index, Unsupported}
use Rattle.viz_lex.specs.Reading.{Reading, ◌>>=◌}
use Rattle.viz_lex.specs.Steps.{has, due_word, due_number, keyword_at}
use Rattle.viz_lex.specs.Rules.{gives, Decides}
use Rattle.viz_lex.specs.Items.{word, number, keyword, block}
use Rattle.viz_lex.specs.Readers.{times_at, bytes_at}
use Rattle.viz_lex.proofs.RuleLemmas.{decides-gives, decides-follow, decides-demand, decides-choose, decides-beside, decides-times}
use Rattle.viz_lex.proofs.KnownLemmas.{decides-times_knowing}
use Rattle.viz_lex.proofs.ItemLemmas.{decides-word, decides-number, decides-keyword}
use Rattle.viz_lex.proofs.PassRules.{decides-block}
use Rattle.viz_attr.specs.Types.{is_left_out_type}
use Rattle.viz_attr.specs.Counts.{count_from}
use Rattle.viz_attr.specs.Steps.{count_from_at}
use Rattle.viz_attr.proofs.PartLaws.{decides-count_from}
use Rattle.viz_counted_cells.specs.Sections.{here, section_start, is_index, section_size}
use Rattle.viz_counted_cells.specs.Steps.{section_start_at, section_size_at}
use Rattle.viz_counted_cells.proofs.SectionLaws.{here_at, decides-here, decides-section_start, decides-section_size}
use Rattle.viz_offset_cells.specs.Runs.{runs_between}
use Rattle.viz_offset_cells.specs.Offsets.{kind_named, index_type, block_number, word_number, typed_number, is_offset, offset, offsets, index, connectivity, cut_cells, has_cuts, offset_section}
use Rattle.viz_offset_cells.specs.Steps.{index_type_at, block_number_at, word_number_at, typed_number_at, offset_at, offsets_at, index_at}

decides-index_type : Decides index_type index_type_at
unfolding index_type_at
decides-index_type =
    decides-follow word _ due_word _ decides-word (λ w.
    decides-demand (not (is_left_out_type w.1)) Unsupported w.0 _ _ (
    decides-demand (has (kind_named w.1)) Keyword w.0 _ _ (decides-gives (unwrap_or (kind_named w.1) U8))))

-- ---- numbers

decides-block_number : (kind : Kind8) → Decides (block_number kind) (block_number_at kind)
unfolding block_number_at
decides-block_number kind =
    decides-follow here _ here_at _ decides-here (λ place.
    decides-follow (block (size_of kind)) _ (bytes_at (size_of kind)) _ (decides-block (size_of kind)) (λ bytes. decides-gives (place, number_in kind bytes)))

decides-word_number : (kind : Kind8) → Decides (word_number kind) (word_number_at kind)
unfolding word_number_at
decides-word_number kind = decides-follow number _ due_number _ decides-number (λ n. decides-demand (fits kind n.1) ValueRange n.0 _ _ (decides-gives n))

decides-typed_number : (binary : Bool) (kind : Kind8) → Decides (typed_number binary kind) (typed_number_at binary kind)
unfolding typed_number_at
decides-typed_number binary kind = decides-choose binary _ _ _ _ (decides-block_number kind) (decides-word_number kind)

-- ---- offsets

pub decides-offset : (binary : Bool) (kind : Kind8) (most indices : ℕ) (before : List ℕ) → Decides (offset binary kind most indices before) (offset_at binary kind most indices before)
unfolding offset_at
decides-offset binary kind most indices before =
    decides-follow (typed_number binary kind) _ (typed_number_at binary kind) _ (decides-typed_number binary kind) (λ n.
    decides-demand (is_offset most indices before n.1) Count n.0 _ _ (decides-gives (unsigned_abs n.1)))

decides-offsets : (binary : Bool) (most indices : ℕ) → Decides (offsets binary most indices) (offsets_at binary most indices)
unfolding offsets_at
decides-offsets binary most indices =
    decides-follow (keyword (codes "OFFSETS")) _ (keyword_at (codes "OFFSETS")) _ (decides-keyword (codes "OFFSETS")) (λ key.
    decides-follow index_type _ index_type_at _ decides-index_type (λ kind.
    decides-follow (section_start binary) _ (section_start_at binary) _ (decides-section_start binary) (λ started.
    decides-times_knowing (offset binary kind most indices) (offset_at binary kind most indices) (decides-offset binary kind most indices) most)))

-- ---- indices

decides-index : (binary : Bool) (kind : Kind8) (points : ℕ) → Decides (index binary kind points) (index_at binary kind points)
unfolding index_at
decides-index binary kind points =
    decides-follow (typed_number binary kind) _ (typed_number_at binary kind) _ (decides-typed_number binary kind) (λ n.
    decides-demand (is_index points n.1) Index n.0 _ _ (decides-gives (unsigned_abs n.1)))

-- the indices as one list
abbrev pub connectivity_list_at : Bool → ℕ → ℕ → Reading → Result (List ℕ × Reading) FileFault
connectivity_list_at binary points indices r =
    keyword_at (codes "CONNECTIVITY") r >>= λ key. index_type_at key.1 >>= λ kind. section_start_at binary kind.1 >>= λ started. times_at (index_at binary kind.0 points) indices started.1

decides-connectivity : (binary : Bool) (points indices : ℕ) → Decides (connectivity binary points indices) (connectivity_list_at binary points indices)
decides-connectivity binary points indices =
    decides-follow (keyword (codes "CONNECTIVITY")) _ (keyword_at (codes "CONNECTIVITY")) _ (decides-keyword (codes "CONNECTIVITY")) (λ key.
    decides-follow index_type _ index_type_at _ decides-index_type (λ kind.
    decides-follow (section_start binary) _ (section_start_at binary) _ (decides-section_start binary) (λ started.
    decides-times (index binary kind points) (index_at binary kind points) (decides-index binary kind points) indices)))

-- ---- cells

abbrev pub cut_list_at : Bool → ℕ → ℕ → ℕ → Reading → Result (List (List ℕ) × Reading) FileFault
cut_list_at binary points most indices r =
    offsets_at binary most indices r >>= λ cuts. connectivity_list_at binary points indices cuts.1 >>= λ list. Ok (runs_between cuts.0 list.0, list.1)

decides-cut_cells : (binary : Bool) (points most indices : ℕ) → Decides (cut_cells binary points most indices) (cut_list_at binary points most indices)
decides-cut_cells binary points most indices =
    decides-follow (offsets binary most indices) _ (offsets_at binary most indices) _ (decides-offsets binary most indices) (λ cuts.
    decides-follow (connectivity binary points indices) _ (connectivity_list_at binary points indices) _ (decides-connectivity binary points indices) (λ list. decides-gives (runs_between cuts list)))

abbrev pub any_list_at : Bool → ℕ → ℕ → ℕ → Reading → Result (List (List ℕ) × Reading) FileFault
any_list_at binary points most indices r = if has_cuts most r then cut_list_at binary points most indices r else Ok ([], r)

abbrev pub section_list_at : Bool → ℕ → Reading → Result (List (List ℕ) × Reading) FileFault
section_list_at binary points r =
    count_from_at 0 r >>= λ most. section_size_at most.0 most.1 >>= λ indices. any_list_at binary points most.0 indices.0 indices.1

pub decides-offset_section : (binary : Bool) (points : ℕ) → Decides (offset_section binary points) (section_list_at binary points)
decides-offset_section binary points =
    decides-follow (count_from 0) _ (count_from_at 0) _ (decides-count_from 0) (λ most.
    decides-follow (section_size most) _ (section_size_at most) _ (decides-section_size most) (λ indices.
    decides-beside (has_cuts most) (cut_cells binary points most indices) (gives []) (cut_list_at binary points most indices) (λ r. Ok ([], r)) (decides-cut_cells binary points most indices) (decides-gives [])))
