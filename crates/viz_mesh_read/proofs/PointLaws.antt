-- The readers of points decide their rules.
use Rattle.std.proofs.Common.{◌≡◌, ℕ, ℤ, zero, suc, ◌*◌, Bool, true, false, List, [], ◌∷◌, length, refl, sym, ap, ◌∙◌, arith}
use Rattle.std.specs.Prelude.{codes}
use Rattle.viz_column.specs.declared.kind.Kind8.{Kind8}
use Rattle.viz_column.specs.Kinds.{size_of, fits}
use Rattle.viz_column.specs.Numbers.{Numbers}
use Rattle.viz_lex.specs.declared.fault.FileKind.TheVariants.{ValueRange}
use Rattle.viz_lex.specs.Reading.{Reading}
use Rattle.viz_lex.specs.Words.{line_end_at}
use Rattle.viz_lex.specs.Steps.{due_number, keyword_at}
use Rattle.viz_lex.specs.Rules.{Decides}
use Rattle.viz_lex.specs.Repeats.{times, AreTimes}
use Rattle.viz_lex.specs.Items.{number, keyword, line_end, block, metadata}
use Rattle.viz_lex.specs.Readers.{times_at, bytes_at, any_metadata_at}
use Rattle.viz_lex.proofs.RuleLemmas.{decides-gives, decides-follow, decides-demand, decides-choose, decides-times}
use Rattle.viz_lex.proofs.ItemLemmas.{decides-number, decides-keyword}
use Rattle.viz_lex.proofs.PassRules.{decides-line_end, decides-block, decides-metadata}
use Rattle.viz_attr.specs.Types.{type_word}
use Rattle.viz_attr.specs.Counts.{count_from}
use Rattle.viz_attr.specs.Values.{kind_of}
use Rattle.viz_attr.specs.Steps.{type_at, count_from_at}
use Rattle.viz_attr.proofs.FirstsLemmas.{length-numbers_in}
use Rattle.viz_attr.proofs.PartLaws.{decides-type_word, decides-count_from}
use Rattle.viz_mesh_read.specs.declared.coordinates.FilePoints.{FilePoints}
use Rattle.viz_mesh_read.specs.Points.{value, text_column, block_column, column, points}
use Rattle.viz_mesh_read.specs.Steps.{value_at, text_column_at, block_column_at, column_at, points_at}

decides-value : (kind : Kind8) → Decides (value kind) (value_at kind)
unfolding value_at
decides-value kind = decides-follow number _ due_number _ decides-number (λ n. decides-demand (fits kind n.1) ValueRange n.0 _ _ (decides-gives n.1))

decides-text_column : (kind : Kind8) (n : ℕ) → Decides (text_column kind n) (text_column_at kind n)
unfolding text_column_at
decides-text_column kind n =
    decides-follow (times n (value kind)) _ (times_at (value_at kind) n) _ (decides-times (value kind) (value_at kind) (decides-value kind) n) (λ items. decides-gives _)

decides-block_column : (kind : Kind8) (n : ℕ) → Decides (block_column kind n) (block_column_at kind n)
unfolding block_column_at
decides-block_column kind n =
    decides-follow line_end _ line_end_at _ decides-line_end (λ ended.
    decides-follow (block (n * size_of kind)) _ (bytes_at (n * size_of kind)) _ (decides-block (n * size_of kind)) (λ bytes. decides-gives _))

decides-column : (binary : Bool) (kind : Kind8) (n : ℕ) → Decides (column binary kind n) (column_at binary kind n)
unfolding column_at
decides-column binary kind n = decides-choose binary _ _ _ _ (decides-block_column kind n) (decides-text_column kind n)

pub decides-points : (binary : Bool) → Decides (points binary) (points_at binary)
unfolding points_at
decides-points binary =
    decides-follow (keyword (codes "POINTS")) _ (keyword_at (codes "POINTS")) _ (decides-keyword (codes "POINTS")) (λ key.
    decides-follow (count_from 0) _ (count_from_at 0) _ (decides-count_from 0) (λ n.
    decides-follow (type_word true) _ (type_at true) _ (decides-type_word true) (λ stored.
    decides-follow (column binary (kind_of stored) (3 * n)) _ (column_at binary (kind_of stored) (3 * n)) _ (decides-column binary (kind_of stored) (3 * n)) (λ numbers.
    decides-follow metadata _ any_metadata_at _ decides-metadata (λ passed. decides-gives _)))))

-- ---- three coordinates for each point

numbers-length : (kind : Kind8) (old new : Reading) (xs : List ℤ) (n : ℕ) → AreTimes (value kind) old new xs n → length xs ≡ n
numbers-length kind old new [] zero h = refl
numbers-length kind old new [] (suc n) h = absurd h
numbers-length kind old new (x ∷ xs) zero h = absurd h
numbers-length kind old new (x ∷ xs) (suc n) h = ap suc (numbers-length kind h.0 new xs n h.2)

column-length : (binary : Bool) (kind : Kind8) (n : ℕ) (old new : Reading) (numbers : Numbers) → (column binary kind n).is old new numbers → length numbers.items ≡ n
column-length true kind n old new numbers h =
    let bytes = h.3.0 in
    let one : 1 * size_of kind ≡ size_of kind = omega arith in
    let long : length bytes ≡ n * (1 * size_of kind) = rw one h.3.2.2 in
    let all : n * 1 ≡ n = omega arith in
    ap (λ (m : Numbers). length m.items) h.3.3.1 ∙ length-numbers_in kind bytes n 1 long ∙ all
column-length false kind n old new numbers h = ap (λ (m : Numbers). length m.items) h.3.1 ∙ numbers-length kind old h.1 h.0 n h.2

pub points-sized : (binary : Bool) (old new : Reading) (p : FilePoints) → (points binary).is old new p → length p.coordinates.items ≡ 3 * p.count
points-sized binary old new p h =
    let n = h.3.0 in
    let stored = h.3.3.0 in
    let numbers = h.3.3.3 in
    let long = column-length binary (kind_of stored) (3 * n) h.3.3.1 numbers.1 numbers.0 numbers.2 in
    let made = numbers.3.3.1 in
    ap (λ (q : FilePoints). length q.coordinates.items) made ∙ long ∙ ap (λ (q : FilePoints). 3 * q.count) (sym made)
