-- The values of an image stand, as text or as bytes.
use Rattle.std.proofs.Common.{◌≡◌, ℕ, ℤ, ◌*◌, Bool, true, false, List, [], ◌∷◌, ◌++◌, length, refl, sym, ap, subst, ◌∙◌, arith}
use Rattle.std.specs.Prelude.{Option, Some}
use Rattle.viz_column.specs.Kinds.{size_of}
use Rattle.viz_column.specs.Numbers.{Numbers, AreInRange}
use Rattle.viz_column.specs.Bytes.{block_of, numbers_in}
use Rattle.viz_column.proofs.ListLemmas.{length-block, numbers_again}
use Rattle.viz_lex.specs.Reading.{Reading, rest_of, advanced}
use Rattle.viz_lex.specs.Words.{IsBlank, IsFiller, IsLineEnd}
use Rattle.viz_lex.specs.Rules.{gives}
use Rattle.viz_lex.specs.Repeats.{AreTimes, times}
use Rattle.viz_lex.specs.Items.{line_end, block}
use Rattle.viz_lex.proofs.BlockLemmas.{rest_of-block}
use Rattle.viz_attr.specs.declared.types.Stored.TheVariants.{Whole}
use Rattle.viz_attr.specs.Types.{bytes_of}
use Rattle.viz_attr.specs.Values.{tuple, firsts, block_numbers, values}
use Rattle.viz_attr.proofs.FirstsLemmas.{firsts-one}
use Rattle.viz_image_write.specs.ImageText.{rows_text, values_text}
use Rattle.viz_round_trip.proofs.StandingLemmas.{Stands, stands-gives, stands-follow}
use Rattle.viz_round_trip.proofs.WordStanding.{blank-one}
use Rattle.viz_round_trip.proofs.ValueStanding.{written-behind, stands-tuples}
use Rattle.viz_round_trip.proofs.RowLemmas.{written-rows}

-- these numbers stand, and blanks are left
abbrev pub StandsAll : Bool → Numbers → ℕ → Reading → Type 0
StandsAll binary n points old = (left : List ℕ) × IsBlank left × Stands (values binary true (Whole n.kind) points 1) old (Some n) left

-- ---- text

stands-text : (n : Numbers) (rows width points : ℕ) (old : Reading) → AreInRange n → length n.items ≡ points → length n.items ≡ rows * width → rest_of old ≡ 10 ∷ rows_text rows width n.items → StandsAll false n points old
stands-text n rows width points old within count full e =
    let written = written-behind (10 ∷ []) n.items (rows_text rows width n.items) (blank-one 10 refl) (written-rows rows width n.items full) in
    let all = stands-tuples n.kind n.items old (10 ∷ rows_text rows width n.items) within written e in
    let so_many : AreTimes (tuple n.kind 1) old all.new n.items points = subst (λ (k : ℕ). AreTimes (tuple n.kind 1) old all.new n.items k) count all.is in
    let left = rest_of all.new in
    let numbers : Stands (times points (tuple n.kind 1)) old n.items left = record { new = all.new; is = so_many; rest = refl } in
    (left, all.blank, stands-follow (times points (tuple n.kind 1)) (λ items. gives (Some (record { kind = n.kind; items = items }))) old n.items (Some n) left left numbers (stands-gives (Some n) all.new left refl))

-- ---- bytes

no_filler : IsFiller []
no_filler = record { each = λ k d lt. absurd (omega arith) }

pub stands-line_end : (old : Reading) (behind : List ℕ) → rest_of old ≡ 10 ∷ behind → Stands line_end old tt behind
stands-line_end old behind e =
    let ended : IsLineEnd (rest_of old) [] behind = record { parts = e; is_filler = no_filler } in
    record { new = advanced old 1; is = ([], behind, ended, refl); rest = rest_of-block old (10 ∷ []) behind e }

pub stands-block : (old : Reading) (n : ℕ) (bytes behind : List ℕ) → length bytes ≡ n → rest_of old ≡ bytes ++ behind → Stands (block n) old bytes behind
stands-block old n bytes behind long e = record {
  new = advanced old n;
  is = (behind, e, long, refl);
  rest = ap (λ (k : ℕ). rest_of (advanced old k)) (sym long) ∙ rest_of-block old bytes behind e;
}

block_long : (n : Numbers) (points : ℕ) → length n.items ≡ points → length (block_of n) ≡ points * 1 * size_of n.kind
block_long n points count = length-block n.kind n.items ∙ ap (λ (k : ℕ). size_of n.kind * k) count ∙ grind arith

block_read : (n : Numbers) (points : ℕ) → AreInRange n → length n.items ≡ points → block_numbers true (Whole n.kind) points 1 (block_of n) ≡ Some n
block_read n points within count =
    let same : firsts 1 points (numbers_in n.kind (block_of n)) ≡ n.items = ap (firsts 1 points) (numbers_again n.kind n.items within) ∙ firsts-one points n.items count in
    ap (λ (items : List ℤ). Some (record { kind = n.kind; items = items })) same

stands-bytes : (n : Numbers) (points : ℕ) (old : Reading) → AreInRange n → length n.items ≡ points → rest_of old ≡ 10 ∷ (block_of n ++ 10 ∷ []) → StandsAll true n points old
stands-bytes n points old within count e =
    let first = stands-line_end old (block_of n ++ 10 ∷ []) e in
    let size = points * 1 * bytes_of (Whole n.kind) in
    let second = stands-block first.new size (block_of n) (10 ∷ []) (block_long n points count) first.rest in
    let last : Stands (gives (block_numbers true (Whole n.kind) points 1 (block_of n))) second.new (Some n) (10 ∷ []) =
    subst (λ (o : Option Numbers). Stands (gives (block_numbers true (Whole n.kind) points 1 (block_of n))) second.new o (10 ∷ [])) (block_read n points within count) (stands-gives (block_numbers true (Whole n.kind) points 1 (block_of n)) second.new (10 ∷ []) second.rest) in (
      10 ∷ [],
      blank-one 10 refl,
      stands-follow line_end _ old tt (Some n) (block_of n ++ 10 ∷ []) (10 ∷ []) first
          (stands-follow (block size) (λ bytes. gives (block_numbers true (Whole n.kind) points 1 bytes)) first.new (block_of n) (Some n) (10 ∷ []) (10 ∷ []) second last),
    )

pub stands-values : (binary : Bool) (n : Numbers) (rows width points : ℕ) (old : Reading) → AreInRange n → length n.items ≡ points → length n.items ≡ rows * width → rest_of old ≡ 10 ∷ values_text binary rows width n → StandsAll binary n points old
stands-values true n rows width points old within count full e = stands-bytes n points old within count e
stands-values false n rows width points old within count full e = stands-text n rows width points old within count full e
