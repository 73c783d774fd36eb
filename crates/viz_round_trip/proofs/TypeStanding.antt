-- The word of each type names it.
use Rattle.std.proofs.Common.{◌≡◌, ℕ, ◌+◌, true, false, not, List, [], ◌∷◌, ◌++◌, Some, refl}
use Rattle.std.specs.Prelude.{◌&&◌}
use Rattle.viz_column.specs.declared.kind.Kind8.{Kind8}
use Rattle.viz_column.specs.declared.kind.Kind8.TheVariants.{I8, U8, I16, U16, I32, U32, I64, U64}
use Rattle.viz_lex.specs.Reading.{Reading, rest_of}
use Rattle.viz_lex.specs.Words.{EndsWord, IsWord}
use Rattle.viz_lex.specs.Steps.{has}
use Rattle.viz_lex.specs.Rules.{gives}
use Rattle.viz_lex.specs.Items.{word}
use Rattle.viz_attr.specs.declared.types.Stored.TheVariants.{Whole}
use Rattle.viz_attr.specs.Types as types
use Rattle.viz_attr.specs.Types.{stored_of, is_left_out_type, is_real, named_by}
use Rattle.viz_image_write.specs.ImageText as written
use Rattle.viz_round_trip.proofs.StandingLemmas.{Stands, stands-gives, stands-follow, stands-demand}
use Rattle.viz_round_trip.proofs.WordStanding.{word-solid, blank-one, stands-next}

-- what is known of the word of a type
record IsTypeWord (text : List ℕ) (kind : Kind8) : Type 0 where
  is_word : IsWord text
  stored : stored_of text ≡ Some (Whole kind)
  read : is_left_out_type text ≡ false

type_named : (kind : Kind8) → IsTypeWord (written.type_word kind) kind
type_named I8 = record { is_word = word-solid (written.type_word I8) refl; stored = refl; read = refl }
type_named U8 = record { is_word = word-solid (written.type_word U8) refl; stored = refl; read = refl }
type_named I16 = record { is_word = word-solid (written.type_word I16) refl; stored = refl; read = refl }
type_named U16 = record { is_word = word-solid (written.type_word U16) refl; stored = refl; read = refl }
type_named I32 = record { is_word = word-solid (written.type_word I32) refl; stored = refl; read = refl }
type_named U32 = record { is_word = word-solid (written.type_word U32) refl; stored = refl; read = refl }
type_named I64 = record { is_word = word-solid (written.type_word I64) refl; stored = refl; read = refl }
type_named U64 = record { is_word = word-solid (written.type_word U64) refl; stored = refl; read = refl }

pub stands-type : (kind : Kind8) (old : Reading) (behind : List ℕ) → EndsWord behind → rest_of old ≡ 32 ∷ (written.type_word kind ++ behind) → Stands (types.type_word true) old (Whole kind) behind
stands-type kind old behind ends e =
    let text = written.type_word kind in
    let known = type_named kind in
    let first = stands-next old (32 ∷ []) text behind (record { parts = e; blank = blank-one 32 refl; is_word = known.is_word; ends = ends }) in
    let named : named_by text ≡ Whole kind = rw known.stored refl in
    let here : Stands (gives (named_by text)) first.new (Whole kind) behind = rw named (stands-gives (Whole kind) first.new behind first.rest) in
    let left_in : not (is_left_out_type text) ≡ true = rw known.read refl in
    let found : has (stored_of text) ≡ true = rw known.stored refl in
    let whole : not (true && is_real (named_by text)) ≡ true = rw named refl in
    stands-follow word _ old (old.place + 1, text) (Whole kind) behind behind first
    (stands-demand _ _ _ first.new (Whole kind) behind left_in
    (stands-demand _ _ _ first.new (Whole kind) behind found
    (stands-demand _ _ _ first.new (Whole kind) behind whole here)))
