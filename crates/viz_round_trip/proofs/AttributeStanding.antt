-- All attribute parts, as they are written, up to the end of the text.
use Rattle.std.proofs.Common.{◌≡◌, ℕ, ◌+◌, ◌*◌, ◌^◌, ◌<◌, Bool, true, false, List, [], ◌∷◌, ◌++◌, length, Some, refl, sym, subst, ◌∙◌}
use Rattle.std.specs.Prelude.{codes, ◌||◌}
use Rattle.std.specs.Fmt.{decimal}
use Rattle.viz_column.specs.Numbers.{Numbers, AreInRange}
use Rattle.viz_lex.specs.Reading.{Reading, rest_of}
use Rattle.viz_lex.specs.Words.{is_blank, IsBlank}
use Rattle.viz_lex.specs.Rules.{gives, choose}
use Rattle.viz_lex.specs.Items.{word}
use Rattle.viz_lex.proofs.WordLemmas.{IsBlank-head, IsBlank-tail}
use Rattle.viz_attr.specs.declared.parts.Association.TheVariants.{Points}
use Rattle.viz_attr.specs.Picks.{Part, Begins, Holds, has_fit, picked_of}
use Rattle.viz_attr.specs.Arrays.{association, scalars}
use Rattle.viz_attr.specs.Grammar.{behind, part, joined, parts, is_zero, no_array, attributes}
use Rattle.viz_image_write.specs.ImageText as written
use Rattle.viz_round_trip.proofs.StandingLemmas.{Stands, stands-gives, stands-follow}
use Rattle.viz_round_trip.proofs.WordStanding.{word-solid, blank-one, stands-next}
use Rattle.viz_round_trip.proofs.ArrayStanding.{given, stands-association, head_of, scalars_text, stands-scalars}

-- a byte behind a newline that is no blank
pub not_blank : (text : List ℕ) (b : ℕ) (bs : List ℕ) → is_blank b ≡ false → text ≡ 10 ∷ b ∷ bs → ¬ IsBlank text
not_blank text b bs solid e h =
    let blank = IsBlank-head b bs (IsBlank-tail 10 (b ∷ bs) (subst IsBlank e h)) in
    let none : true ≡ false = sym blank ∙ solid in
    absurd cc

-- the text of the parts
abbrev pub parts_text : Numbers → ℕ → List ℕ → List ℕ
parts_text n points values = codes "POINT_DATA" ++ 32 ∷ (decimal points ++ 10 ∷ (codes "SCALARS" ++ scalars_text n values))

stands-begins : (binary : Bool) (points cells : ℕ) (old : Reading) (later : List ℕ) → points < 2 ^ 31 → rest_of old ≡ 10 ∷ (codes "POINT_DATA" ++ 32 ∷ (decimal points ++ 10 ∷ later)) → Stands (part (given binary points cells) []) old (Begins Points ∷ []) (10 ∷ later)
stands-begins binary points cells old later few e =
    let g = given binary points cells in
    let mid = 32 ∷ (decimal points ++ 10 ∷ later) in
    let first = stands-next old (10 ∷ []) (codes "POINT_DATA") mid (record { parts = e; blank = blank-one 10 refl; is_word = word-solid (codes "POINT_DATA") refl; ends = refl }) in
    let second = stands-association binary points cells first.new later few first.rest in
    stands-follow word (behind g []) old (old.place + 1, codes "POINT_DATA") (Begins Points ∷ []) mid (10 ∷ later) first
    (stands-follow (association g Points) (λ part. gives (part ∷ [])) first.new (Begins Points) (Begins Points ∷ []) (10 ∷ later) (10 ∷ later) second
    (stands-gives (Begins Points ∷ []) second.new (10 ∷ later) second.rest))

-- the part that holds the numbers
abbrev held : Bool → ℕ → ℕ → Numbers → Part
held binary points cells n = Holds (head_of binary points cells) (Some n)

stands-holds : (binary : Bool) (points cells : ℕ) (n : Numbers) (rows width : ℕ) (old : Reading) → AreInRange n → length n.items ≡ points → length n.items ≡ rows * width
    → rest_of old ≡ 10 ∷ (codes "SCALARS" ++ scalars_text n (written.values_text binary rows width n))
    → (left : List ℕ) × IsBlank left × Stands (part (given binary points cells) (Begins Points ∷ [])) old (held binary points cells n ∷ []) left
stands-holds binary points cells n rows width old within count full e =
    let g = given binary points cells in
    let holds = held binary points cells n in
    let mid = scalars_text n (written.values_text binary rows width n) in
    let first = stands-next old (10 ∷ []) (codes "SCALARS") mid (record { parts = e; blank = blank-one 10 refl; is_word = word-solid (codes "SCALARS") refl; ends = refl }) in
    let second = stands-scalars binary points cells n rows width first.new within count full first.rest in (
      second.0,
      second.1,
      stands-follow word (behind g (Begins Points ∷ [])) old (old.place + 1, codes "SCALARS") (holds ∷ []) mid second.0 first
          (stands-follow (scalars g (Begins Points ∷ []) Points) (λ part. gives (part ∷ [])) first.new holds (holds ∷ []) second.0 second.0 second.2
          (stands-gives (holds ∷ []) second.2.new second.0 second.2.rest)),
    )

pub stands-attributes : (binary : Bool) (points cells : ℕ) (n : Numbers) (rows width : ℕ) (old : Reading) → points < 2 ^ 31 → AreInRange n → length n.items ≡ points → length n.items ≡ rows * width
    → rest_of old ≡ 10 ∷ parts_text n points (written.values_text binary rows width n)
    → (left : List ℕ) × Stands (attributes (given binary points cells)) old (Some n) left
stands-attributes binary points cells n rows width old few within count full e =
    let g = given binary points cells in
    let holds = held binary points cells n in
    let later = codes "SCALARS" ++ scalars_text n (written.values_text binary rows width n) in
    let all = (Begins Points ∷ []) ∷ (holds ∷ []) ∷ [] in
    let a = stands-begins binary points cells old later few e in
    let b = stands-holds binary points cells n rows width a.new within count full a.rest in
    let stand : Stands (parts g) old all b.0 = record {
      new = b.2.new;
      is = ((a.new, not_blank _ _ _ refl e, a.is, (b.2.new, not_blank _ _ _ refl a.rest, b.2.is, refl)), subst IsBlank (sym b.2.rest) b.1);
      rest = b.2.rest;
    } in (
      b.0,
      stands-follow (parts g) (λ all. choose (is_zero g.pick || has_fit g (joined all)) (gives (picked_of g (joined all))) no_array) old all (Some n) b.0 b.0 stand
          (stands-gives (Some n) stand.new b.0 stand.rest),
    )
