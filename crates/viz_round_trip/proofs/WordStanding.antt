-- Words and keywords that stand where they are written.
use Rattle.std.proofs.Common.{◌≡◌, ℕ, ◌+◌, Bool, true, false, not, List, [], ◌∷◌, length, refl, arith}
use Rattle.std.specs.Prelude.{codes}
use Rattle.std.specs.List.{list_all}
use Rattle.std.proofs.lemmas.List.Elements.{All-nil, All-cons, All-weaker}
use Rattle.std.proofs.lemmas.List.Sums.{AllPass-from_list_all}
use Rattle.viz_lex.specs.Reading.{Reading, rest_of, advanced, fault_at}
use Rattle.viz_lex.specs.Words.{is_blank, IsBlank, IsWord, IsNextWord}
use Rattle.viz_lex.specs.Steps.{same_word, keyword_kind, is_next}
use Rattle.viz_lex.specs.Rules.{gives, demand}
use Rattle.viz_lex.specs.Items.{word, keyword, metadata}
use Rattle.viz_lex.proofs.WordLemmas.{word_at-next, text_of-next, rest_of-next, word_at-blank}
use Rattle.viz_round_trip.proofs.StandingLemmas.{Stands, stands-gives, stands-follow, stands-demand, stands-otherwise}

-- ---- words and blanks, by a test

not_blank : (b : Bool) → not b ≡ true → b ≡ false
not_blank true e = absurd cc
not_blank false e = refl

-- one or more bytes, none a blank
abbrev pub is_solid : List ℕ → Bool
is_solid [] = false
is_solid (b ∷ bs) = list_all (λ c. not (is_blank c)) (b ∷ bs)

pub word-solid : (text : List ℕ) → is_solid text ≡ true → IsWord text
word-solid [] e = absurd cc
word-solid (b ∷ bs) e = record {
  some = λ none. omega (arith, ap_length none);
  solid = All-weaker (λ c. not (is_blank c) ≡ true) (λ c. is_blank c ≡ false) (λ c h. not_blank (is_blank c) h) (b ∷ bs) (AllPass-from_list_all (λ c. not (is_blank c)) (b ∷ bs) e);
} where
  ap_length : b ∷ bs ≡ [] → length (b ∷ bs) ≡ 0
  ap_length e i = length (e i)

pub blank-nil : IsBlank []
blank-nil = record { each = All-nil (λ b. is_blank b ≡ true) }

pub blank-one : (b : ℕ) → is_blank b ≡ true → IsBlank (b ∷ [])
blank-one b e = record { each = All-cons (λ b. is_blank b ≡ true) b [] e (All-nil (λ b. is_blank b ≡ true)) }

-- ---- a word that stands next

pub stands-next : (old : Reading) (gap text behind : List ℕ) → IsNextWord (rest_of old) gap text behind → Stands word old (old.place + length gap, text) behind
stands-next old gap text behind h = record {
  new = advanced old (length gap + length text);
  is = record { gap = gap; behind = behind; next = h; place = refl; new_place = refl };
  rest = rest_of-next old gap text behind h;
}

-- a keyword that stands next
pub stands-keyword : (key : List ℕ) (old : Reading) (gap text behind : List ℕ) → same_word text key ≡ true → IsNextWord (rest_of old) gap text behind → Stands (keyword key) old tt behind
stands-keyword key old gap text behind same h =
    let first = stands-next old gap text behind h in
    stands-follow word (λ w. demand (same_word w.1 key) (fault_at (keyword_kind w.1) w.0) (gives tt)) old (old.place + length gap, text) tt behind behind first
    (stands-demand _ _ _ first.new tt behind same (stands-gives tt first.new behind first.rest))

-- the test of a keyword is that of the next word
pub is_next-word : (key : List ℕ) (old : Reading) (gap text behind : List ℕ) → IsNextWord (rest_of old) gap text behind → is_next key old ≡ same_word text key
is_next-word key old gap text behind h = rw (word_at-next old gap text behind h, text_of-next old gap text behind h) refl

pub is_next-blank : (key : List ℕ) (old : Reading) → IsBlank (rest_of old) → is_next key old ≡ false
is_next-blank key old h = rw (word_at-blank old h) refl

-- ---- METADATA that isn't there

pub stands-no_metadata : (old : Reading) (left : List ℕ) → IsBlank (rest_of old) → rest_of old ≡ left → Stands metadata old tt left
stands-no_metadata old left blank e = stands-otherwise (is_next (codes "METADATA")) _ _ old tt left (is_next-blank (codes "METADATA") old blank) (stands-gives tt old left e)
