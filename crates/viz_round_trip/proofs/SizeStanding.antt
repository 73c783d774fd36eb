-- The line of the sizes, as it is written.
use Rattle.std.proofs.Common.{◌≡◌, ℕ, pos, ◌*◌, ◌^◌, ◌<◌, ◌≤◌, true, List, [], ◌∷◌, ◌++◌, refl, ap, ◌∙◌, append_assoc, arith}
use Rattle.std.specs.Prelude.{nat_lt, unsigned_abs, FitsSigned}
use Rattle.std.specs.Int.{w128}
use Rattle.std.specs.Fmt.{decimal}
use Rattle.std.proofs.lemmas.Bool.{lt-ltb, le-leb}
use Rattle.viz_lex.specs.declared.fault.FileKind.TheVariants.{Count, TooMany}
use Rattle.viz_lex.specs.Reading.{Reading, rest_of, fault_at}
use Rattle.viz_lex.specs.Words.{is_blank, EndsWord}
use Rattle.viz_lex.specs.Rules.{gives, demand}
use Rattle.viz_lex.specs.Items.{number}
use Rattle.viz_attr.specs.Counts.{is_at_least}
use Rattle.viz_legacy_read.specs.Header.{size, sizes, whole_of}
use Rattle.viz_round_trip.proofs.StandingLemmas.{Stands, stands-gives, stands-follow, stands-demand}
use Rattle.viz_round_trip.proofs.WordStanding.{blank-one}
use Rattle.viz_round_trip.proofs.NumberStanding.{stands-number}

-- a word and three texts behind a space each, and a newline
abbrev pub spaced : List ℕ → List ℕ → List ℕ → List ℕ → List ℕ
spaced a b c behind = 32 ∷ (a ++ 32 ∷ (b ++ 32 ∷ (c ++ 10 ∷ behind)))

pub three_spaced : (word a b c behind : List ℕ) → (word ++ ((32 ∷ a) ++ ((32 ∷ b) ++ ((32 ∷ c) ++ []))) ++ 10 ∷ []) ++ behind ≡ word ++ spaced a b c behind
three_spaced word a b c behind =
    let newline = 10 ∷ behind in
    let last = (32 ∷ c) ++ [] in
    let both = (32 ∷ b) ++ last in
    let all = (32 ∷ a) ++ both in
    let inner : all ++ newline ≡ spaced a b c behind = append_assoc (32 ∷ a) both newline ∙ ap (λ (t : List ℕ). (32 ∷ a) ++ t) (append_assoc (32 ∷ b) last newline ∙ ap (λ (t : List ℕ). (32 ∷ b) ++ t) (append_assoc (32 ∷ c) [] newline)) in
    append_assoc (word ++ all) (10 ∷ []) behind ∙ append_assoc word all newline ∙ ap (λ (t : List ℕ). word ++ t) inner

small_fits : (n : ℕ) → n < 2 ^ 31 → FitsSigned w128 (pos n)
small_fits n few = record { sfits = omega arith }

-- a count of at most 31 bits
pub stands-count : (old : Reading) (b : ℕ) (n : ℕ) (behind : List ℕ) → is_blank b ≡ true → n < 2 ^ 31 → EndsWord behind → rest_of old ≡ b ∷ (decimal n ++ behind) → (place : ℕ) × Stands number old (place, pos n) behind
stands-count old b n behind blank few ends e = stands-number old (b ∷ []) behind (pos n) (small_fits n few) (blank-one b blank) ends e

-- ---- the sizes

stands-size : (old : Reading) (n : ℕ) (behind : List ℕ) → 1 ≤ n → n < 2 ^ 31 → EndsWord behind → rest_of old ≡ 32 ∷ (decimal n ++ behind) → (place : ℕ) × Stands size old (place, n) behind
stands-size old n behind some few ends e =
    let first = stands-count old 32 n behind refl few ends e in (
      first.0,
      stands-follow number (λ m. demand (is_at_least 1 m.1) (fault_at Count m.0) (gives (m.0, unsigned_abs m.1))) old (first.0, pos n) (first.0, n) behind behind first.1
          (stands-demand _ _ _ first.1.new (first.0, n) behind (le-leb 1 n some) (stands-gives (first.0, n) first.1.new behind first.1.rest)),
    )

-- the sizes of an extent, of at most 2^31 - 1 points
pub record AreSizes (x y z : ℕ) : Type 0 where
  pub some_x : 1 ≤ x
  pub some_y : 1 ≤ y
  pub some_z : 1 ≤ z
  pub few_x : x < 2 ^ 31
  pub few_y : y < 2 ^ 31
  pub few_z : z < 2 ^ 31
  pub few : x * y * z < 2 ^ 31

pub stands-sizes : (old : Reading) (x y z : ℕ) (behind : List ℕ) → AreSizes x y z → rest_of old ≡ spaced (decimal x) (decimal y) (decimal z) behind → Stands sizes old (whole_of x y z) (10 ∷ behind)
stands-sizes old x y z behind are e =
    let behind_z = 10 ∷ behind in
    let behind_y = 32 ∷ (decimal z ++ behind_z) in
    let behind_x = 32 ∷ (decimal y ++ behind_y) in
    let a = stands-size old x behind_x are.some_x are.few_x refl e in
    let b = stands-size a.1.new y behind_y are.some_y are.few_y refl a.1.rest in
    let c = stands-size b.1.new z behind_z are.some_z are.few_z refl b.1.rest in
    let all = whole_of x y z in
    stands-follow size _ old (a.0, x) all behind_x behind_z a.1
    (stands-follow size _ a.1.new (b.0, y) all behind_y behind_z b.1
    (stands-follow size (λ n. demand (nat_lt (x * y * n.1) (2 ^ 31)) (fault_at TooMany n.0) (gives (whole_of x y n.1))) b.1.new (c.0, z) all behind_z behind_z c.1
    (stands-demand _ _ _ c.1.new all behind_z (lt-ltb (x * y * z) (2 ^ 31) are.few) (stands-gives all c.1.new behind_z c.1.rest))))
