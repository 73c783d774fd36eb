-- The lines of the origin and the spacing, as they are written.
use Rattle.std.proofs.Common.{◌≡◌, ℕ, ℤ, pos, negsuc, ◌^◌, ◌≤◌, true, List, [], ◌∷◌, ◌++◌, refl, arith}
use Rattle.std.specs.Prelude.{nat_le, unsigned_abs}
use Rattle.std.proofs.Math.Dec.{leb→le, ltb→lt}
use Rattle.std.proofs.lemmas.Bool.{lt-ltb, le-leb}
use Rattle.viz_lex.specs.declared.fault.FileKind.TheVariants.{HeaderNumber, Spacing}
use Rattle.viz_lex.specs.Reading.{Reading, rest_of, fault_at}
use Rattle.viz_lex.specs.Words.{EndsWord}
use Rattle.viz_lex.specs.Written.{decimal_text}
use Rattle.viz_lex.specs.Rules.{gives, demand}
use Rattle.viz_lex.specs.Items.{decimal}
use Rattle.viz_dataset.specs.Images.{Vector, IsOrigin, IsStep, IsSpacing}
use Rattle.viz_legacy_read.specs.Header.{origin, is_above, step, spacing}
use Rattle.viz_round_trip.proofs.StandingLemmas.{Stands, stands-gives, stands-follow, stands-demand}
use Rattle.viz_round_trip.proofs.WordStanding.{blank-one}
use Rattle.viz_round_trip.proofs.NumberStanding.{stands-decimal}
use Rattle.viz_round_trip.proofs.SizeStanding.{spaced}

-- the three decimals of a vector, each behind a space, and a newline
abbrev pub vector_text : Vector → List ℕ → List ℕ
vector_text v behind = spaced (decimal_text v.x) (decimal_text v.y) (decimal_text v.z) behind

pub stands-origin : (old : Reading) (v : Vector) (behind : List ℕ) → IsOrigin v → rest_of old ≡ vector_text v behind → Stands origin old v (10 ∷ behind)
stands-origin old v behind is e =
    let behind_z = 10 ∷ behind in
    let behind_y = 32 ∷ (decimal_text v.z ++ behind_z) in
    let behind_x = 32 ∷ (decimal_text v.y ++ behind_y) in
    let a = stands-decimal old (32 ∷ []) behind_x v.x is.x (blank-one 32 refl) refl e in
    let b = stands-decimal a.1.new (32 ∷ []) behind_y v.y is.y (blank-one 32 refl) refl a.1.rest in
    let c = stands-decimal b.1.new (32 ∷ []) behind_z v.z is.z (blank-one 32 refl) refl b.1.rest in
    stands-follow decimal _ old (a.0, v.x) v behind_x behind_z a.1
    (stands-follow decimal _ a.1.new (b.0, v.y) v behind_y behind_z b.1
    (stands-follow decimal _ b.1.new (c.0, v.z) v behind_z behind_z c.1 (stands-gives v c.1.new behind_z c.1.rest)))

-- ---- steps

step_few : (n : ℤ) → IsStep n → unsigned_abs n ≤ 10 ^ 18
step_few (pos n) h = leb→le n (10 ^ 18) h.most.le
step_few (negsuc n) h = absurd h.above.lt

step_above : (n : ℤ) → IsStep n → is_above n ≡ true
step_above (pos n) h = lt-ltb 0 n (ltb→lt 0 n h.above.lt)
step_above (negsuc n) h = absurd h.above.lt

stands-step : (old : Reading) (n : ℤ) (behind : List ℕ) → IsStep n → EndsWord behind → rest_of old ≡ 32 ∷ (decimal_text n ++ behind) → Stands step old n behind
stands-step old n behind is ends e =
    let few = step_few n is in
    let first = stands-decimal old (32 ∷ []) behind n (omega arith) (blank-one 32 refl) ends e in
    stands-follow decimal (λ m. demand (nat_le (unsigned_abs m.1) (10 ^ 18)) (fault_at HeaderNumber m.0) (demand (is_above m.1) (fault_at Spacing m.0) (gives m.1))) old (first.0, n) n behind behind first.1
    (stands-demand _ _ _ first.1.new n behind (le-leb (unsigned_abs n) (10 ^ 18) few)
    (stands-demand _ _ _ first.1.new n behind (step_above n is) (stands-gives n first.1.new behind first.1.rest)))

pub stands-spacing : (old : Reading) (v : Vector) (behind : List ℕ) → IsSpacing v → rest_of old ≡ vector_text v behind → Stands spacing old v (10 ∷ behind)
stands-spacing old v behind is e =
    let behind_z = 10 ∷ behind in
    let behind_y = 32 ∷ (decimal_text v.z ++ behind_z) in
    let behind_x = 32 ∷ (decimal_text v.y ++ behind_y) in
    let a = stands-step old v.x behind_x is.x refl e in
    let b = stands-step a.new v.y behind_y is.y refl a.rest in
    let c = stands-step b.new v.z behind_z is.z refl b.rest in
    stands-follow step _ old v.x v behind_x behind_z a
    (stands-follow step _ a.new v.y v behind_y behind_z b
    (stands-follow step _ b.new v.z v behind_z behind_z c (stands-gives v c.new behind_z c.rest)))
