-- Offsets that were read don't fall, and the last is how many indices there are.
use Rattle.std.proofs.Common.{◌≡◌, ℕ, ℤ, pos, negsuc, zero, suc, ◌-◌, ◌+◌, ◌≤◌, Bool, true, false, not, ◌&&◌, ◌||◌, List, [], ◌∷◌, ◌++◌, length, length-append, Ok, refl, sym, ap, subst, ◌∙◌, append_assoc, arith, if◌then◌else◌}
use Rattle.std.specs.Prelude.{◌==◌, unsigned_abs, nat_le}
use Rattle.std.proofs.lemmas.Bool.{leb-true, eqb-true, true≢false}
use Rattle.std.proofs.lemmas.List.{append-nil}
use Rattle.std.proofs.Math.Seq.{get_or-append_seam}
use Rattle.viz_column.specs.declared.kind.Kind8.{Kind8}
use Rattle.viz_lex.specs.Reading.{Reading}
use Rattle.viz_lex.specs.Readers.{known_at}
use Rattle.viz_lex.proofs.ReadingLemmas.{done_is, bind_ok}
use Rattle.viz_offset_cells.specs.Offsets.{last_of, is_in_order, is_offset}
use Rattle.viz_offset_cells.specs.Steps.{offset_at, AreCuts, AreAllCuts}
use Rattle.viz_offset_cells.proofs.OffsetLaws.{decides-offset}

-- ---- what the test says

both : (a b : Bool) → (a && b) ≡ true → (a ≡ true) × (b ≡ true)
both true b h = (refl, h)
both false b h = absurd (true≢false (sym h))

unless : (a b : Bool) → (not a || b) ≡ true → a ≡ true → b ≡ true
unless true b h e = h
unless false b h e = absurd (true≢false (sym e))

natural : (most indices : ℕ) (before : List ℕ) (z : ℤ) → is_offset most indices before z ≡ true → is_offset most indices before (pos (unsigned_abs z)) ≡ true
natural most indices before (pos n) h = h
natural most indices before (negsuc n) h = absurd (true≢false (sym h))

pub offset-found : (binary : Bool) (kind : Kind8) (most indices : ℕ) (before : List ℕ) (r : Reading) (x : ℕ × Reading) → offset_at binary kind most indices before r ≡ Ok x → is_offset most indices before (pos x.0) ≡ true
offset-found binary kind most indices before r x e =
    let h = (decides-offset binary kind most indices before).found r x e in
    subst (λ (n : ℕ). is_offset most indices before (pos n) ≡ true) (sym h.3.1.1) (natural most indices before h.0.1 h.3.0)

picked : (test a b : Bool) → test ≡ false → (if test then a else b) ≡ true → b ≡ true
picked true a b e h = absurd (true≢false e)
picked false a b e h = h

pub some_before : (front : List ℕ) (last : ℕ) → (length (front ++ last ∷ []) == 0) ≡ false
some_before [] last = refl
some_before (f ∷ fs) last = grind arith

pub last_is : (front : List ℕ) (last : ℕ) → last_of (front ++ last ∷ []) ≡ last
last_is front last =
    let long : length (front ++ last ∷ []) ≡ length front + 1 = length-append front (last ∷ []) in
    let place : length (front ++ last ∷ []) - 1 ≡ length front = omega (arith, long) in
    rw place (get_or-append_seam front last [] 0)

in_order : (front : List ℕ) (last n : ℕ) → is_in_order (front ++ last ∷ []) n ≡ true → last ≤ n
in_order front last n h =
    let le = picked (length (front ++ last ∷ []) == 0) (n == 0) (nat_le (last_of (front ++ last ∷ [])) n) (some_before front last) h in
    leb-true last n (subst (λ (m : ℕ). nat_le m n ≡ true) (last_is front last) le)

at_end : (most indices n : ℕ) (before : List ℕ) → is_offset most indices before (pos n) ≡ true → length before + 1 ≡ most → n ≡ indices
at_end most indices n before h e =
    let test = both (is_in_order before n) (not (length before + 1 == most) || n == indices) h in
    eqb-true n indices (unless (length before + 1 == most) (n == indices) test.1 (let is : (length before + 1 == most) ≡ true = rw e (grind arith) in is))

-- ---- offsets behind others

behind : (binary : Bool) (kind : Kind8) (most indices n : ℕ) (front : List ℕ) (last : ℕ) (r : Reading) (x : List ℕ × Reading) → length front + 1 + n ≡ most → (n ≡ 0 → last ≡ indices)
    → known_at (offset_at binary kind most indices) n (front ++ last ∷ []) r ≡ Ok x → (later : List ℕ) × (x.0 ≡ (front ++ last ∷ []) ++ later) × AreCuts last later indices
behind binary kind most indices zero front last r x all ends e =
    let is : (front ++ last ∷ [], r) ≡ x = done_is (front ++ last ∷ [], r) x e in
    ([], ap (λ (p : List ℕ × Reading). p.0) (sym is) ∙ sym (append-nil (front ++ last ∷ [])), ends refl)
behind binary kind most indices (suc n) front last r x all ends e =
    let one = bind_ok (offset_at binary kind most indices (front ++ last ∷ []) r) _ x e in
    let y = one.0.0 in
    let is = offset-found binary kind most indices (front ++ last ∷ []) r one.0 one.1 in
    let order = both (is_in_order (front ++ last ∷ []) y) (not (length (front ++ last ∷ []) + 1 == most) || y == indices) is in
    let long : length (front ++ last ∷ []) ≡ length front + 1 = length-append front (last ∷ []) in
    let count : length (front ++ last ∷ []) + 1 + n ≡ most = omega (arith, long, all) in
    let more = behind binary kind most indices n (front ++ last ∷ []) y one.0.1 x count (λ none. at_end most indices y (front ++ last ∷ []) is (omega (arith, count, none))) one.2 in
    (y ∷ more.0, more.1 ∙ append_assoc (front ++ last ∷ []) (y ∷ []) more.0, (in_order front last y order.0, more.2))

-- ---- all

first_is : (most indices n : ℕ) → is_offset most indices [] (pos n) ≡ true → n ≡ 0
first_is most indices n h = eqb-true n 0 (both (is_in_order [] n) (not (length {A = ℕ} [] + 1 == most) || n == indices) h).0

all_cuts : (binary : Bool) (kind : Kind8) (most indices n : ℕ) (r : Reading) (x : List ℕ × Reading) → n ≡ most → (n ≡ 0 → indices ≡ 0) → known_at (offset_at binary kind most indices) n [] r ≡ Ok x → AreAllCuts x.0 indices
all_cuts binary kind most indices zero r x all none e =
    let is : ([], r) ≡ x = done_is ([], r) x e in
    subst (λ (p : List ℕ × Reading). AreAllCuts p.0 indices) is (none refl)
all_cuts binary kind most indices (suc n) r x all none e =
    let one = bind_ok (offset_at binary kind most indices [] r) _ x e in
    let y = one.0.0 in
    let is = offset-found binary kind most indices [] r one.0 one.1 in
    let count : 0 + 1 + n ≡ most = omega (arith, all) in
    let more = behind binary kind most indices n [] y one.0.1 x count (λ last. at_end most indices y [] is (omega (arith, all, last))) one.2 in
    subst (λ (l : List ℕ). AreAllCuts l indices) (sym more.1) (first_is most indices y is, more.2)

pub known-cuts : (binary : Bool) (kind : Kind8) (most indices : ℕ) (r next : Reading) (xs : List ℕ) → (most ≡ 0 → indices ≡ 0) → known_at (offset_at binary kind most indices) most [] r ≡ Ok (xs, next) → AreAllCuts xs indices
known-cuts binary kind most indices r next xs none e = all_cuts binary kind most indices most r (xs, next) refl none e
