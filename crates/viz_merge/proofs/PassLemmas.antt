-- Loops over points, sheet by sheet.
use Rattle.std.proofs.Common.{◌≡◌, ◌≢◌, ℕ, zero, suc, ◌+◌, ◌<◌, ◌≤◌, ◌⊎◌, inl, inr, Bool, true, false, cond, List, [], ◌∷◌, ◌++◌, length, map, get_or, set, take, drop, replicate, ℤ, refl, sym, ap, ap₂, subst, ◌∙◌, append_assoc, arith, ⊎_elim}
use Rattle.std.specs.List.{All, range_with_len}
use Rattle.std.proofs.lemmas.List.Elements.{All-head, All-tail}
use Rattle.std.proofs.lemmas.List.FromFn.{get_or-map-range_with_len, length-map-range_with_len}
use Rattle.std.proofs.Math.ListN.{length-set}
use Rattle.std.proofs.lemmas.Bool.{cases_lt}
use Rattle.std.proofs.lemmas.List.{get_or-drop, get_or-set_other, get_or-set_same, length-append, length-drop, take_all, length-replicate}
use Rattle.viz_fraction.specs.Points.{Point}
use Rattle.viz_sheet.specs.Sheet.{SheetData}
use Rattle.viz_sheet.specs.Kept.{kept, kept_rank}
use Rattle.viz_mesh_meaning.specs.Merge.{all_points}
use Rattle.viz_merge.specs.Steps.Leads.{AreWritten, HaveIndices, index_in, key_at, key_of, keys_from, lead_in}
use Rattle.viz_merge.proofs.CellLemmas.{points-more, points-room}
use Rattle.viz_merge.proofs.LeadLemmas.{keys-append, length-keys}

-- ---- keys

take-one : {X : Type 0} (xs : List X) (i : ℕ) (x d : X) → i < length xs → x ≡ get_or xs i d → take (i + 1) xs ≡ take i xs ++ x ∷ []
take-one [] i x d l e = absurd (omega arith)
take-one (y ∷ ys) zero x d l e = ap (λ z. z ∷ []) (sym e)
take-one (y ∷ ys) (suc i) x d l e = ap (λ n. take n (y ∷ ys)) {x = suc i + 1} {y = suc (i + 1)} (omega arith) ∙ ap (λ t. y ∷ t) (take-one ys i x d (omega arith) e)

length-take : {X : Type 0} (xs : List X) (i : ℕ) → i ≤ length xs → length (take i xs) ≡ i
length-take xs zero l = refl
length-take [] (suc i) l = absurd (omega arith)
length-take (x ∷ xs) (suc i) l = ap suc (length-take xs i (omega arith))

-- the keys of one point more
pub one-key : (old mid new : List (List ℤ)) (ps : List Point) (i : ℕ) (p : Point) → i < length ps → p ≡ get_or ps i p → mid ≡ old ++ keys_from (length old) (take i ps) → length mid ≡ length old + i → new ≡ mid ++ key_of (length mid) p ∷ []
    → new ≡ old ++ keys_from (length old) (take (i + 1) ps)
one-key old mid new ps i p l is made size more =
    let n = length old in
    more ∙ ap₂ (λ a b. a ++ key_of b p ∷ []) made (size ∙ ap (λ j. n + j) (sym (length-take ps i (omega arith))))
    ∙ append_assoc old (keys_from n (take i ps)) (key_of (n + length (take i ps)) p ∷ [])
    ∙ ap (λ t. old ++ t) (sym (keys-append n (take i ps) (p ∷ [])) ∙ ap (keys_from n) (sym (take-one ps i p p l is)))

-- the keys of one sheet more
pub sheet-keys : (sheets : List SheetData) (i : ℕ) (s : SheetData) (old new : List (List ℤ)) (points : List Point) → i < length sheets → s ≡ get_or sheets i s → points ≡ s.points → old ≡ keys_from 0 (all_points (take i sheets)) → new ≡ old ++ keys_from (length old) points
    → new ≡ keys_from 0 (all_points (take (i + 1) sheets))
sheet-keys sheets i s old new points l is ep made more =
    let all = all_points (take i sheets) in
    let count : length old ≡ length all = ap length made ∙ length-keys 0 all in
    more ∙ ap₂ (λ a b. a ++ keys_from b points) made (count ∙ omega arith) ∙ ap (λ ps. keys_from 0 all ++ keys_from (0 + length all) ps) ep
    ∙ sym (keys-append 0 all s.points) ∙ ap (keys_from 0) (sym (points-more sheets i s l is))

-- ---- leads

pub none-written : (keys : List (List ℤ)) → AreWritten keys 0 (replicate (length keys) 0)
none-written keys = record { size = length-replicate (length keys) 0; each = λ k l. absurd (omega arith) }

pub one-written : (keys : List (List ℤ)) (at lead : ℕ) (old new : List ℕ) → HaveIndices keys → at < length keys → AreWritten keys at old → lead ≡ lead_in keys at → new ≡ set old (index_in (key_at keys at)) lead → AreWritten keys (at + 1) new
one-written keys at lead old new h l w is more =
    let i = index_in (key_at keys at) in
    let below : i < length old = omega (arith, h.below at l, w.size) in
    record {
      size = ap length more ∙ length-set old i lead ∙ w.size;
      each = λ k kl.
          let j = index_in (key_at keys k) in
          ⊎_elim
          (λ (e : i ≡ j). (at, l, e, ap (λ xs. get_or xs j 0) more ∙ ap (λ n. get_or (set old i lead) n 0) (sym e) ∙ here old i below ∙ is))
          (λ (n : i ≡ j → ⊥).
          let before : k < at = ⊎_elim (λ (b : k < at). b) (λ (f : at ≤ k). absurd (n (ap (λ m. index_in (key_at keys m)) {x = at} {y = k} (omega arith)))) (cases_lt k at) in
          let by = w.each k before in
          (by.0, by.1, by.2, ap (λ xs. get_or xs j 0) more ∙ there old i j (λ e. n (sym e)) ∙ by.3))
          (same_or_not i j);
    }
  where
    here : (xs : List ℕ) (i : ℕ) → i < length xs → get_or (set xs i lead) i 0 ≡ lead
    here xs i b = rw get_or-set_same refl

    there : (xs : List ℕ) (i j : ℕ) → j ≢ i → get_or (set xs i lead) j 0 ≡ get_or xs j 0
    there xs i j n = rw get_or-set_other refl

    same_or_not : (i j : ℕ) → (i ≡ j) ⊎ (i ≡ j → ⊥)
    same_or_not i j = ⊎_elim (λ (b : i < j). inr (λ e. absurd (omega (arith, b, e)))) (λ (f : j ≤ i). ⊎_elim (λ (b : j < i). inr (λ e. absurd (omega (arith, b, e)))) (λ (g : i ≤ j). inl (omega arith)) (cases_lt j i)) (cases_lt i j)

-- ---- marked points

kept-append : {X : Type 0} (a n : ℕ) (ms : List Bool) (xs ys : List X) → length xs ≡ a → a ≤ length ms → kept (take (a + n) ms) (xs ++ ys) ≡ kept (take a ms) xs ++ kept (take n (drop a ms)) ys
kept-append zero n ms [] ys e l = ap (λ k. kept (take k ms) ys) {x = zero + n} {y = n} (omega arith) ∙ none ms
  where
    none : (ns : List Bool) → kept (take n ms) ys ≡ kept (take zero ns) [] ++ kept (take n (drop zero ms)) ys
    none [] = refl
    none (b ∷ bs) = refl
kept-append zero n ms (x ∷ xs) ys e l = absurd (omega (arith, e))
kept-append (suc a) n ms [] ys e l = absurd (omega (arith, e))
kept-append (suc a) n [] (x ∷ xs) ys e l = absurd (omega arith)
kept-append (suc a) n (m ∷ ms) (x ∷ xs) ys e l =
    ap (λ k. kept (take k (m ∷ ms)) (x ∷ (xs ++ ys))) {x = suc a + n} {y = suc (a + n)} (omega arith)
    ∙ one m (kept-append a n ms xs ys (omega arith) (omega arith))
  where
    one : (b : Bool) → kept (take (a + n) ms) (xs ++ ys) ≡ kept (take a ms) xs ++ kept (take n (drop a ms)) ys
        → cond b (x ∷ kept (take (a + n) ms) (xs ++ ys)) (kept (take (a + n) ms) (xs ++ ys)) ≡ cond b (x ∷ kept (take a ms) xs) (kept (take a ms) xs) ++ kept (take n (drop a ms)) ys
    one true h = ap (λ t. x ∷ t) h
    one false h = h

-- the marked points of the first so many sheets
pub record AreKept (marks : List Bool) (sheets : List SheetData) (i at : ℕ) (points : List Point) : Type 0 where
  pub place : at ≡ length (all_points (take i sheets))
  pub made : points ≡ kept (take at marks) (all_points (take i sheets))

pub sheet-kept : (marks : List Bool) (sheets : List SheetData) (i : ℕ) (s : SheetData) (at count : ℕ) (old new points : List Point) → length marks ≡ length (all_points sheets) → i < length sheets → s ≡ get_or sheets i s → points ≡ s.points → count ≡ length s.points
    → AreKept marks sheets i at old → new ≡ old ++ kept (take (length points) (drop at marks)) points → AreKept marks sheets (i + 1) (at + count) new
sheet-kept marks sheets i s at count old new points size l is ep ec h more =
    let all = all_points (take i sheets) in
    let room = points-room sheets i s l is in
    let next = points-more sheets i s l is in
    record {
      place = omega (arith, h.place, ec, ap length next, length-append all s.points);
      made =
          more ∙ ap₂ (λ a ps. a ++ kept (take (length ps) (drop at marks)) ps) h.made ep
          ∙ sym (kept-append at (length s.points) marks all s.points (sym h.place) (omega (arith, room, size, h.place)))
          ∙ ap₂ (λ n ps. kept (take (at + n) marks) ps) (sym ec) (sym next);
    }

pub sheet-room : (marks : List Bool) (sheets : List SheetData) (i : ℕ) (s : SheetData) (at : ℕ) (points : List Point) → length marks ≡ length (all_points sheets) → i < length sheets → s ≡ get_or sheets i s → points ≡ s.points → at ≡ length (all_points (take i sheets))
    → at + length points ≤ length marks
sheet-room marks sheets i s at points size l is ep place = omega (arith, points-room sheets i s l is, size, place, ap length ep)

pub all-kept : (marks : List Bool) (sheets : List SheetData) (i at : ℕ) (points : List Point) → length marks ≡ length (all_points sheets) → length sheets ≤ i → AreKept marks sheets i at points → points ≡ kept marks (all_points sheets)
all-kept marks sheets i at points size l h =
    let all : take i sheets ≡ sheets = take_all i sheets l in
    let place : at ≡ length (all_points sheets) = h.place ∙ ap (λ ss. length (all_points ss)) all in
    h.made ∙ ap₂ (λ ms ss. kept ms (all_points ss)) (take_all at marks (omega (arith, place, size))) all

one-mark : {X : Type 0} (ms : List Bool) (i : ℕ) (x : X) → i < length ms → kept (take 1 (drop i ms)) (x ∷ []) ≡ cond (get_or ms i false) (x ∷ []) []
one-mark [] i x l = absurd (omega arith)
one-mark (m ∷ ms) zero x l = refl
one-mark (m ∷ ms) (suc i) x l = one-mark ms i x (omega arith)

-- one point more, if it is marked
pub one-kept : (marks : List Bool) (at : ℕ) (ps : List Point) (i : ℕ) (p : Point) (front old new : List Point) → at + length ps ≤ length marks → i < length ps → p ≡ get_or ps i p
    → old ≡ front ++ kept (take i (drop at marks)) (take i ps) → new ≡ old ++ cond (get_or marks (at + i) false) (p ∷ []) [] → new ≡ front ++ kept (take (i + 1) (drop at marks)) (take (i + 1) ps)
one-kept marks at ps i p front old new room l is made more =
    let ms = drop at marks in
    let size : i < length ms = omega (arith, length-drop at marks, room) in
    more ∙ ap₂ (λ a b. a ++ cond b (p ∷ []) []) made (sym (get_or-drop at marks i false))
    ∙ append_assoc front (kept (take i ms) (take i ps)) (cond (get_or ms i false) (p ∷ []) [])
    ∙ ap (λ t. front ++ (kept (take i ms) (take i ps) ++ t)) (sym (one-mark ms i p size))
    ∙ ap (λ t. front ++ t) (sym (kept-append i 1 ms (take i ps) (p ∷ []) (length-take ps i (omega arith)) (omega arith)) ∙ ap (kept (take (i + 1) ms)) (sym (take-one ps i p p l is)))

-- numbers looked up in the ranks of all
pub numbers-by : (marks : List Bool) (before leads : List ℕ) → before ≡ map (kept_rank marks) (range_with_len 0 (length marks)) → All (λ l. l < length marks) leads → map (λ l. get_or before l 0) leads ≡ map (kept_rank marks) leads
numbers-by marks before [] e h = refl
numbers-by marks before (l ∷ ls) e h =
    ap₂ (λ a b. a ∷ b)
    (ap (λ ns. get_or ns l 0) e ∙ get_or-map-range_with_len (kept_rank marks) 0 (length marks) l l 0 (All-head (λ k. k < length marks) l ls h) (omega arith))
    (numbers-by marks before ls e (All-tail (λ k. k < length marks) l ls h))

pub before-below : (marks : List Bool) (before leads : List ℕ) → before ≡ map (kept_rank marks) (range_with_len 0 (length marks)) → All (λ l. l < length marks) leads → All (λ l. l < length before) leads
before-below marks before leads e h = subst (λ n. All (λ l. l < n) leads) (sym (ap length e ∙ length-map-range_with_len (kept_rank marks) 0 (length marks))) h
