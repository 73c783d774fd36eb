-- Levels that are handed on to made cells, which are found again one after the other.
use Rattle.std.proofs.Common.{◌≡◌, ℕ, suc, ◌+◌, ◌-◌, ◌<◌, ◌≤◌, Bool, true, false, true≢false, cond, ⊎_elim, List, [], ◌∷◌, ◌++◌, append-nil, append_assoc, length, length-append, length-drop, length-take, get_or, take, drop, replicate, refl, sym, ap, ap₂, subst, ◌∙◌, arith, drop-cons}
use Rattle.std.specs.List.{All, filter, flat_map}
use Rattle.std.proofs.lemmas.List.{length-map, length-replicate, map_push, replicate-append-replicate, take_all, take_more}
use Rattle.std.proofs.lemmas.List.Elements.{All-append, All-head, All-nil, filter_passes}
use Rattle.viz_mesh_meaning.specs.Cells.{Cell}
use Rattle.viz_parts.specs.Parts.{PartSheetData}
use Rattle.viz_piece_filters.specs.HandedOn.{counts, handed_on}
use Rattle.viz_mesh_parts.specs.Steps.{AreHandedOn, AreHandedTo, Passes, passing}

-- ---- cells that pass a test, one after the other

-- an item in front of what is left
in_list : {X : Type 0} (xs : List X) (at : ℕ) (x : X) (rest : List X) → drop at xs ≡ x ∷ rest → at < length xs
in_list xs at x rest e = omega (arith, ap length e, length-drop at xs)

tail_same : {X : Type 0} (x y : X) (xs ys : List X) → x ∷ xs ≡ y ∷ ys → (x ≡ y) × (xs ≡ ys)
tail_same x y xs ys e = (cc, cc)

is_first : {X : Type 0} (xs : List X) (at : ℕ) (x d : X) (rest : List X) → drop at xs ≡ x ∷ rest → (get_or xs at d ≡ x) × (drop (at + 1) xs ≡ rest)
is_first xs at x d rest e =
    let both : get_or xs at d ∷ drop (suc at) xs ≡ x ∷ rest = sym (drop-cons xs at d (in_list xs at x rest e)) ∙ e in
    let two = tail_same (get_or xs at d) x (drop (suc at) xs) rest both in
    (two.0, ap (λ k. drop k xs) {x = at + 1} {y = suc at} (omega arith) ∙ two.1)

abbrev pub Passed : (Cell → Bool) → List Cell → ℕ → List Cell → List Cell → ℕ → Type 0
Passed test made at cs rest to = (to ≡ at + length (filter test cs)) × (drop to made ≡ rest)

pub passed : (test : Cell → Bool) (made : List Cell) (at : ℕ) (cs rest : List Cell) (to : ℕ) → All (λ c. test c ≡ true) rest → drop at made ≡ filter test cs ++ rest → Passes made at cs to
    → Passed test made at cs rest to
passed test made at [] rest to all e p = (p ∙ omega arith, ap (λ k. drop k made) p ∙ e)
passed test made at (c ∷ cs) rest to all e p = by_test (test c) refl e (λ f. passed test made p.0 cs rest to all f p.2)
  where
    by_test : (b : Bool) → test c ≡ b → drop at made ≡ (cond b (c ∷ filter test cs) (filter test cs)) ++ rest
        → (drop p.0 made ≡ filter test cs ++ rest → Passed test made p.0 cs rest to)
        → (to ≡ at + length (cond b (c ∷ filter test cs) (filter test cs))) × (drop to made ≡ rest)
    by_test true is f go =
        let first = is_first made at c [] (filter test cs ++ rest) f in
        let step : p.0 ≡ at + 1 = ⊎_elim (λ s. s.1) (λ s. absurd (s.0 (in_list made at c (filter test cs ++ rest) f, first.0))) p.1 in
        let next = go (ap (λ k. drop k made) step ∙ first.1) in
        (omega (arith, next.0, step), next.1)
    by_test false is f go =
        let stays : p.0 ≡ at = ⊎_elim
        (λ s.
        let next = s.0 in
        let here : drop at made ≡ c ∷ drop (suc at) made = drop-cons made at [] next.0 ∙ ap (λ x. x ∷ drop (suc at) made) next.1 in
        let passes : All (λ x. test x ≡ true) (c ∷ drop (suc at) made) =
        subst (λ xs. All (λ x. test x ≡ true) xs) (sym f ∙ here) (All-append (λ x. test x ≡ true) (filter test cs) rest (filter_passes test cs) all) in
        absurd (true≢false (sym (All-head (λ x. test x ≡ true) c (drop (suc at) made) passes) ∙ is)))
        (λ s. s.1) p.1 in
        let next = go (ap (λ k. drop k made) stays ∙ f) in
        (omega (arith, next.0, stays), next.1)

-- ---- what is handed on

pub handed-push : {A : Type 0} (os : List A) (o : A) (ns : List ℕ) (n : ℕ) → length os ≡ length ns → handed_on (os ++ o ∷ []) (ns ++ n ∷ []) ≡ handed_on os ns ++ replicate n o
handed-push [] o [] n e = append-nil (replicate n o)
handed-push [] o (m ∷ ns) n e = absurd (omega (arith, e))
handed-push (p ∷ os) o [] n e = absurd (omega (arith, e))
handed-push (p ∷ os) o (m ∷ ns) n e =
    ap (λ r. replicate m p ++ r) (handed-push os o ns n (omega (arith, e))) ∙ sym (append_assoc (replicate m p) (handed_on os ns) (replicate n o))

pub length-handed_on : {A : Type 0} (f : Cell → List Cell) (os : List A) (cs : List Cell) → length os ≡ length cs → length (handed_on os (counts f cs)) ≡ length (flat_map f cs)
length-handed_on f [] [] e = refl
length-handed_on f [] (c ∷ cs) e = absurd (omega (arith, e))
length-handed_on f (o ∷ os) [] e = absurd (omega (arith, e))
length-handed_on f (o ∷ os) (c ∷ cs) e =
    length-append (replicate (length (f c)) o) (handed_on os (counts f cs))
    ∙ ap₂ (λ a b. a + b) (length-replicate (length (f c)) o) (length-handed_on f os cs (omega (arith, e)))
    ∙ sym (length-append (f c) (flat_map f cs))

-- one level for all
pub handed-same : {A : Type 0} (f : Cell → List Cell) (o : A) (cs : List Cell) → handed_on (replicate (length cs) o) (counts f cs) ≡ replicate (length (flat_map f cs)) o
handed-same f o [] = refl
handed-same f o (c ∷ cs) =
    ap (λ r. replicate (length (f c)) o ++ r) (handed-same f o cs)
    ∙ replicate-append-replicate (length (f c)) (length (flat_map f cs)) o
    ∙ ap (λ n. replicate n o) (sym (length-append (f c) (flat_map f cs)))

counts-push : (f : Cell → List Cell) (cs : List Cell) (c : Cell) → counts f (cs ++ c ∷ []) ≡ counts f cs ++ length (f c) ∷ []
counts-push f cs c = map_push (λ d. length (f d)) cs c

-- one cell more
pub handed-more : (f : Cell → List Cell) (ls : List ℕ) (cs : List Cell) (i n : ℕ) → length ls ≡ length cs → i < length cs → n ≡ length (f (get_or cs i []))
    → handed_on (take (i + 1) ls) (counts f (take (i + 1) cs)) ≡ handed_on (take i ls) (counts f (take i cs)) ++ replicate n (get_or ls i 0)
handed-more f ls cs i n e l is =
    let c = get_or cs i [] in
    ap₂ (λ a b. handed_on a (counts f b)) (take_more ls i 0 (omega (arith, e, l))) (take_more cs i [] l)
    ∙ ap (handed_on (take i ls ++ get_or ls i 0 ∷ [])) (counts-push f (take i cs) c)
    ∙ handed-push (take i ls) (get_or ls i 0) (counts f (take i cs)) (length (f c)) (omega (arith, e, l, length-map (take i cs) (λ d. length (f d)), length-take {A = ℕ}, length-take {A = Cell}))
    ∙ ap (λ k. handed_on (take i ls) (counts f (take i cs)) ++ replicate k (get_or ls i 0)) (sym is)

-- ---- the loop over cells

all-pass : (makes : Cell → List Cell) (test : Cell → Bool) (cs : List Cell) → All (λ c. test c ≡ true) (flat_map (passing makes test) cs)
all-pass makes test [] = All-nil (λ c. test c ≡ true)
all-pass makes test (c ∷ cs) =
    All-append (λ d. test d ≡ true) (filter test (makes c)) (flat_map (passing makes test) cs) (filter_passes test (makes c)) (all-pass makes test cs)

pub handed-start : (makes : Cell → List Cell) (part : PartSheetData) (made : List Cell) → AreHandedTo makes part made 0 0 []
handed-start makes part made = record { each = λ test e. (refl, e) }

pub handed-next : (makes : Cell → List Cell) (part : PartSheetData) (made : List Cell) (i at to : ℕ) (c : Cell) (l : ℕ) (levels new : List ℕ)
    → length part.levels ≡ length part.sheet.cells → i < length part.sheet.cells → get_or part.sheet.cells i [] ≡ c → l ≡ get_or part.levels i 0
    → Passes made at (makes c) to → new ≡ levels ++ replicate (to - at) l
    → AreHandedTo makes part made i at levels → AreHandedTo makes part made (i + 1) to new
handed-next makes part made i at to c l levels new matched below is level p e h = record {
  each = λ test from.
      let f = passing makes test in
      let ls = part.levels in
      let cs = part.sheet.cells in
      let so_far = h.each test from in
      let here : drop i cs ≡ c ∷ drop (i + 1) cs =
      drop-cons cs i [] below ∙ ap (λ a. a ∷ drop (suc i) cs) is ∙ ap (λ k. c ∷ drop k cs) {x = suc i} {y = i + 1} (omega arith) in
      let go = passed test made at (makes c) (flat_map f (drop (i + 1) cs)) to (all-pass makes test (drop (i + 1) cs)) (so_far.1 ∙ ap (flat_map f) here) p in
      let many : to - at ≡ length (f (get_or cs i [])) = omega (arith, go.0) ∙ ap (λ d. length (f d)) (sym is) in (
        e ∙ ap₂ (λ a b. a ++ replicate (to - at) b) so_far.0 level ∙ sym (handed-more f ls cs i (to - at) matched below many),
        go.1,
      );
}

pub handed-end : (makes : Cell → List Cell) (part : PartSheetData) (made : List Cell) (i at : ℕ) (levels : List ℕ)
    → length part.levels ≡ length part.sheet.cells → length part.sheet.cells ≤ i → AreHandedTo makes part made i at levels → AreHandedOn makes part made levels
handed-end makes part made i at levels matched all h = record {
  each = λ test from.
      (h.each test from).0
      ∙ ap₂ (λ a b. handed_on a (counts (passing makes test) b)) (take_all i part.levels (omega (arith, matched, all))) (take_all i part.sheet.cells all);
}
