-- Cells by layers are parts.
use Rattle.std.proofs.Common.{◌≡◌, ℕ, ◌+◌, ◌-◌, ◌*◌, ◌<◌, ◌≤◌, Bool, true, false, Option, Some, None, ⊎_elim, cond, leb, append-nil, List, [], ◌∷◌, ◌++◌, length, map, replicate, refl, sym, ap, ap₂, subst, ◌∙◌, arith}
use Rattle.std.specs.List.{Contains, flat_map, range_with_len}
use Rattle.std.proofs.lemmas.Bool.{cases_lt, leb-true, le-leb, lt-leb}
use Rattle.std.proofs.lemmas.Option.{cond_some}
use Rattle.viz_meaning.proofs.ListLemmas.{contains-map, contains-unmap}
use Rattle.viz_piece_layers.specs.Cells.{Cell}
use Rattle.viz_parts.specs.Seen.{SeenBefore, Seen, AreSeen, IsUpTo, seen_as, cell_if, level_if, cells_seen, levels_seen, whole_seen, owned_seen}
use Rattle.viz_parts.specs.Pieces.{own_range}
use Rattle.viz_piece_layers.specs.Layers.{distance, level_of, layered, AreLayered, LayersArePart, LevelsAreSteps, Meeting, cells_from, levels_from, first_there, last_there}
use Rattle.viz_piece_layers.proofs.RangeLemmas.{from_flat_map, in_range, into_flat_map, into_range, map-flat, flat-flat, flat-range_same, flat-range_none, three, map-const, flat-replicate, distribute}

-- ---- levels

level_is : (last word : ℕ) → word ≤ last → level_of last word ≡ Some word
level_is last word h = ap (λ b. cond b (Some word) None) (le-leb word last h)

level_none : (last word : ℕ) → last < word → level_of last word ≡ None
level_none last word h = ap (λ b. cond b (Some word) None) (lt-leb word last h)

level_says : (last word l : ℕ) → level_of last word ≡ Some l → (word ≡ l) × (l ≤ last)
level_says last word l e =
    let c = cond_some (leb word last) word l e in
    (c.1, subst (λ k. k ≤ last) c.1 (leb-true word last c.0))

up_to_is : (last word most : ℕ) → word ≤ most → most ≤ last → IsUpTo most (level_of last word)
up_to_is last word most a b = subst (IsUpTo most) (sym (level_is last word (omega (arith, a, b)))) a

zero_level : (last d : ℕ) → d ≤ 0 → level_of last d ≡ Some 0
zero_level last d l = level_is last d (omega (arith, l)) ∙ ap Some {x = d} {y = 0} (omega (arith, l))

-- ---- the rule

-- which layer a cell comes from
record IsFrom (cells : ℕ → List Cell) (count low high ghosts : ℕ) (s : Seen) : Type 0 where
  z : ℕ
  below : z < count
  there_is : Contains (cells z) s.cell
  own : s.own ≡ leb (distance low high z) 0
  level : s.level ≡ level_of ghosts (distance low high z)

is_from : (cells : ℕ → List Cell) (count low high ghosts : ℕ) (s : Seen) → Contains (layered cells count low high ghosts) s → IsFrom cells count low high ghosts s
is_from cells count low high ghosts s c =
    let made = λ (z : ℕ). seen_as (leb (distance low high z) 0) (level_of ghosts (distance low high z)) in
    let a = from_flat_map (λ z. map (made z) (cells z)) (range_with_len 0 count) s c in
    let b = contains-unmap (made a.0) (cells a.0) s a.2 in
    record {
      z = a.0;
      below = omega (arith, (in_range 0 count a.0 a.1).1);
      there_is = subst (Contains (cells a.0)) (ap (λ t. t.cell) b.2) b.1;
      own = sym (ap (λ t. t.own) b.2);
      level = sym (ap (λ t. t.level) b.2);
    }

rule : (cells : ℕ → List Cell) (count low high ghosts : ℕ) → low ≤ high → AreLayered cells count → AreSeen ghosts (layered cells count low high ghosts)
rule cells count low high ghosts o h = record {
  own = λ s c.
      let a = is_from cells count low high ghosts s c in
      let d : ℕ = distance low high a.z in (
        (λ e. a.own ∙ le-leb d 0 (omega (arith, (level_says ghosts d 0 (sym a.level ∙ e)).0))),
        (λ e. a.level ∙ zero_level ghosts d (leb-true d 0 (sym a.own ∙ e))),
      );
  most = λ s l c e. let a = is_from cells count low high ghosts s c in (level_says ghosts (distance low high a.z) l (sym a.level ∙ e)).1;
  near = λ s t l c d e k m.
      let a = is_from cells count low high ghosts s c in
      let z = is_from cells count low high ghosts t d in
      let was = (level_says ghosts (distance low high a.z) l (sym a.level ∙ e)).0 in
      let close = h a.z z.z s.cell t.cell a.below z.below a.there_is z.there_is m in
      subst (IsUpTo (l + 1)) (sym z.level)
      (up_to_is ghosts (distance low high z.z) (l + 1) (next_to a.z z.z l was close.above close.below) (omega (arith, k)));
}
  where
    next_to : (p q l : ℕ) → distance low high p ≡ l → p ≤ q + 1 → q ≤ p + 1 → distance low high q ≤ l + 1
    next_to p q l e u v = omega (arith, e, u, v, o)

-- ---- the lists

whole_made : (o : Bool) (l : Option ℕ) (xs : List Cell) → map (λ s. s.cell) (map (seen_as o l) xs) ≡ xs
whole_made o l [] = refl
whole_made o l (x ∷ xs) = ap (λ r. x ∷ r) (whole_made o l xs)

own_made : (o : Bool) (l : Option ℕ) (xs : List Cell) → map (λ s. s.own) (map (seen_as o l) xs) ≡ map (λ x. o) xs
own_made o l [] = refl
own_made o l (x ∷ xs) = ap (λ r. o ∷ r) (own_made o l xs)

cells_some : (o : Bool) (l : ℕ) (xs : List Cell) → flat_map (λ (s : Seen). cell_if s.cell s.level) (map (seen_as o (Some l)) xs) ≡ xs
cells_some o l [] = refl
cells_some o l (x ∷ xs) = ap (λ r. x ∷ r) (cells_some o l xs)

cells_none : (o : Bool) (xs : List Cell) → flat_map (λ (s : Seen). cell_if s.cell s.level) (map (seen_as o None) xs) ≡ []
cells_none o [] = refl
cells_none o (x ∷ xs) = cells_none o xs

levels_some : (o : Bool) (l : ℕ) (xs : List Cell) → flat_map (λ (s : Seen). level_if s.level) (map (seen_as o (Some l)) xs) ≡ map (λ x. l) xs
levels_some o l [] = refl
levels_some o l (x ∷ xs) = ap (λ r. l ∷ r) (levels_some o l xs)

levels_none : (o : Bool) (xs : List Cell) → flat_map (λ (s : Seen). level_if s.level) (map (seen_as o None) xs) ≡ []
levels_none o [] = refl
levels_none o (x ∷ xs) = levels_none o xs

-- a list of which only the middle layers have something
pub only_middle : {X : Type 0} (f g : ℕ → List X) (count low high : ℕ) → low ≤ high → high ≤ count
    → ((z : ℕ) → z < low → f z ≡ []) → ((z : ℕ) → low ≤ z → z < high → f z ≡ g z) → ((z : ℕ) → high ≤ z → z < count → f z ≡ [])
    → flat_map f (range_with_len 0 count) ≡ flat_map g (range_with_len low (high - low))
only_middle f g count low high o m below within above =
    three f count low high o m
    ∙ ap (λ t. t ++ (flat_map f (range_with_len low (high - low)) ++ flat_map f (range_with_len high (count - high)))) (flat-range_none f 0 low (λ z _ b. below z (omega (arith, b))))
    ∙ ap₂ (λ s t. s ++ t) (flat-range_same f g low (high - low) (λ z a b. within z a (omega (arith, b, o)))) (flat-range_none f high (count - high) (λ z a b. above z a (omega (arith, b, m))))
    ∙ append-nil (flat_map g (range_with_len low (high - low)))

-- which layers are there
is_there : (count low high ghosts z : ℕ) → low ≤ high → first_there low ghosts ≤ z → z < last_there count high ghosts → distance low high z ≤ ghosts
is_there count low high ghosts z o a b = omega (arith, a, b, o)

not_below : (low high ghosts z : ℕ) → low ≤ high → z < first_there low ghosts → ghosts < distance low high z
not_below low high ghosts z o a = omega (arith, a, o)

not_above : (count low high ghosts z : ℕ) → low ≤ high → last_there count high ghosts ≤ z → z < count → ghosts < distance low high z
not_above count low high ghosts z o a b = omega (arith, a, b, o)

pub some_there : (count low high ghosts : ℕ) → low ≤ high → high ≤ count → first_there low ghosts ≤ last_there count high ghosts
some_there count low high ghosts o m = omega (arith, o, m)

pub last_within : (count high ghosts : ℕ) → last_there count high ghosts ≤ count
last_within count high ghosts = omega arith

cells_there : (cells : ℕ → List Cell) (count low high ghosts : ℕ) → low ≤ high → high ≤ count
    → cells_seen (layered cells count low high ghosts) ≡ cells_from cells (first_there low ghosts) (last_there count high ghosts)
cells_there cells count low high ghosts o m =
    flat-flat (λ (s : Seen). cell_if s.cell s.level) (λ z. map (seen_as (own z) (level z)) (cells z)) (range_with_len 0 count)
    ∙ only_middle (λ z. shown z (level z)) cells count (first_there low ghosts) (last_there count high ghosts) (some_there count low high ghosts o m) (last_within count high ghosts)
    (λ z b. ap (shown z) (level_none ghosts (distance low high z) (not_below low high ghosts z o b)) ∙ cells_none (own z) (cells z))
    (λ z a b. ap (shown z) (level_is ghosts (distance low high z) (is_there count low high ghosts z o a b)) ∙ cells_some (own z) (distance low high z) (cells z))
    (λ z a b. ap (shown z) (level_none ghosts (distance low high z) (not_above count low high ghosts z o a b)) ∙ cells_none (own z) (cells z))
  where
    own : ℕ → Bool
    own z = leb (distance low high z) 0

    level : ℕ → Option ℕ
    level z = level_of ghosts (distance low high z)

    shown : ℕ → Option ℕ → List Cell
    shown z l = flat_map (λ (s : Seen). cell_if s.cell s.level) (map (seen_as (own z) l) (cells z))

levels_there : (cells : ℕ → List Cell) (count low high ghosts : ℕ) → low ≤ high → high ≤ count
    → levels_seen (layered cells count low high ghosts) ≡ levels_from cells low high (first_there low ghosts) (last_there count high ghosts)
levels_there cells count low high ghosts o m =
    flat-flat (λ (s : Seen). level_if s.level) (λ z. map (seen_as (own z) (level z)) (cells z)) (range_with_len 0 count)
    ∙ only_middle (λ z. shown z (level z)) (λ z. map (λ c. distance low high z) (cells z)) count (first_there low ghosts) (last_there count high ghosts) (some_there count low high ghosts o m) (last_within count high ghosts)
    (λ z b. ap (shown z) (level_none ghosts (distance low high z) (not_below low high ghosts z o b)) ∙ levels_none (own z) (cells z))
    (λ z a b. ap (shown z) (level_is ghosts (distance low high z) (is_there count low high ghosts z o a b)) ∙ levels_some (own z) (distance low high z) (cells z))
    (λ z a b. ap (shown z) (level_none ghosts (distance low high z) (not_above count low high ghosts z o a b)) ∙ levels_none (own z) (cells z))
  where
    own : ℕ → Bool
    own z = leb (distance low high z) 0

    level : ℕ → Option ℕ
    level z = level_of ghosts (distance low high z)

    shown : ℕ → Option ℕ → List ℕ
    shown z l = flat_map (λ (s : Seen). level_if s.level) (map (seen_as (own z) l) (cells z))

whole : (cells : ℕ → List Cell) (count low high ghosts : ℕ) → whole_seen (layered cells count low high ghosts) ≡ cells_from cells 0 count
whole cells count low high ghosts =
    map-flat (λ (s : Seen). s.cell) (λ z. map (made z) (cells z)) (range_with_len 0 count)
    ∙ flat-range_same (λ z. map (λ (s : Seen). s.cell) (map (made z) (cells z))) cells 0 count (λ z _ _. whole_made (leb (distance low high z) 0) (level_of ghosts (distance low high z)) (cells z))
    ∙ ap (λ n. flat_map cells (range_with_len 0 n)) {x = count} {y = count - 0} (omega arith)
  where
    made : ℕ → Cell → Seen
    made z = seen_as (leb (distance low high z) 0) (level_of ghosts (distance low high z))

owned : (cells : ℕ → List Cell) (count size low high ghosts : ℕ) → low ≤ high → high ≤ count → ((z : ℕ) → length (cells z) ≡ size)
    → owned_seen (layered cells count low high ghosts) ≡ own_range (size * count) (size * low) (size * high)
owned cells count size low high ghosts o m even =
    map-flat (λ (s : Seen). s.own) (λ z. map (seen_as (own z) (level z)) (cells z)) (range_with_len 0 count)
    ∙ flat-range_same (λ z. map (λ (s : Seen). s.own) (map (seen_as (own z) (level z)) (cells z))) marks 0 count
    (λ z _ _. own_made (own z) (level z) (cells z) ∙ map-const (own z) (cells z) ∙ ap (λ n. replicate n (own z)) (even z))
    ∙ three marks count low high o m
    ∙ ap₂ (λ s t. s ++ t) (run 0 low false (λ z a b. lt-leb (distance low high z) 0 (omega (arith, b))))
    (ap₂ (λ s t. s ++ t) (run low (high - low) true (λ z a b. le-leb (distance low high z) 0 (omega (arith, a, b, o))))
    (run high (count - high) false (λ z a b. lt-leb (distance low high z) 0 (omega (arith, a)))))
    ∙ ap₂ (λ p q. replicate (size * low) false ++ (replicate p true ++ replicate q false)) (sym (distribute size low high o)) (sym (distribute size high count m))
  where
    own : ℕ → Bool
    own z = leb (distance low high z) 0

    level : ℕ → Option ℕ
    level z = level_of ghosts (distance low high z)

    marks : ℕ → List Bool
    marks z = replicate size (own z)

    run : (a n : ℕ) (b : Bool) → ((z : ℕ) → a ≤ z → z < a + n → own z ≡ b) → flat_map marks (range_with_len a n) ≡ replicate (size * n) b
    run a n b h = flat-range_same marks (λ z. replicate size b) a n (λ z l m. ap (replicate size) (h z l m)) ∙ flat-replicate size a n b

pub layers_are_part : LayersArePart
layers_are_part cells count size low high ghosts o m near even = record {
  rule = rule cells count low high ghosts o near;
  whole = whole cells count low high ghosts;
  owned = owned cells count size low high ghosts o m even;
  cells_there = cells_there cells count low high ghosts o m;
  levels_there = levels_there cells count low high ghosts o m;
}

-- ---- levels are steps

-- a cell of a layer as the part has it
of-layer : (cells : ℕ → List Cell) (count low high ghosts z : ℕ) (c : Cell) → z < count → Contains (cells z) c
    → Contains (layered cells count low high ghosts) (seen_as (leb (distance low high z) 0) (level_of ghosts (distance low high z)) c)
of-layer cells count low high ghosts z c below has =
    into_flat_map (λ y. map (made y) (cells y)) (range_with_len 0 count) z (made z c) (into_range 0 count z (omega arith) (omega (arith, below))) (contains-map (made z) (cells z) c has)
  where
    made : ℕ → Cell → Seen
    made y = seen_as (leb (distance low high y) 0) (level_of ghosts (distance low high y))

before-at : (cells : ℕ → List Cell) (count low high ghosts z l : ℕ) (s : Seen) → z < count → distance low high z ≡ l → l ≤ ghosts → Meeting cells z s.cell
    → SeenBefore (layered cells count low high ghosts) s l
before-at cells count low high ghosts z l s below is few m = record {
  other = seen_as (leb (distance low high z) 0) (level_of ghosts (distance low high z)) m.cell;
  there_is = of-layer cells count low high ghosts z m.cell below m.there_is;
  level = level_is ghosts (distance low high z) (omega (arith, is, few)) ∙ ap Some is;
  meet = m.meet;
}

pub levels_are_steps : LevelsAreSteps
levels_are_steps cells count low high ghosts o m linked s l c e =
    let a = is_from cells count low high ghosts s c in
    let says = level_says ghosts (distance low high a.z) (l + 1) (sym a.level ∙ e) in
    let far : distance low high a.z ≡ l + 1 = says.0 in
    let most : l + 1 ≤ ghosts = says.1 in
    ⊎_elim
    (λ under. before-at cells count low high ghosts (a.z + 1) l s (omega (arith, under, o, m)) (nearer_above a.z under far) (omega (arith, most)) (linked.above a.z s.cell (omega (arith, under, o, m)) a.there_is))
    (λ past.
    let over : high ≤ a.z = beyond a.z past far in
    let y = a.z - 1 in
    let is : y + 1 ≡ a.z = omega (arith, over, o) in
    let up = a.below in
    before-at cells count low high ghosts y l s (omega (arith, is, up)) (nearer_below a.z over far) (omega (arith, most))
    (linked.below y s.cell (omega (arith, is, up)) (subst (λ k. Contains (cells k) s.cell) (sym is) a.there_is)))
    (cases_lt a.z low)
  where
    nearer_above : (z : ℕ) → z < low → distance low high z ≡ l + 1 → distance low high (z + 1) ≡ l
    nearer_above z u f = omega (arith, u, f, o)

    beyond : (z : ℕ) → low ≤ z → distance low high z ≡ l + 1 → high ≤ z
    beyond z p f = omega (arith, p, f, o)

    nearer_below : (z : ℕ) → high ≤ z → distance low high z ≡ l + 1 → distance low high (z - 1) ≡ l
    nearer_below z v f = omega (arith, v, f, o)
