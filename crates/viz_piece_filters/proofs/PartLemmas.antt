-- What a filter makes of a part is a part.
use Rattle.std.proofs.Common.{◌≡◌, ℕ, ◌+◌, Bool, Option, Some, None, ⊎_elim, append-nil, List, [], ◌∷◌, ◌++◌, length, map, replicate, refl, sym, ap, ap₂, subst, ◌∙◌}
use Rattle.std.specs.List.{Contains, flat_map}
use Rattle.std.proofs.lemmas.List.{map-append}
use Rattle.std.proofs.lemmas.List.Concat.{flat_map-append}
use Rattle.std.proofs.lemmas.List.Elements.{Contains-append_cases, Contains-append_left, Contains-append_right}
use Rattle.viz_sheet.proofs.MemberLemmas.{here, there, member_cases, no_member}
use Rattle.viz_mesh_meaning.specs.Cells.{Cell}
use Rattle.viz_piece_filters.specs.Names.{Name}
use Rattle.viz_parts.specs.Seen.{Seen, Meet, IsUpTo, AreSeen, whole_seen, cells_seen, levels_seen, owned_seen, cell_if, level_if, seen_as}
use Rattle.viz_piece_filters.specs.HandedOn.{counts, handed_on}
use Rattle.viz_piece_filters.specs.Made.{HaveParents}

-- the cells that a filter makes of one, with its ownership and level
abbrev pub from_cell : (Cell → List Cell) → Seen → List Seen
from_cell f s = map (seen_as s.own s.level) (f s.cell)

abbrev pub through : (Cell → List Cell) → List Seen → List Seen
through f seen = flat_map (from_cell f) seen

-- ---- members

-- an item of a map comes from one of the list
pub from_map : {X Y : Type 0} (f : X → Y) (xs : List X) (y : Y) → Contains (map f xs) y → (x : X) × Contains xs x × (f x ≡ y)
from_map f [] y c = absurd (no_member y c)
from_map f (x ∷ xs) y c =
    ⊎_elim (λ e. (x, here x xs, e)) (λ d. let r = from_map f xs y d in (r.0, there x xs r.0 r.1, r.2)) (member_cases (f x) (map f xs) y c)

pub into_map : {X Y : Type 0} (f : X → Y) (xs : List X) (x : X) → Contains xs x → Contains (map f xs) (f x)
into_map f [] x c = absurd (no_member x c)
into_map f (z ∷ xs) x c =
    ⊎_elim (λ e. subst (λ u. Contains (f z ∷ map f xs) (f u)) e (here (f z) (map f xs))) (λ d. there (f z) (map f xs) (f x) (into_map f xs x d)) (member_cases z xs x c)

pub from_flat_map : {X Y : Type 0} (f : X → List Y) (xs : List X) (y : Y) → Contains (flat_map f xs) y → (x : X) × Contains xs x × Contains (f x) y
from_flat_map f [] y c = absurd (no_member y c)
from_flat_map f (x ∷ xs) y c =
    ⊎_elim (λ d. (x, here x xs, d)) (λ d. let r = from_flat_map f xs y d in (r.0, there x xs r.0 r.1, r.2)) (Contains-append_cases (f x) (flat_map f xs) y c)

pub into_flat_map : {X Y : Type 0} (f : X → List Y) (xs : List X) (x : X) (y : Y) → Contains xs x → Contains (f x) y → Contains (flat_map f xs) y
into_flat_map f [] x y c d = absurd (no_member x c)
into_flat_map f (z ∷ xs) x y c d =
    ⊎_elim (λ e. Contains-append_left (f z) (flat_map f xs) y (subst (λ u. Contains (f u) y) (sym e) d))
    (λ k. Contains-append_right (f z) (flat_map f xs) y (into_flat_map f xs x y k d)) (member_cases z xs x c)

-- ---- through a filter

-- where a made cell comes from
record ComesFrom (f : Cell → List Cell) (seen : List Seen) (t : Seen) : Type 0 where
  from : Seen
  there_is : Contains seen from
  made : Contains (f from.cell) t.cell
  own : t.own ≡ from.own
  level : t.level ≡ from.level

comes_from : (f : Cell → List Cell) (seen : List Seen) (t : Seen) → Contains (through f seen) t → ComesFrom f seen t
comes_from f seen t c =
    let a = from_flat_map (from_cell f) seen t c in
    let b = from_map (seen_as a.0.own a.0.level) (f a.0.cell) t a.2 in
    record {
      from = a.0;
      there_is = a.1;
      made = subst (Contains (f a.0.cell)) (ap (λ s. s.cell) b.2) b.1;
      own = sym (ap (λ s. s.own) b.2);
      level = sym (ap (λ s. s.level) b.2);
    }

-- made cells that meet come from cells that meet
meet_before : (f : Cell → List Cell) (parent : Name → Name) (seen : List Seen) → HaveParents f parent (whole_seen seen) → (s t : Seen) (a : ComesFrom f seen s) (b : ComesFrom f seen t) → Meet s.cell t.cell → Meet a.from.cell b.from.cell
meet_before f parent seen h s t a b m = (
  parent m.0,
  h a.from.cell s.cell m.0 (into_map (λ u. u.cell) seen a.from a.there_is) a.made m.1,
  h b.from.cell t.cell m.0 (into_map (λ u. u.cell) seen b.from b.there_is) b.made m.2,
)

pub part_through : (f : Cell → List Cell) (parent : Name → Name) (ghosts : ℕ) (seen : List Seen) → HaveParents f parent (whole_seen seen) → AreSeen ghosts seen → AreSeen ghosts (through f seen)
part_through f parent ghosts seen h p = record {
  own = λ s c. let a = comes_from f seen s c in let o = p.own a.from a.there_is in
      ((λ e. a.own ∙ o.0 (sym a.level ∙ e)), (λ e. a.level ∙ o.1 (sym a.own ∙ e)));
  most = λ s l c e. let a = comes_from f seen s c in p.most a.from l a.there_is (sym a.level ∙ e);
  near = λ s t l c d e b m.
      let a = comes_from f seen s c in
      let z = comes_from f seen t d in
      subst (IsUpTo (l + 1)) (sym z.level) (p.near a.from z.from l a.there_is z.there_is (sym a.level ∙ e) b (meet_before f parent seen h s t a z m));
}

-- ---- the lists

whole_made : (o : Bool) (l : Option ℕ) (xs : List Cell) → map (λ s. s.cell) (map (seen_as o l) xs) ≡ xs
whole_made o l [] = refl
whole_made o l (x ∷ xs) = ap (λ r. x ∷ r) (whole_made o l xs)

pub whole_through : (f : Cell → List Cell) (seen : List Seen) → whole_seen (through f seen) ≡ flat_map f (whole_seen seen)
whole_through f [] = refl
whole_through f (s ∷ seen) =
    map-append (λ u. u.cell) (from_cell f s) (through f seen) ∙ ap₂ (λ a b. a ++ b) (whole_made s.own s.level (f s.cell)) (whole_through f seen)

cells_made : (o : Bool) (l : Option ℕ) (xs : List Cell) → flat_map (λ (s : Seen). cell_if s.cell s.level) (map (seen_as o l) xs) ≡ flat_map (λ x. cell_if x l) xs
cells_made o l [] = refl
cells_made o l (x ∷ xs) = ap (λ r. cell_if x l ++ r) (cells_made o l xs)

kept_all : (xs : List Cell) → flat_map (λ x. x ∷ []) xs ≡ xs
kept_all [] = refl
kept_all (x ∷ xs) = ap (λ r. x ∷ r) (kept_all xs)

abbrev none_kept : Cell → List Cell
none_kept x = []

kept_none : (xs : List Cell) → flat_map none_kept xs ≡ []
kept_none [] = refl
kept_none (x ∷ xs) = kept_none xs

one_through : (f : Cell → List Cell) (c : Cell) (l : Option ℕ) → flat_map (λ x. cell_if x l) (f c) ≡ flat_map f (cell_if c l)
one_through f c (Some l) = kept_all (f c) ∙ sym (append-nil (f c))
one_through f c None = kept_none (f c)

pub cells_through : (f : Cell → List Cell) (seen : List Seen) → cells_seen (through f seen) ≡ flat_map f (cells_seen seen)
cells_through f [] = refl
cells_through f (s ∷ seen) =
    flat_map-append (λ u. cell_if u.cell u.level) (from_cell f s) (through f seen)
    ∙ ap₂ (λ a b. a ++ b) (cells_made s.own s.level (f s.cell) ∙ one_through f s.cell s.level) (cells_through f seen)
    ∙ sym (flat_map-append f (cell_if s.cell s.level) (cells_seen seen))

-- ---- levels and own positions

own_made : (o : Bool) (l : Option ℕ) (xs : List Cell) → map (λ s. s.own) (map (seen_as o l) xs) ≡ replicate (length xs) o
own_made o l [] = refl
own_made o l (x ∷ xs) = ap (λ r. o ∷ r) (own_made o l xs)

pub own_handed : (f : Cell → List Cell) (seen : List Seen) → owned_seen (through f seen) ≡ handed_on (owned_seen seen) (counts f (whole_seen seen))
own_handed f [] = refl
own_handed f (s ∷ seen) = map-append (λ u. u.own) (from_cell f s) (through f seen) ∙ ap₂ (λ a b. a ++ b) (own_made s.own s.level (f s.cell)) (own_handed f seen)

some_made : (o : Bool) (l : ℕ) (xs : List Cell) → flat_map (λ (s : Seen). level_if s.level) (map (seen_as o (Some l)) xs) ≡ replicate (length xs) l
some_made o l [] = refl
some_made o l (x ∷ xs) = ap (λ r. l ∷ r) (some_made o l xs)

none_made : (o : Bool) (xs : List Cell) → flat_map (λ (s : Seen). level_if s.level) (map (seen_as o None) xs) ≡ []
none_made o [] = refl
none_made o (x ∷ xs) = none_made o xs

one_spread : (f : Cell → List Cell) (o : Bool) (c : Cell) (l : Option ℕ) (ls : List ℕ) (cs : List Cell) → flat_map (λ (s : Seen). level_if s.level) (map (seen_as o l) (f c)) ++ handed_on ls (counts f cs) ≡ handed_on (level_if l ++ ls) (counts f (cell_if c l ++ cs))
one_spread f o c (Some l) ls cs = ap (λ r. r ++ handed_on ls (counts f cs)) (some_made o l (f c))
one_spread f o c None ls cs = ap (λ r. r ++ handed_on ls (counts f cs)) (none_made o (f c))

pub levels_handed : (f : Cell → List Cell) (seen : List Seen) → levels_seen (through f seen) ≡ handed_on (levels_seen seen) (counts f (cells_seen seen))
levels_handed f [] = refl
levels_handed f (s ∷ seen) =
    flat_map-append (λ u. level_if u.level) (from_cell f s) (through f seen)
    ∙ ap (λ r. flat_map (λ (u : Seen). level_if u.level) (from_cell f s) ++ r) (levels_handed f seen)
    ∙ one_spread f s.own s.cell s.level (levels_seen seen) (cells_seen seen)
