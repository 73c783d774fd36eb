-- No number of a made volume's contour is wide.
use Rattle.std.proofs.Common.{ℕ, zero, suc, ◌+◌, ◌*◌, ◌/◌, ◌%◌, ◌^◌, ◌<◌, ◌≤◌, ⊎_elim, ℤ, pos, Bool, true, false, List, [], ◌∷◌, length, map, get_or, sym, subst, arith}
use Rattle.std.specs.Prelude.{◌+ℤ◌, ◌*ℤ◌, unsigned_abs, int_div}
use Rattle.std.specs.List.{All, range_with_len}
use Rattle.std.proofs.Math.ListN.{get_or-eq_default}
use Rattle.std.proofs.Math.Nat.{div-le_self, mod-le, mul-le-mul}
use Rattle.std.proofs.lemmas.Bool.{cases_lt}
use Rattle.std.proofs.lemmas.Int.{ints, unsigned_abs-mul}
use Rattle.std.proofs.lemmas.List.Elements.{All-head, All-tail, All-cons, All-map, All-get_or, All-from_get_or}
use Rattle.std.proofs.lemmas.List.FromFn.{get_or-range_with_len, length-range_with_len}
use Rattle.viz_extent.specs.Extent.{Bounds, IsExtent, size_x, size_y, count_of}
use Rattle.viz_extent.specs.Numbering.{index_at}
use Rattle.viz_fraction.specs.declared.forms.Form.{Form}
use Rattle.viz_fraction.specs.Forms.{contour_form, value_of, IsNarrowValue}
use Rattle.viz_fraction.specs.Points.{Point, IsNarrow, IsNarrowPoint, scaled, added, divisor_of, numbers, reduced}
use Rattle.viz_fraction.specs.Crossings.{outside_weight, inside_weight, IsNarrowCrossing}
use Rattle.viz_fraction.proofs.IntegersLemmas.{abs-div, abs-sum_le}
use Rattle.viz_fraction.specs.Divisors.{gcd}
use Rattle.viz_kuhn.specs.Cubes.{tetrahedra_of}
use Rattle.viz_sheet.specs.Kept.{kept, used_marks}
use Rattle.viz_sheet.specs.Ranked.{leaf_names, rank_of}
use Rattle.viz_sheet.specs.Sheet.{SheetData}
use Rattle.viz_dataset.specs.Images.{number_at, position, billion}
use Rattle.viz_meaning.specs.Names.{lesser_end, greater_end, names_of}
use Rattle.viz_meaning.specs.Narrow.{IsNarrowEdge, IsNarrowName, IsNarrowSection}
use Rattle.viz_meaning.specs.Section.{point_of, section_cells, zero_point}
use Rattle.viz_meaning.specs.Tetrahedra.{leaf_points, point_of_leaf, tetrahedra_sheet}
use Rattle.viz_make.specs.Volume.{next, value_in, values_behind, volume}
use Rattle.viz_make.specs.NarrowVolumes.{middle, VolumesAreNarrow}

-- ---- points whose numbers are bounded

-- a place of at most 2^62, a scalar and a weight of at most 2^38
record IsTame (p : Point) : Type 0 where
  x : unsigned_abs p.x ≤ 2 ^ 62
  y : unsigned_abs p.y ≤ 2 ^ 62
  z : unsigned_abs p.z ≤ 2 ^ 62
  s : unsigned_abs p.s ≤ 2 ^ 38
  w : unsigned_abs p.w ≤ 2 ^ 38

abbrev form : Form
form = contour_form middle

value_le : (p : Point) → IsTame p → unsigned_abs (value_of form p) ≤ 2 ^ 46
value_le p h = let s = h.s in let w = h.w in omega (arith, ints, s, w)

narrow_value : (p : Point) → IsTame p → IsNarrowValue form p
narrow_value p h =
    let s = h.s in
    let w = h.w in
    record {
      a = omega (arith, ints);
      b = omega (arith, ints);
      c = omega (arith, ints);
      q = omega (arith, ints, s);
      r = omega (arith, ints, w);
      sum = omega (arith, ints, s, w);
    }

-- a number by a weight of a crossing
term_le : (k : ℕ) (n : ℤ) → k ≤ 2 ^ 46 → unsigned_abs n ≤ 2 ^ 62 → unsigned_abs (pos k *ℤ n) ≤ 2 ^ 108
term_le k n hk hn =
    let both : k * unsigned_abs n ≤ 2 ^ 46 * 2 ^ 62 = mul-le-mul hk hn in
    rw (unsigned_abs-mul (pos k) n) (omega (arith, both))

narrow_term : (k : ℕ) (p : Point) → k ≤ 2 ^ 46 → IsTame p → IsNarrowPoint (scaled k p)
narrow_term k p hk h =
    let s = h.s in
    let w = h.w in
    record {
      x = let t = term_le k p.x hk h.x in omega (arith, t);
      y = let t = term_le k p.y hk h.y in omega (arith, t);
      z = let t = term_le k p.z hk h.z in omega (arith, t);
      s = let t = term_le k p.s hk (omega (arith, s)) in omega (arith, t);
      w = let t = term_le k p.w hk (omega (arith, w)) in omega (arith, t);
    }

sum_le : (k l : ℕ) (m n : ℤ) → k ≤ 2 ^ 46 → l ≤ 2 ^ 46 → unsigned_abs m ≤ 2 ^ 62 → unsigned_abs n ≤ 2 ^ 62
    → IsNarrow (pos k *ℤ m +ℤ pos l *ℤ n)
sum_le k l m n hk hl hm hn =
    let one = term_le k m hk hm in
    let other = term_le l n hl hn in
    let both = abs-sum_le (pos k *ℤ m) (pos l *ℤ n) in
    omega (arith, one, other, both)

narrow_sum : (k l : ℕ) (p q : Point) → k ≤ 2 ^ 46 → l ≤ 2 ^ 46 → IsTame p → IsTame q → IsNarrowPoint (added (scaled k p) (scaled l q))
narrow_sum k l p q hk hl hp hq =
    let sp = hp.s in
    let wp = hp.w in
    let sq = hq.s in
    let wq = hq.w in
    record {
      x = sum_le k l p.x q.x hk hl hp.x hq.x;
      y = sum_le k l p.y q.y hk hl hp.y hq.y;
      z = sum_le k l p.z q.z hk hl hp.z hq.z;
      s = sum_le k l p.s q.s hk hl (omega (arith, sp)) (omega (arith, sq));
      w = sum_le k l p.w q.w hk hl (omega (arith, wp)) (omega (arith, wq));
    }

narrow_crossing : (la lb : ℤ) (a b : Point) → unsigned_abs la ≤ 2 ^ 46 → unsigned_abs lb ≤ 2 ^ 46 → IsTame a → IsTame b
    → IsNarrowCrossing la a lb b
narrow_crossing la lb a b hla hlb ha hb =
    let outside : outside_weight la lb ≤ 2 ^ 46 = let less = div-le_self (unsigned_abs la) (gcd (unsigned_abs la) (unsigned_abs lb)) in omega (arith, less, hla) in
    let inside : inside_weight la lb ≤ 2 ^ 46 = let less = div-le_self (unsigned_abs lb) (gcd (unsigned_abs la) (unsigned_abs lb)) in omega (arith, less, hlb) in
    record {
      outside = narrow_term (outside_weight la lb) b outside hb;
      inside = narrow_term (inside_weight la lb) a inside ha;
      sum = narrow_sum (outside_weight la lb) (inside_weight la lb) b a outside inside hb ha;
    }

narrow_edge : (p q : Point) → IsTame p → IsTame q → IsNarrowEdge form p q
narrow_edge p q hp hq =
    record {
      up = λ above below. narrow_crossing (value_of form p) (value_of form q) p q (value_le p hp) (value_le q hq) hp hq;
      down = λ above below. narrow_crossing (value_of form q) (value_of form p) q p (value_le q hq) (value_le p hp) hq hp;
    }

-- ---- the points of a made volume

narrowed : (z : ℤ) (d m : ℕ) → unsigned_abs z ≤ m → unsigned_abs (int_div z (pos d)) ≤ m
narrowed z d m h =
    let smaller : unsigned_abs (int_div z (pos d)) ≤ unsigned_abs z = rw (abs-div z d) (div-le_self (unsigned_abs z) d) in
    omega (arith, smaller, h)

tame_reduced : (p : Point) → IsTame p → IsTame (reduced p)
tame_reduced p h =
    let d = divisor_of p in
    record {
      x = narrowed p.x d (2 ^ 62) h.x;
      y = narrowed p.y d (2 ^ 62) h.y;
      z = narrowed p.z d (2 ^ 62) h.z;
      s = narrowed p.s d (2 ^ 38) h.s;
      w = narrowed p.w d (2 ^ 38) h.w;
    }

-- a value of a byte
abbrev IsByte : ℤ → Type 0
IsByte v = unsigned_abs v ≤ 255

bytes : (r n : ℕ) → All IsByte (map pos (values_behind r n))
bytes r zero = All-from_get_or IsByte [] (pos 0) (λ i l. absurd (omega (arith, l)))
bytes r (suc n) = All-cons IsByte (pos (value_in (next r))) (map pos (values_behind (next r) n)) (omega arith) (bytes (next r) n)

-- what is read of a list, or the default
read_or : {X : Type 0} (P : X → Type 0) (xs : List X) (i : ℕ) (d : X) → All P xs → P d → P (get_or xs i d)
read_or P xs i d each default =
    ⊎_elim
    (λ less. All-get_or P xs i d less each)
    (λ past. subst P (sym (get_or-eq_default xs d past)) default)
    (cases_lt i (length xs))

position_le : (index : ℕ) → index < 2 ^ 32 → unsigned_abs (position (pos 0) billion index) ≤ 2 ^ 62
position_le index less = omega (arith, ints, less)

tame_numbers : (i j k : ℕ) (scalar : ℤ) → i < 2 ^ 32 → j < 2 ^ 32 → k < 2 ^ 32 → IsByte scalar
    → IsTame (numbers (position (pos 0) billion i) (position (pos 0) billion j) (position (pos 0) billion k) (scalar *ℤ billion) billion)
tame_numbers i j k scalar hi hj hk byte =
    record {
      x = position_le i hi;
      y = position_le j hj;
      z = position_le k hk;
      s = omega (arith, ints, byte);
      w = omega (arith, ints);
    }

tame_leaf : (number : ℕ) (b : Bounds) (leaf : ℕ) → IsExtent b → leaf < 2 ^ 31 → IsTame (point_of_leaf (volume number b) leaf)
tame_leaf number b leaf h less =
    let i = b.x0 + leaf % size_x b in
    let j = b.y0 + leaf / size_x b % size_y b in
    let k = b.z0 + leaf / size_x b / size_y b in
    let values = values_behind number (count_of b) in
    let along_x : leaf % size_x b ≤ leaf = mod-le leaf (size_x b) in
    let rows : leaf / size_x b ≤ leaf = div-le_self leaf (size_x b) in
    let along_y : leaf / size_x b % size_y b ≤ leaf / size_x b = mod-le (leaf / size_x b) (size_y b) in
    let along_z : leaf / size_x b / size_y b ≤ leaf / size_x b = div-le_self (leaf / size_x b) (size_y b) in
    let x0 = h.x in
    let y0 = h.y in
    let z0 = h.z in
    let hi : i < 2 ^ 32 = omega (arith, along_x, less, x0) in
    let hj : j < 2 ^ 32 = omega (arith, along_y, rows, less, y0) in
    let hk : k < 2 ^ 32 = omega (arith, along_z, rows, less, z0) in
    let byte = read_or IsByte (map pos values) (index_at b i j k) (pos 0) (bytes number (count_of b)) (omega arith) in
    let scalar = number_at (volume number b) i j k in
    tame_reduced (numbers (position (pos 0) billion i) (position (pos 0) billion j) (position (pos 0) billion k) (scalar *ℤ billion) billion)
    (tame_numbers i j k scalar hi hj hk byte)

tame_leaves : (number : ℕ) (b : Bounds) → IsExtent b → All IsTame (leaf_points (volume number b))
tame_leaves number b h =
    let count = count_of b in
    let limit = h.count in
    All-map IsTame (point_of_leaf (volume number b)) (range_with_len 0 count)
    (All-from_get_or (λ leaf. IsTame (point_of_leaf (volume number b) leaf)) (range_with_len 0 count) 0
    (λ i l.
    let long = length-range_with_len 0 count in
    let below : i < count = omega (arith, l, long) in
    subst (λ leaf. IsTame (point_of_leaf (volume number b) leaf)) (sym (get_or-range_with_len 0 count i 0 below))
    (tame_leaf number b (0 + i) h (omega (arith, below, limit)))))

tame_kept : (P : Point → Type 0) (marks : List Bool) (ps : List Point) → All P ps → All P (kept marks ps)
tame_kept P [] ps each = All-from_get_or P [] zero_point (λ i l. absurd (omega (arith, l)))
tame_kept P (m ∷ ms) [] each = All-from_get_or P [] zero_point (λ i l. absurd (omega (arith, l)))
tame_kept P (true ∷ ms) (p ∷ ps) each = All-cons P p (kept ms ps) (All-head P p ps each) (tame_kept P ms ps (All-tail P p ps each))
tame_kept P (false ∷ ms) (p ∷ ps) each = tame_kept P ms ps (All-tail P p ps each)

-- ---- the section

narrow_section : (s : SheetData) → All IsTame s.points → IsNarrowSection form s
narrow_section s tame =
    let point : (n : List ℕ) → IsTame (point_of s n) = λ n. read_or IsTame s.points (rank_of s.names n) zero_point tame tame_zero in
    record {
      values = All-from_get_or (IsNarrowValue form) s.points zero_point (λ i l. narrow_value (get_or s.points i zero_point) (All-get_or IsTame s.points i zero_point l tame));
      crossings = All-from_get_or (IsNarrowName form s) (names_of (section_cells form s)) []
          (λ i l. let n = get_or (names_of (section_cells form s)) i [] in
          narrow_edge (point_of s (lesser_end n)) (point_of s (greater_end n)) (point (lesser_end n)) (point (greater_end n)));
    }
  where
    tame_zero : IsTame zero_point
    tame_zero = record { x = omega arith; y = omega arith; z = omega arith; s = omega arith; w = omega arith }

only : {X : Type 0} (P : X → Type 0) (x : X) → P x → All P (x ∷ [])
only P x h = All-cons P x [] h (All-from_get_or P [] x (λ i l. absurd (omega (arith, l))))

pub volumes_are_narrow : VolumesAreNarrow
volumes_are_narrow number b h =
    let image = volume number b in
    let sheet = tetrahedra_sheet image in
    let marks = used_marks (length (leaf_names (count_of b))) (tetrahedra_of b) in
    record {
      each = only (λ f. All (IsNarrowSection f) (sheet ∷ [])) form
          (only (IsNarrowSection form) sheet (narrow_section sheet (tame_kept IsTame marks (leaf_points image) (tame_leaves number b h))));
    }
