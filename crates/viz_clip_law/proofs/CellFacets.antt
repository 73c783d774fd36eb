-- A cell of a sheet by its four leaves in order, and the facets that it has.
use Rattle.std.proofs.Common.{◌≡◌, ◌≢◌, ℕ, zero, suc, ◌+◌, ◌<◌, ◌≤◌, Bool, true, false, ◌&&◌, ◌||◌, ◌⊎◌, inl, inr, ⊎_elim, List, [], ◌∷◌, ◌++◌, length, get_or, map, cond, Less, is_lt, nat_eq, refl, sym, ap, ap₂, subst, ◌∙◌, true≢false, arith}
use Rattle.std.specs.List.{All, AllByRecursion, Contains, flat_map, list_all, list_any}
use Rattle.std.specs.List.Sorted.{IsStrictlySortedBy}
use Rattle.std.specs.Cmp.Lexicographic.{slice_cmp}
use Rattle.std.specs.Ordering.{nat_cmp, ordering_then}
use Rattle.std.proofs.lemmas.Bool.{cond_both, and_parts, eqb-true}
use Rattle.std.proofs.lemmas.List.Elements.{All-contains, All-head, All-tail, Contains-append_right}
use Rattle.std.proofs.lemmas.Map.Keys.{Less-from_sorted}
use Rattle.viz_fraction.specs.declared.forms.Form.{Form}
use Rattle.viz_sheet.specs.Sheet.{AreApart, AreAscending, IsNamedCell, SheetData}
use Rattle.viz_sheet.proofs.MemberLemmas.{here, there, member_cases, no_member}
use Rattle.viz_meaning.specs.Names.{each_once, is_before, with_name}
use Rattle.viz_meaning.specs.Section.{is_inside_at, point_of}
use Rattle.viz_meaning.proofs.ListLemmas.{all-among}
use Rattle.viz_meaning.proofs.NameSets.{in-each_once, not_before-same, of-each_once, sorted-each_once}
use Rattle.viz_clip_meaning.specs.Clip.{tets_in}
use Rattle.viz_clip_meaning.specs.Solids.{kept_tets}
use Rattle.viz_clip_meaning.proofs.SpotLemmas.{Four, Rises, four}

-- ---- a cell in order has as many names

with-length : (n : List ℕ) (ms : List (List ℕ)) → (Contains ms n → ⊥) → length (with_name n ms) ≡ suc (length ms)
with-length n [] none = refl
with-length n (m ∷ ms) none =
    cond_both (is_before n m) (n ∷ m ∷ ms) _ (λ l. length l ≡ suc (length (m ∷ ms))) (λ _. refl)
    (λ p. cond_both (is_before m n) (m ∷ with_name n ms) (m ∷ ms) (λ l. length l ≡ suc (length (m ∷ ms)))
    (λ _. ap suc (with-length n ms (λ c. none (there m ms n c))))
    (λ q. absurd (none (subst (Contains (m ∷ ms)) (not_before-same m n q p) (here m ms)))))

once-length : (ns : List (List ℕ)) → AreApart ns → length (each_once ns) ≡ length ns
once-length [] a = refl
once-length (n ∷ ns) a =
    with-length n (each_once ns) (λ c. All-contains (λ m. n ≢ m) ns n a.0 (of-each_once ns n c) refl)
    ∙ ap suc (once-length ns a.1)

-- ---- its leaves

one-item : (n : List ℕ) → length n ≡ 1 → n ≡ get_or n 0 0 ∷ []
one-item [] h = absurd (omega arith)
one-item (x ∷ []) h = refl
one-item (x ∷ y ∷ n) h = absurd (omega arith)

four-items : (ns : List (List ℕ)) → length ns ≡ 4 → ns ≡ get_or ns 0 [] ∷ get_or ns 1 [] ∷ get_or ns 2 [] ∷ get_or ns 3 [] ∷ []
four-items [] h = absurd (omega arith)
four-items (a ∷ []) h = absurd (omega arith)
four-items (a ∷ b ∷ []) h = absurd (omega arith)
four-items (a ∷ b ∷ c ∷ []) h = absurd (omega arith)
four-items (a ∷ b ∷ c ∷ d ∷ []) h = refl
four-items (a ∷ b ∷ c ∷ d ∷ e ∷ ns) h = absurd (omega arith)

-- four names of one leaf each
record AreFour (ns : List (List ℕ)) : Type 0 where
  a : ℕ
  b : ℕ
  c : ℕ
  d : ℕ
  are : ns ≡ (a ∷ []) ∷ (b ∷ []) ∷ (c ∷ []) ∷ (d ∷ []) ∷ []

are-four : (ns : List (List ℕ)) → length ns ≡ 4 → All (λ n. length n ≡ 1) ns → AreFour ns
are-four ns h one =
    let at : ℕ → List ℕ = λ i. get_or ns i [] in
    record {
      a = get_or (at 0) 0 0;
      b = get_or (at 1) 0 0;
      c = get_or (at 2) 0 0;
      d = get_or (at 3) 0 0;
      are =
          four-items ns h
          ∙ (λ i. one-item (at 0) (one 0 [] (omega (arith, h))) i ∷ one-item (at 1) (one 1 [] (omega (arith, h))) i ∷ one-item (at 2) (one 2 [] (omega (arith, h))) i ∷ one-item (at 3) (one 3 [] (omega (arith, h))) i ∷ []);
    }

less-one : (a b : ℕ) → slice_cmp nat_cmp (a ∷ []) (b ∷ []) ≡ Less → a < b
less-one a b h = grind (arith)

-- ---- a cell

-- whether a leaf is inside
abbrev pub is_in : Form → SheetData → ℕ → Bool
is_in f s leaf = is_inside_at f (point_of s (leaf ∷ []))

-- flags of four leaves
abbrev pub flags : (ℕ → Bool) → Four → List Bool
flags T x = T x.a ∷ T x.b ∷ T x.c ∷ T x.d ∷ []

-- a cell has four leaves that ascend
pub record CellFour (f : Form) (s : SheetData) (cell : List (List ℕ)) : Type 0 where
  pub x : Four
  pub rises : Rises x
  pub tets : tets_in f s cell ≡ kept_tets (flags (is_in f s) x) (four x)
  pub of : (leaf : ℕ) → Contains (flat_map (λ n. n) cell) leaf → Contains (four x) leaf
  pub has : (leaf : ℕ) → Contains (four x) leaf → Contains (flat_map (λ n. n) cell) leaf

leaf-in : (ns : List (List ℕ)) (leaf : ℕ) → All (λ n. length n ≡ 1) ns → Contains (flat_map (λ n. n) ns) leaf → Contains ns (leaf ∷ [])
leaf-in [] leaf one c = absurd (no_member leaf c)
leaf-in ((y ∷ []) ∷ ns) leaf one c =
    ⊎_elim
    (λ e. subst (λ z. Contains ((y ∷ []) ∷ ns) (z ∷ [])) e (here (y ∷ []) ns))
    (λ d. there (y ∷ []) ns (leaf ∷ []) (leaf-in ns leaf (All-tail (λ n. length n ≡ 1) (y ∷ []) ns one) d))
    (member_cases y (flat_map (λ n. n) ns) leaf c)
leaf-in ([] ∷ ns) leaf one c = absurd (omega (arith, All-head (λ n. length n ≡ 1) [] ns one))
leaf-in ((y ∷ z ∷ n) ∷ ns) leaf one c = absurd (omega (arith, All-head (λ n. length n ≡ 1) (y ∷ z ∷ n) ns one))

in-leaves : (ns : List (List ℕ)) (leaf : ℕ) → Contains ns (leaf ∷ []) → Contains (flat_map (λ n. n) ns) leaf
in-leaves [] leaf c = absurd (no_member (leaf ∷ []) c)
in-leaves (n ∷ ns) leaf c =
    ⊎_elim
    (λ e. subst (λ m. Contains (m ++ flat_map (λ n. n) ns) leaf) (sym e) (here leaf (flat_map (λ n. n) ns)))
    (λ d. Contains-append_right n (flat_map (λ n. n) ns) leaf (in-leaves ns leaf d))
    (member_cases n ns (leaf ∷ []) c)

pub cell-four : (f : Form) (s : SheetData) (cell : List (List ℕ)) → IsNamedCell cell → length cell ≡ 4 → All (λ n. length n ≡ 1) cell → CellFour f s cell
cell-four f s cell named count one =
    let m = each_once cell in
    let ones : All (λ n. length n ≡ 1) m = all-among (λ n. length n ≡ 1) m cell one (of-each_once cell) in
    let k = are-four m (once-length cell named.apart ∙ count) ones in
    let sorted : AreAscending ((k.a ∷ []) ∷ (k.b ∷ []) ∷ (k.c ∷ []) ∷ (k.d ∷ []) ∷ []) = subst AreAscending k.are (sorted-each_once cell) in
    let flat : flat_map (λ n. n) m ≡ k.a ∷ k.b ∷ k.c ∷ k.d ∷ [] = ap (flat_map (λ n. n)) k.are in
    record {
      x = record { a = k.a; b = k.b; c = k.c; d = k.d };
      rises = rising k.a k.b k.c k.d sorted;
      tets = ap (λ l. kept_tets (map (λ n. is_inside_at f (point_of s n)) l) (flat_map (λ n. n) l)) k.are;
      of = λ leaf c. subst (λ l. Contains l leaf) flat (in-leaves m leaf (in-each_once cell (leaf ∷ []) (leaf-in cell leaf one c)));
      has = λ leaf c. in-leaves cell leaf (of-each_once cell (leaf ∷ []) (leaf-in m leaf ones (subst (λ l. Contains l leaf) (sym flat) c)));
    }
  where
    rising : (a b c d : ℕ) → AreAscending ((a ∷ []) ∷ (b ∷ []) ∷ (c ∷ []) ∷ (d ∷ []) ∷ []) → Rises (record { a = a; b = b; c = c; d = d })
    rising a b c d h =
        let at : (i : ℕ) → i + 1 < 4 → slice_cmp nat_cmp (get_or ((a ∷ []) ∷ (b ∷ []) ∷ (c ∷ []) ∷ (d ∷ []) ∷ []) i []) (get_or ((a ∷ []) ∷ (b ∷ []) ∷ (c ∷ []) ∷ (d ∷ []) ∷ []) (i + 1) []) ≡ Less =
        λ i l. Less-from_sorted (slice_cmp nat_cmp) ((a ∷ []) ∷ (b ∷ []) ∷ (c ∷ []) ∷ (d ∷ []) ∷ []) i (i + 1) [] h (omega arith) l in
        record { ab = less-one a b (at 0 (omega arith)); bc = less-one b c (at 1 (omega arith)); cd = less-one c d (at 2 (omega arith)) }
