-- The cut of a facet tells which facet it is, and in which direction it is run through.
use Rattle.viz_surface_law.proofs.Sharing.LeafFacets.{Leaves, leaves, Ascends, same_leaves, same_leaves-decides, leaves_from, flags}
use Rattle.viz_surface_law.proofs.Sharing.ListCounts.{by_test}
use Rattle.std.proofs.Common.{◌≡◌, ◌≢◌, ℕ, ◌<◌, ◌≤◌, ◌==◌, min, max, Bool, true, false, not, cond, ◌&&◌, true≢false, if◌then◌else◌, inl, inr, List, [], ◌∷◌, map, length, refl, sym, ap, subst, ◌∙◌, arith}
use Rattle.std.specs.Prelude.{◌⊎◌, count_by, slice_index_or}
use Rattle.std.specs.Bool.{Decides}
use Rattle.std.specs.List.{list_all}
use Rattle.viz_surface_law.specs.Facets.{lies_at_end}
use Rattle.std.proofs.Math.Nat.{min-eq_left, max-eq_right}
use Rattle.std.proofs.lemmas.Bool.Decides.{nat_tests, Decides-like, Decides-and, Decides-eqb}
use Rattle.viz_grid_section.specs.Edges.{Edge, edge_of}
use Rattle.viz_surface_law.specs.Sides.{Side, side, turned, same_edge, same_side, shares, facet_of}
use Rattle.viz_surface_law.proofs.Local.{cut, cut_back}

-- ---- equality of sides

names_from_ends : (m n : Edge) → (m.low ≡ n.low) × (m.high ≡ n.high) → m ≡ n
names_from_ends m n ends = λ i. record { low = ends.0 i; high = ends.1 i }

same_edge-decides : (m n : Edge) → Decides (same_edge m n) (m ≡ n)
same_edge-decides m n =
    Decides-like (same_edge m n) (names_from_ends m n) (λ equal. (ap (λ x. x.low) equal, ap (λ x. x.high) equal))
    (Decides-and (m.low == n.low) (m.high == n.high) (Decides-eqb m.low n.low) (Decides-eqb m.high n.high))

sides_from_names : (s t : Side) → (s.tail ≡ t.tail) × (s.head ≡ t.head) → s ≡ t
sides_from_names s t ends = λ i. record { tail = ends.0 i; head = ends.1 i }

pub same_side-decides : (s t : Side) → Decides (same_side s t) (s ≡ t)
same_side-decides s t =
    Decides-like (same_side s t) (sides_from_names s t) (λ equal. (ap (λ x. x.tail) equal, ap (λ x. x.head) equal))
    (Decides-and (same_edge s.tail t.tail) (same_edge s.head t.head)
    (same_edge-decides s.tail t.tail) (same_edge-decides s.head t.head))

-- ---- the three leaves of a side

-- whether the four leaves of a side all pass a test
abbrev pub all_ends : (ℕ → Bool) → Side → Bool
all_ends q s = list_all q (facet_of s)

-- whether they lie at one end of an axis
abbrev pub at_end_of : (ℕ → ℕ) → ℕ → ℕ → Side → Bool
at_end_of along lower upper s = lies_at_end along lower upper (facet_of s)

abbrev pub lowest : Side → ℕ
lowest s = min s.tail.low s.head.low

abbrev pub highest : Side → ℕ
highest s = max s.tail.high s.head.high

abbrev pub middle : Side → ℕ
middle s = if s.tail.low == s.head.low then min s.tail.high s.head.high else max s.tail.low s.head.low

-- a side between two of three leaves' edges
pub record IsOf (s : Side) (a b c : ℕ) : Type 0 where
  pub low : lowest s ≡ a
  pub mid : middle s ≡ b
  pub high : highest s ≡ c
  pub different : s.tail ≢ s.head
  pub ends : (q : ℕ → Bool) → all_ends q s ≡ (q a && (q b && q c))
  pub shared : shares s ≡ true

-- a name in order
abbrev ordered : ℕ → ℕ → Edge
ordered a b = record { low = a; high = b }

pub in_order : (a b : ℕ) → a < b → edge_of a b ≡ ordered a b
in_order a b less =
    let le : a ≤ b = omega arith in
    λ i. record { low = min-eq_left le i; high = max-eq_right le i }

repeat_1 : (p q r : Bool) → (p && (q && (p && (r && true)))) ≡ (p && (q && r))
repeat_1 true true true = refl
repeat_1 true true false = refl
repeat_1 true false r = refl
repeat_1 false q r = refl

repeat_2 : (p q r : Bool) → (p && (q && (q && (r && true)))) ≡ (p && (q && r))
repeat_2 true true true = refl
repeat_2 true true false = refl
repeat_2 true false r = refl
repeat_2 false q r = refl

repeat_3 : (p q r : Bool) → (p && (r && (q && (r && true)))) ≡ (p && (q && r))
repeat_3 true true true = refl
repeat_3 true true false = refl
repeat_3 true false true = refl
repeat_3 true false false = refl
repeat_3 false q r = refl

pub swap_4 : (p q r s : Bool) → (r && (s && (p && (q && true)))) ≡ (p && (q && (r && (s && true))))
swap_4 true true true true = refl
swap_4 true true true false = refl
swap_4 true true false s = refl
swap_4 true false true true = refl
swap_4 true false true false = refl
swap_4 true false false s = refl
swap_4 false q true true = refl
swap_4 false q true false = refl
swap_4 false q false s = refl

of_ab_ac : (a b c : ℕ) → a < b → b < c → IsOf (side (ordered a b) (ordered a c)) a b c
of_ab_ac a b c ab bc =
    record {
      low = grind arith;
      mid = grind (arith, nat_tests);
      high = grind arith;
      different = λ same. omega (arith, ap (λ (n : Edge). n.high) same);
      ends = λ q. repeat_1 (q a) (q b) (q c);
      shared = grind (arith, nat_tests);
    }

of_ab_bc : (a b c : ℕ) → a < b → b < c → IsOf (side (ordered a b) (ordered b c)) a b c
of_ab_bc a b c ab bc =
    record {
      low = grind arith;
      mid = grind (arith, nat_tests);
      high = grind arith;
      different = λ same. omega (arith, ap (λ (n : Edge). n.high) same);
      ends = λ q. repeat_2 (q a) (q b) (q c);
      shared = grind (arith, nat_tests);
    }

of_ac_bc : (a b c : ℕ) → a < b → b < c → IsOf (side (ordered a c) (ordered b c)) a b c
of_ac_bc a b c ab bc =
    record {
      low = grind arith;
      mid = grind (arith, nat_tests);
      high = grind arith;
      different = λ same. omega (arith, ap (λ (n : Edge). n.low) same);
      ends = λ q. repeat_3 (q a) (q b) (q c);
      shared = grind (arith, nat_tests);
    }

of_turned : (s : Side) (a b c : ℕ) → IsOf s a b c → IsOf (turned s) a b c
of_turned s a b c of =
    record {
      low = grind (arith, of.low);
      mid = grind (arith, nat_tests, of.mid);
      high = grind (arith, of.high);
      different = λ same. of.different (sym same);
      ends = λ q. swap_4 (q s.tail.low) (q s.tail.high) (q s.head.low) (q s.head.high) ∙ of.ends q;
      shared = grind (arith, nat_tests, of.shared);
    }

-- ---- the facet of a cut

abbrev pub cut_by : Bool → Bool → Bool → Bool → Edge → Edge → Edge → List Side
cut_by true w x y ab ac bc = cut w x y ab ac bc
cut_by false w x y ab ac bc = cut_back w x y ab ac bc

abbrev pub is_at : List Bool → ℕ → Bool
is_at inside leaf = slice_index_or inside leaf false

abbrev pub cut_of : List Bool → Leaves → List Side
cut_of inside f =
    cut_by f.up (is_at inside f.a) (is_at inside f.b) (is_at inside f.c) (edge_of f.a f.b) (edge_of f.a f.c) (edge_of f.b f.c)

abbrev pub Cuts : List Side → ℕ → ℕ → ℕ → Type 0
Cuts sides a b c = (sides ≡ []) ⊎ ((t : Side) × (sides ≡ t ∷ []) × IsOf t a b c)

cuts_by : (up w x y : Bool) (a b c : ℕ) → a < b → b < c → Cuts (cut_by up w x y (ordered a b) (ordered a c) (ordered b c)) a b c
cuts_by true true false false a b c ab bc = inr (_, refl, of_ab_ac a b c ab bc)
cuts_by true false true false a b c ab bc = inr (_, refl, of_turned _ a b c (of_ab_bc a b c ab bc))
cuts_by true false false true a b c ab bc = inr (_, refl, of_ac_bc a b c ab bc)
cuts_by true false true true a b c ab bc = inr (_, refl, of_turned _ a b c (of_ab_ac a b c ab bc))
cuts_by true true false true a b c ab bc = inr (_, refl, of_ab_bc a b c ab bc)
cuts_by true true true false a b c ab bc = inr (_, refl, of_turned _ a b c (of_ac_bc a b c ab bc))
cuts_by true true true true a b c ab bc = inl refl
cuts_by true false false false a b c ab bc = inl refl
cuts_by false true false false a b c ab bc = inr (_, refl, of_turned _ a b c (of_ab_ac a b c ab bc))
cuts_by false false true false a b c ab bc = inr (_, refl, of_ab_bc a b c ab bc)
cuts_by false false false true a b c ab bc = inr (_, refl, of_turned _ a b c (of_ac_bc a b c ab bc))
cuts_by false false true true a b c ab bc = inr (_, refl, of_ab_ac a b c ab bc)
cuts_by false true false true a b c ab bc = inr (_, refl, of_turned _ a b c (of_ab_bc a b c ab bc))
cuts_by false true true false a b c ab bc = inr (_, refl, of_ac_bc a b c ab bc)
cuts_by false true true true a b c ab bc = inl refl
cuts_by false false false false a b c ab bc = inl refl

-- a cut is one side between edges of its facet, or none
pub cuts : (inside : List Bool) (f : Leaves) → Ascends f → Cuts (cut_of inside f) f.a f.b f.c
cuts inside f asc =
    let p = is_at inside f.a in
    let q = is_at inside f.b in
    let r = is_at inside f.c in
    let ac : f.a < f.c = omega (arith, asc.ab, asc.bc) in
    subst (λ n. Cuts (cut_by f.up p q r n (edge_of f.a f.c) (edge_of f.b f.c)) f.a f.b f.c) (sym (in_order f.a f.b asc.ab))
    (subst (λ n. Cuts (cut_by f.up p q r (ordered f.a f.b) n (edge_of f.b f.c)) f.a f.b f.c) (sym (in_order f.a f.c ac))
    (subst (λ n. Cuts (cut_by f.up p q r (ordered f.a f.b) (ordered f.a f.c) n) f.a f.b f.c) (sym (in_order f.b f.c asc.bc))
    (cuts_by f.up p q r f.a f.b f.c asc.ab asc.bc)))

-- ---- the other direction

turn_twice : (xs : List Side) → xs ≡ map turned (map turned xs)
turn_twice [] = refl
turn_twice (x ∷ xs) = ap (λ rest. x ∷ rest) (turn_twice xs)

abbrev pub flip : Leaves → Leaves
flip f = leaves (not f.up) f.a f.b f.c

cut_by_flip : (up w x y : Bool) (m n o : Edge) → cut_by (not up) w x y m n o ≡ map turned (cut_by up w x y m n o)
cut_by_flip true w x y m n o = refl
cut_by_flip false w x y m n o = turn_twice (cut w x y m n o)

pub cut_of_flip : (inside : List Bool) (f : Leaves) → cut_of inside (flip f) ≡ map turned (cut_of inside f)
cut_of_flip inside f = cut_by_flip f.up _ _ _ _ _ _

-- ---- how often a side is the cut of a facet

-- the side of a cut is between edges of its facet
pub of_cut : (inside : List Bool) (g : Leaves) (s : Side) → Ascends g → cut_of inside g ≡ s ∷ [] → IsOf s g.a g.b g.c
of_cut inside g s asc is = cases (cuts inside g asc)
  where
    none : [] ≡ s ∷ [] → ⊥
    none same = omega (arith, ap (λ (xs : List Side). length xs) same)

    cases : Cuts (cut_of inside g) g.a g.b g.c → IsOf s g.a g.b g.c
    cases (inl empty) = absurd (none (sym empty ∙ is))
    cases (inr (t, e, of)) = subst (λ u. IsOf u g.a g.b g.c) (ap (λ xs. slice_index_or xs 0 s) (sym e ∙ is)) of

-- a side that is the cut of one facet is that of another just where they are the same, in the same direction
pub cut_count : (inside : List Bool) (f g : Leaves) (s : Side) → Ascends f → Ascends g → cut_of inside g ≡ s ∷ []
    → count_by (same_side s) (cut_of inside f) ≡ cond (same_leaves f g) 1 0
cut_count inside f g s fa ga is = by_test (same_leaves f g) same different
  where
    once : (t : Side) → count_by (same_side s) (t ∷ []) ≡ cond (same_side s t) 1 0
    once t = omega arith

    itself : same_side s s ≡ true
    itself = (same_side-decides s s).1 refl

    same : same_leaves f g ≡ true → count_by (same_side s) (cut_of inside f) ≡ cond (same_leaves f g) 1 0
    same so =
        let e = (same_leaves-decides f g).0 so in
        ap (λ h. count_by (same_side s) (cut_of inside h)) e ∙ ap (count_by (same_side s)) is ∙ once s ∙ ap (λ b. cond b 1 0) (itself ∙ sym so)

    not_same : (t : Side) → same_leaves f g ≡ false → cut_of inside f ≡ t ∷ [] → IsOf t f.a f.b f.c → s ≡ t → ⊥
    not_same t isnt e of st =
        let ofs = of_cut inside g s ga is in
        let a : f.a ≡ g.a = sym of.low ∙ ap lowest (sym st) ∙ ofs.low in
        let b : f.b ≡ g.b = sym of.mid ∙ ap middle (sym st) ∙ ofs.mid in
        let c : f.c ≡ g.c = sym of.high ∙ ap highest (sym st) ∙ ofs.high in
        ⊎_cases (flags f.up g.up) a b c
      where
        ⊎_cases : (f.up ≡ g.up) ⊎ (f.up ≡ not g.up) → f.a ≡ g.a → f.b ≡ g.b → f.c ≡ g.c → ⊥
        ⊎_cases (inl up) a b c = true≢false (sym ((same_leaves-decides f g).1 (leaves_from f g up a b c)) ∙ isnt)
        ⊎_cases (inr up) a b c =
            let e2 : f ≡ flip g = leaves_from f (flip g) up a b c in
            let back : t ∷ [] ≡ turned s ∷ [] = sym e ∙ ap (cut_of inside) e2 ∙ cut_of_flip inside g ∙ ap (map turned) is in
            let tt2 : t ≡ turned s = ap (λ xs. slice_index_or xs 0 s) back in
            of.different (ap (λ (u : Side). u.tail) tt2 ∙ ap (λ (u : Side). u.head) st)

    different : same_leaves f g ≡ false → count_by (same_side s) (cut_of inside f) ≡ cond (same_leaves f g) 1 0
    different isnt = cases (cuts inside f fa)
      where
        cases : Cuts (cut_of inside f) f.a f.b f.c → count_by (same_side s) (cut_of inside f) ≡ cond (same_leaves f g) 1 0
        cases (inl empty) = ap (count_by (same_side s)) empty ∙ ap (λ b. cond b 1 0) (sym isnt)
        cases (inr (t, e, of)) =
            let apart : same_side s t ≡ false = by_test (same_side s t) (λ so. absurd (not_same t isnt e of ((same_side-decides s t).0 so))) (λ h. h) in
            ap (count_by (same_side s)) e ∙ once t ∙ ap (λ b. cond b 1 0) (apart ∙ sym isnt)
