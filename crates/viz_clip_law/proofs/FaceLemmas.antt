-- Faces of a tetrahedron: the vertices at the spots of three of its corners.
use Rattle.std.proofs.Common.{◌≡◌, ℕ, suc, ◌+◌, ◌<◌, ◌==◌, Bool, true, false, not, ◌&&◌, ◌||◌, List, [], ◌∷◌, cond, is_lt, refl, sym, ap, ◌∙◌, true≢false, arith, eqb-true}
use Rattle.viz_clip_meaning.specs.declared.vertex.Vertex.{Vertex}
use Rattle.viz_clip_meaning.specs.declared.vertex.Vertex.TheVariants.{Corner, Cut}
use Rattle.viz_clip_meaning.proofs.SpotLemmas.{Four, Rises, Spot, c0, c1, c2, c3, e01, e02, e03, e12, e13, e23, vertex_at}
use Rattle.viz_clip_law.proofs.SpotTable.{Face, no0, no1, no2, no3, any3, ascends, face_count, face_law, face-law, flat, of0, of1, of2, of3, spot_count, turned_to}

-- the corners of a face, and the one that it misses
abbrev pub first_of : Face → Four → ℕ
first_of no0 x = x.b
first_of no1 x = x.a
first_of no2 x = x.a
first_of no3 x = x.a

abbrev pub second_of : Face → Four → ℕ
second_of no0 x = x.c
second_of no1 x = x.c
second_of no2 x = x.b
second_of no3 x = x.b

abbrev pub third_of : Face → Four → ℕ
third_of no0 x = x.d
third_of no1 x = x.d
third_of no2 x = x.d
third_of no3 x = x.c

abbrev pub missing_of : Face → Four → ℕ
missing_of no0 x = x.a
missing_of no1 x = x.b
missing_of no2 x = x.c
missing_of no3 x = x.d

-- a tetrahedron on three leaves
abbrev pub based : ℕ → ℕ → ℕ → Four
based p q r = record { a = p; b = q; c = r; d = suc r }

pub based-rises : (p q r : ℕ) → p < q → q < r → Rises (based p q r)
based-rises p q r pq qr = record { ab = pq; bc = qr; cd = omega arith }

-- whether a spot is of the corner that a face misses
abbrev pub of_missing : Face → Spot → Bool
of_missing no0 s = of0 s
of_missing no1 s = of1 s
of_missing no2 s = of2 s
of_missing no3 s = of3 s

-- the spot of a face, among those of the corners 0, 1 and 2
abbrev pub flat_of : Face → Spot → Spot
flat_of no0 c0 = c0
flat_of no0 c1 = c0
flat_of no0 c2 = c1
flat_of no0 c3 = c2
flat_of no0 e01 = c0
flat_of no0 e02 = c0
flat_of no0 e03 = c0
flat_of no0 e12 = e01
flat_of no0 e13 = e02
flat_of no0 e23 = e12
flat_of no1 c0 = c0
flat_of no1 c1 = c0
flat_of no1 c2 = c1
flat_of no1 c3 = c2
flat_of no1 e01 = c0
flat_of no1 e02 = e01
flat_of no1 e03 = e02
flat_of no1 e12 = c0
flat_of no1 e13 = c0
flat_of no1 e23 = e12
flat_of no2 c0 = c0
flat_of no2 c1 = c1
flat_of no2 c2 = c0
flat_of no2 c3 = c2
flat_of no2 e01 = e01
flat_of no2 e02 = c0
flat_of no2 e03 = e02
flat_of no2 e12 = c0
flat_of no2 e13 = e12
flat_of no2 e23 = c0
flat_of no3 c0 = c0
flat_of no3 c1 = c1
flat_of no3 c2 = c2
flat_of no3 c3 = c0
flat_of no3 e01 = e01
flat_of no3 e02 = e02
flat_of no3 e03 = c0
flat_of no3 e12 = e12
flat_of no3 e13 = c0
flat_of no3 e23 = c0

-- the vertex at a spot of a face goes by the three leaves alone
pub turned-at : (face : Face) (x : Four) (s : Spot) → flat s ≡ true → vertex_at x (turned_to face s) ≡ vertex_at (based (first_of face x) (second_of face x) (third_of face x)) s
turned-at no0 x c0 e = refl
turned-at no0 x c1 e = refl
turned-at no0 x c2 e = refl
turned-at no0 x c3 e = absurd (true≢false (sym e))
turned-at no0 x e01 e = refl
turned-at no0 x e02 e = refl
turned-at no0 x e03 e = absurd (true≢false (sym e))
turned-at no0 x e12 e = refl
turned-at no0 x e13 e = absurd (true≢false (sym e))
turned-at no0 x e23 e = absurd (true≢false (sym e))
turned-at no1 x c0 e = refl
turned-at no1 x c1 e = refl
turned-at no1 x c2 e = refl
turned-at no1 x c3 e = absurd (true≢false (sym e))
turned-at no1 x e01 e = refl
turned-at no1 x e02 e = refl
turned-at no1 x e03 e = absurd (true≢false (sym e))
turned-at no1 x e12 e = refl
turned-at no1 x e13 e = absurd (true≢false (sym e))
turned-at no1 x e23 e = absurd (true≢false (sym e))
turned-at no2 x c0 e = refl
turned-at no2 x c1 e = refl
turned-at no2 x c2 e = refl
turned-at no2 x c3 e = absurd (true≢false (sym e))
turned-at no2 x e01 e = refl
turned-at no2 x e02 e = refl
turned-at no2 x e03 e = absurd (true≢false (sym e))
turned-at no2 x e12 e = refl
turned-at no2 x e13 e = absurd (true≢false (sym e))
turned-at no2 x e23 e = absurd (true≢false (sym e))
turned-at no3 x c0 e = refl
turned-at no3 x c1 e = refl
turned-at no3 x c2 e = refl
turned-at no3 x c3 e = absurd (true≢false (sym e))
turned-at no3 x e01 e = refl
turned-at no3 x e02 e = refl
turned-at no3 x e03 e = absurd (true≢false (sym e))
turned-at no3 x e12 e = refl
turned-at no3 x e13 e = absurd (true≢false (sym e))
turned-at no3 x e23 e = absurd (true≢false (sym e))

-- a spot that isn't of the missing corner is one of the face
pub turned-back : (face : Face) (s : Spot) → of_missing face s ≡ false → (turned_to face (flat_of face s) ≡ s) × (flat (flat_of face s) ≡ true)
turned-back no0 c0 e = absurd (true≢false e)
turned-back no0 c1 e = (refl, refl)
turned-back no0 c2 e = (refl, refl)
turned-back no0 c3 e = (refl, refl)
turned-back no0 e01 e = absurd (true≢false e)
turned-back no0 e02 e = absurd (true≢false e)
turned-back no0 e03 e = absurd (true≢false e)
turned-back no0 e12 e = (refl, refl)
turned-back no0 e13 e = (refl, refl)
turned-back no0 e23 e = (refl, refl)
turned-back no1 c0 e = (refl, refl)
turned-back no1 c1 e = absurd (true≢false e)
turned-back no1 c2 e = (refl, refl)
turned-back no1 c3 e = (refl, refl)
turned-back no1 e01 e = absurd (true≢false e)
turned-back no1 e02 e = (refl, refl)
turned-back no1 e03 e = (refl, refl)
turned-back no1 e12 e = absurd (true≢false e)
turned-back no1 e13 e = absurd (true≢false e)
turned-back no1 e23 e = (refl, refl)
turned-back no2 c0 e = (refl, refl)
turned-back no2 c1 e = (refl, refl)
turned-back no2 c2 e = absurd (true≢false e)
turned-back no2 c3 e = (refl, refl)
turned-back no2 e01 e = (refl, refl)
turned-back no2 e02 e = absurd (true≢false e)
turned-back no2 e03 e = (refl, refl)
turned-back no2 e12 e = absurd (true≢false e)
turned-back no2 e13 e = (refl, refl)
turned-back no2 e23 e = absurd (true≢false e)
turned-back no3 c0 e = (refl, refl)
turned-back no3 c1 e = (refl, refl)
turned-back no3 c2 e = (refl, refl)
turned-back no3 c3 e = absurd (true≢false e)
turned-back no3 e01 e = (refl, refl)
turned-back no3 e02 e = (refl, refl)
turned-back no3 e03 e = absurd (true≢false e)
turned-back no3 e12 e = (refl, refl)
turned-back no3 e13 e = absurd (true≢false e)
turned-back no3 e23 e = absurd (true≢false e)

-- and of the same corners of it
abbrev pub of_first : Face → Spot → Bool
of_first no0 s = of1 s
of_first no1 s = of0 s
of_first no2 s = of0 s
of_first no3 s = of0 s

abbrev pub of_second : Face → Spot → Bool
of_second no0 s = of2 s
of_second no1 s = of2 s
of_second no2 s = of1 s
of_second no3 s = of1 s

abbrev pub of_third : Face → Spot → Bool
of_third no0 s = of3 s
of_third no1 s = of3 s
of_third no2 s = of3 s
of_third no3 s = of2 s

pub used-turned : (face : Face) (s : Spot) → of_missing face s ≡ false
    → (of0 (flat_of face s) ≡ of_first face s) × (of1 (flat_of face s) ≡ of_second face s) × (of2 (flat_of face s) ≡ of_third face s)
used-turned no0 c0 e = absurd (true≢false e)
used-turned no0 c1 e = (refl, refl, refl)
used-turned no0 c2 e = (refl, refl, refl)
used-turned no0 c3 e = (refl, refl, refl)
used-turned no0 e01 e = absurd (true≢false e)
used-turned no0 e02 e = absurd (true≢false e)
used-turned no0 e03 e = absurd (true≢false e)
used-turned no0 e12 e = (refl, refl, refl)
used-turned no0 e13 e = (refl, refl, refl)
used-turned no0 e23 e = (refl, refl, refl)
used-turned no1 c0 e = (refl, refl, refl)
used-turned no1 c1 e = absurd (true≢false e)
used-turned no1 c2 e = (refl, refl, refl)
used-turned no1 c3 e = (refl, refl, refl)
used-turned no1 e01 e = absurd (true≢false e)
used-turned no1 e02 e = (refl, refl, refl)
used-turned no1 e03 e = (refl, refl, refl)
used-turned no1 e12 e = absurd (true≢false e)
used-turned no1 e13 e = absurd (true≢false e)
used-turned no1 e23 e = (refl, refl, refl)
used-turned no2 c0 e = (refl, refl, refl)
used-turned no2 c1 e = (refl, refl, refl)
used-turned no2 c2 e = absurd (true≢false e)
used-turned no2 c3 e = (refl, refl, refl)
used-turned no2 e01 e = (refl, refl, refl)
used-turned no2 e02 e = absurd (true≢false e)
used-turned no2 e03 e = (refl, refl, refl)
used-turned no2 e12 e = absurd (true≢false e)
used-turned no2 e13 e = (refl, refl, refl)
used-turned no2 e23 e = absurd (true≢false e)
used-turned no3 c0 e = (refl, refl, refl)
used-turned no3 c1 e = (refl, refl, refl)
used-turned no3 c2 e = (refl, refl, refl)
used-turned no3 c3 e = absurd (true≢false e)
used-turned no3 e01 e = (refl, refl, refl)
used-turned no3 e02 e = (refl, refl, refl)
used-turned no3 e03 e = absurd (true≢false e)
used-turned no3 e12 e = (refl, refl, refl)
used-turned no3 e13 e = absurd (true≢false e)
used-turned no3 e23 e = absurd (true≢false e)

last_of : (a b c d : Bool) → a ≡ true → b ≡ true → c ≡ true → (not a || (not b || (not c || d))) ≡ true → d ≡ true
last_of true true true d x y z h = h
last_of false b c d x y z h = absurd (true≢false (sym x))
last_of true false c d x y z h = absurd (true≢false (sym y))
last_of true true false d x y z h = absurd (true≢false (sym z))

-- three spots of a face lie in as many tetrahedra, whichever face it is
pub face-same : (face : Face) (p q r s : Bool) (i j k : Spot) → ascends i j k ≡ true → (flat i && (flat j && flat k)) ≡ true → (any3 of0 i j k && (any3 of1 i j k && any3 of2 i j k)) ≡ true
    → face_count face p q r s i j k ≡ spot_count p q r false i j k
face-same face p q r s i j k up in_face used =
    eqb-true (face_count face p q r s i j k) (spot_count p q r false i j k)
    (last_of (ascends i j k) (flat i && (flat j && flat k)) (any3 of0 i j k && (any3 of1 i j k && any3 of2 i j k)) (face_count face p q r s i j k == spot_count p q r false i j k) up in_face used (face-law face p q r s i j k))
