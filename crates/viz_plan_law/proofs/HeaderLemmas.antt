-- The image of a file begins at index 0.
use Rattle.std.proofs.Common.{
  ◌≡◌,
  ℕ,
  zero,
  suc,
  Bool,
  true,
  false,
  List,
  [],
  ◌∷◌,
  ◌++◌,
  Option,
  None,
  Some,
  refl,
  sym,
  ap,
  subst,
}
use Rattle.std.specs.List.{AllByRecursion}
use Rattle.std.specs.Prelude.{fold, unwrap_or}
use Rattle.viz_extent.specs.Extent.{Bounds}
use Rattle.viz_legacy_read.specs.Header.{
  Geometry,
  Header,
  Heading,
  Line,
  Origin,
  Sizes,
  Spacing_of,
  behind,
  geometry_of,
  header_line,
  image_header,
  is_image,
  no_line,
  origin,
  sizes,
  spacing,
  whole_of,
  with_line,
}
use Rattle.viz_legacy_read.specs.Header.Heading.{OfImage as ImageHead, OfMesh as MeshHead}
use Rattle.viz_legacy_read.specs.Reading.{ReadsHeader}
use Rattle.viz_lex.specs.Reading.{Reading, fault_at}
use Rattle.viz_lex.specs.Repeats.{AreKnown}
use Rattle.viz_lex.specs.Rules.{Rule, choose, follow, gives, refuses}
use Rattle.viz_lex.specs.Steps.{keyword_kind}
use Rattle.viz_lex.specs.declared.fault.FileFault.{FileFault}

-- whatever the rule reads has the property
abbrev Always : {V : Type 0} → (V → Type 0) → Rule V → Type 0
Always {V = V} P rule = (old new : Reading) (x : V) → rule.is old new x → P x

either_always : {V : Type 0} (P : V → Type 0) (b : Bool) (r s : Rule V) → Always P r → Always P s
    → Always P (choose b r s)
either_always P true r s h g = h
either_always P false r s h g = g

made_always : {A V : Type 0} (P : V → Type 0) (a : Rule A) (f : A → V)
    → ((old new : Reading) (v : A) → a.is old new v → P (f v))
    → Always P (follow a (λ v. gives (f v)))
made_always P a f h old new x i = subst P (sym i.3.1) (h old i.1 i.0 i.2)

given_always : {V : Type 0} (P : V → Type 0) (v : V) → P v → Always P (gives v)
given_always P v h old new x i = subst P (sym i.1) h

never_always : {V : Type 0} (P : V → Type 0) (fault : FileFault) → Always P (refuses fault)
never_always P fault old new x i = absurd i

-- ---- header lines

-- the lowest plane has index 0
abbrev IsFlat : Line → Type 0
IsFlat (Sizes whole) = whole.z0 ≡ 0
IsFlat (Origin v) = Unit {0}
IsFlat (Spacing_of v) = Unit {0}

sizes_flat : Always (λ (b : Bounds). b.z0 ≡ 0) sizes
sizes_flat old new b i = ap (λ (c : Bounds). c.z0) i.3.3.3.1.1

line_flat : (g : Geometry) (key : ℕ × List ℕ) → Always IsFlat (behind g key)
line_flat g key =
    either_always IsFlat _ _ _
    (made_always IsFlat sizes (λ v. Sizes v) sizes_flat)
    (either_always IsFlat _ _ _
    (made_always IsFlat origin (λ v. Origin v) (λ old new v i. tt))
    (either_always IsFlat _ _ _
    (made_always IsFlat spacing (λ v. Spacing_of v) (λ old new v i. tt))
    (never_always IsFlat (fault_at (keyword_kind key.1) key.0))))

lines_flat : (rule : List Line → Rule Line) → ((before : List Line) → Always IsFlat (rule before))
    → (before : List Line) (old new : Reading) (xs : List Line) (n : ℕ)
    → AreKnown rule before old new xs n → AllByRecursion IsFlat xs
lines_flat rule each before old new [] n h = tt
lines_flat rule each before old new (x ∷ xs) zero h = absurd h
lines_flat rule each before old new (x ∷ xs) (suc n) h =
    (each before old h.0 x h.1, lines_flat rule each (before ++ x ∷ []) h.0 new xs n h.2)

-- ---- the header

abbrev IsFlatOne : Option Bounds → Type 0
IsFlatOne None = Unit {0}
IsFlatOne (Some b) = b.z0 ≡ 0

with_flat : (g : Geometry) (x : Line) → IsFlatOne g.whole → IsFlat x
    → IsFlatOne (with_line g x).whole
with_flat g (Sizes whole) h f = f
with_flat g (Origin v) h f = h
with_flat g (Spacing_of v) h f = h

all_flat : (g : Geometry) (xs : List Line) → IsFlatOne g.whole → AllByRecursion IsFlat xs
    → IsFlatOne (fold with_line g xs).whole
all_flat g [] h f = h
all_flat g (x ∷ xs) h f = all_flat (with_line g x) xs (with_flat g x h f.0) f.1

whole_flat : (o : Option Bounds) → IsFlatOne o → (unwrap_or o (whole_of 1 1 1)).z0 ≡ 0
whole_flat None h = refl
whole_flat (Some b) h = h

abbrev IsFlatHead : Heading → Type 0
IsFlatHead (ImageHead h) = h.whole.z0 ≡ 0
IsFlatHead (MeshHead p) = Unit {0}

image_flat : (binary : Bool) → Always (λ (h : Header). h.whole.z0 ≡ 0) (image_header binary)
image_flat binary old new h i =
    let lines = lines_flat (header_line binary)
    (λ before r s x l. line_flat (geometry_of before) l.3.0 l.3.1 s x l.3.3)
    [] old i.1 i.0 3 i.2 in
    let flat = all_flat no_line i.0 tt lines in
    subst (λ (z : Header). z.whole.z0 ≡ 0) (sym i.3.1) (whole_flat (geometry_of i.0).whole flat)

-- the whole extent of an image begins at index 0 along z
pub header_flat : (bytes : List ℕ) (h : Header) → ReadsHeader bytes (ImageHead h)
    → h.whole.z0 ≡ 0
header_flat bytes h r =
    either_always IsFlatHead (is_image r.1.0) _ _
    (made_always IsFlatHead (image_header r.1.0.binary) (λ z. ImageHead z)
    (image_flat r.1.0.binary))
    (given_always IsFlatHead (MeshHead r.1.0) tt) r.1.1 r.0 (ImageHead h) r.1.3
