-- It is decided whether a number of a section is wide.
use Rattle.std.proofs.Common.{◌^◌, ℤ, pos, negsuc, ◌⊎◌, inl, inr, List, All, Ok, Err, refl, arith}
use Rattle.std.specs.Prelude.{◌<ℤ◌, ◌≤ℤ◌, ◌*ℤ◌, unsigned_abs}
use Rattle.std.proofs.lemmas.Int.{ints}
use Rattle.viz_dataset.specs.declared.dataset.Dataset.{Dataset}
use Rattle.viz_dataset.specs.declared.dataset.Dataset.TheVariants.{Mesh}
use Rattle.viz_fraction.specs.Crossings.{
  IsNarrowCrossing,
  inside_term,
  outside_term,
  unreduced_crossing,
}
use Rattle.viz_fraction.specs.Forms.{IsNarrowValue, value_of}
use Rattle.viz_fraction.specs.Points.{IsNarrow, IsNarrowPoint, Point}
use Rattle.viz_fraction.specs.declared.forms.Form.{Form}
use Rattle.viz_meaning.specs.Names.{greater_end, lesser_end, names_of}
use Rattle.viz_meaning.specs.Narrow.{
  AreNarrowSections,
  IsNarrowEdge,
  IsNarrowName,
  IsNarrowSection,
}
use Rattle.viz_meaning.specs.Section.{point_of, section_cells, sections_of}
use Rattle.viz_meaning.specs.Tetrahedra.{sheets_of}
use Rattle.viz_network.specs.declared.fault.Cause.TheVariants.{TooWide}
use Rattle.viz_node_meaning.specs.Data.{IsSection}
use Rattle.viz_sheet.specs.Sheet.{SheetData}
use Rattle.viz_node_total.proofs.DecidedLemmas.{
  IsDecided,
  all_decided,
  both_decided,
  follows_decided,
  least_decided,
  like_decided,
}

-- ---- signs

some_decided : (z : ℤ) → IsDecided (pos 0 ≤ℤ z)
some_decided (pos n) = inl (omega (arith, ints))
some_decided (negsuc n) = inr (λ h. absurd (omega (arith, ints, h)))

below_decided : (z : ℤ) → IsDecided (z <ℤ pos 0)
below_decided (pos n) = inr (λ h. absurd (omega (arith, ints, h)))
below_decided (negsuc n) = inl (omega (arith, ints))

-- ---- narrow numbers

narrow_decided : (n : ℤ) → IsDecided (IsNarrow n)
narrow_decided n = least_decided (unsigned_abs n) (2 ^ 120)

point_decided : (p : Point) → IsDecided (IsNarrowPoint p)
point_decided p =
    let five : Type 0 =
    IsNarrow p.x × (IsNarrow p.y × (IsNarrow p.z × (IsNarrow p.s × IsNarrow p.w))) in
    like_decided {P = five}
    (λ h. record { x = h.0; y = h.1.0; z = h.1.1.0; s = h.1.1.1.0; w = h.1.1.1.1 })
    (λ h. (h.x, (h.y, (h.z, (h.s, h.w)))))
    (both_decided (narrow_decided p.x) (both_decided (narrow_decided p.y)
    (both_decided (narrow_decided p.z)
    (both_decided (narrow_decided p.s) (narrow_decided p.w)))))

crossing_decided : (la : ℤ) (a : Point) (lb : ℤ) (b : Point)
    → IsDecided (IsNarrowCrossing la a lb b)
crossing_decided la a lb b =
    let three : Type 0 =
    IsNarrowPoint (outside_term la lb b)
    × (IsNarrowPoint (inside_term la a lb) × IsNarrowPoint (unreduced_crossing la a lb b)) in
    like_decided {P = three} (λ h. record { outside = h.0; inside = h.1.0; sum = h.1.1 })
    (λ h. (h.outside, (h.inside, h.sum)))
    (both_decided (point_decided (outside_term la lb b))
    (both_decided (point_decided (inside_term la a lb))
    (point_decided (unreduced_crossing la a lb b))))

value_decided : (f : Form) (p : Point) → IsDecided (IsNarrowValue f p)
value_decided f p =
    let six : Type 0 =
    IsNarrow (f.a *ℤ p.x) × (IsNarrow (f.b *ℤ p.y) × (IsNarrow (f.c *ℤ p.z)
    × (IsNarrow (f.q *ℤ p.s) × (IsNarrow (f.r *ℤ p.w) × IsNarrow (value_of f p))))) in
    like_decided {P = six}
    (λ h. record {
      a = h.0;
      b = h.1.0;
      c = h.1.1.0;
      q = h.1.1.1.0;
      r = h.1.1.1.1.0;
      sum = h.1.1.1.1.1;
    })
    (λ h. (h.a, (h.b, (h.c, (h.q, (h.r, h.sum))))))
    (both_decided (narrow_decided (f.a *ℤ p.x)) (both_decided (narrow_decided (f.b *ℤ p.y))
    (both_decided (narrow_decided (f.c *ℤ p.z)) (both_decided (narrow_decided (f.q *ℤ p.s))
    (both_decided (narrow_decided (f.r *ℤ p.w)) (narrow_decided (value_of f p)))))))

edge_decided : (f : Form) (p q : Point) → IsDecided (IsNarrowEdge f p q)
edge_decided f p q =
    let a = value_of f p in
    let b = value_of f q in
    like_decided (λ h. record { up = h.0; down = h.1 }) (λ h. (h.up, h.down))
    (both_decided
    (follows_decided (some_decided a)
    (follows_decided (below_decided b) (crossing_decided a p b q)))
    (follows_decided (some_decided b)
    (follows_decided (below_decided a) (crossing_decided b q a p))))

section_decided : (f : Form) (s : SheetData) → IsDecided (IsNarrowSection f s)
section_decided f s =
    like_decided (λ h. record { values = h.0; crossings = h.1 }) (λ h. (h.values, h.crossings))
    (both_decided (all_decided (IsNarrowValue f) (value_decided f) s.points)
    (all_decided (IsNarrowName f s)
    (λ n. edge_decided f (point_of s (lesser_end n)) (point_of s (greater_end n)))
    (names_of (section_cells f s))))

-- it is decided whether the sections of sheets are narrow
pub sections_decided : (forms : List Form) (sheets : List SheetData)
    → IsDecided (AreNarrowSections forms sheets)
sections_decided forms sheets =
    like_decided (λ h. record { each = h }) (λ h. h.each)
    (all_decided (λ f. All (IsNarrowSection f) sheets)
    (λ f. all_decided (IsNarrowSection f) (section_decided f) sheets) forms)

-- the sections of a dataset are made, or a number is wide
pub section_some : (forms : List Form) (d : Dataset)
    → IsDecided (AreNarrowSections forms (sheets_of d))
    → ((sheets : List SheetData) × IsSection forms d (Ok (Mesh sheets)))
    ⊎ IsSection forms d (Err TooWide)
section_some forms d (inl narrow) =
    inl (sections_of forms (sheets_of d), (narrow, refl))
section_some forms d (inr wide) = inr (wide, refl)
