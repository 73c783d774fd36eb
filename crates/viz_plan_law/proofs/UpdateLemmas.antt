-- The requests of an update can be made.
use Rattle.std.proofs.Common.{
  ℕ,
  zero,
  suc,
  ◌+◌,
  ◌-◌,
  ◌≤◌,
  ◌<◌,
  Bool,
  true,
  false,
  cond,
  nat_lt,
  map,
  List,
  [],
  ◌∷◌,
  Option,
  None,
  Some,
  sym,
  subst,
  arith,
}
use Rattle.std.proofs.lemmas.List.Elements.{All-from_recursion}
use Rattle.std.specs.List.{AllByRecursion, flat_map, range_with_len}
use Rattle.viz_extent.proofs.SlabLemmas.{begins_within}
use Rattle.viz_extent.specs.Extent.{Bounds, size_z}
use Rattle.viz_extent.specs.Slabs.{planes, share_begin, slab_of}
use Rattle.viz_network.specs.Cone.{cone_of}
use Rattle.viz_parts.specs.declared.request.Request.{Request}
use Rattle.viz_parts.specs.declared.request.Request.TheVariants.{Piece}
use Rattle.viz_plan_meaning.specs.Known.{Known}
use Rattle.viz_requests.specs.Shapes.{requests_of, slab_request}
use Rattle.viz_requests.specs.Upstream.{Fits}
use Rattle.viz_plan_law.specs.Fitting.{HasRoomOnWays, IsRequestTo, UpdatesFit}
use Rattle.viz_plan_law.proofs.AskedLemmas.{planes_part}
use Rattle.viz_plan_law.proofs.FitLemmas.{all_append}
use Rattle.viz_plan_law.proofs.GivenLemmas.{value_deep}
use Rattle.viz_plan_law.proofs.InformLemmas.{IsDeep}
use Rattle.viz_plan_law.proofs.PortLemmas.{told_in}

-- the request fits, with few ghost levels
abbrev IsFew : Option Bounds → Request → Type 0
IsFew own r = Fits own r × HasRoomOnWays r

slab_few : (b : Bounds) (p n : ℕ) → b.z0 ≤ b.z1 → p < n
    → AllByRecursion (IsFew (Some b)) (slab_request (slab_of p n b))
slab_few b p n d l = by (nat_lt first next)
  where
    first : ℕ
    first = share_begin n (size_z b) p

    next : ℕ
    next = share_begin n (size_z b) (p + 1)

    within : share_begin n (size_z b) (p + 1) ≤ size_z b
    within = begins_within n (size_z b) (p + 1) (omega (arith, l)) (omega (arith, l))

    by : (t : Bool) → AllByRecursion (IsFew (Some b)) (slab_request
        (cond t (Some (planes (share_begin n (size_z b) p)
        (share_begin n (size_z b) (p + 1) - 1) b)) None))
    by true = (
      (
        planes_part b (share_begin n (size_z b) p) (share_begin n (size_z b) (p + 1) - 1)
            (omega (arith, d, within)),
        tt,
      ),
      tt,
    )
    by false = tt

slabs_few : (b : Bounds) (n a m : ℕ) → b.z0 ≤ b.z1 → a + m ≤ n
    → AllByRecursion (IsFew (Some b))
    (flat_map (λ p. slab_request (slab_of p n b)) (range_with_len a m))
slabs_few b n a zero d l = tt
slabs_few b n a (suc m) d l =
    all_append (IsFew (Some b)) (slab_request (slab_of a n b))
    (flat_map (λ p. slab_request (slab_of p n b)) (range_with_len (a + 1) m))
    (slab_few b a n d (omega (arith, l))) (slabs_few b n (a + 1) m d (omega (arith, l)))

pieces_few : (n a m : ℕ) → a + m ≤ n
    → AllByRecursion (IsFew None) (map (λ p. Piece p n 0) (range_with_len a m))
pieces_few n a zero l = tt
pieces_few n a (suc m) l =
    ((omega (arith, l), omega arith), pieces_few n (a + 1) m (omega (arith, l)))

requests_few : (own : Option Bounds) (n : ℕ) → IsDeep own
    → AllByRecursion (IsFew own) (requests_of own n)
requests_few (Some b) n d = slabs_few b n 0 n d (omega arith)
requests_few None n d = pieces_few n 0 n (omega arith)

made_to : (k : Known) (sink : ℕ) (rs : List Request) → AllByRecursion (IsFew (k.extent sink)) rs
    → AllByRecursion (IsRequestTo k sink) rs
made_to k sink [] a = tt
made_to k sink (r ∷ rs) a =
    (record { fits = a.0.0; room = a.0.1 }, made_to k sink rs a.1)

pub updates_fit : UpdatesFit
updates_fit k sink n known =
    let deep = value_deep (cone_of k.net sink) known.information known.given in
    let told = told_in (k.extent sink) known.information known.extent in
    let few = requests_few (k.extent sink) n (subst IsDeep (sym told) deep) in
    All-from_recursion (IsRequestTo k sink) (requests_of (k.extent sink) n)
    (made_to k sink (requests_of (k.extent sink) n) few)
