-- What is written by sorted keys is the first point at the place of each.
use Rattle.std.proofs.Common.{◌≡◌, ℕ, zero, suc, ◌+◌, ◌^◌, ◌<◌, ◌≤◌, List, [], ◌∷◌, ◌++◌, length, get_or, ℤ, pos, refl, sym, ap, subst, ◌∙◌, arith}
use Rattle.std.specs.List.{Contains}
use Rattle.std.specs.List.Sorted.{IsSorted, IsPermutation}
use Rattle.std.specs.Cmp.Lexicographic.{slice_cmp}
use Rattle.std.specs.Ordering.{int_cmp}
use Rattle.std.proofs.lemmas.List.{get_or_default}
use Rattle.std.proofs.lemmas.List.Sorted.{Contains-permutation, IsPermutation-sym, length_permutation}
use Rattle.viz_fraction.specs.Points.{Point}
use Rattle.viz_fraction.specs.Places.{place_of}
use Rattle.viz_meaning.specs.Section.{zero_point}
use Rattle.viz_merge.specs.Steps.Leads.{AreLeads, AreWritten, HaveIndices, IsLead, index_in, key_at, key_of, keys_from, lead_in, place_in}
use Rattle.viz_merge.proofs.OrderLemmas.{AreInOrder, Heads, IsKey, heads, least}

-- ---- keys in turn

pub length-keys : (at : ℕ) (ps : List Point) → length (keys_from at ps) ≡ length ps
length-keys at [] = refl
length-keys at (p ∷ ps) = omega (arith, length-keys (at + 1) ps)

pub keys-append : (at : ℕ) (ps qs : List Point) → keys_from at (ps ++ qs) ≡ keys_from at ps ++ keys_from (at + length ps) qs
keys-append at [] qs = ap (λ n. keys_from n qs) {x = at} {y = at + 0} (omega arith)
keys-append at (p ∷ ps) qs =
    ap (λ t. key_of at p ∷ t) (keys-append (at + 1) ps qs ∙ ap (λ n. keys_from (at + 1) ps ++ keys_from n qs) {x = at + 1 + length ps} {y = at + length (p ∷ ps)} (omega arith))

key-in : (at : ℕ) (ps : List Point) (j : ℕ) (d : Point) → j < length ps → key_at (keys_from at ps) j ≡ key_of (at + j) (get_or ps j d)
key-in at [] j d l = absurd (omega arith)
key-in at (p ∷ ps) zero d l = ap (λ n. key_of n p) {x = at} {y = at + 0} (omega arith)
key-in at (p ∷ ps) (suc j) d l = key-in (at + 1) ps j d (omega arith) ∙ ap (λ n. key_of n (get_or ps j d)) {x = at + 1 + j} {y = at + suc j} (omega arith)

pub key-is : (ps : List Point) (j : ℕ) (d : Point) → j < length ps → key_at (keys_from 0 ps) j ≡ key_of j (get_or ps j d)
key-is ps j d l = key-in 0 ps j d l ∙ ap (λ n. key_of n (get_or ps j d)) {x = 0 + j} {y = j} (omega arith)

key-parts : (j : ℕ) (p : Point) → IsKey (key_of j p)
key-parts j p = record { size = refl; parts = refl }

-- ---- sorted keys

-- a key of the sorted list is that of the point with its index
pub record IsAt (ps : List Point) (key : List ℤ) (j : ℕ) : Type 0 where
  pub below : j < length ps
  pub same : key ≡ key_at (keys_from 0 ps) j
  pub index : index_in key ≡ j
  pub place : (d : Point) → place_in key ≡ place_of (get_or ps j d)
  pub is : IsKey key
  pub whole : get_or key 4 (pos 0) ≡ pos j

at-point : (ps : List Point) (key : List ℤ) (j : ℕ) → j < length ps → key ≡ key_at (keys_from 0 ps) j → IsAt ps key j
at-point ps key j l e = record {
  below = l;
  same = e;
  index = ap index_in (e ∙ key-is ps j zero_point l);
  place = λ d. ap place_in (e ∙ key-is ps j d l);
  is = subst IsKey (sym (e ∙ key-is ps j zero_point l)) (key-parts j (get_or ps j zero_point));
  whole = ap (λ k. get_or k 4 (pos 0)) (e ∙ key-is ps j zero_point l);
}

from-sorted : (ps : List Point) (sorted : List (List ℤ)) (k : ℕ) → IsPermutation (keys_from 0 ps) sorted → k < length sorted → IsAt ps (key_at sorted k) (index_in (key_at sorted k))
from-sorted ps sorted k p l =
    let keys = keys_from 0 ps in
    let key = key_at sorted k in
    let c : Contains keys key = Contains-permutation sorted keys key (IsPermutation-sym keys sorted p) (k, l, get_or_default sorted k key [] l) in
    let below : c.0 < length ps = omega (arith, c.1, length-keys 0 ps) in
    let at = at-point ps key c.0 below (sym c.2 ∙ get_or_default keys c.0 key [] c.1) in
    subst (IsAt ps key) (sym at.index) at

record IsFound (ps : List Point) (sorted : List (List ℤ)) (j : ℕ) : Type 0 where
  k : ℕ
  below : k < length sorted
  key : key_at sorted k ≡ key_at (keys_from 0 ps) j

to-sorted : (ps : List Point) (sorted : List (List ℤ)) (j : ℕ) → IsPermutation (keys_from 0 ps) sorted → j < length ps → IsFound ps sorted j
to-sorted ps sorted j p l =
    let keys = keys_from 0 ps in
    let key = key_at keys j in
    let below : j < length keys = omega (arith, l, length-keys 0 ps) in
    let c : Contains sorted key = Contains-permutation keys sorted key p (j, below, get_or_default keys j key [] below) in
    record { k = c.0; below = c.1; key = get_or_default sorted c.0 [] key c.1 ∙ c.2 }

pub sorted-keys : (ps : List Point) (sorted : List (List ℤ)) → IsPermutation (keys_from 0 ps) sorted → IsSorted (slice_cmp int_cmp) sorted → AreInOrder sorted
sorted-keys ps sorted p s = record { sorted = s; each = λ k l. (from-sorted ps sorted k p l).is }

pub sorted-indices : (ps : List Point) (sorted : List (List ℤ)) → IsPermutation (keys_from 0 ps) sorted → length ps < 2 ^ 32 → HaveIndices sorted
sorted-indices ps sorted p few =
    let size = length_permutation (keys_from 0 ps) sorted p in
    record {
      each = λ k l. (from-sorted ps sorted k p l).whole;
      below = λ k l. omega (arith, (from-sorted ps sorted k p l).below, size, length-keys 0 ps);
      few = omega (arith, size, length-keys 0 ps, few);
    }

-- ---- leads

lead-is : (ps : List Point) (sorted : List (List ℤ)) (j m lead : ℕ) → IsPermutation (keys_from 0 ps) sorted → AreInOrder sorted → j < length ps → m < length sorted → index_in (key_at sorted m) ≡ j → Heads sorted m lead → IsLead ps j lead
lead-is ps sorted j m lead p h jl ml is top =
    let here : IsAt ps (key_at sorted m) j = subst (IsAt ps (key_at sorted m)) is (from-sorted ps sorted m p ml) in
    let low = top.most in
    let head_below : top.at < length sorted = omega arith in
    let head : IsAt ps (key_at sorted top.at) lead = subst (IsAt ps (key_at sorted top.at)) top.index (from-sorted ps sorted top.at p head_below) in
    record {
      most = subst (λ n. lead ≤ n) is (least sorted m m lead h ml ml top refl);
      same = λ d. sym (head.place d) ∙ top.same ∙ here.place d;
      first = λ i d l e.
          let lead_below = head.below in
          let found = to-sorted ps sorted i p (omega arith) in
          let there : IsAt ps (key_at sorted found.k) i = at-point ps (key_at sorted found.k) i (omega arith) found.key in
          let bound = least sorted m found.k lead h ml found.below top (there.place d ∙ e ∙ sym (here.place d)) in
          omega (arith, bound, there.index);
    }

pub leads-are : (ps : List Point) (sorted : List (List ℤ)) (leads : List ℕ) → IsPermutation (keys_from 0 ps) sorted → IsSorted (slice_cmp int_cmp) sorted → AreWritten sorted (length sorted) leads → AreLeads ps leads
leads-are ps sorted leads p s w =
    let h = sorted-keys ps sorted p s in
    record {
      size = w.size ∙ length_permutation (keys_from 0 ps) sorted p ∙ length-keys 0 ps;
      each = λ j l.
          let found = to-sorted ps sorted j p l in
          let index : index_in (key_at sorted found.k) ≡ j = (at-point ps (key_at sorted found.k) j l found.key).index in
          let by = w.each found.k found.below in
          subst (IsLead ps j) (sym (ap (λ i. get_or leads i 0) (sym index) ∙ by.3)) (lead-is ps sorted j by.0 (lead_in sorted by.0) p h l by.1 (by.2 ∙ index) (heads sorted by.0));
    }
