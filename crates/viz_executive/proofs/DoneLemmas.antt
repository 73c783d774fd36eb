-- What stands behind one task more, and behind a level.
use Rattle.std.proofs.Common.{◌≡◌, ℕ, suc, ◌+◌, ◌-◌, ◌<◌, Result, Ok, IfOk, Some, slice_get, slice_index_or, Bool, true, false, cond, List, [], ◌∷◌, ◌++◌, map, length, take, refl, sym, subst, ◌∙◌, ap, arith}
use Rattle.std.proofs.Math.Seq.{take-suc}
use Rattle.std.proofs.lemmas.List.{flat_map_more, length-map, map-append}
use Rattle.std.proofs.lemmas.List.Elements.{All-append, All-cons, All-nil, All-push, filter-append}
use Rattle.std.specs.Global.{Vec}
use Rattle.std.specs.List.{All, AllZip, Contains, flat_map}
use Rattle.std.proofs.Math.ListN.{get_or, get_or-map}
use Rattle.viz_network.specs.Network.{Network}
use Rattle.viz_parts.specs.declared.request.Request.{Request}
use Rattle.viz_parts.specs.declared.stored.Key.{Key}
use Rattle.viz_parts.specs.declared.stored.Stored.{Stored}
use Rattle.viz_plan.specs.Told.{needs_in}
use Rattle.viz_plan_meaning.specs.Known.{Known}
use Rattle.viz_plan_meaning.specs.Laws.{plan_of}
use Rattle.viz_plan_truth.specs.Truth.{HasTaskPart}
use Rattle.viz_plan.specs.Published.{is_unreleased, keys_of, need_of, unreleased}
use Rattle.viz_node_rules.specs.declared.stop.OwnStop.{OwnStop}
use Rattle.viz_workers.specs.Level.{AreItems}
use Rattle.viz_executive.specs.Steps.Grounds.{GroundData}
use Rattle.viz_executive.specs.Steps.Tables.{AreExact, IsExactItem}
use Rattle.viz_executive.specs.Steps.Tasks.{
  AreItemsOf,
  ArePlanned,
  HasItem,
  IsDone,
  IsItemOf,
  IsTaskItem,
  all_needs,
  is_staying,
  staying,
}

abbrev Needs : Type 0
Needs = List (ℕ × Request)

abbrev Levels : Type 0
Levels = List (Vec Key)

module _ (net : Network) where
  -- ---- one task

  -- the needs of what stays of it
  one_stays : (b : Bool) (item : Stored)
      → needs_in (keys_of (staying b item)) ≡ cond b (need_of item.key ∷ []) []
  one_stays true item = refl
  one_stays false item = refl

  stays_more : (needs : Needs) (made next : List Stored) (item : Stored)
      → needs_in (keys_of made) ≡ unreleased net needs
      → next ≡ made ++ staying (is_staying net item.key.node.0) item
      → needs_in (keys_of next) ≡ unreleased net (needs ++ need_of item.key ∷ [])
  stays_more needs made next item h e =
      let add = staying (is_staying net item.key.node.0) item in
      ap (λ l. needs_in (keys_of l)) e
      ∙ ap needs_in (map-append (λ (s : Stored). s.key) made add)
      ∙ map-append need_of (keys_of made) (keys_of add)
      ∙ ap (λ l. l ++ needs_in (keys_of add)) h
      ∙ ap (λ l. unreleased net needs ++ l) (one_stays (is_staying net item.key.node.0) item)
      ∙ sym (filter-append (is_unreleased net) needs (need_of item.key ∷ []))

  staying_made : (b : Bool) (item : Stored) → IsTaskItem net item
      → All (IsTaskItem net) (staying b item)
  staying_made true item h = All-push (IsTaskItem net) [] item (All-nil (IsTaskItem net)) h
  staying_made false item h = All-nil (IsTaskItem net)

  pub exact_item : (item : Stored) → IsTaskItem net item → IsExactItem net item
  exact_item item h = record { exact = h.part.exact }

  -- what stands behind one task more
  pub done_more : (needs : Needs) (table after : List (Vec Stored))
      (made next : List Stored) (item : Stored)
      → IsDone net needs table made → IsTaskItem net item
      → next ≡ made ++ staying (is_staying net item.key.node.0) item → AreExact net after
      → IsDone net (needs ++ need_of item.key ∷ []) after next
  done_more needs table after made next item d h e exact = record {
    exact = exact;
    each = All-push (HasTaskPart net) needs (need_of item.key) d.each (item.part, h.part);
    made_are = stays_more needs made next item d.made_are e;
    items = subst (All (IsTaskItem net)) (sym e)
        (All-append (IsTaskItem net) made (staying (is_staying net item.key.node.0) item) d.items
        (staying_made (is_staying net item.key.node.0) item h));
  }

  -- parts of a table are given up
  pub done_less : (needs : Needs) (table after : List (Vec Stored)) (made : List Stored)
      → IsDone net needs table made → AreExact net after → IsDone net needs after made
  done_less needs table after made d exact = record {
    exact = exact;
    each = d.each;
    made_are = d.made_are;
    items = d.items;
  }

  pub done_are : (needs others : Needs) (table : List (Vec Stored)) (made : List Stored)
      → needs ≡ others → IsDone net needs table made → IsDone net others table made
  done_are needs others table made e d = subst (λ n. IsDone net n table made) e d

-- ---- levels

pub levels_more : (levels : Levels) (i : ℕ) (keys : Vec Key) → i < length levels
    → keys ≡ get_or levels i keys
    → all_needs (take i levels) ++ needs_in keys.items ≡ all_needs (take (i + 1) levels)
levels_more levels i keys l at =
    let next_one : suc i ≡ i + 1 = omega arith in
    flat_map_more (λ (k : Vec Key). needs_in k.items) [] (take i levels) keys
    ∙ ap (λ t. flat_map (λ (k : Vec Key). needs_in k.items) t)
    (ap (λ k. take i levels ++ k ∷ []) at ∙ sym (take-suc levels i keys l)
    ∙ ap (λ n. take n levels) next_one)

pub needs_length : (keys : List Key) → length (needs_in keys) ≡ length keys
needs_length keys = length-map keys need_of

-- ---- the items of a level

module _ (net : Network) where
  zip_items : (keys : List Key) (all : List Stored) → length all ≡ length keys
      → ((k : ℕ) (d : Stored) (key : Key) → k < length all → slice_get keys k ≡ Some key
      → IsItemOf net key (slice_index_or all k d)) → AllZip (IsItemOf net) keys all
  zip_items [] [] l h = tt
  zip_items [] (x ∷ all) l h = absurd (omega (arith, l))
  zip_items (key ∷ keys) [] l h = absurd (omega (arith, l))
  zip_items (key ∷ keys) (x ∷ all) l h = (
    h 0 x key (omega arith) refl,
    zip_items keys all (omega (arith, l)) (λ k d other b at. h (suc k) d other (omega (arith, b)) at),
  )

  keys_zip : (keys : List Key) (all : List Stored) → AllZip (IsItemOf net) keys all
      → keys_of all ≡ keys
  keys_zip [] [] z = refl
  keys_zip [] (x ∷ all) z = absurd z
  keys_zip (key ∷ keys) [] z = absurd z
  keys_zip (key ∷ keys) (x ∷ all) z =
      ap (λ k. k ∷ keys_of all) z.0.of ∙ ap (λ l. key ∷ l) (keys_zip keys all z.1)

  items_zip : (keys : List Key) (all : List Stored) → AllZip (IsItemOf net) keys all
      → All (IsTaskItem net) all
  items_zip [] [] z = All-nil (IsTaskItem net)
  items_zip [] (x ∷ all) z = absurd z
  items_zip (key ∷ keys) [] z = absurd z
  items_zip (key ∷ keys) (x ∷ all) z =
      All-cons (IsTaskItem net) x all z.0.is (items_zip keys all z.1)

-- a task that came out
abbrev pub came_out : Stored → Result Stored OwnStop
came_out item = Ok item

pub items_of : (g : GroundData) (keys : List Key) (first : ℕ) (all : List Stored)
    → AreItems (HasItem g keys first) first (map came_out all)
    → length (map came_out all) ≡ length keys
    → AreItemsOf g.sites.net keys all
items_of g keys first all h l =
    let z = zip_items g.sites.net keys all (sym (length-map all came_out) ∙ l) one in
    record { keys_are = keys_zip g.sites.net keys all z; each = items_zip g.sites.net keys all z }
  where
    one : (k : ℕ) (d : Stored) (key : Key) → k < length all → slice_get keys k ≡ Some key
        → IsItemOf g.sites.net key (slice_index_or all k d)
    one k d key b at =
        let within : k < length (map came_out all) = omega (arith, b, length-map all came_out) in
        let back : first + k - first ≡ k = omega arith in
        subst (λ (r : Result Stored OwnStop). IfOk r (IsItemOf g.sites.net key)) (get_or-map came_out all k d)
        (h k (Ok d) within key (ap (slice_get keys) back ∙ at))

pub planned_at : (k : Known) (sink : ℕ) (rs : List Request) (keys : List Key)
    → ArePlanned k sink rs keys → (i : ℕ) (d : Key) → i < length keys
    → Contains (plan_of k sink rs) (need_of (slice_index_or keys i d))
planned_at k sink rs keys p i d l =
    let within : i < length (needs_in keys) = omega (arith, l, length-map keys need_of) in
    subst (Contains (plan_of k sink rs)) (get_or-map need_of keys i d)
    (p.tasks i (need_of d) within)
