-- A plan that is carried out.
use Rattle.std.proofs.Common.{
  ◌≡◌,
  ℕ,
  ◌<◌,
  inl,
  inr,
  slice_index_or,
  List,
  [],
  ◌∷◌,
  map,
  length,
  Option,
  None,
  Some,
  IfSome,
  Ok,
  refl,
  sym,
  subst,
  ◌∙◌,
  ap,
  arith,
}
use Rattle.std.proofs.lemmas.List.{length-map, map-append}
use Rattle.std.proofs.Math.ListN.{get_or-map}
use Rattle.std.proofs.lemmas.List.Elements.{All-filter}
use Rattle.std.proofs.lemmas.List.FromFn.{length-map-range_with_len}
use Rattle.std.specs.Global.{Vec}
use Rattle.std.specs.List.{All, Contains, range_with_len}
use Rattle.std.specs.Option.{option_to_list}
use Rattle.viz_extent.specs.Extent.{Bounds}
use Rattle.viz_kept.specs.True.{AreMadeIn, AreTrueIn, HasStamp, IsMadeIn}
use Rattle.viz_node_meaning.specs.Scratch.{IsScratch}
use Rattle.viz_parts.specs.declared.request.Request.{Request}
use Rattle.viz_parts.specs.declared.request.Request.TheVariants.{Piece}
use Rattle.viz_parts.specs.declared.stored.Key.{Key}
use Rattle.viz_parts.specs.declared.stored.Stored.{Stored}
use Rattle.viz_plan.specs.Told.{AreLevelsOf, needs_in}
use Rattle.viz_plan_law.specs.Fitting.{IsKnown}
use Rattle.viz_plan_meaning.specs.Known.{Known}
use Rattle.viz_plan_meaning.specs.Laws.{plan_of, used_of}
use Rattle.viz_plan_truth.specs.Truth.{
  AreForAll,
  CameOut,
  HasTaskPart,
  PlansGive,
  PlansMakeParts,
}
use Rattle.viz_requests.specs.Shapes.{requests_of}
use Rattle.viz_task_parts.specs.Tasks.{DatasetsArePassed}
use Rattle.viz_plan.specs.Published.{is_unreleased, keys_of, need_of, unreleased}
use Rattle.viz_executive.specs.Produced.{IsByPlanOf, IsOnly}
use Rattle.viz_executive.specs.Steps.Carrying.{AsksForAll, IsCarriedOut, IsReachedKey}
use Rattle.viz_executive.specs.Steps.Tasks.{all_needs}
use Rattle.viz_executive.specs.declared.carrying.Carried.{Carried}
use Rattle.viz_executive.specs.declared.produced.Produced.{Produced}
use Rattle.viz_executive.proofs.PlanLemmas.{
  all_of_plan,
  as_many,
  count,
  front,
  in_plan,
  needs_at,
  needs_by_level,
}
use Rattle.viz_executive.proofs.UpdateLemmas.{sink_known}
use Rattle.viz_executive.proofs.WholeLemmas.{blocks, slabs, slabs_are}

-- ---- requests for all

some_block : (rs : List Request) (bounds : List Bounds) → rs ≡ blocks bounds → 0 < length rs
    → AreForAll rs
some_block rs [] e l =
    let none : length rs ≡ 0 = ap length e in
    absurd (omega (arith, l, none))
some_block rs (b ∷ bounds) e l = inr (b, blocks bounds, e)

pub for_all : (own : Option Bounds) (n : ℕ) → 0 < length (requests_of own n)
    → AreForAll (requests_of own n)
for_all None n l =
    let many = length-map-range_with_len (λ p. Piece p n 0) 0 n in
    inl (n, omega (arith, l, many), refl)
for_all (Some whole) n l =
    some_block (requests_of (Some whole) n) (slabs whole n (range_with_len 0 n))
    (slabs_are whole n (range_with_len 0 n)) l

-- ---- a plan

abbrev key : Stored → Key
key s = s.key

module _ (k : Known) (sink : ℕ) (rs : List Request) (levels : List (Vec Key))
    (are : AreLevelsOf k sink rs (map needs_at levels)) (entries : AreTrueIn k.net k.entries)
    (all : AreForAll rs) (c : Carried) (done : IsCarriedOut k sink rs levels c) where
  came_out : CameOut k sink rs
  came_out = record {
    placed = done.update.placed;
    ports = done.update.ports;
    entries = entries;
    all = all;
    each = all_of_plan k sink rs levels are (HasTaskPart k.net) done.each;
  }

  known : IsKnown k sink
  known = sink_known k sink rs done.update

  pub scratch_is : PlansGive → IsScratch k.net sink (Ok c.dataset)
  scratch_is gives = gives k sink rs came_out known.information c.dataset known.given done.whole

  made_planned : All (Contains (plan_of k sink rs)) (needs_in (keys_of c.made.items))
  made_planned =
      let all = subst (All (Contains (plan_of k sink rs))) (sym done.made_are)
      (All-filter (is_unreleased k.net) (Contains (plan_of k sink rs)) (all_needs levels)
      (in_plan k sink rs levels are)) in
      front (Contains (plan_of k sink rs)) (needs_in (keys_of c.made.items))
      (needs_in (option_to_list c.only))
      (subst (All (Contains (plan_of k sink rs)))
      (map-append need_of (keys_of c.made.items) (option_to_list c.only)) all)

  made_in : PlansMakeParts → AreMadeIn k.net c.made.items
  made_in law = record { each = one }
    where
      one : (i : ℕ) (d : Stored) → i < length c.made.items
          → IsMadeIn k.net (slice_index_or c.made.items i d)
      one i d l =
          let item = slice_index_or c.made.items i d in
          let is = done.items i d l in
          let keys : i < length (keys_of c.made.items) = omega (arith, l, length-map c.made.items key) in
          let needs : i < length (needs_in (keys_of c.made.items)) =
          omega (arith, keys, length-map (keys_of c.made.items) need_of) in
          let at = made_planned i (need_of d.key) needs in
          let same = get_or-map need_of (keys_of c.made.items) i d.key
          ∙ ap need_of (get_or-map key c.made.items i d) in
          record {
            stamp = is.stamp;
            part = law k sink rs came_out known.information known.given (need_of item.key)
                (subst (Contains (plan_of k sink rs)) same at) item.part is.part;
          }

  -- the dataset is all of what the node gives that requests reach
  only_in : DatasetsArePassed → IsScratch k.net sink (Ok c.dataset) → (only : Option Key)
      → IfSome only (IsReachedKey k.net sink) → AsksForAll c.dataset only
      → IsOnly k.net c.dataset only
  only_in law given None h a = tt
  only_in law given (Some key) h a = record {
    stamp = h.stamp;
    given = law k.net sink key.node.0 c.dataset done.update.placed done.update.ports given
        h.reached;
    all = a;
  }

  -- what the update gives
  abbrev pub produced : Vec Key → Produced
  produced used = record {
    dataset = c.dataset;
    used = used;
    made = c.made;
    only = c.only;
    ran = c.ran;
  }

  pub by_plan : PlansMakeParts → PlansGive → DatasetsArePassed → (used : Vec Key)
      → needs_in used.items ≡ used_of k sink rs → All (HasStamp k.net) used.items
      → IsByPlanOf k sink rs (produced used)
  by_plan law gives passed used same stamps = record {
    used_are = same;
    stamps = stamps;
    levels = count k sink rs levels are;
    under = are.under;
    made_are = done.made_are
        ∙ ap (λ l. unreleased k.net l) (needs_by_level k sink rs levels are);
    parts = made_in law;
    only = only_in passed (scratch_is gives) c.only done.only done.all;
    number = done.number ∙ as_many k sink rs levels are;
  }
