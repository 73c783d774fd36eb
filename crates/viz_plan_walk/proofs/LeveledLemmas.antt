-- Levels, by the places of steps.
use Rattle.std.proofs.Common.{◌≡◌, ℕ, suc, ◌+◌, ◌<◌, max, List, [], ◌∷◌, ◌++◌, append_assoc, length, map, drop, drop-cons, take, slice_get, IfSome, Option, None, Some, refl, sym, ap, subst, ◌∙◌, arith}
use lib.ListN.{get_or}
use Rattle.std.specs.List.{range_with_len}
use Rattle.std.proofs.lemmas.List.{map-append, take_more}
use Rattle.std.proofs.lemmas.List.FromFn.{map-range_with_len_more}
use Rattle.std.specs.Option.{option_map_or}
use Rattle.viz_base.specs.declared.node.NodeId.{NodeId}
use Rattle.viz_network.specs.declared.steps.Step.{Step}
use Rattle.viz_network.specs.Network.{Network}
use Rattle.viz_parts.specs.declared.request.Part.{Part}
use Rattle.viz_parts.specs.declared.request.Request.{Request}
use Rattle.viz_requests.specs.Serving.{serves}
use Rattle.viz_plan_meaning.specs.Plan.{heads}
use Rattle.viz_plan_meaning.specs.Networks.{ways_at}
use Rattle.viz_plan_meaning.specs.Laws.{inputs_of}
use Rattle.viz_plan_meaning.specs.Levels.{Tasks, AllUnder, above_entry, above_first, above_inputs, with_levels}
use Rattle.viz_plan_meaning.proofs.LevelLemmas.{AllUnder-more, AllUnder-snoc}
use Rattle.viz_plan_walk.specs.Walk.{named}
use Rattle.viz_plan_walk.specs.declared.walk.Need.{Need}
use Rattle.viz_plan_walk.specs.declared.levels.Levelled.{Levelled}
use Rattle.viz_plan_walk.specs.TaskSteps.{AreSourced, AreTasks}
use Rattle.viz_plan_walk.specs.Leveling.{above_by, above_node, levelled}

module _ (kept : ℕ → Request → Option (Request × Part)) (widen : ℕ → Request → Request) (order : List NodeId) where
  abbrev by_places : Tasks Request → Request → List (Option ℕ) → ℕ
  by_places t r places = above_by serves kept widen order t r places

  abbrev at_node : Tasks Request → Request → NodeId → ℕ
  at_node t r x = above_node serves kept widen order t r x

  -- the level above what feeds ports, by places
  pub above_places : (t : Tasks Request) (r : Request) (k : ℕ) (hs places : List (Option ℕ)) → AreSourced order k hs places → by_places t r places ≡ above_inputs serves kept widen t r hs
  above_places t r k [] [] s = refl
  above_places t r k (None ∷ hs) (None ∷ places) s = above_places t r k hs places s
  above_places t r k (Some id ∷ hs) (Some p ∷ places) s =
      let a = s.0 in
      let one : option_map_or (at_node t r) (slice_get order p) 0 ≡ above_entry (kept id (widen id r)) (above_first serves t id (widen id r)) =
      ap (λ o. option_map_or (at_node t r) o 0) a.there ∙ ap (λ i. above_entry (kept i (widen i r)) (above_first serves t i (widen i r))) a.is in
      ap (λ m. max m (by_places t r places)) one
      ∙ ap (λ m. max (above_entry (kept id (widen id r)) (above_first serves t id (widen id r))) m) (above_places t r k hs places s.1)
  above_places t r k [] (p ∷ places) s = absurd s
  above_places t r k (None ∷ hs) [] s = absurd s
  above_places t r k (None ∷ hs) (Some p ∷ places) s = absurd s
  above_places t r k (Some id ∷ hs) [] s = absurd s
  above_places t r k (Some id ∷ hs) (None ∷ places) s = absurd s

  -- the level above one port and the others
  above_split : (t : Tasks Request) (r : Request) (x : Option ℕ) (places : List (Option ℕ)) → by_places t r (x ∷ places) ≡ max (by_places t r (x ∷ [])) (by_places t r places)
  above_split t r None places = omega arith
  above_split t r (Some p) places = omega arith

  -- one port more
  pub above_more : (t : Tasks Request) (r : Request) (places rest : List (Option ℕ)) (x : Option ℕ) (old one new : ℕ) → by_places t r places ≡ max old (by_places t r (x ∷ rest))
      → one ≡ by_places t r (x ∷ []) → new ≡ max old one → by_places t r places ≡ max new (by_places t r rest)
  above_more t r places rest x old one new is o n =
      let s = above_split t r x rest in
      is ∙ ap (max old) s ∙ omega (arith, o, n)

-- a task more
module _ (kept : ℕ → Request → Option (Request × Part)) (widen asks : ℕ → Request → Request) (inputs : ℕ → List (Option ℕ)) where
  abbrev levels : Tasks Request → List (ℕ × Request) → Tasks Request
  levels t xs = with_levels serves kept widen asks inputs t xs

  pub levels_more : (all old new : Tasks Request) (x : ℕ × Request) (rest : List (ℕ × Request)) (l : ℕ) → old ++ levels old (x ∷ rest) ≡ all
      → l ≡ above_inputs serves kept widen old (asks x.0 x.1) (inputs x.0) → new ≡ old ++ (x, l) ∷ [] → new ++ levels new rest ≡ all
  levels_more all old new x rest l is level grown =
      let h = above_inputs serves kept widen old (asks x.0 x.1) (inputs x.0) in
      let same : new ≡ old ++ (x, h) ∷ [] = grown ∙ ap (λ m. old ++ (x, m) ∷ []) level in
      ap (λ t. t ++ levels t rest) same
      ∙ append_assoc old ((x, h) ∷ []) (levels (old ++ (x, h) ∷ []) rest)
      ∙ is

-- the level of a task at a place is that above its inputs
pub level_at : (kept : ℕ → Request → Option (Request × Part)) (widen : ℕ → Request → Request) (net : Network) (order : List NodeId) (tasks : List Step) (sources : List (Option ℕ))
    → AreTasks net order tasks sources → (t : Tasks Request) (r : Request) (p : ℕ) (x : NodeId) (s : Step) (l : ℕ) → slice_get tasks p ≡ Some s → s.node ≡ x
    → l ≡ above_by serves kept widen order t r s.inputs → l ≡ above_inputs serves kept widen t r (inputs_of net x.0)
level_at kept widen net order tasks sources are t r p x s l at same is =
    is ∙ above_places kept widen order t r p (heads (ways_at net s.node.0)) s.inputs (are.each p s at)
    ∙ ap (λ y. above_inputs serves kept widen t r (inputs_of net y.0)) same

pub if_some_more : {A : Type 0} {P Q : A → Type 0} (o : Option A) → ((x : A) → P x → Q x) → IfSome o P → IfSome o Q
if_some_more None f h = h
if_some_more (Some x) f h = f x h

-- one task more is below a greater number
pub under_more : (t : List Levelled) (i : ℕ) (x : Levelled) (old new : ℕ) → i < length t → x ≡ get_or t i x → AllUnder old (levelled (take i t)) → new ≡ max old (x.level + 1)
    → AllUnder new (levelled (take (i + 1) t))
under_more t i x old new within is under n =
    let y : (ℕ × Request) × ℕ = ((x.need.node.0, x.need.request), x.level) in
    let more : take (i + 1) t ≡ take i t ++ x ∷ [] = take_more t i x within ∙ ap (λ z. take i t ++ z ∷ []) (sym is) in
    let all : levelled (take (i + 1) t) ≡ levelled (take i t) ++ y ∷ [] = ap levelled more ∙ map-append (λ (x : Levelled). ((x.need.node.0, x.need.request), x.level)) (take i t) (x ∷ []) in
    subst (AllUnder new) (sym all)
    (AllUnder-snoc new y (levelled (take i t)) (AllUnder-more old new (levelled (take i t)) (omega (arith, n)) under) (omega (arith, n)))

-- one list more
pub lists_more : {V L : Type 0} (f : V → L) (g : ℕ → L) (k : ℕ) (old new : List V) (v : V) → map f old ≡ map g (range_with_len 0 k) → f v ≡ g k → new ≡ old ++ v ∷ [] → map f new ≡ map g (range_with_len 0 (k + 1))
lists_more f g k old new v is one grown =
    ap (map f) grown ∙ map-append f old (v ∷ []) ∙ ap (λ l. l ++ f v ∷ []) is ∙ ap (λ x. map g (range_with_len 0 k) ++ x ∷ []) one
    ∙ sym (map-range_with_len_more g 0 k k (omega arith))

-- a task more in a table
pub table_more : (kept : ℕ → Request → Option (Request × Part)) (widen asks : ℕ → Request → Request) (inputs : ℕ → List (Option ℕ)) (plan : List Need) (i : ℕ) (x : Need) (old new : List Levelled) (l : ℕ) (all : Tasks Request)
    → i < length plan → x ≡ get_or plan i x
    → levelled old ++ with_levels serves kept widen asks inputs (levelled old) (named (drop i plan)) ≡ all
    → l ≡ above_inputs serves kept widen (levelled old) (asks x.node.0 x.request) (inputs x.node.0)
    → new ≡ old ++ record { need = x; level = l } ∷ []
    → levelled new ++ with_levels serves kept widen asks inputs (levelled new) (named (drop (i + 1) plan)) ≡ all
table_more kept widen asks inputs plan i x old new l all within is known level grown =
    let next : suc i ≡ i + 1 = omega arith in
    let split : drop i plan ≡ x ∷ drop (i + 1) plan =
    drop-cons plan i x within ∙ ap (λ y. y ∷ drop (suc i) plan) (sym is) ∙ ap (λ j. x ∷ drop j plan) next in
    levels_more kept widen asks inputs all (levelled old) (levelled new) (x.node.0, x.request) (named (drop (i + 1) plan)) l
    (sym (ap (λ d. levelled old ++ with_levels serves kept widen asks inputs (levelled old) (named d)) split) ∙ known)
    level
    (ap levelled grown ∙ map-append (λ (x : Levelled). ((x.need.node.0, x.need.request), x.level)) old (record { need = x; level = l } ∷ []))
