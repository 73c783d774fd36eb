-- What is found by nodes is what is told and kept of them.
use Rattle.std.proofs.Common.{◌≡◌, ℕ, Bool, true, false, ◌&&◌, cond, nat_eq, filter, List, [], ◌∷◌, map, Option, refl, sym, ap, ◌∙◌}
use Rattle.std.proofs.lemmas.Bool.{eqb-true}
use Rattle.viz_buckets.specs.Buckets.{HasAllOf}
use Rattle.viz_buckets.proofs.BucketLemmas.{by_first}
use Rattle.viz_extent.specs.Extent.{Bounds}
use Rattle.viz_inform.specs.declared.told.Told.{Told}
use Rattle.viz_parts.specs.declared.stored.Stored.{Stored}
use Rattle.viz_plan_meaning.proofs.PlanLemmas.{and-elim}
use Rattle.viz_plan_meaning.specs.Known.{is_stamp}
use Rattle.viz_plan.specs.ByNode.{entry_of, extent_shown, is_present_entry, present_in, shown_of}
use Rattle.viz_plan.specs.Sites.{is_present, present}
use Rattle.viz_plan.specs.Told.{extent_of, extent_told}
use Rattle.viz_plan.specs.declared.by_node.Entry.{Entry}
use Rattle.viz_plan.specs.declared.by_node.Shown.{Shown}

pub extent_found : (all some : List Shown) (id : ℕ) → HasAllOf (λ s. s.node.0) id all some → extent_shown some id ≡ extent_shown all id
extent_found all some id found =
    by_first (λ (s : Shown). s.node.0) id all some found (λ s. nat_eq s.node.0 id) (λ s e. eqb-true s.node.0 id e)
    (λ s. s.extent) (λ l. extent_shown l id) (λ s l. refl)

pub present_found : (stamp : Option ℕ) (all some : List Entry) (id : ℕ) → HasAllOf (λ e. e.key.node.0) id all some → present_in stamp id some ≡ present_in stamp id all
present_found stamp all some id found =
    ap (map (λ (e : Entry). e.key.request))
    (found (is_present_entry stamp id) (λ e p. eqb-true e.key.node.0 id (and-elim (nat_eq e.key.node.0 id) (is_stamp stamp e.key.stamp) p).0))

extent_by : (told : List Told) (id : ℕ) → extent_shown (map shown_of told) id ≡ extent_told told id
extent_by [] id = refl
extent_by (t ∷ told) id = ap (cond (nat_eq t.node.0 id) (extent_of t.information)) (extent_by told id)

pub extents_are : (shown : List Shown) (told : List Told) → shown ≡ map shown_of told → extent_shown shown ≡ extent_told told
extents_are shown told is = ap extent_shown is ∙ (λ j id. extent_by told id j)

present_by : (stamp : Option ℕ) (id : ℕ) (stored : List Stored) → present_in stamp id (map entry_of stored) ≡ present stamp id stored
present_by stamp id [] = refl
present_by stamp id (x ∷ stored) = by (is_present stamp id x) (present_by stamp id stored)
  where
    by : (b : Bool) → present_in stamp id (map entry_of stored) ≡ present stamp id stored
        → map (λ (e : Entry). e.key.request) (cond b (entry_of x ∷ filter (is_present_entry stamp id) (map entry_of stored)) (filter (is_present_entry stamp id) (map entry_of stored)))
        ≡ map (λ (e : Stored). e.key.request) (cond b (x ∷ filter (is_present stamp id) stored) (filter (is_present stamp id) stored))
    by true h = ap (λ l. x.key.request ∷ l) h
    by false h = h

pub presents_are : (stamp : Option ℕ) (id : ℕ) (entries : List Entry) (stored : List Stored) → entries ≡ map entry_of stored → present_in stamp id entries ≡ present stamp id stored
presents_are stamp id entries stored is = ap (present_in stamp id) is ∙ present_by stamp id stored
