-- Requests to a writer reach what feeds its only port.
use Rattle.std.proofs.Common.{◌≡◌, ℕ, Bool, true, false, [], ◌++◌, append-nil, Option, refl, sym, ap, ◌∙◌}
use Rattle.viz_dataset.specs.declared.dataset.Dataset.{Dataset}
use Rattle.viz_kinds.specs.Kinds.{ports_of}
use Rattle.viz_kinds.specs.Settings.{kind_of}
use Rattle.viz_kinds.specs.declared.settings.Settings.{Settings}
use Rattle.viz_kinds.specs.declared.settings.Settings.TheVariants as settings
use Rattle.viz_network.specs.Cone.{Cone, none, empty, fed}
use Rattle.viz_network.specs.declared.node.Node.{Node}
use Rattle.viz_node_narrow.specs.Nodes.{IsNarrowAt, IsNarrowOf}
use Rattle.viz_parts.specs.declared.request.Request.{Request}
use Rattle.viz_plan_law.proofs.PortLemmas.{AreFirst}
use Rattle.viz_plan_meaning.specs.Networks.{passed, passes, way_of, ways}
use Rattle.viz_plan_meaning.specs.Plan.{
  Upstream,
  empty as no_node,
  fed as way,
  met,
  needs,
  none as no_way,
}

-- ---- writers

pub writer_first : (s : Settings) (own : Cone) → passes s ≡ true
    → AreFirst (ports_of (kind_of s)) own → AreFirst 1 own
writer_first (settings.Writer binary digits version) own e h = h
writer_first (settings.File array unit) own e h = let bad : ⊥ = cc in absurd bad
writer_first (settings.Crop x0 x1 y0 y1 z0 z1) own e h = let bad : ⊥ = cc in absurd bad
writer_first (settings.Sample x y z) own e h = let bad : ⊥ = cc in absurd bad
writer_first (settings.Threshold lo hi) own e h = let bad : ⊥ = cc in absurd bad
writer_first (settings.Smooth radius) own e h = let bad : ⊥ = cc in absurd bad
writer_first (settings.Arith op) own e h = let bad : ⊥ = cc in absurd bad
writer_first settings.Tets own e h = let bad : ⊥ = cc in absurd bad
writer_first (settings.Select lo hi all) own e h = let bad : ⊥ = cc in absurd bad
writer_first (settings.Contour count levels) own e h = let bad : ⊥ = cc in absurd bad
writer_first (settings.Cut a b c r) own e h = let bad : ⊥ = cc in absurd bad
writer_first settings.Append own e h = let bad : ⊥ = cc in absurd bad
writer_first settings.Boundary own e h = let bad : ⊥ = cc in absurd bad
writer_first settings.Merge own e h = let bad : ⊥ = cc in absurd bad

no_section : (s : Settings) (port : Option Dataset) → passes s ≡ true → IsNarrowOf s port
no_section (settings.Writer binary digits version) port e = tt
no_section (settings.Contour count levels) port e = let bad : ⊥ = cc in absurd bad
no_section (settings.Cut a b c r) port e = let bad : ⊥ = cc in absurd bad
no_section (settings.File array unit) port e = tt
no_section (settings.Crop x0 x1 y0 y1 z0 z1) port e = tt
no_section (settings.Sample x y z) port e = tt
no_section (settings.Threshold lo hi) port e = tt
no_section (settings.Smooth radius) port e = tt
no_section (settings.Arith op) port e = tt
no_section settings.Tets port e = tt
no_section (settings.Select lo hi all) port e = tt
no_section settings.Append port e = tt
no_section settings.Boundary port e = tt
no_section settings.Merge port e = tt

pub writer_narrow : (n : Node) (own : Cone) → passes n.settings ≡ true → IsNarrowAt n own
writer_narrow n own e = record { each = λ inputs g. no_section n.settings _ e }

-- ---- ways

-- all ports but the first
abbrev rest : Upstream → Upstream
rest no_way = no_way
rest (no_node c) = c
rest (way m own c) = c

rest_passed : (u v : Upstream) → rest (passed u v) ≡ v
rest_passed no_way v = refl
rest_passed (no_node c) v = refl
rest_passed (way m own c) v = refl

rest_way : (b : Bool) (id : ℕ) (u v : Upstream) → rest (way_of b id u v) ≡ v
rest_way true id u v = rest_passed u v
rest_way false id u v = refl

module _ {P : Type 0} (kept : ℕ → Request → Option (Request × P))
    (widen asks : ℕ → Request → Request) where
  -- ports that aren't fed need nothing
  no_needs : (c : Cone) → AreFirst 0 c → (q : Request) → needs kept widen asks (ways c) q ≡ []
  no_needs none h q = refl
  no_needs (empty others) h q = no_needs others h q
  no_needs (fed n own others) h q = absurd h

  -- only the first port needs something
  pub record NeedsFirst (u : Upstream) : Type 0 where
    pub none : (q : Request) → needs kept widen asks (rest u) q ≡ []

  pub first_needs : (c : Cone) → AreFirst 1 c → NeedsFirst (ways c)
  first_needs none h = record { none = λ q. refl }
  first_needs (empty others) h = record { none = no_needs others h }
  first_needs (fed n own others) h = record {
    none = λ q.
        ap (λ u. needs kept widen asks u q)
        (rest_way (passes n.settings) n.id.0 (ways own) (ways others))
        ∙ no_needs others h q;
  }

  pub passed_needs : (u v : Upstream) → NeedsFirst u → (q : Request)
      → needs kept widen asks (passed u v) q
      ≡ needs kept widen asks u q ++ needs kept widen asks v q
  passed_needs no_way v h q = refl
  passed_needs (no_node c) v h q =
      ap (λ xs. xs ++ needs kept widen asks v q) (sym (h.none q))
  passed_needs (way m own c) v h q =
      let here = met kept widen asks (kept m (widen m q)) m (widen m q)
      (needs kept widen asks own) in
      ap (λ xs. xs ++ needs kept widen asks v q)
      (sym (append-nil here) ∙ ap (λ xs. here ++ xs) (sym (h.none q)))
