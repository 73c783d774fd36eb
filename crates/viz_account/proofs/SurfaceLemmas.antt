-- Audits are closed, and are one.
use Rattle.std.proofs.Common.{◌≡◌, ℕ, ◌+◌, inl, inr, ℤ, List, Some, Result, Ok, Err, sym, ap, subst, ◌∙◌, arith}
use Rattle.std.specs.List.{All}
use Rattle.viz_base.specs.declared.node.NodeId.{NodeId}
use Rattle.viz_extent.specs.Extent.{Bounds}
use Rattle.viz_dataset.specs.Images.{ImageData}
use Rattle.viz_dataset.specs.declared.dataset.Dataset.{Dataset}
use Rattle.viz_dataset.specs.declared.dataset.Dataset.TheVariants.{Image, Mesh}
use Rattle.viz_sheet.specs.Sheet.{SheetData}
use Rattle.viz_network.specs.declared.fault.Cause.{Cause}
use Rattle.viz_network.specs.declared.fault.Fault.{Fault}
use Rattle.viz_network.specs.Network.{Network}
use Rattle.viz_network.specs.Cone.{cone_of}
use Rattle.viz_surface_law.specs.declared.audits.Counts.{Counts}
use Rattle.viz_surface_law.specs.Audit.{count_sides, count_two, count_lone, count_border}
use Rattle.viz_surface_law.specs.Surfaces.{IsSurface}
use Rattle.viz_surface_law.specs.Contours.{ContoursAreSurfaces, ContoursAreClosed, ContourSidesAddUp, LoneSidesAreBorders}
use Rattle.viz_node_meaning.specs.Scratch.{IsScratch}
use Rattle.viz_node_meaning.specs.Laws.{ConesGiveOne}
use Rattle.viz_account.specs.Audited.{StandsOn, summed, AreSums, IsAudited, HasNoSurface, IsAuditOf}
use Rattle.viz_account.specs.SurfaceLaws.{AuditsAreClosed, AuditsAreOne, SurfacesAreClosed}
use Rattle.viz_account.specs.Steps.Ground.{IsGround}
use Rattle.viz_account.proofs.ContourLemmas.{contours_of, contours_given, stands_one, are_surfaces, ClosedIn, are_closed, lone_sum, sides_sum}

module _ (cones : ConesGiveOne) where
  -- the sheets of an audit are contours of its image
  sheets_are : (net : Network) (id : ℕ) (image : ImageData) (sheets : List SheetData) → StandsOn (cone_of net id) image → IsScratch net id (Ok (Mesh sheets))
      → (levels : List ℤ) × (sheets ≡ contours_of levels image)
  sheets_are net id image sheets stands given =
      let made = contours_given cones (cone_of net id) image (Mesh sheets) stands given in
      (made.0, (let same = made.1 in let e : sheets ≡ contours_of made.0 image = cc in e))

  pub audits_are_closed : ContourSidesAddUp → LoneSidesAreBorders → AuditsAreClosed
  audits_are_closed sides lone net id c a =
      let made = sheets_are net id a.image a.sheets a.stands a.given in
      let image = a.image in
      let add : summed count_sides a.sheets ≡ summed count_two a.sheets + summed (count_border image.extent) a.sheets =
      subst (λ s. summed count_sides s ≡ summed count_two s + summed (count_border image.extent) s) (sym made.1) (sides_sum sides made.0 image a.valid) in
      let borders : summed count_lone a.sheets ≡ summed (count_border image.extent) a.sheets =
      subst (λ s. summed count_lone s ≡ summed (count_border image.extent) s) (sym made.1) (lone_sum lone made.0 image a.valid) in
      record {
        sides = (let e : c.sides ≡ c.two + c.lone = omega (arith, add, borders, a.sums.sides, a.sums.two, a.sums.lone) in e);
        lone = a.sums.lone ∙ borders ∙ sym a.sums.border;
      }

  -- each sheet by itself
  pub surfaces_are_closed : ContoursAreClosed → SurfacesAreClosed
  surfaces_are_closed law net id image sheets valid stands given =
      let made = sheets_are net id image sheets stands given in
      subst (All (ClosedIn image)) (sym made.1) (are_closed law made.0 image valid)

  -- an audit may take the sheets that a node gives
  pub may_audit : ContoursAreSurfaces → (net : Network) (id : ℕ) (whole : Bounds) (sheets : List SheetData) → IsGround net id (Some whole)
      → IsScratch net id (Ok (Mesh sheets)) → All (IsSurface whole) sheets
  may_audit law net id whole sheets g given =
      let made = sheets_are net id g.0 sheets g.2 given in
      subst (λ b. All (IsSurface b) sheets) (sym g.3) (subst (All (IsSurface g.0.extent)) (sym made.1) (are_surfaces law made.0 g.0 g.1))

  -- the counts that were summed are those of the node
  pub is_audited : (net : Network) (id : ℕ) (whole : Bounds) (sheets : List SheetData) (c : Counts) → IsGround net id (Some whole)
      → IsScratch net id (Ok (Mesh sheets)) → AreSums whole sheets c → IsAudited net id c
  is_audited net id whole sheets c g given sums =
      record { image = g.0; sheets = sheets; valid = g.1; stands = g.2; given = given; sums = subst (λ b. AreSums b sheets c) g.3 sums }

  -- a node that gives an image has no surface
  pub gives_image : (net : Network) (id : ℕ) (i : ImageData) → IsScratch net id (Ok (Image i)) → (image : ImageData) → StandsOn (cone_of net id) image → ⊥
  gives_image net id i given image stands =
      let made = (contours_given cones (cone_of net id) image (Image i) stands given).1 in
      let bad : ⊥ = cc in bad

  -- ---- one audit

  same_given : (net : Network) (id : ℕ) (a b : Result Dataset Fault) → IsScratch net id a → IsScratch net id b → a ≡ b
  same_given net id a b p q = cones (cone_of net id) a b p q

  fault_one : (net : Network) (id : ℕ) (x y : Fault) → HasNoSurface net id x → HasNoSurface net id y → x ≡ y
  fault_one net id x y p q =
      let made : ℕ → NodeId = λ i. record { 0 = i } in
      let node : x.node ≡ y.node = ap made (p.node ∙ sym q.node) in
      let fault : NodeId → Cause → Fault = λ n c. record { node = n; cause = c } in
      ap (λ n. fault n x.cause) node ∙ ap (λ c. fault y.node c) (p.cause ∙ sym q.cause)

  counts_one : (net : Network) (id : ℕ) (a b : Counts) → IsAudited net id a → IsAudited net id b → a ≡ b
  counts_one net id a b p q =
      let image : p.image ≡ q.image = stands_one cones (cone_of net id) p.image q.image p.stands q.stands in
      let sheets : p.sheets ≡ q.sheets =
      (let same = same_given net id (Ok (Mesh p.sheets)) (Ok (Mesh q.sheets)) p.given q.given in let e : p.sheets ≡ q.sheets = cc in e) in
      let counts : ℕ → ℕ → ℕ → ℕ → Counts = λ s t l d. record { sides = s; two = t; lone = l; border = d } in
      let sides : a.sides ≡ b.sides = p.sums.sides ∙ ap (summed count_sides) sheets ∙ sym q.sums.sides in
      let two : a.two ≡ b.two = p.sums.two ∙ ap (summed count_two) sheets ∙ sym q.sums.two in
      let lone : a.lone ≡ b.lone = p.sums.lone ∙ ap (summed count_lone) sheets ∙ sym q.sums.lone in
      let border : a.border ≡ b.border =
      p.sums.border ∙ ap (summed (count_border p.image.extent)) sheets ∙ ap (λ i. summed (count_border i.extent) q.sheets) image ∙ sym q.sums.border in
      λ t. counts (sides t) (two t) (lone t) (border t)

  -- counts and a fault don't stand together
  counts_or_fault : (net : Network) (id : ℕ) (c : Counts) (f : Fault) → IsAudited net id c → IsAuditOf net id (Err f) → ⊥
  counts_or_fault net id c f p (inl q) = let same = same_given net id (Ok (Mesh p.sheets)) (Err f) p.given q in let bad : ⊥ = cc in bad
  counts_or_fault net id c f p (inr q) = q.stands p.image p.stands

  faults_one : (net : Network) (id : ℕ) (f g : Fault) → IsAuditOf net id (Err f) → IsAuditOf net id (Err g) → f ≡ g
  faults_one net id f g (inl p) (inl q) = let same = same_given net id (Err f) (Err g) p q in let e : f ≡ g = cc in e
  faults_one net id f g (inl p) (inr q) = let same = same_given net id (Err f) (Ok q.dataset) p q.given in let bad : ⊥ = cc in absurd bad
  faults_one net id f g (inr p) (inl q) = let same = same_given net id (Ok p.dataset) (Err g) p.given q in let bad : ⊥ = cc in absurd bad
  faults_one net id f g (inr p) (inr q) = fault_one net id f g p q

  pub audits_are_one : AuditsAreOne
  audits_are_one net id (Ok a) (Ok b) p q = ap (λ z. Ok z) (counts_one net id a b p q)
  audits_are_one net id (Ok a) (Err f) p q = absurd (counts_or_fault net id a f p q)
  audits_are_one net id (Err f) (Ok b) p q = absurd (counts_or_fault net id b f q p)
  audits_are_one net id (Err f) (Err g) p q = ap (λ z. Err z) (faults_one net id f g p q)
