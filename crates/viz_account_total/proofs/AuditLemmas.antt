-- It is decided whether a node is a contour that stands on an image.
use Rattle.std.proofs.Common.{
  ◌≡◌,
  ℕ,
  ◌⊎◌,
  Bool,
  true,
  false,
  inl,
  inr,
  List,
  Option,
  None,
  Some,
  Result,
  Ok,
  Err,
  refl,
  sym,
  subst,
  true≢false,
}
use Rattle.viz_account.specs.Audited.{
  IsAuditOf,
  IsAudited,
  IsFedFirst,
  StandsOn,
  is_contour,
  summed,
}
use Rattle.viz_dataset.specs.Images.{ImageData, IsImage}
use Rattle.viz_dataset.specs.declared.dataset.Dataset.{Dataset}
use Rattle.viz_dataset.specs.declared.dataset.Dataset.TheVariants.{Image, Mesh}
use Rattle.viz_network.specs.Cone.{Cone, Tree, cone_of, empty, fed, none}
use Rattle.viz_network.specs.History.{net_of}
use Rattle.viz_network.specs.Network.{Network}
use Rattle.viz_network.specs.declared.fault.Cause.TheVariants.{WrongInput}
use Rattle.viz_network.specs.declared.fault.Fault.{Fault}
use Rattle.viz_network.specs.declared.node.Node.{Node}
use Rattle.viz_network.proofs.TaleLemmas.{node_id}
use Rattle.viz_node_meaning.specs.Laws.{ConesGiveOne}
use Rattle.viz_node_meaning.specs.Scratch.{IsScratch, IsScratchOf}
use Rattle.viz_node_total.specs.Files.{HasBytes, OfCone, OfTree}
use Rattle.viz_node_total.specs.Laws.{
  ConesGive,
  ConesHaveBytes,
  GivenAreValid,
  HistoriesHaveBytes,
  NodesGive,
}
use Rattle.viz_sheet.specs.Sheet.{SheetData}
use Rattle.viz_surface_law.specs.Audit.{count_border, count_lone, count_sides, count_two}
use Rattle.viz_surface_law.specs.declared.audits.Counts.{Counts}
use Rattle.viz_account_total.specs.Laws.{AuditsAreGiven, HistoriesHaveAudits}
use Rattle.viz_account_total.proofs.MeshLemmas.{contour_mesh}

-- what feeds the first port gives this valid image
abbrev OnImage : (ImageData → Type 0) → Type 0
OnImage P = (image : ImageData) × P image × IsImage image

-- it gives one, or it gives none
abbrev IsOnOneOrNone : (ImageData → Type 0) → Type 0
IsOnOneOrNone P = OnImage P ⊎ ((image : ImageData) → P image → ⊥)

module _ (one : ConesGiveOne) (cones : ConesGive) (valid : GivenAreValid) where
  -- what is given is an image, or no image is
  image_or_none : (t : Tree) (r : Result Dataset Fault) → OfTree HasBytes t
      → IsScratchOf (Some t) r
      → IsOnOneOrNone (λ image. IsScratchOf (Some t) (Ok (Image image)))
  image_or_none t (Ok (Image image)) bytes is =
      inl (image, is, valid t (Image image) bytes is)
  image_or_none t (Ok (Mesh sheets)) bytes is =
      inr (λ image h.
      let same = one (Some t) (Ok (Mesh sheets)) (Ok (Image image)) is h in
      let bad : ⊥ = cc in absurd bad)
  image_or_none t (Err fault) bytes is =
      inr (λ image h.
      let same = one (Some t) (Err fault) (Ok (Image image)) is h in
      let bad : ⊥ = cc in absurd bad)

  ports_fed : (ports : Cone) → OfCone HasBytes ports
      → IsOnOneOrNone (λ image. IsFedFirst ports (Image image))
  ports_fed none bytes = inr (λ image h. absurd h)
  ports_fed (empty others) bytes = inr (λ image h. absurd h)
  ports_fed (fed n own others) bytes =
      let below : OfTree HasBytes (n, own) = (bytes.0, bytes.1) in
      let r = cones (n, own) below in
      image_or_none (n, own) r.0 below r.1

  stands : (b : Bool) (ports : Cone) → OfCone HasBytes ports
      → IsOnOneOrNone (λ image. (b ≡ true) × IsFedFirst ports (Image image))
  stands false ports bytes = inr (λ image h. absurd (true≢false (sym h.0)))
  stands true ports bytes = elim (ports_fed ports bytes) [
    | inl on ↦ inl (on.0, (refl, on.1), on.2)
    | inr off ↦ inr (λ image h. off image h.1)
  ]

  stands_of : (o : Option Tree) → ((t : Tree) → o ≡ Some t → OfTree HasBytes t)
      → IsOnOneOrNone (StandsOn o)
  stands_of None bytes = inr (λ image h. absurd h)
  stands_of (Some t) bytes = stands (is_contour t.0.settings) t.1 (bytes t refl).1

  -- the sums of counts of sheets
  abbrev sums_of : ImageData → List SheetData → Counts
  sums_of image sheets = record {
    sides = summed count_sides sheets;
    two = summed count_two sheets;
    lone = summed count_lone sheets;
    border = summed (count_border image.extent) sheets;
  }

  audited : (net : Network) (id : ℕ) (image : ImageData) (d : Dataset) → IsImage image
      → StandsOn (cone_of net id) image → IsScratch net id (Ok d)
      → (c : Counts) × IsAudited net id c
  audited net id image d sound on given =
      let made = contour_mesh (cone_of net id) image d on given in
      let sheets = made.0 in (
        sums_of image sheets,
        record {
          image = image;
          sheets = sheets;
          valid = sound;
          stands = on;
          given = subst (λ (e : Dataset). IsScratch net id (Ok e)) made.1 given;
          sums = record { sides = refl; two = refl; lone = refl; border = refl };
        },
      )

  audit_of : (net : Network) (id : ℕ) (n : Node) (r : Result Dataset Fault) → n.id.0 ≡ id
      → IsScratch net id r → IsOnOneOrNone (StandsOn (cone_of net id))
      → (c : Result Counts Fault) × IsAuditOf net id c
  audit_of net id n (Err fault) e given on = (Err fault, inl given)
  audit_of net id n (Ok d) e given (inl on) =
      let c = audited net id on.0 d on.2 on.1 given in
      (Ok c.0, c.1)
  audit_of net id n (Ok d) e given (inr off) = (
    Err (record { node = n.id; cause = WrongInput 1 }),
    inr (record {
      dataset = d;
      given = given;
      stands = off;
      node = e;
      cause = refl;
    }),
  )

  pub audits_given : NodesGive → ConesHaveBytes → AuditsAreGiven
  audits_given nodes all net id n bytes e =
      let r = nodes net id n bytes e in
      audit_of net id n r.0 (node_id net id n e) r.1
      (stands_of (cone_of net id) (λ t at. all net id t bytes at))

pub histories_have_audits : AuditsAreGiven → HistoriesHaveBytes → HistoriesHaveAudits
histories_have_audits audits bytes edits id n loads e =
    audits (net_of edits) id n (bytes edits loads) e
