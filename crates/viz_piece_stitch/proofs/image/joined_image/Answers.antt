use Rattle.std.proofs.Common.{◌≡◌, ◌-◌, ◌<◌, All, List, length, ap, subst, sym, ◌∙◌}
use Rattle.viz_column.specs.Numbers.{Numbers}
use Rattle.viz_column.specs.declared.kind.Kind8.{Kind8}
use Rattle.viz_dataset.specs.Images.{ImageData, vector_of}
use Rattle.viz_extent.specs.Extent.{Bounds, IsExtent, count_of}
use Rattle.viz_parts.specs.Stitching.{AreSlabsOf}
use Rattle.viz_parts.specs.declared.request.Part.{Part}
use Rattle.viz_piece_stitch.specs.Steps.Slabs.{HasKind, IsImageAt, IsPicture}
use Rattle.viz_piece_stitch.proofs.ImageLemmas.{IsStacked, all-images, some-parts, stacked}
use Rattle.viz_piece_stitch.proofs.image.joined_image.Goals as goal

-- the same of lists that are lent
stacked-lent : (w : ImageData) (parts front back : List Part) (first last : ImageData) → front ≡ parts → back ≡ parts → AreSlabsOf w parts → IsImageAt front 0 first
    → IsImageAt back (length back - 1) last → IsStacked w parts first last
stacked-lent w parts front back first last e f are low high =
    stacked w parts first last are (subst (λ (ps : List Part). IsImageAt ps 0 first) e low) (subst (λ (ps : List Part). IsImageAt ps (length ps - 1) last) f high)

pub first_image-first-requires-clause-some : goal.first_image-first-requires-clause-some
first_image-first-requires-clause-some c =
    subst (λ (ps : List Part). 0 < length ps) (sym c.deref.ensures.value) (some-parts c.requires.image c.args.parts.items c.requires.are)

pub first_image-first-requires-clause-images : goal.first_image-first-requires-clause-images
first_image-first-requires-clause-images c =
    subst (λ (ps : List Part). All IsPicture ps) (sym c.deref.ensures.value) (all-images c.requires.image c.args.parts.items c.requires.are)

pub last_image-requires-clause-some : goal.last_image-requires-clause-some
last_image-requires-clause-some c =
    subst (λ (ps : List Part). 0 < length ps) (sym c.deref-2.ensures.value) (some-parts c.requires.image c.args.parts.items c.requires.are)

pub last_image-requires-clause-images : goal.last_image-requires-clause-images
last_image-requires-clause-images c =
    subst (λ (ps : List Part). All IsPicture ps) (sym c.deref-2.ensures.value) (all-images c.requires.image c.args.parts.items c.requires.are)

pub joined_extent-extent-requires : goal.joined_extent-extent-requires
joined_extent-extent-requires c =
    let k = stacked-lent c.requires.image c.args.parts.items c.deref.result.now c.deref-2.result.now c.first_image-first.result.now c.last_image.result.now c.deref.ensures.value c.deref-2.ensures.value c.requires.are c.first_image-first.ensures c.last_image.ensures in
    subst IsExtent (sym k.extent) k.valid.extent

pub joined_column-requires : goal.joined_column-requires
joined_column-requires c =
    let k = stacked-lent c.requires.image c.args.parts.items c.deref.result.now c.deref-2.result.now c.first_image-first.result.now c.last_image.result.now c.deref.ensures.value c.deref-2.ensures.value c.requires.are c.first_image-first.ensures c.last_image.ensures in
    let kind : c.kind-kind.result ≡ c.requires.image.values.kind = c.kind-kind.ensures.value ∙ ap (λ (v : Numbers). v.kind) c.column.ensures.value ∙ k.kind in
    subst (λ (q : Kind8). All (HasKind q) c.args.parts.items) (sym kind) k.kinds

pub new-requires-clause-count : goal.new-requires-clause-count
new-requires-clause-count c =
    let k = stacked-lent c.requires.image c.args.parts.items c.deref.result.now c.deref-2.result.now c.first_image-first.result.now c.last_image.result.now c.deref.ensures.value c.deref-2.ensures.value c.requires.are c.first_image-first.ensures c.last_image.ensures in
    ap (λ (v : Numbers). length v.items) c.in_ok-column.ensures ∙ ap length k.items ∙ k.valid.count ∙ ap (λ (b : Bounds). count_of b) (sym (c.joined_extent-extent.ensures ∙ k.extent))

pub returns : goal.returns
returns c = λ whole are.
    let k = stacked-lent whole c.args.parts.items c.deref.result.now c.deref-2.result.now c.first_image-first.result.now c.last_image.result.now c.deref.ensures.value c.deref-2.ensures.value are c.first_image-first.ensures c.last_image.ensures in
    let extent : c.joined_extent-extent.result ≡ whole.extent = c.joined_extent-extent.ensures ∙ k.extent in
    let origin : vector_of c.origin-origin.result ≡ whole.origin = c.origin-origin.ensures.value ∙ k.origin in
    let spacing : vector_of c.spacing-spacing.result ≡ whole.spacing = c.spacing-spacing.ensures.value ∙ k.spacing in
    let kind : c.in_ok-column.column.kind ≡ whole.values.kind =
    ap (λ (v : Numbers). v.kind) (c.in_ok-column.ensures) ∙ c.kind-kind.ensures.value ∙ ap (λ (v : Numbers). v.kind) c.column.ensures.value ∙ k.kind in
    let items : c.in_ok-column.column.items ≡ whole.values.items = ap (λ (v : Numbers). v.items) c.in_ok-column.ensures ∙ k.items in
    c.new.ensures.value ∙ (λ i. record { extent = extent i; origin = origin i; spacing = spacing i; values = record { kind = kind i; items = items i } })
