-- A file that is read has the information that its header gives.
use Rattle.std.proofs.Common.{ℕ, List, Some, Ok, refl, sym, ap, subst, ◌∙◌}
use Rattle.viz_base.specs.declared.node.Pick.{Pick}
use Rattle.viz_dataset.specs.Images.{ImageData}
use Rattle.viz_dataset.specs.declared.dataset.Dataset.{Dataset}
use Rattle.viz_dataset.specs.declared.dataset.Dataset.TheVariants.{Image}
use Rattle.viz_legacy_read.specs.File.{contents}
use Rattle.viz_legacy_read.specs.Header.{Heading, header}
use Rattle.viz_legacy_read.specs.Header.Heading.{OfImage as ImageHead, OfMesh as MeshHead}
use Rattle.viz_legacy_read.specs.Reading.{Reads, front}
use Rattle.viz_lex.specs.Reading.{Reading}
use Rattle.viz_node_meaning.specs.Information.{IsHeaderOf, information_of}

contents_told : (pick : Pick) (unit : ℕ) (bytes : List ℕ) (h : Heading) (mid behind : Reading)
    (d : Dataset) → header.is (front bytes) mid h → (contents pick unit h).is mid behind d
    → IsHeaderOf (Some bytes) (Ok (information_of d))
contents_told pick unit bytes (ImageHead h) mid behind d is c =
    let same = c.3.1 ∙ ap (λ (i : ImageData). Image i) c.2.3.1 in
    subst (λ (e : Dataset). IsHeaderOf (Some bytes) (Ok (information_of e))) (sym same)
    (h, (mid, is), refl)
contents_told pick unit bytes (MeshHead p) mid behind d is c =
    subst (λ (e : Dataset). IsHeaderOf (Some bytes) (Ok (information_of e))) (sym c.3.1)
    (p, (mid, is))

pub file_told : (pick : Pick) (unit : ℕ) (bytes : List ℕ) (d : Dataset)
    → Reads bytes pick unit d → IsHeaderOf (Some bytes) (Ok (information_of d))
file_told pick unit bytes d h =
    contents_told pick unit bytes h.1.0 h.1.1 h.0 d h.1.2 h.1.3
