-- Of the text of a mesh nothing else is read.
use Rattle.std.proofs.Common.{◌≡◌, ◌≢◌, ℕ, Bool, List, [], subst}
use Rattle.viz_base.specs.declared.node.Pick.TheVariants.{First}
use Rattle.viz_dataset.specs.declared.dataset.Dataset.{Dataset}
use Rattle.viz_dataset.specs.declared.dataset.Dataset.TheVariants.{Mesh}
use Rattle.viz_lex.specs.declared.fault.FileFault.{FileFault}
use Rattle.viz_lex.specs.Rules.{IsDefinite}
use Rattle.viz_lex.proofs.DecidedLemmas.{IsDefinite-decided}
use Rattle.viz_legacy_read.specs.File.{file}
use Rattle.viz_legacy_read.specs.Reading.{front, Reads, Stops}
use Rattle.viz_legacy_read.specs.Steps.{file_at}
use Rattle.viz_legacy_read.proofs.FileLaws.{decides-file}
use Rattle.viz_sheet.specs.Sheet.{SheetData}
use Rattle.viz_mesh_write.specs.Cells.{points_of}
use Rattle.viz_mesh_write.specs.MeshText.{mesh_text}
use Rattle.viz_round_trip.specs.MeshTrip.{AreWritable, written_again}
use Rattle.viz_round_trip.proofs.AgainLemmas.{read_is-written}
use Rattle.viz_round_trip.proofs.MeshStanding.{reads-again}

one_answer : (unit : ℕ) → IsDefinite (file First unit)
one_answer unit = IsDefinite-decided (file First unit) (file_at First unit) (decides-file First unit)

pub reads-written : (later binary : Bool) (digits : ℕ) (sheets : List SheetData) → AreWritable digits sheets → points_of sheets ≢ [] → Reads (mesh_text later binary digits sheets) First digits (Mesh (written_again digits sheets))
reads-written later binary digits sheets are some =
    subst (λ (m : List SheetData). Reads (mesh_text later binary digits sheets) First digits (Mesh m)) (read_is-written digits sheets are.known) (reads-again later binary digits sheets are some)

pub reads-only : (later binary : Bool) (digits : ℕ) (sheets : List SheetData) (d : Dataset) → AreWritable digits sheets → points_of sheets ≢ [] → Reads (mesh_text later binary digits sheets) First digits d → d ≡ Mesh (written_again digits sheets)
reads-only later binary digits sheets d are some found =
    let here = reads-written later binary digits sheets are some in
    ((one_answer digits).one (front (mesh_text later binary digits sheets)) found.0 here.0 d (Mesh (written_again digits sheets)) found.1 here.1).0

pub reads-no_fault : (later binary : Bool) (digits : ℕ) (sheets : List SheetData) (fault : FileFault) → AreWritable digits sheets → points_of sheets ≢ [] → ¬ Stops (mesh_text later binary digits sheets) First digits fault
reads-no_fault later binary digits sheets fault are some stops =
    let here = reads-written later binary digits sheets are some in
    (one_answer digits).not_both (front (mesh_text later binary digits sheets)) here.0 (Mesh (written_again digits sheets)) fault here.1 stops
