-- The whole script of docs/FORMATS-OF-SCRIPTS.md, "Scripts": its plain spelling, and the steps that
-- its lines say.
use Rattle.std.proofs.Common.{◌≡◌, ℕ, pos, List, [], ◌∷◌, replicate, refl}
use Rattle.std.specs.Prelude.{codes}
use Rattle.std.specs.Fmt.{digits}
use Rattle.viz_kinds.specs.declared.kind.Kind.TheVariants as kind
use Rattle.viz_kinds.specs.declared.param.Param.TheVariants as param
use Rattle.viz_kinds.specs.declared.param.Value.TheVariants.{Numbers}
use Rattle.viz_network.specs.declared.edit.Edit.TheVariants as change
use Rattle.viz_script.specs.Orders.{Asked, edit, edits, load, update}
use Rattle.viz_script.specs.Lines.{Line, silent, begins_phase, begins_batch, ends_batch, asks}
use Rattle.viz_script.specs.Script.{Stepped, steps_of}
use Rattle.viz_script_law.specs.Tokens.{plain_script}

abbrev add_src : Asked
add_src = edit (change.Add kind.File (codes "src"))

abbrev load_src : Asked
load_src = load (codes "src") (codes "c.vtk")

abbrev add_iso : Asked
add_iso = edit (change.Add kind.Contour (codes "iso"))

abbrev connect_iso : Asked
connect_iso = edit (change.Connect (codes "src") (codes "iso") 1)

abbrev set_iso : Asked
set_iso = edit (change.Set (codes "iso") param.Levels (Numbers 1 (pos 5 ∷ replicate 7 (pos 0))))

abbrev update_iso : Asked
update_iso = update (codes "iso") (codes "one.vtk") 1 1

abbrev lines : List Line
lines = silent ∷ asks 1 add_src ∷ asks 1 load_src ∷ asks 1 add_iso ∷ asks 1 connect_iso ∷ asks 1 set_iso ∷ begins_phase ∷ asks 2 update_iso ∷ []

its_text : plain_script lines
    ≡ codes "\n1 add file src\n1 load src c.vtk\n1 add contour iso\n1 connect src iso 1\n1 set iso levels 5\nphase\n2 update iso one.vtk 1 1\n"
unfolding digits
its_text = refl

abbrev step : ℕ → ℕ → ℕ → Asked → Stepped
step phase actor line asked = record { phase = phase; actor = actor; line = line; asked = asked }

its_steps : steps_of lines ≡ step 1 1 2 add_src ∷ step 1 1 3 load_src ∷ step 1 1 4 add_iso ∷ step 1 1 5 connect_iso ∷ step 1 1 6 set_iso ∷ step 2 2 8 update_iso ∷ []
its_steps = refl

-- ---- two actors, whose batches overlap: each is one step, where it begins

abbrev both : List Line
both = begins_batch 1 ∷ asks 1 add_iso ∷ begins_batch 2 ∷ asks 2 add_src ∷ asks 3 load_src ∷ ends_batch 2 ∷ asks 1 connect_iso ∷ ends_batch 1 ∷ []

their_text : plain_script both
    ≡ codes "1 begin\n1 add contour iso\n2 begin\n2 add file src\n3 load src c.vtk\n2 end\n1 connect src iso 1\n1 end\n"
unfolding digits
their_text = refl

abbrev two : Asked
two = edits (change.Add kind.Contour (codes "iso") ∷ change.Connect (codes "src") (codes "iso") 1 ∷ [])

abbrev one : Asked
one = edits (change.Add kind.File (codes "src") ∷ [])

their_steps : steps_of both ≡ step 1 1 1 two ∷ step 1 2 3 one ∷ step 1 3 5 load_src ∷ []
their_steps = refl
