-- A script: bytes that spell lines which a script can have (docs/FORMATS-OF-SCRIPTS.md, "Scripts").
use Rattle.std.specs.Prelude.{ℕ, ◌≤◌, List, length}
use Rattle.std.specs.List.{AllZip}
use Rattle.viz_script.specs.Lines.{Line}
use Rattle.viz_script.specs.Script.{byte_limit}
use Rattle.viz_script_law.specs.Spelling.{SpellsLine, AreLines}
use Rattle.viz_script_law.specs.Fits.{FitsScript}

-- the bytes are a script of these lines, for so many actors
pub record SpellsScript (actors : ℕ) (lines : List Line) (bytes : List ℕ) : Type 0 where
  pub texts : List (List ℕ)
  pub parts : AreLines texts bytes
  pub spelled : AllZip SpellsLine lines texts
  pub fits : FitsScript actors lines
  pub short : length bytes ≤ byte_limit
