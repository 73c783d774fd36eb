-- The rows of a report, and their text (docs/FORMATS.md, "Report").
use Rattle.std.specs.Prelude.{◌≡◌, ℕ, zero, suc, ◌+◌, List, [], ◌∷◌, ◌++◌, length, map, flat_map}
use Rattle.std.specs.Prelude.{All, codes}
use Rattle.std.specs.Fmt.{decimal}
use Rattle.viz_report.specs.declared.line.Line.{Line}
use Rattle.viz_report.specs.declared.line.Line.TheVariants as line
use Rattle.viz_report.specs.declared.line.Row.{Row}
use Rattle.viz_report.specs.Words.{reason_text}

-- a word and a number behind it
abbrev pub and_number : List ℕ → ℕ → List ℕ
and_number word n = word ++ decimal n

-- the front of a line: its word, its actor, and the number of its command among those of the actor
abbrev pub heading : List ℕ → ℕ → ℕ → List ℕ
heading word actor count = word ++ and_number (codes " ") actor ++ and_number (codes " ") count

-- the number of entries that a line speaks of
abbrev pub at_text : ℕ → List ℕ
at_text n = and_number (codes " at ") n

-- the numbers of a written file
abbrev pub numbers_text : ℕ → ℕ → ℕ → List ℕ
numbers_text cells points ran = and_number (codes " cells ") cells
    ++ and_number (codes " points ") points ++ and_number (codes " ran ") ran

-- the numbers of an audit
abbrev pub counts_text : ℕ → ℕ → ℕ → ℕ → List ℕ
counts_text sides two lone border =
    and_number (codes " sides ") sides ++ and_number (codes " two ") two
    ++ and_number (codes " open ") lone ++ and_number (codes " border ") border

-- what stands behind the front of a line
abbrev pub behind : Line → List ℕ
behind (line.Edit at) = at_text at
behind (line.File at cells points ran) = at_text at ++ numbers_text cells points ran
behind (line.Audit at sides two lone border) = at_text at ++ counts_text sides two lone border
behind (line.Refused reason at) = codes " " ++ reason_text reason ++ at_text at
behind line.ReadFault = codes " read"
behind line.WriteFault = codes " write"
behind line.Memory = []

-- the first word of a line
abbrev pub word_of : Line → List ℕ
word_of (line.Edit at) = codes "edit"
word_of (line.File at cells points ran) = codes "file"
word_of (line.Audit at sides two lone border) = codes "audit"
word_of (line.Refused reason at) = codes "refused"
word_of line.ReadFault = codes "fault"
word_of line.WriteFault = codes "fault"
word_of line.Memory = codes "memory"

-- a line with its newline
abbrev pub line_text : ℕ → ℕ → Line → List ℕ
line_text actor count l = heading (word_of l) actor count ++ behind l ++ codes "\n"

-- ---- rows

-- a row with its newline
abbrev pub row_text : Row → List ℕ
row_text r = line_text r.actor r.count r.line

-- the text of rows
abbrev pub rows_text : List Row → List ℕ
rows_text rows = flat_map row_text rows

-- the rows of lines of an actor, the first of which has this number among its lines
abbrev pub rows_from : ℕ → ℕ → List Line → List Row
rows_from actor count [] = []
rows_from actor count
    (l ∷ ls) = record { actor = actor; count = count; line = l } ∷ rows_from actor (count + 1) ls

-- the rows of actors, from this one on, in one phase; the first line of each has a number
abbrev pub phase_rows : ℕ → List ℕ → List (List Line) → List Row
phase_rows actor (count ∷ counts) (ls ∷ lines) = rows_from actor count ls
    ++ phase_rows (actor + 1) counts lines
phase_rows actor counts lines = []

-- the numbers of the actors' first lines in the next phase
abbrev pub next_counts : List ℕ → List (List Line) → List ℕ
next_counts (count ∷ counts) (ls ∷ lines) = (count + length ls) ∷ next_counts counts lines
next_counts counts lines = []

-- each actor's lines of the first phase
abbrev pub first_phase : List (List (List Line)) → List (List Line)
first_phase [] = []
first_phase ([] ∷ actors) = [] ∷ first_phase actors
first_phase ((ls ∷ phases) ∷ actors) = ls ∷ first_phase actors

-- each actor's lines of the other phases
abbrev pub later_phases : List (List (List Line)) → List (List (List Line))
later_phases [] = []
later_phases ([] ∷ actors) = [] ∷ later_phases actors
later_phases ((ls ∷ phases) ∷ actors) = phases ∷ later_phases actors

-- the rows of so many phases
abbrev pub phases_rows : ℕ → List ℕ → List (List (List Line)) → List Row
phases_rows zero counts lines = []
phases_rows (suc phases) counts lines =
    phase_rows 1 counts (first_phase lines) ++ phases_rows phases
    (next_counts counts (first_phase lines)) (later_phases lines)

-- the rows of lines that are given by actor and phase: by phase, then by actor, then in the order
-- of the script
abbrev pub report_rows : ℕ → List (List (List Line)) → List Row
report_rows phases lines = phases_rows phases (map (λ actor. 1) lines) lines

-- their text
abbrev pub report : ℕ → List (List (List Line)) → List ℕ
report phases lines = rows_text (report_rows phases lines)

-- an actor's lines by phase are none
abbrev pub HasNoLines : List (List Line) → Type 0
HasNoLines phases = flat_map (λ ls. ls) phases ≡ []

-- where all other actors have no lines, the rows are the first one's lines through all phases,
-- numbered from 1
abbrev pub OneActorIsInOrder : Type 0
OneActorIsInOrder = (phases : List (List Line)) (others : List (List (List Line)))
    → All HasNoLines others
    → report_rows (length phases) (phases ∷ others) ≡ rows_from 1 1 (flat_map (λ ls. ls) phases)
