-- What the public calls promise of attribute parts (docs/FORMATS-OF-FILES.md, "Attribute parts").
use Rattle.std.specs.Prelude.{◌≡◌, ◌↔◌, ◌*◌, not, length, IfSome, ℕ, Bool, true, false, List, ◌∷◌}
use Rattle.std.specs.Prelude.{◌++◌, Option, Some, None, Result, Ok, Err}
use Rattle.viz_column.specs.Numbers.{Numbers}
use Rattle.viz_lex.specs.Reading.{Reading}
use Rattle.viz_lex.specs.Steps.{has}
use Rattle.viz_lex.specs.Rules.{Rule, ◌>>=◌}
use Rattle.viz_lex.specs.Items.{words, line_end, block}
use Rattle.viz_attr.specs.declared.types.Stored.{Stored}
use Rattle.viz_attr.specs.declared.stop.AttrStop.{AttrStop}
use Rattle.viz_attr.specs.declared.stop.AttrStop.TheVariants.{File, Memory}
use Rattle.viz_attr.specs.Types.{bytes_of}
use Rattle.viz_attr.specs.Picks.{Given, Head, Part, Holds, is_picked}
use Rattle.viz_attr.specs.Values.{values}
use Rattle.viz_attr.specs.Grammar.{joined, parts, is_zero}

-- a call gave what stands there by a rule, or the fault that is met by it, or memory ran out
abbrev pub Meets : {V : Type 0} → Rule V → Result V AttrStop → Reading → Reading → Type 0
Meets rule (Ok x) old new = rule.is old new x
Meets rule (Err (File fault)) old new = rule.isnt old fault
Meets rule (Err Memory) old new = Unit {0}

-- numbers are kept of an array exactly where it is the first that fits the pick
abbrev pub KeepsTheFirst : Given → List (List Part) → Type 0
KeepsTheFirst g all = (front back : List Part) (head : Head) (column : Option Numbers)
    → joined all ≡ front ++ Holds head column ∷ back → has column ≡ is_picked g front head

-- the picked numbers are one for each point, and there are some exactly where an array is asked for
pub record IsPicked (g : Given) (column : Option Numbers) : Type 0 where
  pub sized : IfSome column (λ n. length n.items ≡ g.points)
  pub asked : has column ≡ not (is_zero g.pick)

-- in ASCII an array that isn't picked is so many words, whatever they are
abbrev pub AreWordsAlone : Stored → ℕ → ℕ → Type 0
AreWordsAlone stored tuples components =
    (old new : Reading) (column : Option Numbers)
    → (values false false stored tuples components).is old new column
    ↔ ((words (tuples * components)).is old new tt × (column ≡ None))

-- in BINARY it is so many bytes behind the end of the line
abbrev pub AreBytesAlone : Stored → ℕ → ℕ → Type 0
AreBytesAlone stored tuples components =
    (old new : Reading) (column : Option Numbers)
    → (values true false stored tuples components).is old new column
    ↔ (((bytes : List ℕ)
    × (line_end >>= λ ended. block (tuples * components * bytes_of stored)).is old new bytes)
    × (column ≡ None))
