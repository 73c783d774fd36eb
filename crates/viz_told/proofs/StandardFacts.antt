-- Values counted by hand, which pin the definitions: the statuses of docs/FORMATS.md, "Report", and the fixed lines.
use Rattle.std.specs.Prelude.{◌≡◌, List, [], ◌∷◌, map, length, Err, refl}
use Rattle.viz_base.specs.declared.refusal.WriteRefusal.TheVariants as writing
use Rattle.viz_told.specs.declared.status.Status.{Status}
use Rattle.viz_told.specs.declared.status.Status.TheVariants.{Done, Usage, Script, Refused, Fault, Memory}
use Rattle.viz_told.specs.Lines.{usage_line, no_port_line, read_fault_line, write_fault_line, memory_line}
use Rattle.viz_told.specs.Told.{status_after}

abbrev all : List Status
all = Done ∷ Usage ∷ Script ∷ Refused ∷ Fault ∷ Memory ∷ []

-- where the put fails the status is 4; but 1, 2 and 5 stay
failed_puts : map (λ s. status_after s (Err writing.Failed)) all ≡ Fault ∷ Usage ∷ Script ∷ Fault ∷ Fault ∷ Memory ∷ []
failed_puts = refl

-- where memory runs out at the put it is 5; but 1 stays
puts_without_room : map (λ s. status_after s (Err writing.Memory)) all ≡ Memory ∷ Usage ∷ Memory ∷ Memory ∷ Memory ∷ Memory ∷ []
puts_without_room = refl

-- how long the lines are
lengths : map length (usage_line ∷ no_port_line ∷ read_fault_line ∷ write_fault_line ∷ memory_line ∷ []) ≡ 14 ∷ 25 ∷ 11 ∷ 12 ∷ 7 ∷ []
unfolding usage_line no_port_line read_fault_line write_fault_line memory_line
lengths = refl
