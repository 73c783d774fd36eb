-- What is known of the parts before, with one part more.
use Rattle.std.proofs.Common.{◌≡◌, ℕ, Result, Ok, Err, Bool, true, false, not, ◌&&◌, ◌||◌, Option, Some, None, refl, sym, ap, ◌∙◌}
use Rattle.std.specs.Prelude.{if◌then◌else◌}
use Rattle.std.proofs.lemmas.Bool.{true≢false}
use Rattle.viz_column.specs.Numbers.{Numbers}
use Rattle.viz_lex.specs.Reading.{Reading}
use Rattle.viz_lex.specs.Readers.{any_metadata_at}
use Rattle.viz_attr.specs.declared.types.Stored.{Stored}
use Rattle.viz_attr.specs.Picks.{Given, Head, Part, Holds, fits_pick}
use Rattle.viz_attr.specs.Steps.{Known, is_wanted, with_part, values_at, array_at, behind_part}

found_same : (fits found : Bool) → (fits && not found) ≡ false → (found || fits) ≡ found
found_same true true e = refl
found_same true false e = absurd (true≢false e)
found_same false true e = refl
found_same false false e = refl

-- an array that isn't the picked one changes nothing that is known
pub with_part-other : (g : Given) (k : Known) (head : Head) (column : Option Numbers) → is_wanted g k head ≡ false → with_part g k (Holds head column) ≡ k
with_part-other g k head column e =
    let found : (k.found || fits_pick g head) ≡ k.found = found_same (fits_pick g head) k.found e in
    rw (e, found) refl

-- an array was read
pub array-done : (g : Given) (k : Known) (head : Head) (stored : Stored) (tuples components : ℕ) (r after next : Reading) (column : Option Numbers)
    → values_at g.binary (is_wanted g k head) stored tuples components r ≡ Ok (column, after) → any_metadata_at after ≡ Ok (tt, next)
    → behind_part g k (array_at g k head stored tuples components r) ≡ Ok (with_part g k (Holds head column), next)
unfolding array_at
array-done g k head stored tuples components r after next column read passed = rw (read, passed) refl
