-- Reading sections one after the other, as a loop does.
use Rattle.std.proofs.Common.{◌≡◌, ℕ, suc, ◌-◌, ◌+◌, ◌≤◌, ◌<◌, Bool, true, false, List, Result, Ok, Err, refl, sym, ◌∙◌, arith}
use Rattle.viz_lex.specs.declared.fault.FileFault.{FileFault}
use Rattle.viz_lex.specs.Reading.{Reading}
use Rattle.viz_attr.specs.declared.stop.AttrStop.{AttrStop}
use Rattle.viz_attr.specs.declared.stop.AttrStop.TheVariants.{File, Memory}
use Rattle.viz_attr.specs.Reads.{Stops}
use Rattle.viz_mesh_read.specs.declared.poly.SectionKind.{SectionKind}
use Rattle.viz_mesh_read.specs.declared.poly.Seen.{Seen}
use Rattle.viz_mesh_read.specs.Poly.{ByKind, with_kind, seen_with, is_due}
use Rattle.viz_mesh_read.specs.GridSteps.{fields_at}
use Rattle.viz_mesh_read.specs.PolySteps.{kind_at, sections_at}

-- what was read of all sections
abbrev pub Sectioned : Type 0
Sectioned = Result (ByKind (ℕ × List ℕ) × Reading) FileFault

pub sections-on : (binary later : Bool) (points most i : ℕ) (seen seen_then : Seen) (all all_then : ByKind (ℕ × List ℕ)) (kind : SectionKind) (cells : ℕ × List ℕ) (r mid after : Reading) (total : Sectioned) → i < most
    → fields_at binary r ≡ Ok (tt, mid) → is_due seen mid ≡ true → kind_at binary later points mid ≡ Ok ((kind, cells), after) → seen_then ≡ seen_with seen kind → all_then ≡ with_kind all kind cells
    → sections_at binary later points (most - i) seen all r ≡ total → sections_at binary later points (most - (i + 1)) seen_then all_then after ≡ total
unfolding sections_at
sections-on binary later points most i seen seen_then all all_then kind cells r mid after total lt passed due h s a so_far =
    let n : most - i ≡ suc (most - (i + 1)) = omega arith in
    let one : sections_at binary later points (most - i) seen all r ≡ sections_at binary later points (most - (i + 1)) (seen_with seen kind) (with_kind all kind cells) after = rw (n, passed, due, h) refl in
    rw (s, a) (sym one ∙ so_far)

pub sections-end : (binary later : Bool) (points most i : ℕ) (seen : Seen) (all : ByKind (ℕ × List ℕ)) (r mid : Reading) (total : Sectioned) → i < most
    → fields_at binary r ≡ Ok (tt, mid) → is_due seen mid ≡ false → sections_at binary later points (most - i) seen all r ≡ total → total ≡ Ok (all, mid)
unfolding sections_at
sections-end binary later points most i seen all r mid total lt passed due so_far =
    let n : most - i ≡ suc (most - (i + 1)) = omega arith in
    let one : sections_at binary later points (most - i) seen all r ≡ Ok (all, mid) = rw (n, passed, due) refl in
    sym so_far ∙ one

pub sections-fault : (binary later : Bool) (points : ℕ) (stop : AttrStop) (fault : FileFault) (most i : ℕ) (seen : Seen) (all : ByKind (ℕ × List ℕ)) (r : Reading) (total : Sectioned) → i < most → stop ≡ File fault
    → fields_at binary r ≡ Err fault → sections_at binary later points (most - i) seen all r ≡ total → Stops stop total
unfolding sections_at
sections-fault binary later points stop fault most i seen all r total lt is h so_far =
    let n : most - i ≡ suc (most - (i + 1)) = omega arith in
    let one : sections_at binary later points (most - i) seen all r ≡ Err fault = rw (n, h) refl in
    let whole : total ≡ Err fault = sym so_far ∙ one in
    rw is whole

pub sections-stop : (binary later : Bool) (points : ℕ) (stop : AttrStop) (most i : ℕ) (seen : Seen) (all : ByKind (ℕ × List ℕ)) (r mid : Reading) (total : Sectioned) → i < most
    → fields_at binary r ≡ Ok (tt, mid) → is_due seen mid ≡ true → Stops stop (kind_at binary later points mid) → sections_at binary later points (most - i) seen all r ≡ total → Stops stop total
unfolding sections_at
sections-stop binary later points (File fault) most i seen all r mid total lt passed due h so_far =
    let n : most - i ≡ suc (most - (i + 1)) = omega arith in
    let one : sections_at binary later points (most - i) seen all r ≡ Err fault = rw (n, passed, due, h) refl in
    sym so_far ∙ one
sections-stop binary later points Memory most i seen all r mid total lt passed due h so_far = tt

pub sections-done : (binary later : Bool) (points most i : ℕ) (seen : Seen) (all : ByKind (ℕ × List ℕ)) (r : Reading) (total : Sectioned) → most ≤ i → sections_at binary later points (most - i) seen all r ≡ total → total ≡ Ok (all, r)
unfolding sections_at
sections-done binary later points most i seen all r total le so_far =
    let n : most - i ≡ 0 = omega arith in
    let one : sections_at binary later points (most - i) seen all r ≡ Ok (all, r) = rw n refl in
    sym so_far ∙ one
