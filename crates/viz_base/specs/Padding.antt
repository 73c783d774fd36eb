-- A name is kept in 64 bytes, and is given back by its bytes alone.
use Rattle.std.specs.Prelude.{◌≡◌, ℕ, ◌-◌, ◌≤◌, List, ◌++◌, length, take, replicate}
use Rattle.std.proofs.Common.{arith, ap, sym, ◌∙◌}
use Rattle.std.proofs.lemmas.List.{length-take-le, take-append-drop}
use Rattle.viz_base.specs.declared.word.Word.TheInside.{Inside}
use Rattle.viz_base.specs.Names.{IsPadded}

-- the fields that keep a name
abbrev pub padded : List ℕ → Inside
padded name = record { len = length name; bytes = name ++ replicate (64 - length name) 0 }

pub padded-take : (a : Inside) → IsPadded a.len a.bytes → padded (take a.len a.bytes) ≡ a
padded-take a h =
    let long : a.len ≤ length a.bytes = omega arith in
    let same : length (take a.len a.bytes) ≡ a.len = length-take-le a.len a.bytes long in
    let whole : take a.len a.bytes ++ replicate (64 - a.len) 0
    ≡ a.bytes = ap (λ (zeros : List ℕ). take a.len a.bytes ++ zeros)
    (sym h.padding) ∙ take-append-drop a.len a.bytes in
    let made : ℕ × List ℕ → Inside = λ (p : ℕ × List ℕ). record { len = p.0; bytes = p.1 } in
    let pairs : (
      length (take a.len a.bytes),
      take a.len a.bytes
          ++ replicate (64 - length (take a.len a.bytes)) 0,
    ) ≡ (a.len, a.bytes) = rw same (cc) in
    ap made pairs
