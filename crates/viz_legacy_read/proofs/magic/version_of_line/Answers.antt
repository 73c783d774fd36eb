use Rattle.std.proofs.Common.{◌≡◌, true, sym, ap, ◌∙◌, drop, ℕ, List, Option, Some, None}
use Rattle.std.specs.Prelude.{Bool, ◌&&◌, nat_eq, if◌then◌else◌}
use Rattle.std.specs.List.{starts_with}
use Rattle.std.proofs.lemmas.List.{take_rest}
use Rattle.viz_legacy_read.specs.Magic.{magic, is_version, is_later}
use Rattle.viz_legacy_read.proofs.magic.version_of_line.Goals as goal

abbrev told : Bool → List ℕ → Option Bool
told is text = if is then Some (is_later text) else None

pub returns-then-starts_with : goal.returns-then-starts_with
returns-then-starts_with c =
    let line = c.args.line.now in
    let behind = drop 23 line in
    let begins : starts_with nat_eq line magic ≡ true = sym c.starts_with.ensures.value ∙ c.if-starts_with.true in
    c.version.ensures ∙ ap (λ (text : List ℕ). told (is_version text) text) (take_rest line 23) ∙ sym (ap (λ (b : Bool). told (b && is_version behind) behind) begins)
