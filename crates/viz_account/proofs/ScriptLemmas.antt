-- The lines of one actor through all phases.
use Rattle.std.proofs.Common.{◌≡◌, ℕ, ◌≤◌, List, [], ◌∷◌, ◌++◌, flat_map, refl, ap, subst, ◌∙◌, arith}
use Rattle.std.proofs.lemmas.Grind.{flat_map-append}
use Rattle.viz_base.specs.declared.call.Call.{Call}
use Rattle.viz_entries.specs.declared.entry.Entry.{Entry}
use Rattle.viz_script.specs.Orders.{Asked}
use Rattle.viz_report.specs.declared.line.Line.{Line}
use Rattle.viz_report.specs.declared.line.Line.TheVariants as line
use Rattle.viz_account.specs.Account.{edited, least, AreTold, ArePhases}
use Rattle.viz_account.proofs.AccountLemmas.{told_append, told_lower}

pub least_low : (low n : ℕ) (l : Line) → least low l ≤ n → low ≤ n
least_low low n (line.Edit at) a = omega (arith, a)
least_low low n (line.File at cells points ran) a = a
least_low low n (line.Audit at sides two lone border) a = a
least_low low n (line.Refused r at) a = a
least_low low n line.ReadFault a = a
least_low low n line.WriteFault a = a
least_low low n line.Memory a = a

-- the lines of all phases are told one after the other
pub phases_flat : (limit : ℕ) (h : List Entry) (ps : List ℕ) (low : ℕ) (phases : List (List Asked)) (lines : List (List Line)) (ends : List ℕ) (calls : List Call)
    → ArePhases limit h ps low phases lines ends calls → (last : ℕ) × AreTold limit h ps low (flat_map (λ os. os) phases) (flat_map (λ ls. ls) lines) calls last
phases_flat limit h ps low [] [] [] calls t = (low, (t, refl))
phases_flat limit h ps low [] [] (e ∷ ends) calls t = absurd t
phases_flat limit h ps low [] (ls ∷ lines) ends calls t = absurd t
phases_flat limit h ps low (os ∷ phases) [] ends calls t = absurd t
phases_flat limit h ps low (os ∷ phases) (ls ∷ lines) [] calls t = absurd t
phases_flat limit h ps low (os ∷ phases) (ls ∷ lines) (e ∷ ends) calls t =
    let r = phases_flat limit h ps e phases lines ends t.2 t.7 in
    let s = told_lower limit h ps t.0 e (flat_map (λ o. o) phases) (flat_map (λ l. l) lines) t.2 r.0 t.5 r.1 in
    (s.0, told_append limit h ps low os (flat_map (λ o. o) phases) ls (flat_map (λ l. l) lines) t.1 t.2 calls t.0 s.0 t.3 t.4 s.2)

pub edited_flat : (lines : List (List Line)) → flat_map edited (flat_map (λ l. l) lines) ≡ flat_map (λ ls. flat_map edited ls) lines
edited_flat [] = refl
edited_flat (ls ∷ lines) = flat_map-append edited ls (flat_map (λ l. l) lines) ∙ ap (λ t. flat_map edited ls ++ t) (edited_flat lines)

-- an actor without commands has no lines
pub no_lines : (limit : ℕ) (h : List Entry) (ps : List ℕ) (phases : List (List Asked)) (lines : List (List Line))
    (ends : List ℕ) (calls : List Call) → ArePhases limit h ps 0 phases lines ends calls → flat_map (λ os. os) phases ≡ []
    → flat_map (λ ls. ls) lines ≡ []
no_lines limit h ps phases lines ends calls t none =
    let r = phases_flat limit h ps 0 phases lines ends calls t in
    by (flat_map (λ ls. ls) lines) r.0
    (subst (λ (os : List Asked). AreTold limit h ps 0 os (flat_map (λ ls. ls) lines) calls r.0) none r.1)
  where
    by : (ls : List Line) (last : ℕ) → AreTold limit h ps 0 [] ls calls last → ls ≡ []
    by [] last s = refl
    by (l ∷ ls) last s = absurd s
