-- What the lines of audits tell, and that it is closed up to the boundary.
use Rattle.std.proofs.Common.{◌≡◌, ℕ, List, [], ◌∷◌, flat_map, Some, Err, refl, sym, ap, subst, ◌∙◌}
use Rattle.std.specs.List.{All}
use Rattle.std.proofs.lemmas.List.Elements.{All-nil, All-cons, All-append}
use Rattle.viz_base.specs.declared.call.Call.{Call}
use Rattle.viz_base.specs.declared.port.Port as port
use Rattle.viz_network.specs.declared.fault.Stop.{Stop}
use Rattle.viz_network.specs.declared.fault.Stop.TheVariants as stop
use Rattle.viz_network.specs.declared.node.Node.{Node}
use Rattle.viz_network.specs.Network.{Network, named, name_of}
use Rattle.viz_entries.specs.declared.entry.Entry.{Entry}
use Rattle.viz_script.specs.Orders.{Asked, edit, edits, load, update, audit}
use Rattle.viz_node_meaning.specs.Scratch.{Answers}
use Rattle.viz_account.specs.Audited.{IsAuditOf}
use Rattle.viz_account.specs.SurfaceLaws.{AuditsAreClosed}
use Rattle.viz_report.specs.declared.line.Line.{Line}
use Rattle.viz_report.specs.declared.line.Line.TheVariants as line
use Rattle.viz_account.specs.declared.answer.Missing.{Missing}
use Rattle.viz_account.specs.declared.answer.Missing.TheVariants as missing
use Rattle.viz_account.specs.Answers.{audit_line_of, audit_without}
use Rattle.viz_account.specs.Lines.{network_at, TellsAudit, Tells}
use Rattle.viz_account.specs.Account.{AreTold, ArePhases, AreActors}
use Rattle.viz_account.specs.Laws.{IsClosedLine, AuditLinesAreClosed}
use Rattle.viz_account.specs.Steps.Made.{IsStop}

-- the line without counts tells of the audit
pub stopped_audit : (net : Network) (n : ℕ) (node : List ℕ) (x : Node) (s : Stop) (m : Missing) → named net node ≡ Some x → Answers (IsAuditOf net x.id.0) (Err s) → IsStop net s m
    → TellsAudit net n node (audit_line_of (audit_without m n))
stopped_audit net n node x (stop.Fault f) (missing.Fault g name) there made t =
    (refl, (x, there, subst (λ e. IsAuditOf net x.id.0 (Err e)) (sym t.0) made), ap (λ e. name_of net e.node.0) t.0 ∙ t.1)
stopped_audit net n node x (stop.Fault f) missing.Unknown there made t = absurd t
stopped_audit net n node x (stop.Fault f) missing.Memory there made t = tt
stopped_audit net n node x stop.Memory (missing.Fault g name) there made t = absurd t
stopped_audit net n node x stop.Memory missing.Unknown there made t = absurd t
stopped_audit net n node x stop.Memory missing.Memory there made t = tt

-- a line without counts tells of no side
pub without_closed : (m : Missing) (n : ℕ) → IsClosedLine (audit_line_of (audit_without m n))
without_closed missing.Unknown n = tt
without_closed (missing.Fault fault name) n = tt
without_closed missing.Memory n = tt

-- ---- closed up to the boundary

module _ (law : AuditsAreClosed) where
  tells_closed : (limit : ℕ) (h : List Entry) (ps : List ℕ) (n : ℕ) (o : Asked) (l : Line) (calls : List Call) → Tells limit h ps n o l calls → IsClosedLine l
  tells_closed limit h ps n (audit node pieces workers) (line.Audit at sides two lone border) calls t =
      let closed = law (network_at h n) t.0.1.0.id.0 (record { sides = sides; two = two; lone = lone; border = border }) t.0.1.2 in
      (closed.sides, closed.lone)
  tells_closed limit h ps n (edit e) (line.Audit at sides two lone border) calls t = absurd t.0
  tells_closed limit h ps n (edits batch) (line.Audit at sides two lone border) calls t = absurd t.0
  tells_closed limit h ps n (load node file) (line.Audit at sides two lone border) calls t = absurd t.1
  tells_closed limit h ps n (update node file pieces workers) (line.Audit at sides two lone border) calls t = absurd t
  tells_closed limit h ps n o (line.Edit at) calls t = tt
  tells_closed limit h ps n o (line.File at cells points ran) calls t = tt
  tells_closed limit h ps n o (line.Refused r at) calls t = tt
  tells_closed limit h ps n o line.ReadFault calls t = tt
  tells_closed limit h ps n o line.WriteFault calls t = tt
  tells_closed limit h ps n o line.Memory calls t = tt

  told_closed : (limit : ℕ) (h : List Entry) (ps : List ℕ) (low : ℕ) (os : List Asked) (ls : List Line) (calls : List Call) (last : ℕ)
      → AreTold limit h ps low os ls calls last → All IsClosedLine ls
  told_closed limit h ps low [] [] calls last t = All-nil IsClosedLine
  told_closed limit h ps low [] (l ∷ ls) calls last t = absurd t
  told_closed limit h ps low (o ∷ os) [] calls last t = absurd t
  told_closed limit h ps low (o ∷ os) (l ∷ ls) calls last t =
      All-cons IsClosedLine l ls (tells_closed limit h ps t.0 o l t.1 t.4) (told_closed limit h ps t.0 os ls t.2 last t.7)

  phases_closed : (limit : ℕ) (h : List Entry) (ps : List ℕ) (low : ℕ) (os : List (List Asked)) (ls : List (List Line)) (ends : List ℕ) (calls : List Call)
      → ArePhases limit h ps low os ls ends calls → All IsClosedLine (flat_map (λ l. l) ls)
  phases_closed limit h ps low [] [] [] calls t = All-nil IsClosedLine
  phases_closed limit h ps low [] [] (e ∷ ends) calls t = absurd t
  phases_closed limit h ps low [] (l ∷ ls) ends calls t = absurd t
  phases_closed limit h ps low (o ∷ os) [] ends calls t = absurd t
  phases_closed limit h ps low (o ∷ os) (l ∷ ls) [] calls t = absurd t
  phases_closed limit h ps low (o ∷ os) (l ∷ ls) (e ∷ ends) calls t =
      All-append IsClosedLine l (flat_map (λ k. k) ls) (told_closed limit h ps low o l t.1 t.0 t.4) (phases_closed limit h ps e os ls ends t.2 t.7)

  actors_closed : {P : Type 0} (m : port.Ghosts P) (limit : ℕ) (h : List Entry) (passes : List (List ℕ)) (script : List (List (List Asked)))
      (lines : List (List (List Line))) (ends : List ℕ) (before after : List P) → AreActors m limit h passes script lines ends before after
      → All IsClosedLine (flat_map (λ actor. flat_map (λ ls. ls) actor) lines)
  actors_closed m limit h [] [] [] ends before after t = All-nil IsClosedLine
  actors_closed m limit h (p ∷ passes) (s ∷ script) (l ∷ lines) ends (b ∷ before) (a ∷ after) t =
      All-append IsClosedLine (flat_map (λ ls. ls) l) (flat_map (λ actor. flat_map (λ ls. ls) actor) lines)
      (phases_closed limit h p 0 s l ends t.0.gained.0 t.0.gained.2) (actors_closed m limit h passes script lines ends before after t.1)
  actors_closed m limit h [] [] (l ∷ lines) ends before after t = absurd t
  actors_closed m limit h [] (s ∷ script) lines ends before after t = absurd t
  actors_closed m limit h (p ∷ passes) [] lines ends before after t = absurd t
  actors_closed m limit h (p ∷ passes) (s ∷ script) [] ends before after t = absurd t
  actors_closed m limit h (p ∷ passes) (s ∷ script) (l ∷ lines) ends [] after t = absurd t
  actors_closed m limit h (p ∷ passes) (s ∷ script) (l ∷ lines) ends (b ∷ before) [] t = absurd t

  pub audit_lines : {P : Type 0} (m : port.Ghosts P) → AuditLinesAreClosed m
  audit_lines m limit script h lines before after account = actors_closed m limit h account.passes script lines account.ends before after account.actors
