-- What is made of a node, by its cases.
use Rattle.std.proofs.Common.{◌≡◌, ℕ, List, [], ◌∷◌, append-nil, Option, None, Some, Result, Ok, Err, refl, sym, ap, subst, ◌∙◌}
use Rattle.std.specs.Option.{option_map}
use Rattle.viz_base.specs.declared.call.Call.TheVariants.{Write}
use Rattle.viz_base.specs.declared.call.WriteAnswer.TheVariants as write
use Rattle.viz_base.specs.declared.node.NodeId.{NodeId}
use Rattle.viz_base.specs.declared.port.Port as port
use Rattle.viz_dataset.specs.declared.dataset.Dataset.{Dataset}
use Rattle.viz_executive.specs.Produced.{IsByPlan, IsScratchStop}
use Rattle.viz_executive.specs.declared.produced.Produced.{Produced}
use Rattle.viz_kept.specs.True.{AreTrueIn}
use Rattle.viz_network.specs.declared.fault.Stop.{Stop}
use Rattle.viz_network.specs.declared.fault.Stop.TheVariants as stop
use Rattle.viz_network.specs.declared.node.Node.{Node}
use Rattle.viz_network.specs.Cone.{cone_of}
use Rattle.viz_network.specs.Network.{Network, name_of, named}
use Rattle.viz_node_meaning.specs.Scratch.{IsScratch, Answers}
use Rattle.viz_parts.specs.declared.stored.Stored.{Stored}
use Rattle.viz_scratch.specs.Written.{IsFileOf, IsTextOf, Style, style_of}
use Rattle.viz_account.specs.Account.{faults_told, RoseBy}
use Rattle.viz_account.specs.declared.answer.Answer.{Answer}
use Rattle.viz_account.specs.declared.answer.Answer.TheVariants as answer
use Rattle.viz_account.specs.declared.answer.Missing.{Missing}
use Rattle.viz_account.specs.declared.answer.Missing.TheVariants as missing
use Rattle.viz_account.specs.declared.made.Made.{Made}
use Rattle.viz_account.specs.declared.parts.UpdateParts.{UpdateParts}
use Rattle.viz_account.specs.Answers.{line_of, without, missing_in, audit_without, audit_missing_in}
use Rattle.viz_account.specs.Answers.{HandsOut, IsNamed, LacksParts}
use Rattle.viz_account.specs.Lines.{TellsFile}
use Rattle.viz_account.specs.Served.{Writes}
use Rattle.viz_account.specs.Steps.Made.{Makes, IsStop, IsMissing, HasParts, IsWithoutParts, RanFor, WritesText}
use Rattle.viz_account.specs.Written.{IsWritten}
use Rattle.viz_account.proofs.AccountLemmas.{rose_none}

no_fault : (n : ℕ) (m : Missing) → faults_told (line_of (without m n) ∷ []) ≡ 0
no_fault n missing.Unknown = refl
no_fault n (missing.Fault fault name) = refl
no_fault n missing.Memory = refl

-- a stop of the evaluation
pub scratch_stopped : (net : Network) (id : ℕ) (s : Stop) → Answers (IsScratch net id) (Err s) → Makes net id (Err s)
scratch_stopped net id (stop.Fault f) a = (Err f, a, refl)
scratch_stopped net id stop.Memory a = tt

-- a stop of the writing
pub text_stopped : (net : Network) (id : ℕ) (d : Dataset) (style : Style) (s : Stop)
    → IsScratch net id (Ok d) → style ≡ style_of (cone_of net id)
    → Answers (IsTextOf style id d) (Err s) → Makes net id (Err s)
text_stopped net id d style (stop.Fault f) given is a =
    (Ok d, given, subst (λ t. IsTextOf t id d (Err f)) is a)
text_stopped net id d style stop.Memory given is a = tt

-- a text of the writing
pub text_written : (net : Network) (id : ℕ) (d : Dataset) (style : Style) (text : List ℕ)
    → IsScratch net id (Ok d) → style ≡ style_of (cone_of net id)
    → IsTextOf style id d (Ok text) → IsFileOf net id (Ok text)
text_written net id d style text given is a =
    (Ok d, given, subst (λ t. IsTextOf t id d (Ok text)) is a)

-- the node that was found by its name
pub found : (o : Option Node) (id : NodeId) → option_map (λ (n : Node). n.id) o ≡ Some id → (x : Node) × (o ≡ Some x) × (x.id ≡ id)
found None id p = let bad : ⊥ = cc in absurd bad
found (Some x) id p = (x, refl, (let e : x.id ≡ id = cc in e))

-- a stop says why there is no file
pub stopped_missing : (net : Network) (node : List ℕ) (x : Node) (s : Stop) (m : Missing) → named net node ≡ Some x → Makes net x.id.0 (Err s) → IsStop net s m → IsMissing net node m
stopped_missing net node x (stop.Fault f) (missing.Fault g name) there made t =
    ((x, there, subst (λ e. IsFileOf net x.id.0 (Err e)) (sym t.0) made), ap (λ e. name_of net e.node.0) t.0 ∙ t.1)
stopped_missing net node x (stop.Fault f) missing.Unknown there made t = absurd t
stopped_missing net node x (stop.Fault f) missing.Memory there made t = tt
stopped_missing net node x stop.Memory (missing.Fault g name) there made t = absurd t
stopped_missing net node x stop.Memory missing.Unknown there made t = absurd t
stopped_missing net node x stop.Memory missing.Memory there made t = tt

-- a node that was found is there by its name
pub named_by : (net : Network) (node : List ℕ) (id : NodeId)
    → option_map (λ (n : Node). n.id) (named net node) ≡ Some id → IsNamed net node id.0
named_by net node id p =
    let x = found (named net node) id p in
    record { found = x.0; there = x.1; same = ap (λ (i : NodeId). i.0) x.2 }

-- without a file the line tells of the update, and the port isn't called
module _ (Ran : ℕ → ℕ → Type 0) where
  missing_update : (net : Network) (n : ℕ) (node file : List ℕ) (m : Missing) → IsMissing net node m
      → TellsFile Ran net n node file (line_of (without m n)) []
  missing_update net n node file missing.Unknown t = (refl, t, refl)
  missing_update net n node file (missing.Fault fault name) t = (refl, t.0, t.1, refl)
  missing_update net n node file missing.Memory t = refl

  pub not_called : {P : Type 0} (m : port.Ghosts P) (net : Network) (n : ℕ) (node file : List ℕ)
      (gone : Missing) (p : P)
      → IsMissing net node gone → Writes m Ran net n node file (line_of (without gone n)) p p
  not_called m net n node file gone p t =
      record {
        gained = (
          [],
          (λ tells. sym (append-nil (m.calls p))),
          missing_update net n node file gone t,
        );
        faults = subst (λ k. RoseBy k (m.faults p) (m.faults p)) (sym (no_fault n gone))
            (rose_none (m.faults p));
      }

  -- a text that was written, or not, with its numbers
  pub wrote : {P : Type 0} (m : port.Ghosts P) (net : Network) (n : ℕ) (node file : List ℕ)
      (x : Node) (made : Made) (ran : ℕ) (a : Answer) (p q : P)
      → named net node ≡ Some x → IsWritten net x.id.0 made.text made.cells made.points
      → Ran x.id.0 ran
      → WritesText m file made ran n a p q → Writes m Ran net n node file (line_of a) p q
  wrote m net n node file x made ran (answer.Written at cells points tasks) p q there is has t =
      record {
        gained = (
          Write file made.text write.Written ∷ [],
          t.5,
          (
            t.0,
            (
              x,
              made.text,
              there,
              subst (λ c. IsWritten net x.id.0 made.text c points) (sym t.1)
                  (subst (λ c. IsWritten net x.id.0 made.text made.cells c) (sym t.2) is),
              subst (Ran x.id.0) (sym t.3) has,
              refl,
            ),
          ),
        );
        faults = t.4;
      }
  wrote m net n node file x made ran (answer.WriteFault at) p q there is has t =
      record {
        gained = (
          Write file made.text write.Failed ∷ [],
          t.2,
          (x, made.text, there, is.file, refl),
        );
        faults = t.1;
      }
  wrote m net n node file x made ran answer.Memory p q there is has t =
      record { gained = ([], t.1, refl); faults = t.0 }
  wrote m net n node file x made ran (answer.Unknown at) p q there is has t = absurd t
  wrote m net n node file x made ran (answer.Network fault name at) p q there is has t = absurd t

-- ---- the parts of an update

-- an answer without a file, or without counts, has this cause
pub missing_without : (m : Missing) (n : ℕ) → missing_in (without m n) ≡ Some m
missing_without missing.Unknown n = refl
missing_without (missing.Fault fault name) n = refl
missing_without missing.Memory n = refl

pub audit_missing_without : (m : Missing) (n : ℕ) → audit_missing_in (audit_without m n) ≡ Some m
audit_missing_without missing.Unknown n = refl
audit_missing_without (missing.Fault fault name) n = refl
audit_missing_without missing.Memory n = refl

-- a node that has a result has parts
pub result_hands : {X : Type 0} (net : Network) (entries : List Stored) (pieces : ℕ)
    (node : List ℕ) (id : ℕ) (x : X) (cause : Option Missing) (o : Option UpdateParts)
    → IsNamed net node id
    → HasParts net entries pieces id (Ok x) o → HandsOut net entries pieces node cause o
result_hands net entries pieces node id x cause None named h = absurd h
result_hands net entries pieces node id x cause (Some parts) named h =
    (subst (IsNamed net node) (sym h.0) named, h.1)

-- a node that has none may have parts; without a dataset it hasn't
module _ (X : Type 0) (net : Network) (node : List ℕ) (id : ℕ) where
  stop_lacks : (s : Stop) (m : Missing) → IsNamed net node id → IsStop net s m
      → IsWithoutParts {X = X} net id (Err s) → LacksParts net node (Some m)
  stop_lacks (stop.Fault f) (missing.Fault g name) named t h =
      (id, named, subst (λ e. IsScratch net id (Err e)) (sym t.0) h)
  stop_lacks (stop.Fault f) missing.Unknown named t h = absurd t
  stop_lacks (stop.Fault f) missing.Memory named t h = tt
  stop_lacks stop.Memory (missing.Fault g name) named t h = absurd t
  stop_lacks stop.Memory missing.Unknown named t h = absurd t
  stop_lacks stop.Memory missing.Memory named t h = tt

  pub stop_hands : (entries : List Stored) (pieces : ℕ) (s : Stop) (m : Missing)
      (cause : Option Missing) (o : Option UpdateParts)
      → IsNamed net node id → IsStop net s m → HasParts {X = X} net entries pieces id (Err s) o
      → cause ≡ Some m → HandsOut net entries pieces node cause o
  stop_hands entries pieces s m cause None named t h is =
      subst (LacksParts net node) (sym is) (stop_lacks s m named t h)
  stop_hands entries pieces s m cause (Some parts) named t h is =
      (subst (IsNamed net node) (sym h.0) named, h.1)

-- where the plan stops nothing is handed out
pub stop_without : (X : Type 0) (net : Network) (id : ℕ) (s : Stop) → IsScratchStop net id s
    → IsWithoutParts {X = X} net id (Err s)
stop_without X net id (stop.Fault f) h = h
stop_without X net id stop.Memory h = tt

-- and the file has that fault
pub plan_stopped : (net : Network) (id : ℕ) (s : Stop) → IsScratchStop net id s
    → Makes net id (Err s)
plan_stopped net id (stop.Fault f) h = (Err f, h, refl)
plan_stopped net id stop.Memory h = tt

-- how many tasks ran is the number of those of the plan
pub plan_ran : (net : Network) (pieces id : ℕ) (entries : List Stored) (p : Produced)
    (file : Result Made Stop) → AreTrueIn net entries
    → IsByPlan net entries id pieces p → RanFor net pieces id file p.ran
plan_ran net pieces id entries p (Ok m) kept by =
    record { entries = entries; told = by.told; kept = kept; are = by.are; number = by.by.number }
plan_ran net pieces id entries p (Err s) kept by = tt
