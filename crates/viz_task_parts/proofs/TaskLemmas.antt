-- What a task takes, and what it makes.
use Rattle.std.proofs.Common.{◌≡◌, ℕ, List, Option, Some, Ok, sym, subst, inl, inr, ⊎_elim}
use Rattle.std.proofs.lemmas.List.Elements.{All-contains}
use Rattle.viz_extent.specs.Extent.{Bounds}
use Rattle.viz_given.specs.Given.{AllAreFit, AllAreLeveled}
use Rattle.viz_network.specs.Cone.{Cone, Tree, cone_of}
use Rattle.viz_network.specs.declared.node.Node.{Node}
use Rattle.viz_node_division.specs.Divided.{Divided, IsDivided, IsMadeOf, wholes}
use Rattle.viz_node_division.specs.Laws.{
  DividedAreExact,
  DividedByPorts,
  DivisionsAreOne,
  DivisionsShareOut,
}
use Rattle.viz_node_gives.specs.Gives.{HasReading, NodesMakeExact}
use Rattle.viz_node_meaning.specs.Fold.{IsGiven}
use Rattle.viz_node_meaning.specs.Information.{InformationRule, fed_at}
use Rattle.viz_node_meaning.specs.Rules.{Inputs}
use Rattle.viz_node_parts.specs.Answering.{
  AreAnswered,
  IsGivenAnywhere,
  PartsAskedAreTaken,
  PartsMadeAnswer,
  dataset_extent,
  extent_at_ports,
}
use Rattle.viz_node_parts.specs.Made.{MakesPart}
use Rattle.viz_node_parts.specs.Taken.{TakesParts}
use Rattle.viz_parts.specs.Pieces.{IsAnswer}
use Rattle.viz_parts.specs.declared.request.Part.{Part}
use Rattle.viz_parts.specs.declared.request.Request.{Request}
use Rattle.viz_plan_law.specs.Cutting.{IsExactPart}
use Rattle.viz_plan_law.specs.Fitting.{IsFittingTask, PlansFit}
use Rattle.viz_plan_law.specs.Told.{ToldIsOfDatasets}
use Rattle.viz_plan_meaning.specs.Evaluation.{IsFed}
use Rattle.viz_plan_meaning.specs.Known.{Known, ports_extent, tree_asked}
use Rattle.viz_plan_meaning.specs.Laws.{plan_of}
use Rattle.viz_plan_meaning.specs.Networks.{ways_above}
use Rattle.viz_plan_meaning.specs.Plan.{heads}
use Rattle.viz_plan_truth.proofs.PlanLemmas.{Need}
use Rattle.viz_plan_truth.proofs.SectionLemmas.{first_divided}
use Rattle.viz_plan_truth.specs.Faults.{IsFaultyFoot}
use Rattle.viz_plan_truth.specs.Truth.{IsNarrowFoot, IsNarrowTask}
use Rattle.viz_requests.specs.Upstream.{Fits, asked, widened}
use Rattle.viz_task_parts.specs.Tasks.{
  HasParts,
  IsTaskAt,
  IsUpdate,
  TasksFail,
  TasksMake,
  TasksTake,
}
use Rattle.viz_task_parts.proofs.FaultLemmas.{kind_fails}
use Rattle.viz_task_parts.proofs.KindLemmas.{
  HasFile,
  file_given,
  fit_for,
  no_writer,
  reading,
  suits,
  takes_or,
}
use Rattle.viz_task_parts.proofs.NarrowLemmas.{kind_narrow, ports_one}
use Rattle.viz_task_parts.proofs.PlannedLemmas.{IsPlanned, task_planned}
use Rattle.viz_task_parts.proofs.PortLemmas.{ArePorts, Exact, all_ports, known_extent}

-- what the laws of nodes and of plans say
pub record Laws : Type 0 where
  pub fit : PlansFit
  pub told : ToldIsOfDatasets
  pub exact : DividedAreExact
  pub one : DivisionsAreOne
  pub ports : DividedByPorts
  pub shares : DivisionsShareOut
  pub gives : NodesMakeExact

-- ---- what feeds the node

tree_fed : (k : Known) (r : Request) (parts : List (Option Part)) (t u : Option Tree) → t ≡ u
    → IsFed (Exact k) (tree_asked k t r) (heads (ways_above t)) parts
    → IsFed (Exact k) (tree_asked k u r) (heads (ways_above u)) parts
tree_fed k r parts t u e f =
    subst (λ (v : Option Tree). IsFed (Exact k) (tree_asked k v r) (heads (ways_above v)) parts)
    e f

-- what feeds a task's node, of which there are parts for what it asks for
abbrev TaskPorts : Known → Need → Node → Cone → List (Option Part) → Type 0
TaskPorts k task n cone parts =
    ArePorts k cone (asked n.settings (ports_extent k cone) task.1) parts

-- what the node makes of it
record IsTaskMade (k : Known) (n : Node) (cone : Cone) (inputs : Inputs Divided) : Type 0 where
  made : Divided
  made_of : IsMadeOf n.settings n.file inputs made
  divided : IsDivided (Some (n, cone)) made.whole made.division
  extent : k.extent n.id.0 ≡ dataset_extent made.whole

module _ (laws : Laws) (k : Known) (task : Need) (n : Node) (cone : Cone)
    (planned : IsPlanned k task n cone) where
  task_ports : (parts : List (Option Part)) → HasParts k task parts
      → cone_of k.net task.0 ≡ Some (n, cone) → TaskPorts k task n cone parts
  task_ports parts h is =
      all_ports k laws.told laws.exact laws.ports cone
      (asked n.settings (ports_extent k cone) task.1) parts planned.all planned.above
      (tree_fed k task.1 parts (cone_of k.net task.0) (Some (n, cone)) is h.fed)

  information : IsGiven InformationRule (Some (n, cone)) (Ok planned.known.information)
  information =
      subst (λ (t : Option Tree). IsGiven InformationRule t (Ok planned.known.information))
      planned.at.cone planned.known.given

  module _ (parts : List (Option Part)) (ports : TaskPorts k task n cone parts) where
    task_made : HasReading n.settings n.file → IsTaskMade k n cone ports.inputs
    task_made read =
        let g = laws.gives n cone ports.inputs planned.known.information information
        ports.divided ports.valid read in
        let d = (laws.ports n cone g.0.whole g.0.division).1 (record {
          inputs = ports.inputs;
          fed = ports.divided;
          made = record { exact = g.1.exact; divided = g.1.divided };
        }) in
        record {
          made = g.0;
          made_of = g.1;
          divided = d;
          extent = known_extent k laws.told laws.exact n cone g.0.whole g.0.division planned.at
              planned.known d;
        }

    asked_answered : AreAnswered ports.inputs
        (asked n.settings (extent_at_ports ports.inputs) task.1) parts
    asked_answered =
        subst
        (λ (e : Option Bounds). AreAnswered ports.inputs (asked n.settings e task.1) parts)
        ports.extent ports.answered

    module _ (m : IsTaskMade k n cone ports.inputs) where
      made_fits : Fits (k.extent task.0) task.1 → Fits (dataset_extent m.made.whole) task.1
      made_fits fits =
          subst (λ (e : Option Bounds). Fits e task.1) m.extent
          (subst (λ (x : ℕ). Fits (k.extent x) task.1) (sym planned.id) fits)

      made_widened : widened n.settings (dataset_extent m.made.whole) task.1 ≡ task.1
      made_widened =
          subst (λ (e : Option Bounds). widened n.settings e task.1 ≡ task.1) m.extent planned.same

      -- a file gives what it is read as from scratch
      file_anywhere : HasFile n.settings → IsGivenAnywhere m.made
      file_anywhere h = (
        Some (n, cone),
        record {
          scratch = (
            Ok planned.known.information,
            information,
            file_given n cone (wholes ports.inputs) m.made.whole h planned.at.ports
                m.made_of.exact,
          );
          divided = m.divided;
        },
      )

-- ---- the plan

-- the request of a task fits its node
task_fits : PlansFit → (k : Known) (sink : ℕ) (rs : List Request) (task : Need) (n : Node)
    (own : Cone) → IsUpdate k sink rs → IsTaskAt k sink rs task n own
    → Fits (k.extent task.0) task.1
task_fits law k sink rs task n own u t =
    let all = law k sink rs u.placed u.ports u.known u.fitting in
    let one = All-contains (IsFittingTask k) (plan_of k sink rs) task all t.planned in
    one.own

module _ (laws : Laws) where
  pub tasks_take : AllAreFit → PartsAskedAreTaken → TasksTake
  tasks_take fit taken k sink rs task n own parts u t h =
      let planned = task_planned k sink rs task n own u t in
      let ports = task_ports laws k task n own planned parts h t.is in
      subst (λ (e : Option Bounds). TakesParts n.settings e task.1 parts) (sym ports.extent)
      (takes_or n.settings n.file (extent_at_ports ports.inputs) task.1 parts
      (λ read.
      let m = task_made laws k task n own planned parts ports read in
      taken n.settings n.file ports.inputs m.made (no_writer n.settings planned.makes) m.made_of
      (fit_for fit n.settings ports.inputs (first_divided own ports.inputs ports.divided))
      task.1 parts
      (made_fits laws k task n own planned parts ports m
      (task_fits laws.fit k sink rs task n own u t))
      (asked_answered laws k task n own planned parts ports)))

  -- the part answers the task's request
  part_answers : AllAreLeveled → PartsMadeAnswer → (k : Known) (task : Need) (n : Node)
      (own : Cone) (planned : IsPlanned k task n own) (parts : List (Option Part))
      (ports : TaskPorts k task n own parts) (m : IsTaskMade k n own ports.inputs)
      (part : Part) → Fits (k.extent task.0) task.1
      → MakesPart n.settings n.file (extent_at_ports ports.inputs) task.1 parts part
      → IsAnswer m.made.whole m.made.division task.1 part
  part_answers leveled made k task n own planned parts ports m part fits makes =
      subst (λ (r : Request). IsAnswer m.made.whole m.made.division r part)
      (made_widened laws k task n own planned parts ports m)
      (made n.settings n.file ports.inputs m.made m.made_of
      (suits leveled laws.shares n.settings n.file ports.inputs m.made m.made_of
      (first_divided own ports.inputs ports.divided)
      (file_anywhere laws k task n own planned parts ports m))
      task.1 parts part (made_fits laws k task n own planned parts ports m fits)
      (asked_answered laws k task n own planned parts ports) makes)

  -- and no number of it is wide
  part_narrow : (k : Known) (task : Need) (n : Node) (own : Cone)
      (planned : IsPlanned k task n own) (parts : List (Option Part))
      (ports : TaskPorts k task n own parts) (m : IsTaskMade k n own ports.inputs)
      (part : Part)
      → MakesPart n.settings n.file (extent_at_ports ports.inputs) task.1 parts part
      → IsNarrowFoot (Some (n, own)) task.1
  part_narrow k task n own planned parts ports m part makes inputs d =
      subst (λ (xs : Inputs Divided). IsNarrowTask n.settings (fed_at 1 xs) task.1)
      (ports_one laws.one own ports.inputs inputs ports.divided d)
      (kind_narrow n.settings n.file ports.inputs task.1 parts part
      (asked_answered laws k task n own planned parts ports) makes)

  pub tasks_make : AllAreLeveled → PartsMadeAnswer → TasksMake
  tasks_make leveled made k sink rs task n own parts part u t h makes =
      let planned = task_planned k sink rs task n own u t in
      let ports = task_ports laws k task n own planned parts h t.is in
      let m = task_made laws k task n own planned parts ports
      (reading n.settings n.file (ports_extent k own) task.1 parts part makes) in
      let of_these = subst
      (λ (e : Option Bounds). MakesPart n.settings n.file e task.1 parts part) ports.extent
      makes in
      record {
        exact = subst (λ (t : Option Tree). IsExactPart t task.1 part) (sym t.is)
            (record {
              whole = m.made.whole;
              one = record {
                division = m.made.division;
                divided = m.divided;
                answers = part_answers leveled made k task n own planned parts ports m part
                    (task_fits laws.fit k sink rs task n own u t) of_these;
              };
            });
        narrow = subst (λ (t : Option Tree). IsNarrowFoot t task.1) (sym t.is)
            (part_narrow k task n own planned parts ports m part of_these);
      }

  -- a task that fails has met a fault
  pub tasks_fail : AllAreFit → PartsAskedAreTaken → TasksFail
  tasks_fail fit taken k sink rs task n own parts cause u t h has =
      let planned = task_planned k sink rs task n own u t in
      let ports = task_ports laws k task n own planned parts h t.is in
      let takes = subst (λ (e : Option Bounds). TakesParts n.settings e task.1 parts) ports.extent
      (tasks_take fit taken k sink rs task n own parts u t h) in
      subst (λ (f : Option Tree). IsFaultyFoot f task.1) (sym t.is)
      (⊎_elim inl (λ w. inr (ports.inputs, ports.divided, w))
      (kind_fails n.settings n.file ports.inputs task.1 parts cause
      (asked_answered laws k task n own planned parts ports) takes has))
