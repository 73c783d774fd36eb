-- What is true of a history, of longer ones, and in its network.
use Rattle.std.proofs.Common.{◌≡◌, List, [], ◌++◌, Ok, append-nil, append_assoc, sym, subst}
use Rattle.viz_parts.specs.declared.stored.Stored.{Stored}
use Rattle.viz_dataset.specs.declared.dataset.Dataset.{Dataset}
use Rattle.viz_network.specs.declared.edit.Edit.{Edit}
use Rattle.viz_network.specs.Cone.{cone_of}
use Rattle.viz_network.specs.History.{net_of}
use Rattle.viz_network.specs.Network.{Network}
use Rattle.viz_network.proofs.HistoryLemmas.{equal_stamps, stamps_stay}
use Rattle.viz_node_meaning.specs.Laws.{ConesGiveOne}
use Rattle.viz_node_meaning.specs.Scratch.{IsScratch}
use Rattle.viz_kept.specs.True.{HasStamp, IsPartIn, IsDatasetPart, IsNodePart, IsMadeIn, IsTrueIn, IsTrueOf, AreMadeIn, AreTrueIn, AreTrueOf}
use Rattle.viz_kept.specs.Laws.{OvertakenIsTrue}

pub true_longer : (edits more : List Edit) (item : Stored) → IsTrueOf edits item → IsTrueOf (edits ++ more) item
true_longer edits more item t = record {
  each = λ rest. subst (λ all. IsTrueIn (net_of all) item) (sym (append_assoc edits more rest)) (t.each (more ++ rest));
}

pub all_longer : (edits more : List Edit) (items : List Stored) → AreTrueOf edits items → AreTrueOf (edits ++ more) items
all_longer edits more items t = record { each = λ k d below. true_longer edits more _ (t.each k d below) }

-- where the stamp is the same in a longer history's network, the cone is
made_true : (edits more : List Edit) (item : Stored) → IsMadeIn (net_of edits) item → IsTrueOf (edits ++ more) item
made_true edits more item m = record {
  each = λ rest. record {
    part = λ stamp.
        let whole = append_assoc edits more rest in
        let later = subst (λ all. HasStamp (net_of all) item.key) whole stamp in
        let cones = equal_stamps edits (more ++ rest) item.key.node.0 item.key.stamp m.stamp later in
        let part = subst (λ cone. IsNodePart cone item.key.request item.part) cones m.part in
        subst (λ all. IsPartIn (net_of all) item) (sym whole) part;
  };
}

pub all_made_true : (edits more : List Edit) (items : List Stored) → AreMadeIn (net_of edits) items → AreTrueOf (edits ++ more) items
all_made_true edits more items m = record { each = λ k d below. made_true edits more _ (m.each k d below) }

true_in : (edits : List Edit) (item : Stored) → IsTrueOf edits item → IsTrueIn (net_of edits) item
true_in edits item t = subst (λ all. IsTrueIn (net_of all) item) (append-nil edits) (t.each [])

pub all_true_in : (edits : List Edit) (items : List Stored) → AreTrueOf edits items → AreTrueIn (net_of edits) items
all_true_in edits items t = record { each = λ k d below. true_in edits _ (t.each k d below) }

-- a stamp that is lost never comes back
pub overtaken_true : OvertakenIsTrue
overtaken_true edits item low lost = record {
  each = λ more. record { part = λ stamp. absurd (lost (stamps_stay edits more item.key.node.0 item.key.stamp low stamp)) };
}

-- a node gives one dataset
pub part_of_each : ConesGiveOne → (net : Network) (item : Stored) → IsPartIn net item → (whole : Dataset) → IsScratch net item.key.node.0 (Ok whole)
    → IsDatasetPart (cone_of net item.key.node.0) whole item.key.request item.part
part_of_each one net item p whole given =
    let same = one (cone_of net item.key.node.0) (Ok p.whole) (Ok whole) p.given given in
    let is : p.whole ≡ whole = cc in
    subst (λ w. IsDatasetPart (cone_of net item.key.node.0) w item.key.request item.part) is p.one
