-- What an audit by a plan counts and hands out, by its cases.
use Rattle.std.proofs.Common.{◌≡◌, ℕ, List, [], Err, inl, sym, subst}
use Rattle.std.proofs.lemmas.List.Elements.{All-nil}
use Rattle.std.specs.List.{All}
use Rattle.viz_executive.specs.Produced.{IsScratchStop}
use Rattle.viz_kept.specs.True.{AreMadeIn, AreTrueIn, IsTrueIn}
use Rattle.viz_network.specs.Network.{Network}
use Rattle.viz_network.specs.declared.fault.Stop.{Stop}
use Rattle.viz_network.specs.declared.fault.Stop.TheVariants as stop
use Rattle.viz_node_meaning.specs.Scratch.{Answers}
use Rattle.viz_parts.specs.declared.request.Part.{Part}
use Rattle.viz_parts.specs.declared.stored.Stored.{Stored}
use Rattle.viz_account.specs.Audited.{IsAuditOf}

-- what is made in the network is true in it
pub made_true : (net : Network) (items : List Stored) → AreMadeIn net items → AreTrueIn net items
made_true net items made =
    record { each = λ i d l. record { part = λ stamp. (made.each i d l).part } }

-- a copy of a part is as true
pub copied_true : (net : Network) (item : Stored) (part : Part) → part ≡ item.part
    → IsTrueIn net item → IsTrueIn net (record { key = item.key; part = part })
copied_true net item part e h =
    subst (λ (p : Part). IsTrueIn net (record { key = item.key; part = p })) (sym e) h

pub none_true : (net : Network) (items : List Stored) → items ≡ [] → AreTrueIn net items
none_true net items e =
    record { each = subst (All (IsTrueIn net)) (sym e) (All-nil (IsTrueIn net)) }

-- a stop of the plan is one of the audit
pub count_stopped : (net : Network) (id : ℕ) (s : Stop) → IsScratchStop net id s
    → Answers (IsAuditOf net id) (Err s)
count_stopped net id (stop.Fault f) h = inl h
count_stopped net id stop.Memory h = tt
