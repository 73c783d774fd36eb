-- What is made of a file's bytes, by the stops on the way.
use Rattle.std.proofs.Common.{◌≡◌, ℕ, List, Option, Some, Result, Ok, Err, IfSome, refl, sym, subst}
use Rattle.std.specs.Prelude.{IsErrAnd}
use Rattle.viz_dataset.specs.declared.dataset.Dataset.{Dataset}
use Rattle.viz_network.specs.declared.fault.Stop.{Stop}
use Rattle.viz_network.specs.declared.fault.Stop.TheVariants as stop
use Rattle.viz_node_meaning.specs.Scratch.{Answers, IsScratch}
use Rattle.viz_scratch.specs.Written.{Style, IsTextOf, style_with}
use Rattle.viz_reshape.specs.declared.reshape.MadeFile.{MadeFile}
use Rattle.viz_reshape.specs.declared.reshape.Reshape.{Reshape as Shape}
use Rattle.viz_reshape.specs.Reshape.{IsReshaped}
use Rattle.viz_once.specs.declared.command.Filter.TheVariants as filters
use Rattle.viz_once.specs.declared.command.NodeFilter.{NodeFilter}
use Rattle.viz_once.specs.FixedHistory.{HasNumbers, network_for, source_id, op_id}
use Rattle.viz_once.specs.Steps.Made.{Makes}
use Rattle.viz_once.specs.Steps.Nodes.{settings_of}
use Rattle.viz_once.proofs.FileLemmas.{file_is, fault_is}

module _ (filter : NodeFilter) (bytes : List ℕ) where
  -- a stop that is passed on
  pub passed_on : (s : Stop) (result : Result MadeFile Stop) → IsErrAnd result (λ x. x ≡ s) → Makes (filters.Node filter) bytes (Err s) → Makes (filters.Node filter) bytes result
  passed_on s (Ok made) is makes = absurd is
  passed_on s (Err x) is makes = subst (λ (y : Stop). Makes (filters.Node filter) bytes (Err y)) (sym is) makes

  module _ (numbers : HasNumbers filter) where
    -- a stop of the evaluation
    pub stopped : (s : Stop) → Answers (IsScratch (network_for filter bytes) op_id) (let r : Result Dataset Stop = Err s in r) → Makes (filters.Node filter) bytes (Err s)
    stopped (stop.Fault fault) h = fault_is filter bytes numbers fault (Err fault, h, refl)
    stopped stop.Memory h = tt

    -- a stop of the writing
    pub unwritten : (style : Style) → style ≡ style_with (settings_of filter) → (d : Dataset) → IsScratch (network_for filter bytes) op_id (Ok d)
        → (s : Stop) → Answers (IsTextOf style op_id d) (let r : Result (List ℕ) Stop = Err s in r) → Makes (filters.Node filter) bytes (Err s)
    unwritten style is d given (stop.Fault fault) h = fault_is filter bytes numbers fault (file_is filter bytes numbers style is d given (Err fault) h)
    unwritten style is d given stop.Memory h = tt

-- a count that is there
pub counted : (o : Option ℕ) (n m : ℕ) → IfSome o (λ x. x ≡ m) → o ≡ Some n → n ≡ m
counted o n m value is = subst (λ (x : Option ℕ). IfSome x (λ y. y ≡ m)) is value

-- what a reshape makes is what its filter makes
pub reshape_makes : (reshape : Shape) (bytes : List ℕ) (r : Result MadeFile Stop) → Answers (IsReshaped reshape source_id op_id bytes) r → Makes (filters.Reshape reshape) bytes r
reshape_makes reshape bytes (Ok made) h = h
reshape_makes reshape bytes (Err (stop.Fault fault)) h = record { file = h; named = refl }
reshape_makes reshape bytes (Err stop.Memory) h = tt
