-- A command is refused for one reason.
use Rattle.std.proofs.Common.{◌≡◌, ℕ, List, Some, Result, Ok, Err, sym, ap, subst, ◌∙◌}
use Rattle.viz_base.specs.declared.call.ReadAnswer.{ReadAnswer}
use Rattle.viz_base.specs.declared.call.ReadAnswer.TheVariants as read
use Rattle.viz_network.specs.declared.fault.Fault.{Fault}
use Rattle.viz_report.specs.declared.line.Reason.{Reason}
use Rattle.viz_report.specs.declared.line.Reason.TheVariants as reason
use Rattle.viz_reshape.specs.declared.reshape.FileCounts.{FileCounts}
use Rattle.viz_reshape.specs.declared.reshape.FileCounts.TheVariants.{Cells, Strips}
use Rattle.viz_reshape.specs.declared.reshape.MadeFile.{MadeFile}
use Rattle.viz_reshape.specs.Laws.{ReshapesAreOne}
use Rattle.viz_scratch.specs.Laws.{FilesAreOne}
use Rattle.viz_once.specs.declared.command.Filter.{Filter}
use Rattle.viz_once.specs.declared.command.Filter.TheVariants.{Node, Reshape}
use Rattle.viz_once.specs.Files.{IsFileFor, IsMadeFor, IsNameFor}
use Rattle.viz_once.specs.FixedHistory.{network_for, source_id, op_id}
use Rattle.viz_once.specs.Reasons.{IsFaultFor, IsReason}

-- a failed read is no reason
pub failed_none : (filter : Filter) (x : Reason) → IsReason filter read.Failed x → ⊥
failed_none filter (reason.Fault f n) a = a
failed_none filter (reason.Edit r) a = a
failed_none filter (reason.Batch index r) a = a
failed_none filter reason.Full a = a
failed_none filter reason.TooLong a = a
failed_none filter reason.Unknown a = a

-- a filter makes one file of bytes, or has one fault
abbrev pub FiltersAreOne : Type 0
FiltersAreOne = (filter : Filter) (bytes : List ℕ) (a b : Result (List ℕ) Fault)
    → IsFileFor filter bytes a → IsFileFor filter bytes b → a ≡ b

-- what is made with its counts is made
pub made_file : (filter : Filter) (bytes text : List ℕ) (counts : FileCounts) → IsMadeFor filter bytes text counts → IsFileFor filter bytes (Ok text)
made_file (Node filter) bytes text (Cells cells points) made = made.file
made_file (Node filter) bytes text (Strips strips triangles points) made = absurd made
made_file (Reshape reshape) bytes text counts made = (counts, made)

abbrev Answer : Type 0
Answer = Result MadeFile Fault

abbrev text_in : Answer → Result (List ℕ) Fault
text_in (Ok made) = Ok made.text
text_in (Err fault) = Err fault

-- what a reshape makes is one text or one fault
pub filters_are_one : FilesAreOne → ReshapesAreOne → FiltersAreOne
filters_are_one files reshapes (Node filter) bytes a b p q = files (network_for filter bytes) op_id a b p q
filters_are_one files reshapes (Reshape reshape) bytes (Ok a) (Ok b) p q =
    ap text_in (reshapes reshape source_id op_id bytes (Ok (record { text = a; counts = p.0 })) (Ok (record { text = b; counts = q.0 })) p.1 q.1)
filters_are_one files reshapes (Reshape reshape) bytes (Ok a) (Err g) p q =
    ap text_in (reshapes reshape source_id op_id bytes (Ok (record { text = a; counts = p.0 })) (Err g) p.1 q)
filters_are_one files reshapes (Reshape reshape) bytes (Err f) (Ok b) p q =
    ap text_in (reshapes reshape source_id op_id bytes (Err f) (Ok (record { text = b; counts = q.0 })) p q.1)
filters_are_one files reshapes (Reshape reshape) bytes (Err f) (Err g) p q =
    ap text_in (reshapes reshape source_id op_id bytes (Err f) (Err g) p q)

-- a node has one name
name_one : (filter : Filter) (bytes : List ℕ) (id : ℕ) (n m : List ℕ) → IsNameFor filter bytes id n → IsNameFor filter bytes id m → n ≡ m
name_one (Node filter) bytes id n m a b =
    let names : Some n ≡ Some m = sym a ∙ b in
    cc
name_one (Reshape reshape) bytes id n m a b = a ∙ sym b

module _ (files : FiltersAreOne) where
  -- two faults of one node are one, and so are its names
  fault_one : (filter : Filter) (bytes : List ℕ) (f g : Fault) (n m : List ℕ) → IsFaultFor filter bytes f n → IsFaultFor filter bytes g m
      → reason.Fault f n ≡ reason.Fault g m
  fault_one filter bytes f g n m a b =
      let both : (let r : Result (List ℕ) Fault = Err f in r) ≡ Err g = files filter bytes (Err f) (Err g) a.file b.file in
      let same : f ≡ g = cc in
      let name : n ≡ m = name_one filter bytes g.node.0 n m (subst (λ (h : Fault). IsNameFor filter bytes h.node.0 n) same a.named) b.named in
      ap (λ (h : Fault). reason.Fault h n) same ∙ ap (reason.Fault g) name

  of_bytes : (filter : Filter) (bytes : List ℕ) (x y : Reason) → IsReason filter (read.Given bytes) x → IsReason filter (read.Given bytes) y → x ≡ y
  of_bytes filter bytes (reason.Fault f n) (reason.Fault g m) a b = fault_one filter bytes f g n m a b
  of_bytes filter bytes (reason.Fault f n) (reason.Edit r) a b = absurd b
  of_bytes filter bytes (reason.Fault f n) (reason.Batch index r) a b = absurd b
  of_bytes filter bytes (reason.Fault f n) reason.Full a b = absurd b
  of_bytes filter bytes (reason.Fault f n) reason.TooLong a b = absurd b
  of_bytes filter bytes (reason.Fault f n) reason.Unknown a b = absurd b
  of_bytes filter bytes (reason.Edit r) y a b = absurd a
  of_bytes filter bytes (reason.Batch index r) y a b = absurd a
  of_bytes filter bytes reason.Full y a b = absurd a
  of_bytes filter bytes reason.TooLong y a b = absurd a
  of_bytes filter bytes reason.Unknown y a b = absurd a

  -- so is a command, whatever the read answered
  pub one_reason : (filter : Filter) (answer : ReadAnswer) (x y : Reason) → IsReason filter answer x → IsReason filter answer y → x ≡ y
  one_reason filter (read.TooLong taken) x y a b = a ∙ sym b
  one_reason filter (read.Given bytes) x y a b = of_bytes filter bytes x y a b
  one_reason filter read.Failed x y a b = absurd (failed_none filter x a)
