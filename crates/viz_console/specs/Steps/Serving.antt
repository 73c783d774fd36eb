-- How far a session has come: words of private contracts alone.
use Rattle.std.specs.Prelude.{◌≡◌, ℕ, ◌≤◌, Bool, true, false, List, [], ◌∷◌, ◌++◌, map, IsTrue}
use Rattle.std.specs.Prelude.{Option, None, Some, Result, Ok, Err}
use Rattle.viz_base.specs.Faults.{Rose}
use Rattle.viz_base.specs.Texts.{AppendsPrefix}
use Rattle.viz_base.specs.declared.out.Out as out
use Rattle.viz_base.specs.declared.port.Port as port
use Rattle.viz_words.specs.declared.refusal.ScriptRefusal.{ScriptRefusal}
use Rattle.viz_hub.specs.Passes.{PassKnown}
use Rattle.viz_account.specs.Served.{ServesAll}
use Rattle.viz_source.specs.declared.source.Source as source
use Rattle.viz_source.specs.declared.limits.TheConstants.{STREAM_LIMIT}
use Rattle.viz_source.specs.Readers.{Reader, stream_of}
use Rattle.viz_source.specs.Streams.{Stream, IsFrontLine, IsPastLimit, IsOpenLine, AreFrontLines}
use Rattle.viz_source.specs.Streams.{untaken}
use Rattle.viz_console.specs.declared.acts.Act.{Act}
use Rattle.viz_console.specs.declared.ending.End.{End}
use Rattle.viz_console.specs.declared.ending.End.TheVariants as end
use Rattle.viz_console.specs.declared.line.Said.{Said}
use Rattle.viz_console.specs.Lines.{own_in, demand_in, Place, start, behind, dues, has_quit}
use Rattle.viz_console.specs.Replies.{Reply, due_of, commands, lines_told, text_of}
use Rattle.viz_console.specs.Ends.{IsEnd}
use Rattle.viz_console.specs.Steps.Heard.{heard_result, due_in, quits_by}

-- what was heard of a stream: the next line, or why none comes; these bytes are left then
abbrev pub Hears : {S : Type 0} → source.Ghosts S → Result (Result Said ScriptRefusal) End
    → Stream → Stream → S → S → Type 0
Hears s (Ok said) before after old new = (line : Option (List ℕ))
    × (own_in line ≡ heard_result said)
    × (IsTrue s.tells_bytes → IsFrontLine before after line)
Hears s (Err end.Closed) before after old new = IsTrue s.tells_bytes
    → (before.bytes ≡ []) × (before.passed ≤ STREAM_LIMIT)
Hears s (Err end.TooLong) before after old new = IsTrue s.tells_bytes → IsPastLimit before
Hears s (Err end.Fault) before after old new = Rose (s.faults old) (s.faults new)
    × (IsTrue s.tells_bytes → (before.ended ≡ false) × IsOpenLine before.bytes (s.left new))
Hears s (Err e) before after old new = ⊥

-- a text was put; or the end that came at it
abbrev pub Puts : {O : Type 0} → out.Ghosts O → List ℕ → Option End → O → O → Type 0
Puts o text None before after = IsTrue o.tells_text → o.text after ≡ o.text before ++ text
Puts o text (Some end.Fault) before after = Rose (o.faults before) (o.faults after)
    × (IsTrue o.tells_text → AppendsPrefix (o.text before) text (o.text after))
Puts o text (Some end.Memory) before after = IsTrue o.tells_text
    → AppendsPrefix (o.text before) text (o.text after)
Puts o text (Some e) before after = ⊥

-- the same, where a quit puts nothing
abbrev pub PutsBy : {O : Type 0} → out.Ghosts O → Bool → List Reply → Option End → O → O
    → Type 0
PutsBy o true replies came before after = (came ≡ Some end.Quit) × (after ≡ before)
    × (replies ≡ [])
PutsBy o false replies came before after = Puts o (text_of replies) came before after

-- what was due by an act was answered, up to the end that came at it
pub record AnswersAct {P O : Type 0} (m : port.Ghosts P) (o : out.Ghosts O) (limit : ℕ) (a : Act)
    (came : Option End) (old new : PassKnown) (port_old port_new : P) (before after : O)
    : Type 0 where
  pub replies : List Reply
  pub due : map due_of replies ≡ due_in a
  pub served : ServesAll m limit old.number (commands replies) (lines_told replies) old.seen
      new.seen port_old port_new
  pub put : PutsBy o (quits_by a) replies came before after

-- where a session stands behind lines
abbrev pub place_behind : Place → List (Option (List ℕ)) → Place
place_behind p [] = p
place_behind p (line ∷ lines) = place_behind (behind p (demand_in p.batch line)) lines

module _ {S P O : Type 0} (s : source.Ghosts S) (m : port.Ghosts P) (o : out.Ghosts O)
    (limit : ℕ) (root : PassKnown) (old : S) (port_old : P) (before : O) where
  -- lines were read and answered since the start, and none of them quits
  pub record IsSoFar (reader : Reader) (place : Place) (pass : PassKnown) (new : S) (port_new : P)
      (after : O) : Type 0 where
    pub lines : List (Option (List ℕ))
    pub replies : List Reply
    pub read : IsTrue s.tells_bytes → AreFrontLines (untaken (s.left old)) lines
        (stream_of reader (s.left new))
    pub goes_on : has_quit start lines ≡ false
    pub at : place ≡ place_behind start lines
    pub due : map due_of replies ≡ dues start lines
    pub served : ServesAll m limit root.number (commands replies) (lines_told replies) root.seen
        pass.seen port_old port_new
    pub put : IsTrue o.tells_text → o.text after ≡ o.text before ++ text_of replies
    pub pulls : s.faults old ≤ s.faults new
    pub puts : o.faults before ≤ o.faults after

  -- lines were read and answered since the start, up to this end
  pub record IsEnded (came : End) (pass : PassKnown) (new : S) (port_new : P) (after : O)
      : Type 0 where
    pub lines : List (Option (List ℕ))
    pub replies : List Reply
    pub due : map due_of replies ≡ dues start lines
    pub served : ServesAll m limit root.number (commands replies) (lines_told replies) root.seen
        pass.seen port_old port_new
    pub ended : IsEnd s o lines replies old new before after came

  -- the next turn was taken: the session goes on, or has ended
  abbrev pub GoesTo : Option End → Reader → Place → PassKnown → S → P → O → Type 0
  GoesTo None reader place pass new port_new after =
      IsSoFar reader place pass new port_new after
  GoesTo (Some came) reader place pass new port_new after =
      IsEnded came pass new port_new after
