-- The account of a session, by what its one pass did.
use Rattle.std.proofs.Common.{◌≡◌, ◌≤◌, ℕ, zero, suc, true≢false, List, [], ◌∷◌, ◌++◌, All, length, map, flat_map, Option, refl, sym, ap, subst, ◌∙◌, arith}
use Rattle.std.proofs.lemmas.List.{append-nil}
use mathlib.Core.Option.{some-ne-none}
use Rattle.viz_base.specs.declared.out.Out as out
use Rattle.viz_base.specs.declared.port.Port as port
use Rattle.viz_turn.specs.Tales.{HasNoOther}
use Rattle.viz_turn.specs.Known.{Identity}
use Rattle.viz_turn.proofs.LawLemmas.{no_other}
use Rattle.viz_entries.specs.declared.entry.Entry.{Entry}
use Rattle.viz_entries.specs.History.{by_of, IsLegal}
use Rattle.viz_script.specs.Orders.{Asked}
use Rattle.viz_report.specs.declared.line.Line.{Line}
use Rattle.viz_account.specs.Account.{IsAccountOf, RoseBy, faults_told, edited}
use Rattle.viz_account.specs.Laws.{CountEdits, LinesCountEdits, IsClosedLine, AuditLinesAreClosed, AsksAlone}
use Rattle.viz_account.specs.Served.{ServesAll}
use Rattle.viz_account.proofs.AccountLemmas.{served_none}
use Rattle.viz_actor.specs.Groups.{history_limit}
use Rattle.viz_actor.specs.Updating.{IsSamePass}
use Rattle.viz_turn.specs.Known as turn
use Rattle.viz_hub.specs.Passes.{PassKnown, as_known, with_sent, first_pass, numbers, IsWhole}
use Rattle.viz_source.specs.declared.source.Source as source
use Rattle.viz_console.specs.declared.ending.End.{End}
use Rattle.viz_console.specs.declared.ending.End.TheVariants as end
use Rattle.viz_console.specs.Lines.{start, dues}
use Rattle.viz_console.specs.Replies.{Reply, due_of, commands, lines_told}
use Rattle.viz_console.specs.Ends.{all_lines}
use Rattle.viz_console.specs.Sessions.{AreAnswered, IsSession}
use Rattle.viz_console.specs.Steps.Serving.{IsEnded}
use Rattle.viz_console.proofs.ReplyLemmas.{front_of_whole}

module _ {P : Type 0} (m : port.Ghosts P) where
  -- one pass, which made all entries of a history, has the account of one actor
  pub one_account : (limit number : ℕ) (os : List Asked) (ls : List Line) (h : List Entry) (before after : P) → ServesAll m limit number os ls [] h before after
      → IsLegal h → length h ≤ limit → HasNoOther by_of (number ∷ []) h
      → IsAccountOf m limit ((os ∷ []) ∷ []) h ((ls ∷ []) ∷ []) (before ∷ []) (after ∷ [])
  one_account limit number os ls h before after served legal within own = record {
    passes = (number ∷ []) ∷ [];
    ends = length h ∷ [];
    legal = legal;
    within = within;
    apart = refl;
    whole = no_other by_of (number ∷ []) h own;
    actors = (
      record {
        gained = (
          served.gained.0,
          served.gained.2,
          (served.gained.1, served.gained.0, [], sym (append-nil served.gained.0), served.gained.3, served.gained.4, omega arith, refl),
        );
        own = served.own ∙ sym (append-nil (flat_map edited ls));
        faults = subst (λ (l : List Line). RoseBy (faults_told l) (m.faults before) (m.faults after)) (sym (append-nil ls)) served.faults;
        idle = λ e. served.idle (sym (append-nil os) ∙ e);
      },
      refl,
    );
  }

  -- no other actor has commands
  alone : (os : List Asked) → AsksAlone 0 ((os ∷ []) ∷ [])
  alone os zero phases there other = absurd (other refl)
  alone os (suc j) phases there other = let bad : ⊥ = cc in absurd bad

  module _ (counts : LinesCountEdits m) (closed : AuditLinesAreClosed m) where
    pub answered_by : (lines : List (Option (List ℕ))) (replies : List Reply) (h : List Entry) (before after : P) → map due_of replies ≡ dues start lines
        → IsAccountOf m history_limit ((commands replies ∷ []) ∷ []) h ((lines_told replies ∷ []) ∷ []) (before ∷ []) (after ∷ [])
        → AreAnswered m lines replies h before after
    answered_by lines replies h before after due account =
        let ls = lines_told replies in
        record {
          due = due;
          account = account;
          counted = subst (CountEdits 0) (append-nil ls)
              (counts history_limit ((commands replies ∷ []) ∷ []) h ((ls ∷ []) ∷ []) (before ∷ []) (after ∷ []) account 0 (alone (commands replies)) (ls ∷ []) refl);
          closed = subst (All IsClosedLine) (append-nil (ls ++ []) ∙ append-nil ls)
              (closed history_limit ((commands replies ∷ []) ∷ []) h ((ls ∷ []) ∷ []) (before ∷ []) (after ∷ []) account);
        }

    module _ {S O : Type 0} (s : source.Ghosts S) (o : out.Ghosts O) where
      -- a session that was served by the first pass of a hub, which was closed with this history
      pub session_of : (t : Identity) (root pass : PassKnown) (h : List Entry) (e : End) (old new : S) (port_old port_new : P) (before after : O)
          → root ≡ first_pass t → t.mark ≡ history_limit → IsSamePass root pass → IsEnded s m o t.mark root old port_old before e pass new port_new after
          → IsLegal h → length h ≤ t.mark → (HasNoOther by_of (numbers pass) h → h ≡ pass.seen) → (IsWhole pass → HasNoOther by_of (numbers pass) h)
          → IsSession s m o e old new port_old port_new before after
      session_of t root pass h e old new port_old port_new before after first mark same ended legal within seen whole =
          let form : pass ≡ with_sent pass.sent pass.last (turn.at_seen (as_known (first_pass t)) pass.seen) =
          same ∙ ap (λ (r : PassKnown). with_sent pass.sent pass.last (turn.at_seen (as_known r) pass.seen)) first in
          let is_whole : IsWhole pass = subst IsWhole (sym form) (record { first = refl; all = λ n none. absurd (true≢false (sym none)) }) in
          let all = whole is_whole in
          let own : HasNoOther by_of (0 ∷ []) h = subst (λ (ns : List ℕ). HasNoOther by_of ns h) (ap numbers form) all in
          let os = commands ended.replies in
          let ls = lines_told ended.replies in
          let served : ServesAll m t.mark 0 os ls [] h port_old port_new =
          subst (λ (l : List Entry). ServesAll m t.mark 0 os ls [] l port_old port_new) (sym (seen all))
          (subst (λ (r : PassKnown). ServesAll m t.mark r.number os ls r.seen pass.seen port_old port_new) first ended.served) in
          let account = subst (λ (n : ℕ). IsAccountOf m n ((os ∷ []) ∷ []) h ((ls ∷ []) ∷ []) (port_old ∷ []) (port_new ∷ [])) mark
          (one_account t.mark 0 os ls h port_old port_new served legal within own) in
          record {
            lines = ended.lines;
            replies = ended.replies;
            history = h;
            answered = answered_by ended.lines ended.replies h port_old port_new ended.due account;
            ended = ended.ended;
          }

      -- a session for which memory was wanting at its start
      pub no_session : (old : S) (port : P) (before : O) → IsSession s m o end.Memory old old port port before before
      no_session old port before = record {
        lines = [];
        replies = [];
        history = [];
        answered = answered_by [] [] [] port port refl
            (one_account history_limit 0 [] [] [] port port (served_none m history_limit 0 [] port) tt (omega arith) (λ k e at. absurd (some-ne-none e (sym at))));
        ended = record {
          goes_on = refl;
          read = λ told. (all_lines (s.left old), refl);
          put = λ told. front_of_whole (o.text before) [] (o.text before) (sym (append-nil (o.text before)));
        };
      }
