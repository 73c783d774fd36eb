-- Answers behind other answers, and the text of both.
use Rattle.std.proofs.Common.{◌≡◌, ◌≤◌, ℕ, suc, false, cond, inl, inr, List, [], ◌∷◌, ◌++◌, length, take, map, Option, None, Some, Result, Ok, Err, refl, sym, ap, ap₂, ◌∙◌, append_assoc, arith}
use Rattle.std.proofs.lemmas.List.{append-nil, map-append}
use Rattle.std.proofs.lemmas.Grind.{flat_map-append}
use Rattle.viz_base.specs.Faults.{Rose}
use Rattle.viz_base.specs.Texts.{AppendsPrefix}
use Rattle.viz_network.specs.declared.edit.Edit.{Edit}
use Rattle.viz_words.specs.declared.refusal.ScriptRefusal.{ScriptRefusal}
use Rattle.viz_console.specs.Lines.{Demand, nothing, quits, begins, ends, asks, demand_in, completed, is_quit, Place, start, Due, served, due, dues, has_quit}
use Rattle.viz_console.specs.Replies.{Reply, due_of, text_of, reply_text}
use Rattle.viz_console.specs.Steps.Serving.{place_behind}
use Rattle.viz_console.proofs.LineLemmas.{dues_behind}

-- a line that quits completes no command
quits_none : (n : ℕ) (batch : Option (List Edit)) → served n (completed batch quits) ≡ []
quits_none n None = refl
quits_none n (Some es) = refl

-- what is due for one line
one_due : (p : Place) (d : Result Demand ScriptRefusal) → cond (is_quit d) [] (due p d ++ []) ≡ due p d
one_due p (Err r) = refl
one_due p (Ok quits) = sym (quits_none _ p.batch)
one_due p (Ok nothing) = append-nil (due p (Ok nothing))
one_due p (Ok begins) = append-nil (due p (Ok begins))
one_due p (Ok ends) = append-nil (due p (Ok ends))
one_due p (Ok (asks asked)) = append-nil (due p (Ok (asks asked)))

-- the answers to a line behind those to others
pub due_more : (lines : List (Option (List ℕ))) (line : Option (List ℕ)) (p : Place) (d : Result Demand ScriptRefusal) (replies more : List Reply) → has_quit start lines ≡ false
    → p ≡ place_behind start lines → demand_in p.batch line ≡ d → map due_of replies ≡ dues start lines → map due_of more ≡ due p d
    → map due_of (replies ++ more) ≡ dues start (lines ++ line ∷ [])
due_more lines line p d replies more none at is before one =
    map-append due_of replies more ∙ ap₂ (λ (x y : List Due). x ++ y) before (one ∙ ap (due p) (sym is) ∙ sym (one_due p (demand_in p.batch line)))
    ∙ ap (λ (q : Place). dues start lines ++ dues q (line ∷ [])) at ∙ sym (dues_behind start lines (line ∷ []) none)

-- ---- texts

pub text_more : (replies more : List Reply) → text_of (replies ++ more) ≡ text_of replies ++ text_of more
text_more replies more = flat_map-append reply_text replies more

pub whole_text : (text : List ℕ) → take (length text) text ≡ text
whole_text [] = refl
whole_text (b ∷ bs) = ap (λ t. b ∷ t) (whole_text bs)

-- all of a text are first bytes of it
pub front_of_whole : (old text new : List ℕ) → new ≡ old ++ text → AppendsPrefix old text new
front_of_whole old text new is = (length text, is ∙ ap (λ t. old ++ t) (sym (whole_text text)))

-- first bytes of a text behind another are first bytes of both
front_behind : (text more : List ℕ) (kept : ℕ) → (n : ℕ) × (take n (text ++ more) ≡ text ++ take kept more)
front_behind [] more kept = (kept, refl)
front_behind (b ∷ bs) more kept =
    let rest = front_behind bs more kept in
    (suc rest.0, ap (λ t. b ∷ t) rest.1)

pub front_more : (old text more mid new : List ℕ) → mid ≡ old ++ text → AppendsPrefix mid more new → AppendsPrefix old (text ++ more) new
front_more old text more mid new is front =
    let both = front_behind text more front.0 in
    (both.0, front.1 ∙ ap (λ l. l ++ take front.0 more) is ∙ append_assoc old text (take front.0 more) ∙ ap (λ t. old ++ t) (sym both.1))

-- ---- counts

-- a count that rose after it was no lower rose
pub rose_after : (a b c : ℕ) → a ≤ b → Rose b c → Rose a c
rose_after a b c up (inl more) = inl (omega (arith, up, more))
rose_after a b c up (inr most) = inr most
