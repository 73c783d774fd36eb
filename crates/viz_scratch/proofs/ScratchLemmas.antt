-- The file of a node is one, since what the node gives is.
use Rattle.std.proofs.Common.{◌≡◌, ℕ, List, Result, Ok, Err, refl, sym, ap, subst, ◌∙◌}
use Rattle.viz_dataset.specs.declared.dataset.Dataset.{Dataset}
use Rattle.viz_base.specs.declared.node.NodeId.{NodeId}
use Rattle.viz_network.specs.declared.fault.Cause.{Cause}
use Rattle.viz_network.specs.declared.fault.Cause.TheVariants as cause
use Rattle.viz_network.specs.declared.fault.Fault.{Fault}
use Rattle.viz_network.specs.Cone.{cone_of}
use Rattle.viz_node_meaning.specs.Laws.{ConesGiveOne}
use Rattle.viz_scratch.specs.Written.{Style, IsUnwritten, IsTextOf, IsTextBehind, style_of, IsFileOf}
use Rattle.viz_scratch.specs.Laws.{FilesAreOne}

module _ (cones : ConesGiveOne) where
  -- two causes of one dataset are one
  cause_one : (style : Style) (d : Dataset) (x y : Cause) → IsUnwritten style d x → IsUnwritten style d y → x ≡ y
  cause_one style d cause.TooMany cause.TooMany p q = refl
  cause_one style d cause.TooMany cause.TooWide p q = absurd (p q.0)
  cause_one style d cause.TooWide cause.TooMany p q = absurd (q p.0)
  cause_one style d cause.TooWide cause.TooWide p q = refl
  cause_one style d (cause.Unconnected n) y p q = elim p [ ]
  cause_one style d (cause.WrongInput n) y p q = elim p [ ]
  cause_one style d cause.NoFile y p q = elim p [ ]
  cause_one style d (cause.BadFile f) y p q = elim p [ ]
  cause_one style d cause.EmptyExtent y p q = elim p [ ]
  cause_one style d cause.GridsDiffer y p q = elim p [ ]
  cause_one style d cause.TooMany (cause.Unconnected n) p q = elim q [ ]
  cause_one style d cause.TooMany (cause.WrongInput n) p q = elim q [ ]
  cause_one style d cause.TooMany cause.NoFile p q = elim q [ ]
  cause_one style d cause.TooMany (cause.BadFile f) p q = elim q [ ]
  cause_one style d cause.TooMany cause.EmptyExtent p q = elim q [ ]
  cause_one style d cause.TooMany cause.GridsDiffer p q = elim q [ ]
  cause_one style d cause.TooWide (cause.Unconnected n) p q = elim q [ ]
  cause_one style d cause.TooWide (cause.WrongInput n) p q = elim q [ ]
  cause_one style d cause.TooWide cause.NoFile p q = elim q [ ]
  cause_one style d cause.TooWide (cause.BadFile f) p q = elim q [ ]
  cause_one style d cause.TooWide cause.EmptyExtent p q = elim q [ ]
  cause_one style d cause.TooWide cause.GridsDiffer p q = elim q [ ]

  unwritten : (style : Style) (d : Dataset) (x : Cause) → IsUnwritten style d x → (text : List ℕ) → (id : ℕ) → IsTextOf style id d (Ok text) → ⊥
  unwritten style d cause.TooMany p text id t = p t.0
  unwritten style d cause.TooWide p text id t = p.1 t.1
  unwritten style d (cause.Unconnected n) p text id t = elim p [ ]
  unwritten style d (cause.WrongInput n) p text id t = elim p [ ]
  unwritten style d cause.NoFile p text id t = elim p [ ]
  unwritten style d (cause.BadFile f) p text id t = elim p [ ]
  unwritten style d cause.EmptyExtent p text id t = elim p [ ]
  unwritten style d cause.GridsDiffer p text id t = elim p [ ]

  text_one : (style : Style) (id : ℕ) (d : Dataset) (a b : Result (List ℕ) Fault) → IsTextOf style id d a → IsTextOf style id d b → a ≡ b
  text_one style id d (Ok x) (Ok y) p q = ap (λ z. Ok z) (p.2 ∙ sym q.2)
  text_one style id d (Ok x) (Err f) p q = absurd (unwritten style d f.cause q.1 x id p)
  text_one style id d (Err f) (Ok y) p q = absurd (unwritten style d f.cause p.1 y id q)
  text_one style id d (Err f) (Err g) p q =
      let made : ℕ → NodeId = λ i. record { 0 = i } in
      let node : f.node ≡ g.node = ap made (p.0 ∙ sym q.0) in
      let fault : NodeId → Cause → Fault = λ n c. record { node = n; cause = c } in
      ap (λ n. Err (fault n f.cause)) node ∙ ap (λ c. Err (fault g.node c)) (cause_one style d f.cause g.cause p.1 q.1)

  text_behind_one : (style : Style) (id : ℕ) (s : Result Dataset Fault) (a b : Result (List ℕ) Fault) → IsTextBehind style id s a → IsTextBehind style id s b → a ≡ b
  text_behind_one style id (Err fault) a b p q = p ∙ sym q
  text_behind_one style id (Ok d) a b p q = text_one style id d a b p q

  pub files_are_one : FilesAreOne
  files_are_one net id a b p q =
      let same = cones (cone_of net id) p.0 q.0 p.1 q.1 in
      text_behind_one (style_of (cone_of net id)) id q.0 a b (subst (λ s. IsTextBehind (style_of (cone_of net id)) id s a) same p.2) q.2
