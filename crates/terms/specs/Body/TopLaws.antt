-- The greatest variable of what stands somewhere: what a traversal meets are the variables of the tree.
use Rattle.std.specs.Prelude.{◌≡◌, refl, List, [], ◌∷◌, ◌++◌, ℕ, ◌+◌, ◌-◌, ◌<◌, max, length, Option, Some, None}
use Rattle.std.proofs.Common.{sym, ap, ◌∙◌, append-nil, arith}
use Rattle.records.specs.Format.Never.{never}
use Rattle.records.specs.Format.Syntax.{Goal, Ancestor, Bet, arity}
use Rattle.records.specs.Format.Syntax.Terms.{nil}
use Rattle.records.specs.Format.Syntax.Goal.{conj, disj}
use Rattle.records.specs.Format.Syntax.Ancestor.{called, in_conj, in_disj}
use Rattle.records.specs.Format.Syntax.Bet.{unifier, or, by}
use Rattle.records.specs.Format.Encode.{word, tag, each, terms_bytes, goal_bytes, ancestor_bytes, binding_bytes, bet_bytes}
use Rattle.records.specs.Format.Formed.{GoalFormed, AncestorFormed, BetFormed}
use Rattle.records.specs.Gate.RecordRules.{goal_variables, ancestor_variables}
use Rattle.records.specs.Gate.KeptLaws.{term_met, terms_met, goal_met}
use Rattle.records.specs.Format.Heads.{ancestor_head_at, bet_head_at, word_at}
use Rattle.records.specs.Format.Reader.Parts.{parts}
use Rattle.records.specs.Format.ReaderLaws.{parts_bytes}
use Rattle.records.specs.Format.ItemLaws.{parts_exact}
use Rattle.records.specs.Ends.Traversal.{Node, Traversal, term_nodes, terms_nodes, goal_nodes, node_variables, traversed, traverse}
use Rattle.records.specs.Ends.Traversal.Traversal.{off, on}
use Rattle.records.specs.Ends.Steps.{On, Tops}
use Rattle.records.specs.Ends.Stands.{Stands, head_of_ancestor, head_of_bet}
use Rattle.records.specs.Ends.StandsLaws.{stands_second, stands_read, ancestor_stands, bet_stands, traverse_term, traverse_terms, traverse_goal}
use Rattle.records.specs.declared.heads.AncestorHead.{AncestorHead}
use Rattle.records.specs.declared.heads.AncestorHead.TheVariants.{Called, InConj, InDisj}
use Rattle.records.specs.declared.heads.BetHead.{BetHead}
use Rattle.records.specs.declared.heads.BetHead.TheVariants.{Unifier, Or, By}
use Rattle.records.specs.declared.traverse.Top.{Top}
use Rattle.records.specs.Ends.Above.{above}
use Rattle.terms.specs.Body.Body.{pair_variables, bet_variables}
use Rattle.terms.specs.Body.Tops.{member_variables, MemberAt, TopOf}
use Rattle.terms.specs.Standing.Frames.{GoalAt, AncestorAt, PairAt, PairsAt, BetAt}
use Rattle.terms.specs.Standing.Rows.{StandingItem, StandingRow, FirstOf, standing_moved}
use Rattle.terms.specs.Standing.RowsLaws.{standing_first, standing_none, standing_none_end}
use Rattle.terms.specs.Standing.BetRowLaws.{pair_parts}
use Rattle.terms.specs.declared.variables.StackKind.{StackKind}
use Rattle.terms.specs.declared.variables.StackKind.TheVariants.{Ancestors, Bets}

-- the least number above two lists
pub above_append : (l m : List ℕ) → above (l ++ m) ≡ max (above l) (above m)
above_append [] m = omega arith
above_append (v ∷ l) m = let h = above_append l m in omega arith

-- the traversal over two goals that stand there
traverse_two : {s : List ℕ} {at e : ℕ} (a b : Goal) → GoalFormed a → GoalFormed b → Stands s at (goal_bytes a ++ goal_bytes b) e
    → traverse s at 0 2 ≡ on (goal_nodes a ++ goal_nodes b) e
unfolding traverse
traverse_two {s} {at} {e} a b fa fb h =
    let w : Stands s at (parts_bytes (parts nil (a ∷ b ∷ []))) e = rw append-nil h in
    ap (traversed at) (stands_read (parts_exact 0 2) (parts nil (a ∷ b ∷ [])) (refl, refl, tt, (fa, (fb, tt))) w)
    ∙ ap (on (goal_nodes a ++ (goal_nodes b ++ []))) (sym w.end) ∙ ap (λ (l : List Node). on (goal_nodes a ++ l) e) (append-nil (goal_nodes b))

-- what a traversal tells of the tree whose nodes it goes over
pub nodes_top : {w : Traversal} (l : List Node) (e : ℕ) {x : List ℕ} {r : Top} → w ≡ on l e → node_variables l ≡ x → Tops w r → TopOf x e r
nodes_top l e {x} {r} q i t =
    let w : Tops (on l e) r = rw q at t in
    record { top = w.top ∙ ap above i; end = w.end }

pub top_moved : {x y : List ℕ} {e f : ℕ} {r : Top} → x ≡ y → e ≡ f → TopOf x e r → TopOf y f r
top_moved p q t = record { top = t.top ∙ ap above p; end = t.end ∙ q }

-- a goal
pub goal_on : {s : List ℕ} {at : ℕ} (g : GoalAt s at) → On (traverse s at 0 1)
goal_on g = rw (traverse_goal g.item g.formed g.stands) tt

pub goal_top : {s : List ℕ} {at : ℕ} (g : GoalAt s at) {r : Top} → Tops (traverse s at 0 1) r → TopOf (goal_variables g.item) g.end r
goal_top g = nodes_top (goal_nodes g.item) g.end (traverse_goal g.item g.formed g.stands) (goal_met g.item)

-- an ancestor's parts, by its head
abbrev pub ancestor_traversal : List ℕ → ℕ → Option AncestorHead → Traversal
ancestor_traversal s at (Some (Called p k)) = traverse s (at + 4) k 0
ancestor_traversal s at (Some (InConj k)) = traverse s (at + 2) 0 2
ancestor_traversal s at (Some (InDisj k)) = traverse s (at + 2) 0 2
ancestor_traversal s at None = off

abbrev pub ancestor_nodes : Ancestor → List Node
ancestor_nodes (called p ts) = terms_nodes ts
ancestor_nodes (in_conj h a b) = goal_nodes a ++ goal_nodes b
ancestor_nodes (in_disj h a b) = goal_nodes a ++ goal_nodes b

ancestor_nodes_variables : (a : Ancestor) → node_variables (ancestor_nodes a) ≡ ancestor_variables a
ancestor_nodes_variables (called p ts) = terms_met ts
ancestor_nodes_variables (in_conj h a b) = goal_met (conj a b)
ancestor_nodes_variables (in_disj h a b) = goal_met (disj a b)

ancestor_traversed : {s : List ℕ} {at e : ℕ} (a : Ancestor) → AncestorFormed a → Stands s at (ancestor_bytes a) e
    → ancestor_traversal s at (head_of_ancestor a) ≡ on (ancestor_nodes a) e
ancestor_traversed (called p ts) f h = traverse_terms ts f.2 (stands_second (0x15 ∷ (word p ++ (arity ts ∷ []))) (terms_bytes ts) h)
ancestor_traversed (in_conj k a b) f h = traverse_two a b f.0 f.1 (stands_second (0x30 ∷ (tag k ∷ [])) (goal_bytes a ++ goal_bytes b) h)
ancestor_traversed (in_disj k a b) f h = traverse_two a b f.0 f.1 (stands_second (0x31 ∷ (tag k ∷ [])) (goal_bytes a ++ goal_bytes b) h)

module _ {s : List ℕ} {at : ℕ} (a : AncestorAt s at) {h : Option AncestorHead} (is : h ≡ ancestor_head_at s at) where
  ancestor_arm : (i : Option AncestorHead) → h ≡ i → ancestor_traversal s at i ≡ on (ancestor_nodes a.item) a.end
  ancestor_arm i e =
      ap (ancestor_traversal s at) (sym e ∙ is ∙ ancestor_stands a.item a.formed a.stands) ∙ ancestor_traversed a.item a.formed a.stands

  -- for code that has the head h from a call
  pub ancestor_on : (i : Option AncestorHead) → h ≡ i → On (ancestor_traversal s at i)
  ancestor_on i e = rw (ancestor_arm i e) tt

  pub ancestor_tops : (i : Option AncestorHead) → h ≡ i → {r : Top} → Tops (ancestor_traversal s at i) r → TopOf (ancestor_variables a.item) a.end r
  ancestor_tops i e = nodes_top (ancestor_nodes a.item) a.end (ancestor_arm i e) (ancestor_nodes_variables a.item)

  pub ancestor_never : {P : Type 0} → h ≡ None → P
  ancestor_never e = absurd (ancestor_on None e)

-- a pair: its variable and the traversal over its term
module _ {s : List ℕ} {at : ℕ} (p : PairAt s at) where
  pub pair_on : On (traverse s (at + 2) 1 0)
  pair_on = let q = pair_parts p in rw (traverse_term q.term q.formed q.stands) tt

  -- for code that has the word w from a call
  module _ {w : Option ℕ} (is : w ≡ word_at s at) where
    pub pair_tops : {v : ℕ} → w ≡ Some v → {t : Top} → Tops (traverse s (at + 2) 1 0) t → {m : ℕ} → m ≡ max (v + 1) t.top
        → TopOf (pair_variables p.item) p.end (record { top = m; end = t.end })
    pair_tops {v} e {t} u {m} i =
        let q = pair_parts p in
        let x : Some v ≡ Some q.variable = sym e ∙ is ∙ q.number in
        let y : v ≡ q.variable = cc in
        let z = nodes_top (term_nodes q.term) p.end (traverse_term q.term q.formed q.stands) (term_met q.term) u in
        record { top = rw q.is (omega (arith, z.top)); end = z.end }

    pub pair_never : {P : Type 0} → w ≡ None → P
    pair_never e = let x : None ≡ Some (pair_parts p).variable = sym e ∙ is ∙ (pair_parts p).number in never cc

-- a bet, for code that has its head h from a call: pairs, a tag, or a goal
module _ {s : List ℕ} {at : ℕ} (b : BetAt s at) {h : Option BetHead} (is : h ≡ bet_head_at s at) where
  abbrev pub BetArm : Option BetHead → Type 0
  BetArm (Some (Unifier n)) = (p : PairsAt s (at + 3) n) × (p.end ≡ b.end) × (each pair_variables p.items ≡ bet_variables b.item)
  BetArm (Some (Or k)) = TopOf (bet_variables b.item) b.end (record { top = 0; end = at + 2 })
  BetArm (Some By) = (g : GoalAt s (at + 1)) × (g.end ≡ b.end) × (goal_variables g.item ≡ bet_variables b.item)
  BetArm None = ⊥

  pub bet_arm : (i : Option BetHead) → h ≡ i → BetArm i
  bet_arm i e = rw (sym e ∙ is ∙ bet_stands b.item b.formed b.stands) (go b.item refl b.formed b.stands)
    where
      go : (x : Bet) → b.item ≡ x → BetFormed x → Stands s at (bet_bytes x) b.end → BetArm (head_of_bet x)
      go (unifier σ) q f w =
          (record { items = σ; formed = f.1; many = refl; end = b.end; stands = stands_second (0x20 ∷ word (length σ)) (each binding_bytes σ) w }, refl, ap bet_variables (sym q))
      go (or k) q f w = record { top = ap (λ (x : Bet). above (bet_variables x)) (sym q); end = sym w.end }
      go (by g) q f w = (record { item = g; formed = f; end = b.end; stands = stands_second (0x22 ∷ []) (goal_bytes g) w }, refl, ap bet_variables (sym q))

  pub unifier_top : {n : ℕ} → h ≡ Some (Unifier n) → {r : Top} → ((p : PairsAt s (at + 3) n) → TopOf (each pair_variables p.items) p.end r)
      → TopOf (bet_variables b.item) b.end r
  unifier_top {n} e t = let y = bet_arm (Some (Unifier n)) e in top_moved y.2 y.1 (t y.0)

  pub by_top : h ≡ Some By → {r : Top} → Tops (traverse s (at + 1) 0 1) r → TopOf (bet_variables b.item) b.end r
  by_top e u = let y = bet_arm (Some By) e in top_moved y.2 y.1 (goal_top y.0 u)

-- a member is what its stack holds
module _ {s : List ℕ} {at : ℕ} {k : StackKind} where
  pub as_ancestor : k ≡ Ancestors → MemberAt k s at → AncestorAt s at
  as_ancestor e = rw e (λ a. a)

  pub as_bet : k ≡ Bets → MemberAt k s at → BetAt s at
  as_bet e = rw e (λ a. a)

  pub ancestor_member : {r : Top} → k ≡ Ancestors → ((a : AncestorAt s at) → TopOf (ancestor_variables a.item) a.end r)
      → (a : MemberAt k s at) → TopOf (member_variables k a.item) a.end r
  ancestor_member e h = rw e h

  pub bet_member : {r : Top} → k ≡ Bets → ((a : BetAt s at) → TopOf (bet_variables a.item) a.end r)
      → (a : MemberAt k s at) → TopOf (member_variables k a.item) a.end r
  bet_member e h = rw e h

-- a row on the way: m is gathered, and `left` items stand from pos on
module _ {A : Type 0} (bytes : A → List ℕ) (Formed : A → Type 0) (variables : A → List ℕ) (s : List ℕ) (at n : ℕ) where
  pub record Gathered (pos left m : ℕ) : Type 0 where
    pub rest : StandingRow bytes Formed s at n → StandingRow bytes Formed s pos left
    pub ends : (u : StandingRow bytes Formed s at n) → (rest u).end ≡ u.end
    pub same : (u : StandingRow bytes Formed s at n) → above (each variables u.items) ≡ max m (above (each variables (rest u).items))

  pub gathered_start : Gathered at n 0
  gathered_start = record { rest = λ u. u; ends = λ u. refl; same = λ u. omega arith }

  module _ {pos left m : ℕ} (g : Gathered pos left m) where
    -- the next item
    module _ (h : 0 < left) where
      pub gathered_item : StandingRow bytes Formed s at n → StandingItem bytes Formed s pos
      gathered_item u = (standing_first (g.rest u) h).first

      pub gathered_past : {r : Top} {b : ℕ} → ((i : StandingItem bytes Formed s pos) → TopOf (variables i.item) i.end r) → b ≡ max m r.top
          → Gathered r.end (left - 1) b
      gathered_past {r} {b} t e = record {
        rest = λ u. standing_moved (t (standing_first (g.rest u) h).first).end (standing_first (g.rest u) h).rest;
        ends = λ u. (standing_first (g.rest u) h).same_end ∙ g.ends u;
        same = λ u. g.same u ∙ split u (standing_first (g.rest u) h);
      }
        where
          split : (u : StandingRow bytes Formed s at n) (f : FirstOf (g.rest u))
              → max m (above (each variables (g.rest u).items)) ≡ max b (above (each variables f.rest.items))
          split u f =
              let x : above (each variables (g.rest u).items) ≡ max (above (variables f.first.item)) (above (each variables f.rest.items)) =
              ap (λ (l : List A). above (each variables l)) f.whole ∙ above_append (variables f.first.item) (each variables f.rest.items) in
              omega (arith, x, (t f.first).top, e)

    -- once no item is left
    pub gathered_end : left ≡ 0 → (u : StandingRow bytes Formed s at n) → TopOf (each variables u.items) u.end (record { top = m; end = pos })
    gathered_end e u =
        let x : above (each variables (g.rest u).items) ≡ 0 = ap (λ (l : List A). above (each variables l)) (standing_none (g.rest u) e) in
        record { top = omega (arith, x, g.same u); end = sym (standing_none_end (g.rest u) e) ∙ g.ends u }
