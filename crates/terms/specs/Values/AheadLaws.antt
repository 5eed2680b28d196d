-- Laws of a writer on its way over a traversal: its start, a node more, its end, and the bytes that stand at the cursor.
use Rattle.std.specs.Prelude.{◌≡◌, ℕ, ◌+◌, ◌≤◌, ◌<◌, length, drop, Option, Some, None}
use Rattle.std.proofs.Math.Path.{refl, ap}
use Rattle.std.proofs.Common.{sym, ap₂, ◌∙◌, arith, length-append, drop-drop}
use mathlib.Core.List.{List, [], ◌∷◌, ◌++◌, append_assoc, append-nil}
use Rattle.records.specs.Format.Never.{never}
use Rattle.records.specs.Format.Syntax.{Goal}
use Rattle.records.specs.Format.Syntax.Term.{var}
use Rattle.records.specs.Format.Encode.{each, goal_bytes, term_bytes}
use Rattle.records.specs.Format.HeadLaws.{Known, bytes_all, bytes_drop}
use Rattle.records.specs.Ends.Range.{cut}
use Rattle.records.specs.Format.Reader.{Read, Parts, terms_of, goals_of, read}
use Rattle.records.specs.Format.Reader.Read.{unread, found}
use Rattle.records.specs.Format.ReaderLaws.{sound, parts_bytes}
use Rattle.records.specs.Ends.Traversal.{Node, Traversal, traversed, traverse, before, parts_nodes, terms_nodes, goal_nodes, goals_nodes}
use Rattle.records.specs.Ends.Traversal.Node.{variable, other}
use Rattle.records.specs.Ends.Traversal.Traversal.{off, on}
use Rattle.records.specs.Ends.Steps.{On, end_place, traverse_from, next_step}
use Rattle.records.specs.Ends.StepsLaws.{goes, to_variable, to_other}
use Rattle.records.specs.Ends.Stands.{Stands}
use Rattle.records.specs.Ends.StandsLaws.{stands_first, stands_cut}
use Rattle.records.specs.declared.traverse.Cursor.{Cursor}
use Rattle.records.specs.declared.traverse.NodeStep.{NodeStep}
use Rattle.records.specs.declared.traverse.NodeStep.TheVariants.{Variable, Other}
use Rattle.terms.specs.Theory.Substitution.{Substitution}
use Rattle.terms.specs.Values.NodeBytes.{node_bytes, nodes_bytes, traversal_bytes}
use Rattle.terms.specs.Values.NodeBytesLaws.{each_append, own_terms_bytes, own_goal_bytes}
use Rattle.terms.specs.Values.Ahead.{Ahead, VariableAt, OtherAt}

-- the bytes of a traversal's nodes stand where it goes
own_goals_bytes : (gs : List Goal) → nodes_bytes var (goals_nodes gs) ≡ each goal_bytes gs
own_goals_bytes [] = refl
own_goals_bytes (g ∷ gs) = each_append (node_bytes var) (goal_nodes g) (goals_nodes gs) ∙ ap₂ ◌++◌ (own_goal_bytes g) (own_goals_bytes gs)

own_parts_bytes : (p : Parts) → nodes_bytes var (parts_nodes p) ≡ parts_bytes p
own_parts_bytes p =
    each_append (node_bytes var) (terms_nodes (terms_of p)) (goals_nodes (goals_of p)) ∙ ap₂ ◌++◌ (own_terms_bytes (terms_of p)) (own_goals_bytes (goals_of p))

module _ (s : List ℕ) (known : Known s) where
  pub traverse_stands : (at t g : ℕ) {l : List Node} {e : ℕ} → traverse s at t g ≡ on l e → Stands s at (nodes_bytes var l) e
  unfolding traverse
  traverse_stands at t g {l} {e} q = go (read (drop at s) t g) refl q
    where
      go : (o : Read Parts) → read (drop at s) t g ≡ o → traversed at o ≡ on l e → Stands s at (nodes_bytes var l) e
      go unread h z = never cc
      go (found p n) h z =
          let a : parts_nodes p ≡ l = cc in
          let b : at + n ≡ e = cc in
          let w = sound (drop at s) t g p n h in
          rw (← a, ← b, own_parts_bytes p) (record {
            end = ap (λ (k : ℕ). at + k) w.size;
            bytes = w.bytes (bytes_drop at s (bytes_all s known)) ∙ ap (λ (x : List ℕ). parts_bytes p ++ x) (drop-drop n at s);
          })

-- at the start nothing is written
pub ahead_start : (θ : Substitution) (s : List ℕ) (c : Cursor) → On (traverse_from s c) → Ahead θ s (traversal_bytes θ (traverse_from s c)) [] c (end_place (traverse_from s c))
ahead_start θ s c h = go (traverse_from s c) refl h
  where
    go : (w : Traversal) → traverse_from s c ≡ w → On w → Ahead θ s (traversal_bytes θ w) [] c (end_place w)
    go off e k = absurd k
    go (on l e) q k = record { nodes = l; ahead = q; split = refl }

module _ {θ : Substitution} {s whole done : List ℕ} {c : Cursor} {end : ℕ} (a : Ahead θ s whole done c end) where
  pub ahead_on : On (traverse_from s c)
  ahead_on = rw a.ahead tt

  -- no more is written than the whole
  pub ahead_room : length done ≤ length whole
  ahead_room = omega (arith, ap length a.split, length-append done (nodes_bytes θ a.nodes))

  -- the first of the nodes ahead, where the traversal goes on with one
  first_node : (x : Node) (w : Traversal) → traverse_from s c ≡ before x w
      → (l : List Node) × (a.nodes ≡ x ∷ l) × (w ≡ on l (end))
  first_node x w e = go w (sym a.ahead ∙ e)
    where
      go : (v : Traversal) → on a.nodes (end) ≡ before x v → (l : List Node) × (a.nodes ≡ x ∷ l) × (v ≡ on l (end))
      go off q = never cc
      go (on l e) q = (l, cc, let z : end ≡ e = cc in ap (on l) (sym z))

  pub next_node : (x : Node) (d : Cursor) → traverse_from s c ≡ before x (traverse_from s d) → Ahead θ s whole (done ++ node_bytes θ x) d end
  next_node x d e =
      let y = first_node x (traverse_from s d) e in
      record {
        nodes = y.0;
        ahead = y.2;
        split = a.split ∙ ap (λ (l : List Node). done ++ nodes_bytes θ l) y.1 ∙ sym (append_assoc done (node_bytes θ x) (nodes_bytes θ y.0));
      }

  module _ (known : Known s) {r : Option NodeStep} (is : r ≡ next_step s c.pos c.terms c.goals) where
    -- a node's own bytes stand from the cursor to the next one
    node_stands : (x : Node) (d : Cursor) → traverse_from s c ≡ before x (traverse_from s d) → Stands s c.pos (node_bytes var x) d.pos
    node_stands x d e =
        let y = first_node x (traverse_from s d) e in
        let w : Stands s c.pos (node_bytes var x ++ nodes_bytes var y.0) (end) =
        rw y.1 at (traverse_stands s known c.pos c.terms c.goals a.ahead) in
        let v = traverse_stands s known d.pos d.terms d.goals y.2 in
        let z : d.pos ≡ c.pos + length (node_bytes var x) = omega (arith, w.end, v.end, length-append (node_bytes var x) (nodes_bytes var y.0)) in
        rw z (stands_first (node_bytes var x) (nodes_bytes var y.0) w)

    -- a variable gives the bytes of its term
    pub ahead_variable : {v : ℕ} {d : Cursor} → r ≡ (Some (Variable v d)) → Ahead θ s whole (done ++ term_bytes (θ v)) d end
    ahead_variable {v} {d} e = next_node (variable v) d (goes s known c.pos c.terms c.goals ahead_on is (Some (Variable v d)) e).0

    -- any other node gives the bytes that stand there
    pub ahead_other : {d : Cursor} → r ≡ (Some (Other d)) → Ahead θ s whole (done ++ cut s (record { from = c.pos; to = d.pos })) d end
    ahead_other {d} e =
        let y = (goes s known c.pos c.terms c.goals ahead_on is (Some (Other d)) e).0 in
        rw (stands_cut (node_stands (other y.0) d y.1)) (next_node (other y.0) d y.1)

    -- at the end all is written
    pub ahead_done : r ≡ None → (whole ≡ done) × (c.pos ≡ end)
    ahead_done e =
        let q : on a.nodes end ≡ on [] c.pos = sym a.ahead ∙ goes s known c.pos c.terms c.goals ahead_on is None e in
        let z : a.nodes ≡ [] = cc in
        (a.split ∙ ap (λ (l : List Node). done ++ nodes_bytes θ l) z ∙ append-nil done, cc)

    -- the bytes left fall
    pub ahead_less : {v : ℕ} {d : Cursor} → r ≡ (Some (Variable v d)) → (c.pos < d.pos) × (d.pos ≤ length s) × (v < 65536)
    ahead_less e = let y = to_variable s known c ahead_on is e in (y.0.forth, y.0.within, y.2)

    pub ahead_less_other : {d : Cursor} → r ≡ (Some (Other d)) → (c.pos < d.pos) × (d.pos ≤ length s)
    ahead_less_other e = let y = to_other s known c ahead_on is e in (y.0.forth, y.0.within)

module _ {θ : Substitution} {s whole done : List ℕ} {c : Cursor} {end : ℕ} (a : Ahead θ s whole done c end) (known : Known s) {r : Option NodeStep} (is : r ≡ next_step s c.pos c.terms c.goals) where
  pub variable_at : {v : ℕ} {d : Cursor} → r ≡ (Some (Variable v d)) → VariableAt s c v d
  variable_at {v} {d} e = let y = (goes s known c.pos c.terms c.goals (ahead_on a) is (Some (Variable v d)) e).0 in record { node = y; stands = node_stands a known is (variable v) d y }

  pub other_at : {d : Cursor} → r ≡ (Some (Other d)) → OtherAt s c d
  other_at {d} e =
      let y = (goes s known c.pos c.terms c.goals (ahead_on a) is (Some (Other d)) e).0 in
      record { bytes = y.0; node = y.1; stands = node_stands a known is (other y.0) d y.1 }
