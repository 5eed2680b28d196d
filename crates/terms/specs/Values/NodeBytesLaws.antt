-- Laws of the bytes of nodes: the nodes of a term or a goal give its bytes under the substitution.
use Rattle.std.specs.Prelude.{◌≡◌, refl, List, [], ◌∷◌, ◌++◌, ℕ}
use Rattle.std.proofs.Common.{sym, ap, ap₂, ◌∙◌, append_assoc, append-nil}
use Rattle.records.specs.Format.Syntax.{Term, Terms, Goal}
use Rattle.records.specs.Format.Syntax.Term.{var, app}
use Rattle.records.specs.Format.Syntax.Terms.{nil, cons}
use Rattle.records.specs.Format.Syntax.Goal.{truth, failure, equal, conj, disj, atom}
use Rattle.records.specs.Format.Encode.{each, term_bytes, terms_bytes, goal_bytes}
use Rattle.records.specs.Ends.Traversal.{Node, term_nodes, terms_nodes, goal_nodes}
use Rattle.terms.specs.Theory.Substitution.{Substitution, substitute, substitute_all}
use Rattle.terms.specs.Theory.SubstitutionLaws.{substitute_var, substitute_all_var, arity_substitute}
use Rattle.terms.specs.Body.Body.{substitute_goal}
use Rattle.terms.specs.Values.NodeBytes.{node_bytes, nodes_bytes}

pub each_append : {A : Type 0} (f : A → List ℕ) (k l : List A) → each f (k ++ l) ≡ each f k ++ each f l
each_append f [] l = refl
each_append f (x ∷ k) l = ap (λ (r : List ℕ). f x ++ r) (each_append f k l) ∙ sym (append_assoc (f x) (each f k) (each f l))

module _ (θ : Substitution) where
  two : (k l : List Node) (x y : List ℕ) → each (node_bytes θ) k ≡ x → each (node_bytes θ) l ≡ y → each (node_bytes θ) (k ++ l) ≡ x ++ y
  two k l x y p q = each_append (node_bytes θ) k l ∙ rw (p, q)

  -- the nodes of a term give the bytes of the term under the substitution
  mutual
    pub substituted_bytes : (t : Term) → each (node_bytes θ) (term_nodes t) ≡ term_bytes (substitute θ t)
    substituted_bytes (var v) = append-nil (term_bytes (θ v))
    substituted_bytes (app f ts) = rw (arity_substitute θ ts, substituted_all_bytes ts)

    pub substituted_all_bytes : (ts : Terms) → each (node_bytes θ) (terms_nodes ts) ≡ terms_bytes (substitute_all θ ts)
    substituted_all_bytes nil = refl
    substituted_all_bytes (cons t ts) = two (term_nodes t) (terms_nodes ts) _ _ (substituted_bytes t) (substituted_all_bytes ts)

  -- and those of a goal
  pub substituted_goal_bytes : (g : Goal) → each (node_bytes θ) (goal_nodes g) ≡ goal_bytes (substitute_goal θ g)
  substituted_goal_bytes truth = refl
  substituted_goal_bytes failure = refl
  substituted_goal_bytes (equal t u) = ap (λ (x : List ℕ). 0x12 ∷ x) (two (term_nodes t) (term_nodes u) _ _ (substituted_bytes t) (substituted_bytes u))
  substituted_goal_bytes (conj a b) = ap (λ (x : List ℕ). 0x13 ∷ x) (two (goal_nodes a) (goal_nodes b) _ _ (substituted_goal_bytes a) (substituted_goal_bytes b))
  substituted_goal_bytes (disj a b) = ap (λ (x : List ℕ). 0x14 ∷ x) (two (goal_nodes a) (goal_nodes b) _ _ (substituted_goal_bytes a) (substituted_goal_bytes b))
  substituted_goal_bytes (atom p ts) = rw (arity_substitute θ ts, substituted_all_bytes ts)

pub substitute_goal_var : (g : Goal) → substitute_goal var g ≡ g
substitute_goal_var truth = refl
substitute_goal_var failure = refl
substitute_goal_var (equal t u) = ap₂ equal (substitute_var t) (substitute_var u)
substitute_goal_var (conj a b) = ap₂ conj (substitute_goal_var a) (substitute_goal_var b)
substitute_goal_var (disj a b) = ap₂ disj (substitute_goal_var a) (substitute_goal_var b)
substitute_goal_var (atom p ts) = ap (atom p) (substitute_all_var ts)

-- the nodes' own bytes, where every variable stays, are the tree's
pub own_terms_bytes : (ts : Terms) → nodes_bytes var (terms_nodes ts) ≡ terms_bytes ts
own_terms_bytes ts = substituted_all_bytes var ts ∙ ap terms_bytes (substitute_all_var ts)

pub own_goal_bytes : (g : Goal) → nodes_bytes var (goal_nodes g) ≡ goal_bytes g
own_goal_bytes g = substituted_goal_bytes var g ∙ ap goal_bytes (substitute_goal_var g)
