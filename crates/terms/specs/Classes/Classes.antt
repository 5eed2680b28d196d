-- Classes of nodes: the nodes that a unifier must make equal. `rep` gives each node the representative of its class.
use Rattle.std.specs.Prelude.{◌≡◌, ◌⊎◌, List, [], ◌∷◌, map, ℕ, ◌≤◌}
use Rattle.records.specs.Format.Syntax.{Term}
use Rattle.records.specs.Format.Syntax.Term.{var, app}
use Rattle.terms.specs.Theory.Substitution.{Substitution, substitute}
use Rattle.terms.specs.Theory.Mgu.{Unifies}
use Rattle.terms.specs.Classes.Nodes.{Nodes, node_number, IsVariable, IsSymbol, In, terms_at}

-- θ makes each node equal to its representative
abbrev pub Respects : Nodes → (ℕ → Term) → (ℕ → ℕ) → Substitution → Type 0
Respects n term rep θ = (i : ℕ) → In n i → substitute θ (term (rep i)) ≡ substitute θ (term i)

-- every unifier of the terms at s and t does
abbrev pub ClassesSound : Nodes → (ℕ → Term) → ℕ → ℕ → (ℕ → ℕ) → Type 0
ClassesSound n term s t rep = (θ : Substitution) → Unifies (term s) (term t) θ → Respects n term rep θ

-- node i agrees with its representative: a symbol's node in symbol and children's classes, a variable's node in being no lower
pub record Agrees (n : Nodes) (children : ℕ → List ℕ) (rep : ℕ → ℕ) (i : ℕ) : Type 0 where
  pub symbols : IsSymbol n i → IsSymbol n (rep i) × (node_number n (rep i) ≡ node_number n i) × (map rep (children (rep i)) ≡ map rep (children i))
  pub variables : IsVariable n i → IsVariable n (rep i) → node_number n (rep i) ≤ node_number n i

-- the classes hold all that follows from s and t being equal, and no two symbols clash
pub record Closed (n : Nodes) (children : ℕ → List ℕ) (s t : ℕ) (rep : ℕ → ℕ) : Type 0 where
  pub inside : (i : ℕ) → In n i → In n (rep i)
  pub agrees : (i : ℕ) → In n i → Agrees n children rep i
  pub joined : rep s ≡ rep t
  pub shared : (i j : ℕ) → In n i → In n j → IsVariable n i → IsVariable n j → node_number n i ≡ node_number n j → rep i ≡ rep j

-- `expansion` gives each class its term: there is such a function exactly when no class is inside itself
pub record Expands (n : Nodes) (children : ℕ → List ℕ) (rep : ℕ → ℕ) (expansion : ℕ → Term) : Type 0 where
  pub variables : (i : ℕ) → In n i → IsVariable n (rep i) → expansion (rep i) ≡ var (node_number n (rep i))
  pub symbols : (i : ℕ) → In n i → IsSymbol n (rep i)
      → expansion (rep i) ≡ app (node_number n (rep i)) (terms_at expansion (map rep (children (rep i))))

-- x is the variable of a node
abbrev pub NodeVariable : Nodes → ℕ → Type 0
NodeVariable n x = (i : ℕ) × In n i × IsVariable n i × (node_number n i ≡ x)

-- σ gives the variables of the nodes the terms of their classes, and leaves every other variable as it is
pub record Reads (n : Nodes) (rep : ℕ → ℕ) (expansion : ℕ → Term) (σ : Substitution) : Type 0 where
  pub met : (i : ℕ) → In n i → IsVariable n i → σ (node_number n i) ≡ expansion (rep i)
  pub each : (x : ℕ) → NodeVariable n x ⊎ (σ x ≡ var x)

-- p and q stand at one place of two lists
abbrev pub Paired : ℕ → ℕ → List ℕ → List ℕ → Type 0
Paired p q [] ds = ⊥
Paired p q (c ∷ cs) [] = ⊥
Paired p q (c ∷ cs) (d ∷ ds) = ((p ≡ c) × (q ≡ d)) ⊎ Paired p q cs ds
