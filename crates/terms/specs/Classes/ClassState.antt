-- What holds of the classes while the code closes them, and what each of its functions gives.
use Rattle.std.specs.Prelude.{◌≡◌, ◌⊎◌, List, [], ◌∷◌, map, Bool, true, false, ℕ, suc, ◌+◌, ◌≤◌, ◌<◌, length}
use Rattle.std.proofs.Math.Logic.{ite}
use Rattle.std.proofs.Math.Decide.{ℕ_discrete}
use Rattle.records.specs.Format.Syntax.{Term}
use Rattle.terms.specs.declared.classes.Comparison.{Comparison}
use Rattle.terms.specs.declared.classes.Comparison.TheVariants.{Same, Clash, Differ}
use Rattle.terms.specs.declared.classes.Turn.{Turn}
use Rattle.terms.specs.declared.classes.Turn.TheVariants.{Fine, Joined, Stuck}
use Rattle.terms.specs.Theory.Substitution.{Substitution, substitute}
use Rattle.terms.specs.Theory.Mgu.{Unifies}
use Rattle.terms.specs.Classes.Nodes.{at, Nodes, count, In, node_number, IsVariable, IsSymbol, Children, Table, Graph}
use Rattle.terms.specs.Classes.Classes.{Paired}

-- no substitution makes the terms at s and t equal, whatever terms the table holds
abbrev pub Apart : Nodes → ℕ → ℕ → Type 0
Apart n s t = (children : ℕ → List ℕ) (term : ℕ → Term) → Graph n children term → (θ : Substitution) → Unifies (term s) (term t) θ → ⊥

-- every substitution that makes s and t equal makes p and q equal
abbrev pub Forced : Nodes → ℕ → ℕ → ℕ → ℕ → Type 0
Forced n s t p q =
    (children : ℕ → List ℕ) (term : ℕ → Term) → Graph n children term → (θ : Substitution) → Unifies (term s) (term t) θ
    → substitute θ (term p) ≡ substitute θ (term q)

-- node a may represent node b: a symbol before a variable, and of variables the lower
pub record Better (n : Nodes) (a b : ℕ) : Type 0 where
  pub symbols : IsSymbol n b → IsSymbol n a
  pub variables : (IsSymbol n b → ⊥) → (IsSymbol n a → ⊥) → node_number n a ≤ node_number n b

-- classes that only hold what a unifier of s and t must make equal
pub record Partition (n : Nodes) (s t : ℕ) (rep : List ℕ) : Type 0 where
  pub s_in : In n s
  pub t_in : In n t
  pub long : length rep ≡ count n
  pub inside : (i : ℕ) → In n i → In n (at rep i)
  pub root : (i : ℕ) → In n i → at rep (at rep i) ≡ at rep i
  pub better : (i : ℕ) → In n i → Better n (at rep i) i
  pub shared : (i j : ℕ) → In n i → In n j → IsVariable n i → IsVariable n j → node_number n i ≡ node_number n j → at rep i ≡ at rep j
  pub sound : (i : ℕ) → In n i → Forced n s t (at rep i) i

-- and s and t are in one class
pub record State (n : Nodes) (s t : ℕ) (rep : List ℕ) : Type 0 where
  pub partition : Partition n s t rep
  pub joined : at rep s ≡ at rep t

-- class b becomes class a
abbrev pub merged : ℕ → ℕ → ℕ → ℕ
merged a b x = ite (ℕ_discrete x b) a x

-- every label of class b has become a, the others are as before
pub record Relabelled (a b : ℕ) (old new : List ℕ) : Type 0 where
  pub long : length new ≡ length old
  pub each : (i : ℕ) → i < length old → at new i ≡ merged a b (at old i)

-- no node below m is in class b
abbrev pub NoneBelow : List ℕ → ℕ → ℕ → Type 0
NoneBelow rep b m = (k : ℕ) → k < m → at rep k ≡ b → ⊥

-- the nodes below m that a symbol represents keep their representatives
abbrev pub KeptBelow : Nodes → ℕ → List ℕ → List ℕ → Type 0
KeptBelow n m old new = (k : ℕ) → k < m → k < length old → IsSymbol n (at old k) → at new k ≡ at old k

-- which of a and b is to represent both
unfoldable pub Preferred : Nodes → ℕ → ℕ → Bool → Type 0
Preferred n a b true = Better n a b
Preferred n a b false = Better n b a

-- what uniting the classes of p and q rests on
pub record Unitable (n : Nodes) (rep : List ℕ) (p q : ℕ) : Type 0 where
  pub p_in : p < length rep
  pub q_in : q < length rep
  pub p_rep : In n (at rep p)
  pub q_rep : In n (at rep q)

-- the classes of p and q have become one
pub record United (n : Nodes) (p q : ℕ) (old new : List ℕ) : Type 0 where
  pub kept : ℕ
  pub gone : ℕ
  pub which : ((kept ≡ at old p) × (gone ≡ at old q)) ⊎ ((kept ≡ at old q) × (gone ≡ at old p))
  pub better : Better n kept gone
  pub labels : Relabelled kept gone old new

-- what comparing the symbols i and r rests on
pub record Comparable (n : Nodes) (rep : List ℕ) (i r : ℕ) : Type 0 where
  pub table : Table n
  pub i_in : i < count n
  pub r_in : r < count n
  pub rep_long : length rep ≡ count n

-- two symbols: the same number and children of the same classes; or another number or other counts of children; or children p and q at one
-- place whose classes differ
unfoldable pub NodesCompared : Nodes → List ℕ → ℕ → ℕ → Comparison → Type 0
NodesCompared n rep i r Same =
    (node_number n i ≡ node_number n r) × ((cs ds : List ℕ) → Children n i cs → Children n r ds → map (at rep) cs ≡ map (at rep) ds)
NodesCompared n rep i r Clash =
    (node_number n i ≡ node_number n r → ⊥) ⊎ ((cs ds : List ℕ) → Children n i cs → Children n r ds → length cs ≡ length ds → ⊥)
NodesCompared n rep i r (Differ p q) =
    (p < count n) × (q < count n) × (at rep p ≡ at rep q → ⊥)
    × ((cs ds : List ℕ) → Children n i cs → Children n r ds → Paired p q cs ds)

-- node i agrees with its representative
abbrev pub AgreesWithRepresentative : Nodes → List ℕ → ℕ → Type 0
AgreesWithRepresentative n rep i = IsSymbol n i → NodesCompared n rep i (at rep i) Same

-- the nodes below m that agreed with their representatives still do
abbrev pub StillAgree : Nodes → ℕ → List ℕ → List ℕ → Type 0
StillAgree n m old new = (k : ℕ) → k < m → In n k → AgreesWithRepresentative n old k → AgreesWithRepresentative n new k

-- how many nodes from k on represent themselves
abbrev pub roots : ℕ → List ℕ → ℕ
roots k [] = 0
roots k (x ∷ l) = ite (ℕ_discrete x k) 1 0 + roots (suc k) l

-- one turn at node i: it agrees with its representative, or two classes have become one and no node below m has ceased to agree, or there is no
-- unifier
unfoldable pub Visited : Nodes → ℕ → ℕ → ℕ → List ℕ → List ℕ → Turn → Type 0
Visited n s t i old new Fine = (new ≡ old) × AgreesWithRepresentative n old i
Visited n s t i old new (Joined m) = State n s t new × (roots 0 new < roots 0 old) × StillAgree n m old new
Visited n s t i old new Stuck = Apart n s t

-- every node agrees with its representative
pub record Finished (n : Nodes) (s t : ℕ) (rep : List ℕ) : Type 0 where
  pub state : State n s t rep
  pub settled : (i : ℕ) → In n i → AgreesWithRepresentative n rep i

-- what closing the classes gives: true with closed classes, false where there is no unifier
unfoldable pub Ended : Nodes → ℕ → ℕ → List ℕ → Bool → Type 0
Ended n s t rep true = Finished n s t rep
Ended n s t rep false = Apart n s t

-- r is the first node of node i's variable, and i itself where it is no variable
pub record FirstOfVariable (n : Nodes) (i r : ℕ) : Type 0 where
  pub low : r ≤ i
  pub other : (IsVariable n i → ⊥) → r ≡ i
  pub variables : IsVariable n i → IsVariable n r
  pub numbers : node_number n r ≡ node_number n i
  pub least : IsVariable n i → (j : ℕ) → j < r → IsVariable n j → node_number n j ≡ node_number n i → ⊥

-- each of the first m nodes is represented by the first of its variable
pub record Firsts (n : Nodes) (rep : List ℕ) (m : ℕ) : Type 0 where
  pub long : length rep ≡ count n
  pub bound : m ≤ count n
  pub each : (i : ℕ) → i < m → FirstOfVariable n i (at rep i)
