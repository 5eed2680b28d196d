-- Two terms in one table of nodes, and what the functions that lay them there give.
use Rattle.std.specs.Prelude.{◌≡◌, List, ℕ, ◌+◌, ◌*◌, ◌≤◌, ◌<◌, length, take, Option, Some, None}
use Rattle.records.specs.Format.Syntax.{Term, Terms}
use Rattle.records.specs.Format.Syntax.Terms.{nil, cons}
use Rattle.records.specs.Format.Encode.{term_bytes}
use Rattle.records.specs.Format.Formed.{TermFormed}
use Rattle.records.specs.declared.heads.TermHead.{TermHead}
use Rattle.records.specs.declared.heads.TermHead.TheVariants.{Variable, Symbol}
use Rattle.terms.specs.declared.nodes.NodeKind.{NodeKind}
use Rattle.terms.specs.declared.nodes.NodeKind.TheVariants.{Variable as VariableNode, Symbol as SymbolNode}
use Rattle.terms.specs.Classes.Nodes.{Nodes, count, In, node, kind, node_number, node_next}
use Rattle.terms.specs.Classes.Forest.{node_count, nodes_count, term_kind, term_number, term_at}
use Rattle.terms.specs.declared.load.NodeHead.{NodeHead}
use Rattle.terms.specs.declared.load.NodeCounts.{NodeCounts}

-- a node's kind and number by its head, and how many bytes the head has
abbrev pub head_of : Option TermHead → NodeHead
head_of (Some (Variable v)) = record { kind = VariableNode; number = v; size = 3 }
head_of (Some (Symbol f k)) = record { kind = SymbolNode k; number = f; size = 4 }
head_of None = record { kind = VariableNode; number = 0; size = 1 }

-- the bytes of a well-formed term
pub record IsValue (bytes : List ℕ) : Type 0 where
  pub term : Term
  pub formed : TermFormed term
  pub same : bytes ≡ term_bytes term

-- two values, and a table with room for their nodes
pub record Layable (a b : List ℕ) (n : Nodes) : Type 0 where
  pub first : IsValue a
  pub second : IsValue b
  pub room : length a + length b ≤ 3 * count n

-- node i is the first of t's, in kind and number
pub record NodeOf (n : Nodes) (i : ℕ) (t : Term) : Type 0 where
  pub kind_is : kind n i ≡ term_kind t
  pub number_is : node_number n i ≡ term_number t

-- t's nodes are written from `start` on; those before and behind are as they were, and the table is as long as it was
pub record NodesPut (start : ℕ) (old new : Nodes) (end : ℕ) (t : Term) : Type 0 where
  pub place : end ≡ start + node_count t
  pub written : (i : ℕ) → i < node_count t → NodeOf new (start + i) (term_at (cons t nil) i)
  pub before : (i : ℕ) → i < start → node new i ≡ node old i
  pub behind : (i : ℕ) → end ≤ i → node new i ≡ node old i
  pub long : count new ≡ count old

-- whatever term the bytes are
pub record Loads (b : List ℕ) (start : ℕ) (old new : Nodes) (end : ℕ) : Type 0 where
  pub each : (t : Term) → TermFormed t → b ≡ term_bytes t → NodesPut start old new end t

-- from node i on, each node has the first node behind its subtree
abbrev pub Linked : Terms → Nodes → ℕ → Type 0
Linked ts n i = (j : ℕ) → i ≤ j → j < nodes_count ts → node_next n j ≡ j + node_count (term_at ts j)

-- the nodes are of the kinds of a forest's
pub record Shaped (ts : Terms) (n : Nodes) : Type 0 where
  pub long : count n ≡ nodes_count ts
  pub kinds : (i : ℕ) → In n i → kind n i ≡ term_kind (term_at ts i)

-- they are, and linked from node i on
pub record Linkable (n : Nodes) (i : ℕ) : Type 0 where
  pub terms : Terms
  pub shaped : Shaped terms n
  pub bound : i ≤ count n
  pub linked : Linked terms n i

-- e is the first node behind the subtree of node i, whatever forest the kinds are of
pub record Behind (n : Nodes) (i e : ℕ) : Type 0 where
  pub each : (ts : Terms) → Shaped ts n → Linked ts n (i + 1) → e ≡ i + node_count (term_at ts i)

-- a table has the kinds and numbers of another
pub record SameHeads (old new : Nodes) : Type 0 where
  pub long : count new ≡ count old
  pub kinds : (i : ℕ) → kind new i ≡ kind old i
  pub numbers : (i : ℕ) → node_number new i ≡ node_number old i

-- linked from node i on, whatever forest the kinds are of
pub record Links (old new : Nodes) (i : ℕ) : Type 0 where
  pub heads : SameHeads old new
  pub each : (ts : Terms) → Shaped ts old → Linked ts new i

-- one term and then another
abbrev pub pair : Term → Term → Terms
pair s t = cons s (cons t nil)

-- the table holds s from node 0 on and t from node m on
pub record TermsLaid (n : Nodes) (s t : Term) (m : ℕ) : Type 0 where
  pub middle : m ≡ node_count s
  pub long : count n ≡ nodes_count (pair s t)
  pub heads : (i : ℕ) → In n i → NodeOf n i (term_at (pair s t) i)
  pub linked : Linked (pair s t) n 0

-- an arity as small as well-formed terms have it
abbrev pub SmallKind : NodeKind → Type 0
SmallKind k = (arity : ℕ) → k ≡ SymbolNode arity → arity ≤ 16

-- kinds and numbers are as small as well-formed terms have them
pub record SmallNodes (n : Nodes) : Type 0 where
  pub kinds : (i : ℕ) → In n i → SmallKind (kind n i)
  pub numbers : (i : ℕ) → In n i → node_number n i < 65536

-- the first nodes of the table hold the two terms, whatever terms the bytes are
pub record Lay (n : Nodes) (p : NodeCounts) (s t : Term) : Type 0 where
  pub fits : p.count ≤ count n
  pub all : p.count ≡ nodes_count (pair s t)
  pub laid : TermsLaid (take p.count n) s t p.middle

pub record Lays (a b : List ℕ) (n : Nodes) (p : NodeCounts) : Type 0 where
  pub each : (s t : Term) → TermFormed s → TermFormed t → a ≡ term_bytes s → b ≡ term_bytes t → Lay n p s t
