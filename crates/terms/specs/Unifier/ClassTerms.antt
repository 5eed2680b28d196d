-- Writing the terms of the classes: what the writer relies on, and what it gives.
use Rattle.std.specs.Prelude.{◌≡◌, List, [], ◌∷◌, ◌++◌, ℕ, ◌≤◌, ◌<◌, length}
use Rattle.records.specs.Format.Syntax.{Term, Terms}
use Rattle.records.specs.Format.Encode.{word, term_bytes, terms_bytes}
use Rattle.records.specs.Writing.Patched.{Put}
use Rattle.terms.specs.declared.nodes.Classes.{Classes}
use Rattle.terms.specs.declared.nodes.NodeKind.{NodeKind}
use Rattle.terms.specs.declared.nodes.NodeKind.TheVariants.{Variable, Symbol}
use Rattle.terms.specs.Classes.Nodes.{at, Nodes, count, In, Path, Table, Graph}
use Rattle.terms.specs.Classes.Lengths.{Expansion, Expansions, length_cap, total, Capped, ClassesMeasured}
use Rattle.terms.specs.Classes.Laid.{SmallNodes}

-- a node's own bytes by its kind and number
abbrev pub head_bytes : NodeKind → ℕ → List ℕ
head_bytes Variable number = 0x01 ∷ word number
head_bytes (Symbol arity) number = 0x02 ∷ (word number ++ (arity ∷ []))

-- a table whose classes all have a term of known length
pub record ClassTable (n : Nodes) (rep size : List ℕ) : Type 0 where
  pub table : Table n
  pub small : SmallNodes n
  pub rep_long : length rep ≡ count n
  pub size_long : length size ≡ count n
  pub inside : (i : ℕ) → In n i → In n (at rep i)
  pub known : (i : ℕ) → In n i → at size (at rep i) ≡ 0 → ⊥
  pub measured : ClassesMeasured n rep size
  pub capped : Capped size
  pub children : ℕ → List ℕ
  pub term : ℕ → Term
  pub graph : Graph n children term

-- the same of the classes as code hands them on
abbrev pub Measured : Classes → Type 0
Measured c = ClassTable c.table.now c.rep.now c.size.now

-- the length of r's class is known, below the cap, and fits the output
pub record ClassFits (n : Nodes) (size out : List ℕ) (r : ℕ) : Type 0 where
  pub inside : In n r
  pub known : at size r ≡ 0 → ⊥
  pub small : at size r < length_cap
  pub room : at size r ≤ length out

-- the classes of the children from p to `end` take `left` bytes, which fit the output
pub record ChildrenLeft (n : Nodes) (rep size out : List ℕ) (p end left : ℕ) : Type 0 where
  pub within : end ≤ count n
  pub nodes : List ℕ
  pub path : Path n p end nodes
  pub sum : left ≡ total rep size nodes
  pub small : left < length_cap
  pub room : left ≤ length out

-- the term of r's class is written, whatever terms the table holds
pub record Wrote (n : Nodes) (rep size : List ℕ) (r : ℕ) (old new : List ℕ) : Type 0 where
  pub each : (children : ℕ → List ℕ) (term : ℕ → Term) → Graph n children term → (t : Term) → Expansion n children (at rep) r t
      → Put old 0 (term_bytes t) new (at size r)

-- the terms of the classes of the children from p to `end` are
pub record Wrotes (n : Nodes) (rep : List ℕ) (p end left : ℕ) (old new : List ℕ) : Type 0 where
  pub each : (children : ℕ → List ℕ) (term : ℕ → Term) → Graph n children term → (cs : List ℕ) → Path n p end cs
      → (ts : Terms) → Expansions n children (at rep) cs ts → Put old 0 (terms_bytes ts) new left
