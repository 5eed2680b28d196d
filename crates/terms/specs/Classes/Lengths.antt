-- The terms of the classes and their lengths in bytes. A class has a term exactly when no class is inside itself; `size` gives the length of a
-- representative's term, counted up to a cap that no record reaches, and 0 while it is not known.
use Rattle.std.specs.Prelude.{◌≡◌, List, [], ◌∷◌, Bool, true, false, Option, Some, None, ℕ, ◌+◌, ◌≤◌, ◌<◌, min, length}
use Rattle.records.specs.Format.Syntax.{Term, Terms}
use Rattle.records.specs.Format.Syntax.Term.{var, app}
use Rattle.records.specs.Format.Syntax.Terms.{nil, cons}
use Rattle.records.specs.Format.Formed.{All}
use Rattle.terms.specs.Theory.Substitution.{term_length}
use Rattle.terms.specs.Theory.Variables.{Among}
use Rattle.terms.specs.Classes.Nodes.{at, Nodes, count, In, node_number, IsVariable, IsSymbol, Children, Table, Graph}
use Rattle.terms.specs.Classes.ClassState.{Apart, Finished}

-- t is the term of the class that r represents
abbrev mutual
  pub Expansion : Nodes → (ℕ → List ℕ) → (ℕ → ℕ) → ℕ → Term → Type 0
  Expansion n children rep r (var x) = IsVariable n r × (x ≡ node_number n r)
  Expansion n children rep r (app f ts) = IsSymbol n r × (f ≡ node_number n r) × Expansions n children rep (children r) ts

  pub Expansions : Nodes → (ℕ → List ℕ) → (ℕ → ℕ) → List ℕ → Terms → Type 0
  Expansions n children rep cs nil = cs ≡ []
  Expansions n children rep cs (cons t ts) =
      (c : ℕ) × (ds : List ℕ) × (cs ≡ c ∷ ds) × Expansion n children rep (rep c) t × Expansions n children rep ds ts

-- lengths are counted up to this
abbrev pub length_cap : ℕ
length_cap = 40000

-- no length is above the cap
abbrev pub Capped : List ℕ → Type 0
Capped size = (i : ℕ) → i < length size → at size i ≤ length_cap

-- the lengths of the classes of these nodes together
abbrev pub total : List ℕ → List ℕ → List ℕ → ℕ
total rep size [] = 0
total rep size (c ∷ cs) = at size (at rep c) + total rep size cs

-- the lengths of the classes of these nodes are known
abbrev pub LengthsKnown : List ℕ → List ℕ → List ℕ → Type 0
LengthsKnown rep size cs = All (λ c. at size (at rep c) ≡ 0 → ⊥) cs

-- what weighing rests on
pub record Weighable (n : Nodes) (rep size : List ℕ) : Type 0 where
  pub table : Table n
  pub rep_long : length rep ≡ count n
  pub size_long : length size ≡ count n
  pub inside : (i : ℕ) → i < count n → at rep i < count n
  pub capped : Capped size

-- the symbol at r waits for the length of a child's class
pub record Waits (n : Nodes) (rep size : List ℕ) (r : ℕ) : Type 0 where
  pub symbols : IsSymbol n r
  pub child : (cs : List ℕ) → Children n r cs → (c : ℕ) × Among c cs × (at size (at rep c) ≡ 0)

-- w is the length of r's term: three bytes for a variable, for a symbol four and those of its children
pub record Weighs (n : Nodes) (rep size : List ℕ) (r w : ℕ) : Type 0 where
  pub positive : 0 < w
  pub capped : w ≤ length_cap
  pub variables : (IsSymbol n r → ⊥) → w ≡ 3
  pub symbols : IsSymbol n r → (cs : List ℕ) → Children n r cs → LengthsKnown rep size cs × (w ≡ min length_cap (4 + total rep size cs))

-- what weighing r gives: its length, or none where r waits
unfoldable pub Weighed : Nodes → List ℕ → List ℕ → ℕ → Option ℕ → Type 0
Weighed n rep size r None = Waits n rep size r
Weighed n rep size r (Some w) = Weighs n rep size r w

-- i represents its class, whose length is not known
abbrev pub Open : List ℕ → List ℕ → ℕ → Type 0
Open rep size i = (at rep i ≡ i) × (at size i ≡ 0)

-- what there is to store at node i: the length of its class, or nothing
abbrev pub Offered : Nodes → List ℕ → List ℕ → ℕ → Option ℕ → Type 0
Offered n rep size i None = Open rep size i → Waits n rep size i
Offered n rep size i (Some w) = Open rep size i × Weighs n rep size i w

-- a known length is that of the class's term
abbrev pub ClassesMeasured : Nodes → List ℕ → List ℕ → Type 0
ClassesMeasured n rep size =
    (r : ℕ) → In n r → (at size r ≡ 0 → ⊥) → (children : ℕ → List ℕ) (term : ℕ → Term) → Graph n children term
    → (t : Term) × Expansion n children (at rep) r t × (at size r ≡ min length_cap (term_length t))

-- what is known is right, and below i what is not known waits
pub record Measuring (n : Nodes) (rep size : List ℕ) (i : ℕ) : Type 0 where
  pub long : length size ≡ count n
  pub bound : i ≤ count n
  pub capped : Capped size
  pub measured : ClassesMeasured n rep size
  pub waits : (k : ℕ) → k < i → Open rep size k → Waits n rep size k

-- before measuring nothing is known
pub record Blank (n : Nodes) (size : List ℕ) : Type 0 where
  pub long : length size ≡ count n
  pub zero : (i : ℕ) → i < length size → at size i ≡ 0

-- the length of every class is known
pub record Complete (n : Nodes) (rep size : List ℕ) : Type 0 where
  pub all : (i : ℕ) → In n i → at rep i ≡ i → at size i ≡ 0 → ⊥

-- true where it is, false where one is not
unfoldable pub Checked : Nodes → List ℕ → List ℕ → Bool → Type 0
Checked n rep size true = Complete n rep size
Checked n rep size false = (r : ℕ) × In n r × Open rep size r

-- the classes are closed and each has a length
pub record Solution (n : Nodes) (s t : ℕ) (rep size : List ℕ) : Type 0 where
  pub finished : Finished n s t rep
  pub measuring : Measuring n rep size (count n)
  pub complete : Complete n rep size

-- true with the classes and their lengths, false where there is no unifier
unfoldable pub SolvedTables : Nodes → ℕ → ℕ → List ℕ → List ℕ → Bool → Type 0
SolvedTables n s t rep size true = Solution n s t rep size
SolvedTables n s t rep size false = Apart n s t
