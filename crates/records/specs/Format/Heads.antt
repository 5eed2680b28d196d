-- The first bytes of what stands at a position: its kind and numbers (SPECIFICATION 1). Every byte that is out of range gives no head.
use Rattle.std.specs.Prelude.{ℕ, ◌+◌, ◌*◌, Bool, true, false, ◌||◌, List, [], ◌∷◌, eqb, leb, drop, Option, Some, None}
use Rattle.records.specs.declared.heads.TermHead.{TermHead}
use Rattle.records.specs.declared.heads.TermHead.TheVariants.{Variable, Symbol}
use Rattle.records.specs.declared.heads.GoalHead.{GoalHead}
use Rattle.records.specs.declared.heads.GoalHead.TheVariants.{Truth, Failure, Equal, Conj, Disj, Atom}
use Rattle.records.specs.declared.heads.AncestorHead.{AncestorHead}
use Rattle.records.specs.declared.heads.AncestorHead.TheVariants.{Called, InConj, InDisj}
use Rattle.records.specs.declared.heads.BetHead.{BetHead}
use Rattle.records.specs.declared.heads.BetHead.TheVariants.{Unifier, Or, By}
use Rattle.records.specs.declared.heads.Signature.{Signature}

-- the first where the test says yes, else the second
abbrev pub pick : {A : Type 0} → Bool → A → A → A
pick true a b = a
pick false a b = b

-- what the high and the low byte of a number come to
abbrev pub joined : ℕ → ℕ → ℕ
joined x y = x * 256 + y

abbrev pub symbol_head : ℕ → List ℕ → Option TermHead
symbol_head f [] = None
symbol_head f (k ∷ l) = pick (leb k 16) (Some (Symbol f k)) None

abbrev pub term_head : List ℕ → Option TermHead
term_head [] = None
term_head (b ∷ []) = None
term_head (b ∷ x ∷ []) = None
term_head (b ∷ x ∷ y ∷ l) = pick (eqb b 0x01) (Some (Variable (joined x y))) (pick (eqb b 0x02) (symbol_head (joined x y) l) None)

-- after the kind byte of an atom
abbrev pub atom_head : List ℕ → Option GoalHead
atom_head [] = None
atom_head (x ∷ []) = None
atom_head (x ∷ y ∷ []) = None
atom_head (x ∷ y ∷ k ∷ l) = pick (leb k 16) (Some (Atom (joined x y) k)) None

abbrev pub goal_head : List ℕ → Option GoalHead
goal_head [] = None
goal_head (b ∷ l) =
    pick (eqb b 0x10) (Some Truth)
    (pick (eqb b 0x11) (Some Failure)
    (pick (eqb b 0x12) (Some Equal)
    (pick (eqb b 0x13) (Some Conj)
    (pick (eqb b 0x14) (Some Disj)
    (pick (eqb b 0x15) (atom_head l) None)))))

-- a byte that is a tag
abbrev pub is_tag : ℕ → Bool
is_tag k = eqb k 1 || eqb k 2

-- of an ancestor that is no atom
abbrev pub half_head : List ℕ → Option AncestorHead
half_head [] = None
half_head (b ∷ []) = None
half_head (b ∷ k ∷ l) = pick (is_tag k) (pick (eqb b 0x30) (Some (InConj k)) (pick (eqb b 0x31) (Some (InDisj k)) None)) None

-- an ancestor starts as an atom does, or with the kind and the tag of a conjunction or a disjunction
abbrev pub called_or : Option GoalHead → Option AncestorHead → Option AncestorHead
called_or (Some Truth) h = h
called_or (Some Failure) h = h
called_or (Some Equal) h = h
called_or (Some Conj) h = h
called_or (Some Disj) h = h
called_or (Some (Atom p k)) h = Some (Called p k)
called_or None h = h

abbrev pub ancestor_head : List ℕ → Option AncestorHead
ancestor_head l = called_or (goal_head l) (half_head l)

abbrev pub word_head : List ℕ → Option ℕ
word_head [] = None
word_head (x ∷ []) = None
word_head (x ∷ y ∷ l) = Some (joined x y)

abbrev pub unifier_head : Option ℕ → Option BetHead
unifier_head (Some n) = Some (Unifier n)
unifier_head None = None

abbrev pub or_head : List ℕ → Option BetHead
or_head [] = None
or_head (k ∷ l) = pick (is_tag k) (Some (Or k)) None

abbrev pub bet_head : List ℕ → Option BetHead
bet_head [] = None
bet_head (b ∷ l) = pick (eqb b 0x20) (unifier_head (word_head l)) (pick (eqb b 0x21) (or_head l) (pick (eqb b 0x22) (Some By) None))

-- what a definition or a clause starts with
abbrev pub signed : ℕ → ℕ → ℕ → Option Signature
signed p k n = Some (record { predicate = p; arity = k; count = n })

abbrev pub definition_head : List ℕ → Option Signature
definition_head [] = None
definition_head (x ∷ []) = None
definition_head (x ∷ y ∷ []) = None
definition_head (x ∷ y ∷ k ∷ []) = None
definition_head (x ∷ y ∷ k ∷ n ∷ l) = pick (leb k 16) (signed (joined x y) k n) None

abbrev pub clause_of : Option Signature → Option Signature
clause_of (Some d) = pick (leb d.count 64) (Some d) None
clause_of None = None

-- a clause starts as a definition does, with its number of variables in place of that of the locals
abbrev pub clause_head : List ℕ → Option Signature
clause_head l = clause_of (definition_head l)

-- the heads at a position
unfoldable pub term_head_at : List ℕ → ℕ → Option TermHead
term_head_at s at = term_head (drop at s)

unfoldable pub goal_head_at : List ℕ → ℕ → Option GoalHead
goal_head_at s at = goal_head (drop at s)

unfoldable pub atom_head_at : List ℕ → ℕ → Option GoalHead
atom_head_at s at = atom_head (drop at s)

unfoldable pub half_head_at : List ℕ → ℕ → Option AncestorHead
half_head_at s at = half_head (drop at s)

unfoldable pub ancestor_head_at : List ℕ → ℕ → Option AncestorHead
ancestor_head_at s at = ancestor_head (drop at s)

unfoldable pub bet_head_at : List ℕ → ℕ → Option BetHead
bet_head_at s at = bet_head (drop at s)

unfoldable pub or_head_at : List ℕ → ℕ → Option BetHead
or_head_at s at = or_head (drop at s)

unfoldable pub word_at : List ℕ → ℕ → Option ℕ
word_at s at = word_head (drop at s)

unfoldable pub definition_head_at : List ℕ → ℕ → Option Signature
definition_head_at s at = definition_head (drop at s)

unfoldable pub clause_head_at : List ℕ → ℕ → Option Signature
clause_head_at s at = clause_head (drop at s)
