-- Laws of a group's definition: the sizes are those of the bytes, summing the clauses gives them, and the branches are written one after the other.
use Rattle.std.specs.Prelude.{◌≡◌, refl, List, [], ◌∷◌, ◌++◌, ℕ, suc, ◌+◌, ◌*◌, ◌≤◌, ◌<◌, ◌%◌, leb, length, drop, get_or, Option, Some}
use Rattle.std.proofs.Math.Path.{sym}
use Rattle.std.proofs.Common.{ap, ◌∙◌, append-nil, arith, drop_of_length-le, length-append}
use Rattle.records.specs.Format.Syntax.{Term, Terms, Goal, Clause, arity}
use Rattle.records.specs.Format.Syntax.Term.{var}
use Rattle.records.specs.Format.Syntax.Terms.{nil, cons}
use Rattle.records.specs.Format.Syntax.Clause.{clause}
use Rattle.records.specs.Format.Heads.{clause_head_at}
use Rattle.records.specs.Format.Encode.{word, term_bytes, terms_bytes, goal_bytes, definition_bytes}
use Rattle.records.specs.Ends.Traversal.{Node, term_nodes, goal_nodes}
use Rattle.records.specs.Ends.Traversal.Node.{variable, other}
use Rattle.records.specs.Writing.Patched.{Put}
use Rattle.records.specs.Writing.PatchedLaws.{put_then}
use Rattle.records.specs.declared.heads.Signature.{Signature}
use Rattle.terms.specs.Theory.Substitution.{substitute}
use Rattle.terms.specs.Theory.SubstitutionLaws.{substitute_var}
use Rattle.terms.specs.Body.Body.{substitute_goal}
use Rattle.terms.specs.Values.NodeBytes.{nodes_bytes}
use Rattle.terms.specs.Values.NodeBytesLaws.{substituted_bytes, substituted_goal_bytes, own_goal_bytes}
use Rattle.canonical.specs.Form.Canonical.{numbered_from, branch_from, branch, variable_count, locals_of, branches}
use Rattle.canonical.specs.Sorting.Entries.{predicate_number, arity_of, ClauseAt, entry_place, clauses_in, clause_nth, GroupAt}
use Rattle.canonical.specs.Sorting.EntryLaws.{clause_small, head_read, group_clause, clauses_next, group_bound}
use Rattle.canonical.specs.Writing.PartlyPut.{PartlyPut}
use Rattle.canonical.specs.Writing.PartlyPutLaws.{partly_start, partly_more, partly_end, partly_room}
use Rattle.canonical.specs.Writing.Definition.{branch_size, branches_size, joined_branches, group_definition, Sums}
use Rattle.canonical.specs.Writing.Service.{locals_fit}
use Rattle.canonical.specs.declared.definition.Totals.{Totals}

-- renaming changes no length: a variable's node has three bytes under every number
numbered_length : (k : ℕ) (l : List Node) → length (nodes_bytes (numbered_from k) l) ≡ length (nodes_bytes var l)
numbered_length k [] = refl
numbered_length k (variable v ∷ l) = omega (arith, numbered_length k l)
numbered_length k (other x ∷ l) =
    omega (arith, numbered_length k l, length-append x (nodes_bytes (numbered_from k) l), length-append x (nodes_bytes var l))

numbered_term_length : (k : ℕ) (t : Term) → length (term_bytes (substitute (numbered_from k) t)) ≡ length (term_bytes t)
numbered_term_length k t =
    sym (ap length (substituted_bytes (numbered_from k) t)) ∙ numbered_length k (term_nodes t)
    ∙ ap length (substituted_bytes var t ∙ ap term_bytes (substitute_var t))

numbered_goal_length : (k : ℕ) (g : Goal) → length (goal_bytes (substitute_goal (numbered_from k) g)) ≡ length (goal_bytes g)
numbered_goal_length k g =
    sym (ap length (substituted_goal_bytes (numbered_from k) g)) ∙ numbered_length k (goal_nodes g) ∙ ap length (own_goal_bytes g)

branch_from_length : (k x : ℕ) (ts : Terms) (g : Goal)
    → length (goal_bytes (branch_from x (numbered_from k) ts g)) ≡ 5 * arity ts + (length (terms_bytes ts) + length (goal_bytes g))
branch_from_length k x nil g = omega (arith, numbered_goal_length k g)
branch_from_length k x (cons t ts) g =
    omega (
      arith,
      branch_from_length k (suc x) ts g,
      numbered_term_length k t,
      length-append (term_bytes (substitute (numbered_from k) t)) (goal_bytes (branch_from (suc x) (numbered_from k) ts g)),
      length-append (term_bytes t) (terms_bytes ts),
    )

-- the branches joined
pub branches_length : (k : ℕ) (c : Clause) (cs : List Clause) → suc (length (goal_bytes (branches k c cs))) ≡ branches_size (c ∷ cs)
branches_length k (clause p v ts g) [] = omega (arith, branch_from_length k 0 ts g)
branches_length k (clause p v ts g) (d ∷ cs) =
    omega (
      arith,
      branch_from_length k 0 ts g,
      branches_length (k + v) d cs,
      length-append (goal_bytes (branch k (clause p v ts g))) (goal_bytes (branches (k + v) d cs)),
    )

-- the bytes of the definition that a group makes, and question 9 of it
pub definition_length : (cs : List Clause) → 0 < length cs → length (definition_bytes (group_definition cs)) ≡ 3 + branches_size cs
unfolding group_definition
definition_length [] h = absurd (omega arith)
definition_length (c ∷ cs) h = omega (arith, branches_length (arity_of c) c cs)

pub definition_locals : (cs : List Clause) → 0 < length cs → locals_fit (group_definition cs) ≡ leb (locals_of cs) 255
unfolding group_definition
definition_locals [] h = absurd (omega arith)
definition_locals (c ∷ cs) h = refl

-- the summing of a group's clauses at i
pub record Summing (s group : List ℕ) (locals size i : ℕ) : Type 0 where
  pub locals_left : locals + locals_of (clauses_in s (drop i group)) ≡ locals_of (clauses_in s group)
  pub size_left : size + branches_size (clauses_in s (drop i group)) ≡ branches_size (clauses_in s group)
  pub within : i ≤ length group

pub summing_start : (s group : List ℕ) → Summing s group 0 0 0
summing_start s group = record { locals_left = omega arith; size_left = omega arith; within = omega arith }

module _ {s group : List ℕ} {locals size i : ℕ} (m : Summing s group locals size i) where
  module _ (h : i < length group) where
    pub summing_next : {v n : ℕ} → v ≡ variable_count (clause_nth s group i)
        → n ≡ suc (branch_size (clause_nth s group i)) → Summing s group (locals + v) (size + n) (i + 1)
    summing_next e d = record {
      locals_left = let l = m.locals_left in omega (arith, e, ap locals_of (clauses_next s group i h));
      size_left = let l = m.size_left in omega (arith, d, ap branches_size (clauses_next s group i h));
      within = omega arith;
    }

    -- nothing wraps
    pub summing_locals : {v : ℕ} → v ≡ variable_count (clause_nth s group i) → GroupAt s group → locals + v ≤ 2097152
    summing_locals e r =
        let l = m.locals_left in
        omega (arith, e, ap locals_of (clauses_next s group i h), (group_bound r).1, r.few)

    pub summing_size : {n : ℕ} → n ≡ suc (branch_size (clause_nth s group i)) → GroupAt s group → size + n ≤ 1076396032
    summing_size d r =
        let l = m.size_left in
        omega (arith, d, ap branches_size (clauses_next s group i h), (group_bound r).0, r.few)

  pub summing_end : length group ≤ i → Sums (clauses_in s group) (record { locals = locals; size = size })
  unfolding clauses_in
  summing_end h = record {
    locals = sym (sym m.locals_left ∙ rw (drop_of_length-le group h) (omega arith));
    size = sym (sym m.size_left ∙ rw (drop_of_length-le group h) (omega arith));
  }

-- the branches from the i-th on: the joining byte, the i-th, and those after it; or the last alone
branches_next : (s group : List ℕ) (base i : ℕ) → i + 1 < length group
    → goal_bytes (joined_branches base (clauses_in s (drop i group)))
    ≡ (0x14 ∷ goal_bytes (branch base (clause_nth s group i))) ++ goal_bytes (joined_branches (base + variable_count (clause_nth s group i)) (clauses_in s (drop (i + 1) group)))
unfolding joined_branches
branches_next s group base i h = rw (clauses_next s group i (omega arith), clauses_next s group (i + 1) h)

branches_last : (s group : List ℕ) (base i : ℕ) → length group ≡ i + 1
    → goal_bytes (joined_branches base (clauses_in s (drop i group))) ≡ goal_bytes (branch base (clause_nth s group i))
unfolding joined_branches clauses_in
branches_last s group base i h = rw (clauses_next s group i (omega arith), drop_of_length-le group (let n : length group ≤ i + 1 = omega arith in n))

-- the writing of a group's branches at i, the next one numbered from `base` on
pub record Branching (s group whole before : List ℕ) (first : ℕ) (after : List ℕ) (at base i : ℕ) : Type 0 where
  pub partly : PartlyPut before first whole after at (goal_bytes (joined_branches base (clauses_in s (drop i group))))
  pub numbers : base + locals_of (clauses_in s (drop i group)) ≤ 65536
  pub within : i < length group

pub branching_start : (s group before : List ℕ) (first k : ℕ) → 0 < length group → k + locals_of (clauses_in s group) ≤ 65536
    → Branching s group (goal_bytes (joined_branches k (clauses_in s group))) before first before first k 0
branching_start s group before first k some h = record { partly = partly_start; numbers = h; within = some }

module _ {s group whole before after : List ℕ} {first at base i : ℕ} (b : Branching s group whole before first after at base i) where
  -- the next branch's numbers are small
  pub branching_numbers : base + variable_count (clause_nth s group i) ≤ 65536
  branching_numbers = let n = b.numbers in omega (arith, ap locals_of (clauses_next s group i b.within))

  module _ (h : i + 1 < length group) where
    pub branching_room : first + length whole ≤ length before → at + suc (length (goal_bytes (branch base (clause_nth s group i)))) ≤ length after
    branching_room r =
        omega (
          arith,
          partly_room b.partly r,
          ap length (branches_next s group base i h),
          length-append (0x14 ∷ goal_bytes (branch base (clause_nth s group i)))
              (goal_bytes (joined_branches (base + variable_count (clause_nth s group i)) (clauses_in s (drop (i + 1) group)))),
        )

    pub branching_next : {one later : List ℕ} {m to v : ℕ} → v ≡ variable_count (clause_nth s group i) → Put after at (0x14 ∷ []) one m
        → Put one m (goal_bytes (branch base (clause_nth s group i))) later to → Branching s group whole before first later to (base + v) (i + 1)
    branching_next e p q = record {
      partly = rw e (partly_more b.partly (0x14 ∷ goal_bytes (branch base (clause_nth s group i))) (branches_next s group base i h) (put_then p q));
      numbers = let n = b.numbers in omega (arith, e, ap locals_of (clauses_next s group i b.within));
      within = h;
    }

  module _ (h : length group ≤ i + 1) where
    alone : length group ≡ i + 1
    alone = let w = b.within in omega arith

    pub branching_last : first + length whole ≤ length before → at + length (goal_bytes (branch base (clause_nth s group i))) ≤ length after
    branching_last r = omega (arith, partly_room b.partly r, ap length (branches_last s group base i alone))

    pub branching_end : {later : List ℕ} {to : ℕ} → Put after at (goal_bytes (branch base (clause_nth s group i))) later to → Put before first whole later to
    branching_end p =
        partly_end (partly_more b.partly (goal_bytes (branch base (clause_nth s group i)))
        (branches_last s group base i alone ∙ sym (append-nil (goal_bytes (branch base (clause_nth s group i))))) p) refl

-- a definition is its predicate, its arity and its locals, and then the branches
definition_of_parts : (cs : List Clause) (c : Clause) (gs : List Clause) {p k l : ℕ} → cs ≡ c ∷ gs → p ≡ predicate_number c → k ≡ arity_of c → k ≤ 16
    → l ≡ locals_of cs → l ≤ 255 → definition_bytes (group_definition cs) ≡ word p ++ ((k % 256 ∷ (l % 256 ∷ [])) ++ goal_bytes (joined_branches k cs))
unfolding group_definition joined_branches
definition_of_parts cs c gs {p} {k} {l} e i j b m d =
    let x : k % 256 ≡ arity_of c = omega arith in
    let y : l % 256 ≡ locals_of (c ∷ gs) = omega (arith, ap locals_of e) in
    rw (e, x, y, i, j)

-- for code that read the head of a group's first clause, and the group's totals
module _ {s group : List ℕ} (r : GroupAt s group) (some : 0 < length group) {head : Option Signature} (is : head ≡ clause_head_at s (entry_place (get_or group 0 0))) {d : Signature} (e : head ≡ Some d) where
  first_clause : ClauseAt s (entry_place (get_or group 0 0))
  first_clause = group_clause r some

  pub arity_small : d.arity ≤ 16
  arity_small = omega (arith, (head_read first_clause is e).1, (clause_small first_clause).1)

  module _ {t : Totals} (sums : Sums (clauses_in s group) t) (fit : locals_of (clauses_in s group) ≤ 255) where
    definition_parts : definition_bytes (group_definition (clauses_in s group)) ≡ word d.predicate ++ ((d.arity % 256 ∷ (t.locals % 256 ∷ [])) ++ goal_bytes (joined_branches d.arity (clauses_in s group)))
    definition_parts =
        let h = head_read first_clause is e in
        definition_of_parts (clauses_in s group) (clause_nth s group 0) (clauses_in s (drop 1 group)) (clauses_next s group 0 some)
        h.0 h.1 arity_small sums.locals (omega (arith, sums.locals))

    pub definition_size : length (definition_bytes (group_definition (clauses_in s group))) ≡ 4 + length (goal_bytes (joined_branches d.arity (clauses_in s group)))
    definition_size = omega (arith, ap length definition_parts)

    pub definition_put : {before one two after : List ℕ} {at a b c : ℕ} → Put before at (word d.predicate) one a → Put one a (d.arity % 256 ∷ (t.locals % 256 ∷ [])) two b
        → Put two b (goal_bytes (joined_branches d.arity (clauses_in s group))) after c → Put before at (definition_bytes (group_definition (clauses_in s group))) after c
    definition_put x y z = rw definition_parts (put_then x (put_then y z))
