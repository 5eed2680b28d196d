-- Laws of writing a clause's branch: one equation more, and the goal at the end.
use Rattle.std.specs.Prelude.{◌≡◌, refl, List, [], ◌∷◌, ◌++◌, ℕ, suc, ◌+◌, ◌≤◌, ◌<◌, length, Option, Some}
use Rattle.std.proofs.Common.{sym, ap, ◌∙◌, append_assoc, append-nil, add-one, arith, length-append}
use Rattle.records.specs.Format.Syntax.{Term, Terms, Goal, Clause, arity}
use Rattle.records.specs.Format.Syntax.Terms.{nil, cons}
use Rattle.records.specs.Format.Syntax.Clause.{clause}
use Rattle.records.specs.Format.Encode.{word, term_bytes, terms_bytes, goal_bytes, clause_bytes}
use Rattle.records.specs.Format.Formed.{TermsFormed, GoalFormed, ClauseFormed}
use Rattle.records.specs.Writing.Patched.{Put}
use Rattle.records.specs.Ends.Traversal.{Traversal, traverse, term_nodes, goal_nodes, position, end_at}
use Rattle.records.specs.Ends.Traversal.Traversal.{on}
use Rattle.records.specs.Ends.Steps.{On}
use Rattle.records.specs.Ends.Stands.{Stands}
use Rattle.records.specs.Ends.StandsLaws.{stands_first, stands_second, traverse_term, traverse_goal, term_ends}
use Rattle.terms.specs.Theory.Substitution.{substitute}
use Rattle.terms.specs.Body.Body.{substitute_goal}
use Rattle.terms.specs.Values.NodeBytesLaws.{substituted_bytes, substituted_goal_bytes}
use Rattle.terms.specs.Body.Renaming.{renamed}
use Rattle.canonical.specs.Form.Canonical.{numbered_from, branch_from, branch}
use Rattle.canonical.specs.Sorting.Entries.{arity_of, clause_at, ClauseAt}
use Rattle.canonical.specs.Writing.PartlyPut.{PartlyPut}
use Rattle.canonical.specs.Writing.PartlyPutLaws.{partly_start, partly_more, partly_end, partly_room}
use Rattle.canonical.specs.Writing.Equation.{equation}

-- the writing at head variable x of k: the terms to come stand at pos, and the goal after them
pub record Equating (s : List ℕ) (k base : ℕ) (whole before : List ℕ) (first : ℕ) (after : List ℕ) (at pos x : ℕ) : Type 0 where
  pub terms : Terms
  pub goal : Goal
  pub many : x + arity terms ≡ k
  pub terms_formed : TermsFormed terms
  pub goal_formed : GoalFormed goal
  pub end : ℕ
  pub stands : Stands s pos (terms_bytes terms ++ goal_bytes goal) end
  pub partly : PartlyPut before first whole after at (goal_bytes (branch_from x (numbered_from base) terms goal))

equating_clause : {s : List ℕ} {place e : ℕ} (c : Clause) → ClauseFormed c → Stands s place (clause_bytes c) e → (base : ℕ) (before : List ℕ) (first : ℕ)
    → Equating s (arity_of c) base (goal_bytes (branch base c)) before first before first (place + 4) 0
equating_clause {s} {place} {e} (clause p v ts g) f w base before first = record {
  terms = ts;
  goal = g;
  many = omega arith;
  terms_formed = f.3;
  goal_formed = f.4;
  end = e;
  stands = stands_second (word p ++ (arity ts ∷ (v ∷ []))) (terms_bytes ts ++ goal_bytes g) w;
  partly = partly_start;
}

pub equating_start : {s : List ℕ} {place k : ℕ} → ClauseAt s place → k ≡ arity_of (clause_at s place) → (base : ℕ) (before : List ℕ) (first : ℕ)
    → Equating s k base (goal_bytes (branch base (clause_at s place))) before first before first (place + 4) 0
equating_start {s} {place} w e base before first = rw e (equating_clause (clause_at s place) w.formed w.stands base before first)

-- a traversal over one term or one goal gives its bytes under the numbering
renamed_term : (base : ℕ) (t : Term) (e : ℕ) (w : Traversal) → w ≡ on (term_nodes t) e → renamed base w ≡ term_bytes (substitute (numbered_from base) t)
unfolding renamed
renamed_term base t e w q = rw q (substituted_bytes (numbered_from base) t)

renamed_goal : (base : ℕ) (g : Goal) (e : ℕ) (w : Traversal) → w ≡ on (goal_nodes g) e → renamed base w ≡ goal_bytes (substitute_goal (numbered_from base) g)
unfolding renamed
renamed_goal base g e w q = rw q (substituted_goal_bytes (numbered_from base) g)

-- a branch starts with the equation of its first term
branch_split : (x base : ℕ) (t : Term) (ts : Terms) (g : Goal) (b : List ℕ) → b ≡ term_bytes (substitute (numbered_from base) t)
    → goal_bytes (branch_from x (numbered_from base) (cons t ts) g) ≡ equation x b ++ goal_bytes (branch_from (suc x) (numbered_from base) ts g)
unfolding equation
branch_split x base t ts g b e = rw e

module _ {s whole before after : List ℕ} {k base first at pos x : ℕ} (u : Equating s k base whole before first after at pos x) where
  -- the first of the terms to come
  record NextTerm : Type 0 where
    pub term : Term
    pub others : Terms
    pub many : suc x + arity others ≡ k
    pub formed : TermsFormed others
    pub past : ℕ
    pub walks : traverse s pos 1 0 ≡ on (term_nodes term) past
    pub ends : end_at s pos 1 0 ≡ Some past
    pub stands : Stands s past (terms_bytes others ++ goal_bytes u.goal) u.end
    pub split : goal_bytes (branch_from x (numbered_from base) u.terms u.goal)
        ≡ equation x (renamed base (traverse s pos 1 0)) ++ goal_bytes (branch_from (suc x) (numbered_from base) others u.goal)

  next_term : x < k → NextTerm
  next_term h = go u.terms refl u.many u.terms_formed u.stands
    where
      go : (ts : Terms) → u.terms ≡ ts → x + arity ts ≡ k → TermsFormed ts → Stands s pos (terms_bytes ts ++ goal_bytes u.goal) u.end → NextTerm
      go nil q m f w = absurd (omega arith)
      go (cons t ts) q m f w =
          let v : Stands s pos (term_bytes t ++ (terms_bytes ts ++ goal_bytes u.goal)) u.end =
          rw (append_assoc (term_bytes t) (terms_bytes ts) (goal_bytes u.goal)) at w in
          let z = stands_first (term_bytes t) (terms_bytes ts ++ goal_bytes u.goal) v in
          let y = traverse_term t f.0 z in
          record {
            term = t;
            others = ts;
            many = omega arith;
            formed = f.1;
            past = pos + length (term_bytes t);
            walks = y;
            ends = term_ends t f.0 z;
            stands = stands_second (term_bytes t) (terms_bytes ts ++ goal_bytes u.goal) v;
            split =
                ap (λ (l : Terms). goal_bytes (branch_from x (numbered_from base) l u.goal)) q
                ∙ branch_split x base t ts u.goal (renamed base (traverse s pos 1 0)) (renamed_term base t (pos + length (term_bytes t)) (traverse s pos 1 0) y);
          }

  module _ (h : x < k) where
    pub equating_on : On (traverse s pos 1 0)
    equating_on = rw (next_term h).walks tt

    pub equating_room : first + length whole ≤ length before → at + length (equation x (renamed base (traverse s pos 1 0))) ≤ length after
    equating_room r =
        omega (
          arith,
          partly_room u.partly r,
          ap length (next_term h).split,
          length-append (equation x (renamed base (traverse s pos 1 0))) (goal_bytes (branch_from (suc x) (numbered_from base) (next_term h).others u.goal)),
        )

    pub equating_next : {later : List ℕ} {to next : ℕ} {o : Option ℕ} → Put after at (equation x (renamed base (traverse s pos 1 0))) later to
        → o ≡ end_at s pos 1 0 → next ≡ position o → Equating s k base whole before first later to next (x + 1)
    equating_next {next = next} q is e' =
        let t = next_term h in
        let e : next ≡ t.past = e' ∙ ap position (is ∙ t.ends) in
        rw (add-one x) (record {
          terms = t.others;
          goal = u.goal;
          many = t.many;
          terms_formed = t.formed;
          goal_formed = u.goal_formed;
          end = u.end;
          stands = rw e t.stands;
          partly = partly_more u.partly (equation x (renamed base (traverse s pos 1 0))) t.split q;
        })

  -- after the last term the goal is left
  module _ (h : k ≤ x) where
    no_terms : u.terms ≡ nil
    no_terms = go u.terms u.many
      where
        go : (ts : Terms) → x + arity ts ≡ k → ts ≡ nil
        go nil m = refl
        go (cons t ts) m = absurd (omega arith)

    goal_traversed : traverse s pos 0 1 ≡ on (goal_nodes u.goal) u.end
    goal_traversed = traverse_goal u.goal u.goal_formed (rw no_terms at u.stands)

    goal_left : goal_bytes (branch_from x (numbered_from base) u.terms u.goal) ≡ renamed base (traverse s pos 0 1)
    goal_left =
        ap (λ (l : Terms). goal_bytes (branch_from x (numbered_from base) l u.goal)) no_terms
        ∙ sym (renamed_goal base u.goal u.end (traverse s pos 0 1) goal_traversed)

    pub goal_on : On (traverse s pos 0 1)
    goal_on = rw goal_traversed tt

    pub goal_room : first + length whole ≤ length before → at + length (renamed base (traverse s pos 0 1)) ≤ length after
    goal_room r = omega (arith, partly_room u.partly r, ap length goal_left)

    pub equating_end : {later : List ℕ} {to : ℕ} → Put after at (renamed base (traverse s pos 0 1)) later to → Put before first whole later to
    equating_end q =
        partly_end (partly_more u.partly (renamed base (traverse s pos 0 1)) (goal_left ∙ sym (append-nil (renamed base (traverse s pos 0 1)))) q) refl
