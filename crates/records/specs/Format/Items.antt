-- The executable readers of ancestors, pairs, bets, stacks, events, definitions and clauses: a head, and then what it announces.
use Rattle.std.specs.Prelude.{ℕ, zero, suc, List, [], ◌∷◌, eqb, drop, Option, Some, None}
use Rattle.records.specs.Format.Syntax.{Term, Goal, Half, Ancestor, Binding, Bet, Port, Event, Definition, Clause}
use Rattle.records.specs.Format.Syntax.Term.{var}
use Rattle.records.specs.Format.Syntax.Terms.{nil, cons}
use Rattle.records.specs.Format.Syntax.Goal.{truth}
use Rattle.records.specs.Format.Syntax.Half.{first, second}
use Rattle.records.specs.Format.Syntax.Ancestor.{called, in_conj, in_disj}
use Rattle.records.specs.Format.Syntax.Binding.{bind}
use Rattle.records.specs.Format.Syntax.Bet.{unifier, or, by}
use Rattle.records.specs.Format.Syntax.Port.{call, exit, fail, redo}
use Rattle.records.specs.Format.Syntax.Event.{event}
use Rattle.records.specs.Format.Syntax.Definition.{definition}
use Rattle.records.specs.Format.Syntax.Clause.{clause}
use Rattle.records.specs.Format.Heads.{pick, ancestor_head, bet_head, word_head, definition_head, clause_head}
use Rattle.records.specs.Format.Reader.{Read, Parts, also, terms_of, read}
use Rattle.records.specs.Format.Reader.Read.{unread, found}
use Rattle.records.specs.Format.Reader.Parts.{parts}
use Rattle.records.specs.declared.heads.AncestorHead.{AncestorHead}
use Rattle.records.specs.declared.heads.AncestorHead.TheVariants.{Called, InConj, InDisj}
use Rattle.records.specs.declared.heads.BetHead.{BetHead}
use Rattle.records.specs.declared.heads.BetHead.TheVariants.{Unifier, Or, By}
use Rattle.records.specs.declared.heads.Signature.{Signature}

abbrev pub Reader : Type 0 → Type 0
Reader A = List ℕ → Read A

-- one thing, and then another one from where the first ends
abbrev pub then_read : {A B C : Type 0} → (A → B → C) → Read A → Reader B → List ℕ → Read C
then_read f unread r l = unread
then_read f (found a n) r l = also (f a) n (r (drop n l))

-- what is made of a value
abbrev pub made : {A B : Type 0} → (A → B) → Read A → Read B
made f unread = unread
made f (found a n) = found (f a) n

-- a row of n
unfoldable pub many : {A : Type 0} → Reader A → ℕ → Reader (List A)
many r zero l = found [] 0
many r (suc n) l = then_read ◌∷◌ (r l) (many r n) l

-- a two-byte count, and so many
abbrev pub counted_by : {A : Type 0} → Reader A → Option ℕ → Reader (List A)
counted_by r (Some n) l = also (λ x. x) 2 (many r n (drop 2 l))
counted_by r None l = unread

unfoldable pub read_counted : {A : Type 0} → Reader A → Reader (List A)
read_counted r l = counted_by r (word_head l) l

-- the first term, and the first and second goal, of those that were asked for (where none was asked for they are of no account)
abbrev pub first_term : Parts → Term
first_term (parts nil gs) = var 0
first_term (parts (cons t ts) gs) = t

abbrev pub first_goal : Parts → Goal
first_goal (parts ts []) = truth
first_goal (parts ts (a ∷ gs)) = a

abbrev pub second_goal : Parts → Goal
second_goal (parts ts []) = truth
second_goal (parts ts (a ∷ [])) = truth
second_goal (parts ts (a ∷ b ∷ gs)) = b

unfoldable pub read_goal : Reader Goal
read_goal l = made first_goal (read l 0 1)

-- the half that a tag selects
abbrev pub half_of : ℕ → Half
half_of k = pick (eqb k 1) first second

abbrev pub ancestor_by : Option AncestorHead → Reader Ancestor
ancestor_by (Some (Called p k)) l = also (λ q. called p (terms_of q)) 4 (read (drop 4 l) k 0)
ancestor_by (Some (InConj k)) l = also (λ q. in_conj (half_of k) (first_goal q) (second_goal q)) 2 (read (drop 2 l) 0 2)
ancestor_by (Some (InDisj k)) l = also (λ q. in_disj (half_of k) (first_goal q) (second_goal q)) 2 (read (drop 2 l) 0 2)
ancestor_by None l = unread

unfoldable pub read_ancestor : Reader Ancestor
read_ancestor l = ancestor_by (ancestor_head l) l

abbrev pub binding_by : Option ℕ → Reader Binding
binding_by (Some v) l = also (λ q. bind v (first_term q)) 2 (read (drop 2 l) 1 0)
binding_by None l = unread

unfoldable pub read_binding : Reader Binding
read_binding l = binding_by (word_head l) l

abbrev pub bet_by : Option BetHead → Reader Bet
bet_by (Some (Unifier n)) l = also unifier 3 (many read_binding n (drop 3 l))
bet_by (Some (Or k)) l = found (or (half_of k)) 2
bet_by (Some By) l = also (λ q. by (first_goal q)) 1 (read (drop 1 l) 0 1)
bet_by None l = unread

unfoldable pub read_bet : Reader Bet
read_bet l = bet_by (bet_head l) l

abbrev pub definition_by : Option Signature → Reader Definition
definition_by (Some d) l = also (λ q. definition d.predicate d.arity d.count (first_goal q)) 4 (read (drop 4 l) 0 1)
definition_by None l = unread

unfoldable pub read_definition : Reader Definition
read_definition l = definition_by (definition_head l) l

abbrev pub clause_by : Option Signature → Reader Clause
clause_by (Some d) l = also (λ q. clause d.predicate d.count (terms_of q) (first_goal q)) 4 (read (drop 4 l) d.arity 1)
clause_by None l = unread

unfoldable pub read_clause : Reader Clause
read_clause l = clause_by (clause_head l) l

-- the two stacks of an event
pub data Stacks : Type 0 where
  stacks : List Ancestor → List Bet → Stacks

unfoldable pub read_stacks : Reader Stacks
read_stacks l = then_read stacks (read_counted read_ancestor l) (read_counted read_bet) l

abbrev pub port_of : ℕ → Read Port
port_of b = pick (eqb b 1) (found call 1) (pick (eqb b 2) (found exit 1) (pick (eqb b 3) (found fail 1) (pick (eqb b 4) (found redo 1) unread)))

abbrev pub read_port : Reader Port
read_port [] = unread
read_port (b ∷ l) = port_of b

-- what follows the port
pub data EventFrame : Type 0 where
  frame : Goal → Stacks → EventFrame

unfoldable pub read_frame : Reader EventFrame
read_frame l = then_read frame (read_goal l) read_stacks l

abbrev pub event_of_frame : Port → EventFrame → Event
event_of_frame p (frame g (stacks u s)) = event p g u s

unfoldable pub read_event_bytes : Reader Event
read_event_bytes l = then_read event_of_frame (read_port l) read_frame l

abbrev pub read_program_bytes : Reader (List Definition)
read_program_bytes = read_counted read_definition

abbrev pub read_clauses_bytes : Reader (List Clause)
read_clauses_bytes = read_counted read_clause
