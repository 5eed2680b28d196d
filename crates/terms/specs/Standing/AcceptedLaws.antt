-- What an accepted record gives the functions of this crate: the bets of an event, the sides of an equality, the frame of an atom, the definitions
-- of a program. Each is an abbreviation, so that its tree is seen to be the one that was read. And what its bytes tell: the head of its goal, and
-- where the left side of an equality ends.
use Rattle.std.specs.Prelude.{◌≡◌, refl, true, List, ◌∷◌, ℕ, ◌+◌, length, Some}
use Rattle.std.proofs.Common.{◌∙◌, ap}
use Rattle.records.specs.Gate.RecordRulesLaws.{and_both}
use Rattle.records.specs.Format.Syntax.{Term, Terms, Goal, Ancestor, Bet, Port, Event, Definition}
use Rattle.records.specs.Format.Syntax.Goal.{equal, atom}
use Rattle.records.specs.Format.Syntax.Ancestor.{called}
use Rattle.records.specs.Format.Syntax.Event.{event}
use Rattle.records.specs.Format.Encode.{word, each, counted, term_bytes, ancestor_bytes, bet_bytes, definition_bytes}
use Rattle.records.specs.Gate.RecordRules.{event_rules, bet_rules, every}
use Rattle.records.specs.Format.HeadLaws.{Known, bytes_all}
use Rattle.records.specs.Gate.Gate.{read_event, read_program}
use Rattle.records.specs.Gate.Gate.Reading.{tree}
use Rattle.records.specs.Gate.GateLaws.{event_tree, program_tree}
use Rattle.records.specs.Ends.Places.{goal_end, event_places, EventParts}
use Rattle.records.specs.Ends.PlacesLaws.{event_parts}
use Rattle.records.specs.Ends.StandsLaws.{equal_parts, stack_parts, body_stands, stands_second, goal_stands, term_ends}
use Rattle.records.specs.Ends.Stands.{Stands, head_of_goal}
use Rattle.records.specs.Format.Heads.{goal_head_at}
use Rattle.records.specs.Ends.Traversal.{end_at}
use Rattle.records.specs.declared.places.Places.{Places}
use Rattle.terms.specs.Standing.BetRow.{RuledBets}
use Rattle.terms.specs.Values.Applied.{TermAt}
use Rattle.terms.specs.Standing.Frames.{FrameAt}
use Rattle.terms.specs.Body.Definitions.{ProgramAt}
use Rattle.terms.specs.Body.BodyBytes.{AtomAt}
use Rattle.terms.specs.Standing.Accepted.{ancestors_at, bets_at, top_end, frame_of, event_frame, frame_under}
use Rattle.terms.specs.declared.variables.Frame.{Frame}

-- the frame by an event's places is the event's
pub frame_told : (e : Event) {places : Places} {f : Frame} → places ≡ event_places e → f ≡ event_frame places → f ≡ frame_of e
unfolding event_places
frame_told (event p g u b) i j = j ∙ ap event_frame i

-- an event's goal and stacks, as its places tell
module _ {s : List ℕ} {p : Port} {g : Goal} {u : List Ancestor} {b : List Bet} (w : EventParts s p g u b) where
  abbrev pub parts_frame : FrameAt s (frame_of (event p g u b))
  parts_frame = record {
    goal = record { item = g; formed = w.formed.0; end = goal_end 4 g; stands = w.goal_stands };
    ancestors = record {
      items = u;
      formed = w.formed.1.1;
      many = refl;
      end = bets_at g u;
      stands = stands_second (word (length u)) (each ancestor_bytes u) w.ancestors_stand;
    };
    bets = record {
      items = b;
      formed = w.formed.2.1;
      many = refl;
      end = length s;
      stands = stands_second (word (length b)) (each bet_bytes b) w.bets_stand;
    };
  }

-- the frame of the atom that the goal of an event stands under
module _ {s : List ℕ} {p : Port} {g : Goal} {k : ℕ} {ts : Terms} {u : List Ancestor} {b : List Bet} (w : EventParts s p g (called k ts ∷ u) b) where
  abbrev pub parts_under : AtomAt s (frame_under g k ts u b)
  parts_under = record {
    frame = record {
      goal = record {
        item = atom k ts;
        formed = w.formed.1.1.0;
        end = top_end (ancestors_at g) (ancestor_bytes (called k ts));
        stands = (stack_parts ancestor_bytes (called k ts) u w.ancestors_stand).one;
      };
      ancestors = record {
        items = u;
        formed = w.formed.1.1.1;
        many = refl;
        end = bets_at g (called k ts ∷ u);
        stands = (stack_parts ancestor_bytes (called k ts) u w.ancestors_stand).other;
      };
      bets = (parts_frame w).bets;
    };
    predicate = k;
    terms = ts;
    atom = refl;
  }

-- its bets keep the rules
pub accepted_rules : (s : List ℕ) → Known s → {p : Port} (g : Goal) {u : List Ancestor} {b : List Bet} → read_event s ≡ tree (event p g u b) → every bet_rules b ≡ true
unfolding event_rules
accepted_rules s known {p} g {u} {b} e = (event_tree s (bytes_all s known) (event p g u b) e).keeps

module _ (s : List ℕ) (known : Known s) {p : Port} {u : List Ancestor} {b : List Bet} where
  module _ (g : Goal) (e : read_event s ≡ tree (event p g u b)) where
    -- the bets of an event
    abbrev pub accepted_bets : RuledBets s (bets_at g u + 2) (length b)
    accepted_bets = record {
      row = record {
        items = b;
        formed = (event_parts s known p g u b e).formed.2.1;
        many = refl;
        end = length s;
        stands = stands_second (word (length b)) (each bet_bytes b) (event_parts s known p g u b e).bets_stand;
      };
      rules = accepted_rules s known g e;
    }

  -- the bets below the top
  module _ (g : Goal) (x : Bet) (e : read_event s ≡ tree (event p g u (x ∷ b))) where
    abbrev pub accepted_rest : RuledBets s (top_end (bets_at g u) (bet_bytes x)) (length b)
    accepted_rest = record {
      row = record {
        items = b;
        formed = (event_parts s known p g u (x ∷ b) e).formed.2.1.1;
        many = refl;
        end = length s;
        stands = (stack_parts bet_bytes x b (event_parts s known p g u (x ∷ b) e).bets_stand).other;
      };
      rules = (and_both (bet_rules x) (every bet_rules b) (accepted_rules s known g e)).1;
    }

  -- the sides of an equality
  module _ (l r : Term) (e : read_event s ≡ tree (event p (equal l r) u b)) where
    abbrev pub left_side : TermAt s 5 (5 + length (term_bytes l))
    left_side = record {
      term = l;
      formed = (event_parts s known p (equal l r) u b e).formed.0.0;
      stands = (equal_parts l r (event_parts s known p (equal l r) u b e).goal_stands).one;
    }

    abbrev pub right_side : TermAt s (5 + length (term_bytes l)) (goal_end 4 (equal l r))
    right_side = record {
      term = r;
      formed = (event_parts s known p (equal l r) u b e).formed.0.1;
      stands = (equal_parts l r (event_parts s known p (equal l r) u b e).goal_stands).other;
    }

  -- the atom that is an event's goal
  abbrev pub accepted_atom : (k : ℕ) (ts : Terms) → read_event s ≡ tree (event p (atom k ts) u b) → AtomAt s (frame_of (event p (atom k ts) u b))
  accepted_atom k ts e = record { frame = parts_frame (event_parts s known p (atom k ts) u b e); predicate = k; terms = ts; atom = refl }

-- the definitions of a program
module _ (s : List ℕ) (known : Known s) (ds : List Definition) (e : read_program s ≡ tree ds) where
  pub definitions_stand : Stands s 3 (counted definition_bytes ds) (3 + length (counted definition_bytes ds))
  definitions_stand = rw (program_tree s (bytes_all s known) ds e).laid (body_stands (counted definition_bytes ds))

  abbrev pub accepted_program : ProgramAt s
  accepted_program = record {
    definitions = ds;
    formed = (program_tree s (bytes_all s known) ds e).formed;
    end = 3 + length (counted definition_bytes ds);
    stands = definitions_stand;
  }

module _ (s : List ℕ) (known : Known s) where
  -- the head at position 4 is the goal's
  pub goal_told : (p : Port) (g : Goal) (u : List Ancestor) (b : List Bet) → read_event s ≡ tree (event p g u b) → goal_head_at s 4 ≡ head_of_goal g
  goal_told p g u b e = let w = event_parts s known p g u b e in goal_stands g w.formed.0 w.goal_stands

  -- where the left side of an equality ends
  pub left_ends : {p : Port} {u : List Ancestor} {b : List Bet} (l r : Term) → read_event s ≡ tree (event p (equal l r) u b) → end_at s 5 1 0 ≡ Some (5 + length (term_bytes l))
  left_ends l r e = let w = left_side s known l r e in term_ends l w.formed w.stands
