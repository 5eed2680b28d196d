-- Where the parts of an accepted event stand, and the frames of its goal and of the atom above it; the same bets, term and atom with their places
-- by other names.
use Rattle.std.specs.Prelude.{◌≡◌, List, ◌∷◌, ℕ, ◌+◌, length}
use Rattle.std.proofs.Common.{sym, ◌∙◌}
use Rattle.records.specs.Format.Syntax.{Terms, Goal, Ancestor, Bet, Event}
use Rattle.records.specs.Format.Syntax.Ancestor.{called}
use Rattle.records.specs.Format.Syntax.Event.{event}
use Rattle.records.specs.Format.Encode.{counted, ancestor_bytes}
use Rattle.records.specs.Ends.Places.{goal_end}
use Rattle.terms.specs.Standing.BetRow.{RuledBets}
use Rattle.terms.specs.Values.Applied.{TermAt}
use Rattle.terms.specs.Body.BodyBytes.{AtomAt}
use Rattle.records.specs.declared.places.Places.{Places}
use Rattle.terms.specs.declared.variables.Frame.{Frame}

-- where the count of an event's ancestors stands, and that of its bets
abbrev pub ancestors_at : Goal → ℕ
ancestors_at g = goal_end 4 g

abbrev pub bets_at : Goal → List Ancestor → ℕ
bets_at g u = goal_end 4 g + length (counted ancestor_bytes u)

-- where the first bet or ancestor of a stack ends, whose count stands at a position
abbrev pub top_end : ℕ → List ℕ → ℕ
top_end at x = at + 2 + length x

-- an event's own frame: its goal and its stacks
abbrev pub frame_of : Event → Frame
frame_of (event p g u b) = record {
  goal = 4;
  ancestors = ancestors_at g + 2;
  depth = length u;
  bets = bets_at g u + 2;
  height = length b;
}

-- the same, by the event's places
abbrev pub event_frame : Places → Frame
event_frame places = record {
  goal = places.goal.from;
  ancestors = places.ancestors.from;
  depth = places.ancestors.count;
  bets = places.bets.from;
  height = places.bets.count;
}

-- the frame of the atom that a goal stands under: the stacks without it
abbrev pub frame_under : Goal → ℕ → Terms → List Ancestor → List Bet → Frame
frame_under g k ts u b = record {
  goal = ancestors_at g + 2;
  ancestors = top_end (ancestors_at g) (ancestor_bytes (called k ts));
  depth = length u;
  bets = bets_at g (called k ts ∷ u) + 2;
  height = length b;
}

-- the same bets, term and atom, their places by other names
module _ {s : List ℕ} where
  abbrev pub bets_moved : {at to n m : ℕ} → to ≡ at → m ≡ n → RuledBets s at n → RuledBets s to m
  bets_moved i j b = record {
    row = record { items = b.row.items; formed = b.row.formed; many = b.row.many ∙ sym j; end = b.row.end; stands = rw i b.row.stands };
    rules = b.rules;
  }

  abbrev pub term_moved : {at to e d : ℕ} → to ≡ at → d ≡ e → TermAt s at e → TermAt s to d
  term_moved i j t = record { term = t.term; formed = t.formed; stands = rw (i, j) t.stands }

  abbrev pub atom_moved : {f h : Frame} → h ≡ f → AtomAt s f → AtomAt s h
  atom_moved i a = record {
    frame = record {
      goal = record { item = a.frame.goal.item; formed = a.frame.goal.formed; end = a.frame.goal.end; stands = rw i a.frame.goal.stands };
      ancestors = record {
        items = a.frame.ancestors.items;
        formed = a.frame.ancestors.formed;
        many = rw i a.frame.ancestors.many;
        end = a.frame.ancestors.end;
        stands = rw i a.frame.ancestors.stands;
      };
      bets = record {
        items = a.frame.bets.items;
        formed = a.frame.bets.formed;
        many = rw i a.frame.bets.many;
        end = a.frame.bets.end;
        stands = rw i a.frame.bets.stands;
      };
    };
    predicate = a.predicate;
    terms = a.terms;
    atom = a.atom;
  }
