-- Laws of a case of kind b, in the order of the code: a record that is refused, a goal that is no atom, program and frame found, and the body.
use Rattle.std.specs.Prelude.{◌≡◌, refl, List, ℕ, Option, Some, None, Result, Ok, Err}
use Rattle.std.proofs.Common.{sym, ◌∙◌}
use Rattle.records.specs.Format.Never.{never}
use Rattle.records.specs.Format.Syntax.{Goal, Ancestor, Bet, Port, Event, Definition, arity}
use Rattle.records.specs.Format.Syntax.Goal.{truth, failure, equal, conj, disj, atom}
use Rattle.records.specs.Format.Syntax.Event.{event}
use Rattle.records.specs.Format.Heads.{goal_head_at}
use Rattle.records.specs.Format.HeadLaws.{Known}
use Rattle.records.specs.Gate.Question.{of_program, of_event, refusal}
use Rattle.records.specs.Gate.Gate.{Reading, Accepted, read_event}
use Rattle.records.specs.Gate.Gate.Reading.{tree}
use Rattle.records.specs.Ends.Places.{event_places}
use Rattle.records.specs.Ends.Stands.{head_of_goal}
use Rattle.records.specs.declared.places.Places.{Places}
use Rattle.terms.specs.Standing.Accepted.{event_frame, atom_moved}
use Rattle.terms.specs.Standing.AcceptedLaws.{frame_told, goal_told, accepted_atom}
use Rattle.records.specs.Gate.Reply.{told}
use Rattle.records.specs.Gate.Door.{program_door, event_door}
use Rattle.terms.specs.Body.Body.{body}
use Rattle.terms.specs.Body.BodyBytes.{BodyAnswer, AtomAt, BodyAnswered}
use Rattle.terms.specs.declared.variables.Frame.{Frame}
use Rattle.records.specs.declared.heads.GoalHead.TheVariants.{Atom}
use Rattle.records.specs.declared.questions.Refusal.{Refusal}
use Rattle.terms_cases.specs.Bodies.{other, goal_body, body_case, AtomGoal, atom_event, body_told, BodyReplied}

-- the program is refused, or the event
pub program_replied : {before : List ℕ} {o : Result (Unit {0}) Refusal} {f : Refusal} (r : Reading (List Definition)) (e : Reading Event) → o ≡ told (program_door r) → o ≡ Err f
    → BodyReplied (body_case r e) before before (Err f)
unfolding program_door told
program_replied {f = f} (Reading.refused a) e i h = let same : Err f ≡ Err (refusal (of_program a)) = sym h ∙ i in record { reply = (cc, refl) }
program_replied (Reading.tree ds) e i h = never cc

pub event_replied : {before : List ℕ} {o : Result (Unit {0}) Refusal} {f : Refusal} (ds : List Definition) {r : Reading (List Definition)} → r ≡ tree ds → (e : Reading Event)
    → o ≡ told (event_door e) → o ≡ Err f → BodyReplied (body_case r e) before before (Err f)
unfolding event_door told
event_replied {f = f} ds p (Reading.refused a) i h = let same : Err f ≡ Err (refusal (of_event a)) = sym h ∙ i in rw p (record { reply = (cc, refl) })
event_replied ds p (Reading.tree x) i h = never cc

-- the goal is no atom
other_goal : (ds : List Definition) (g : Goal) (u : List Ancestor) (bets : List Bet) → ((k n : ℕ) → head_of_goal g ≡ Some (Atom k n) → ⊥) → goal_body ds g u bets ≡ other
other_goal ds truth u bets h = refl
other_goal ds failure u bets h = refl
other_goal ds (equal t r) u bets h = refl
other_goal ds (conj a b) u bets h = refl
other_goal ds (disj a b) u bets h = refl
other_goal ds (atom p ts) u bets h = absurd (h p (arity ts) refl)

-- or it is one
atom_goal : (p : Port) (g : Goal) (u : List Ancestor) (bets : List Bet) {s : List ℕ} {n m : ℕ} → head_of_goal g ≡ Some (Atom n m) → read_event s ≡ tree (event p g u bets) → AtomGoal s
atom_goal p (atom k ts) u bets h e = record { port = p; predicate = k; terms = ts; ancestors = u; bets = bets; read = e }
atom_goal p truth u bets h e = never cc
atom_goal p failure u bets h e = never cc
atom_goal p (equal t r) u bets h e = never cc
atom_goal p (conj a b) u bets h e = never cc
atom_goal p (disj a b) u bets h e = never cc

module _ (s : List ℕ) (known : Known s) (e : Event) (read : read_event s ≡ tree e) where
  pub other_replied : {before : List ℕ} (ds : List Definition) {r : Reading (List Definition)} → r ≡ tree ds → ((k n : ℕ) → goal_head_at s 4 ≡ Some (Atom k n) → ⊥)
      → BodyReplied (body_case r (read_event s)) before before (Ok None)
  other_replied {before} ds {r} p h = go e read
    where
      go : (e : Event) → read_event s ≡ tree e → BodyReplied (body_case r (read_event s)) before before (Ok None)
      go (event k g u bets) i = rw (p, i, other_goal ds g u bets (rw (goal_told s known k g u bets i) at h)) (record { reply = (refl, refl) })

  pub atom_found : {n m : ℕ} → goal_head_at s 4 ≡ Some (Atom n m) → AtomGoal s
  atom_found h = go e read
    where
      go : (e : Event) → read_event s ≡ tree e → AtomGoal s
      go (event p g u bets) i = atom_goal p g u bets (rw (goal_told s known p g u bets i) at h) i

-- such an event is accepted
pub atom_accepted : {s : List ℕ} → AtomGoal s → Accepted (read_event s)
atom_accepted q = rw q.read tt

-- and the atom stands in the frame that its places tell
abbrev pub atom_there : {s : List ℕ} → Known s → (q : AtomGoal s) → {places : Places} → places ≡ event_places (atom_event q) → {f : Frame} → f ≡ event_frame places
    → AtomAt s f
atom_there {s} known q i j = atom_moved (frame_told (atom_event q) i j) (accepted_atom s known q.predicate q.terms q.read)

-- the body of the atom is the answer for the two records
pub body_replied : {s : List ℕ} (q : AtomGoal s) (ds : List Definition) {r : Reading (List Definition)} → r ≡ tree ds → {before after : List ℕ} {a : BodyAnswer} {t : Result (Option (Option ℕ)) Refusal}
    → BodyAnswered before after (body ds q.predicate q.terms q.ancestors q.bets) a → body_told a ≡ t → BodyReplied (body_case r (read_event s)) before after t
body_replied q ds p {a = a} w e = rw (p, q.read) (record { reply = (a, sym e, w) })
