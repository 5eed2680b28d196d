-- Laws of a case of kind u, in the order of the code: the event is refused, its goal is no equality, its sides and its bets are found, the unifier.
use Rattle.std.specs.Prelude.{◌≡◌, List, ℕ, ◌+◌, ◌≤◌, length, Option, Some, None, Result, Ok, Err}
use Rattle.std.proofs.Math.Path.{refl}
use Rattle.std.proofs.Common.{sym, ◌∙◌}
use Rattle.records.specs.Format.Never.{never}
use Rattle.records.specs.Format.Syntax.{Goal, Ancestor, Bet, Port, Event}
use Rattle.records.specs.Format.Syntax.Goal.{truth, failure, equal, conj, disj, atom}
use Rattle.records.specs.Format.Syntax.Event.{event}
use Rattle.records.specs.Format.Encode.{term_bytes}
use Rattle.records.specs.Format.Heads.{goal_head_at}
use Rattle.records.specs.Format.HeadLaws.{Known, bytes_all}
use Rattle.records.specs.Gate.Question.{of_event, refusal}
use Rattle.records.specs.Gate.Gate.{Reading, Accepted, read_event}
use Rattle.records.specs.Gate.Gate.Reading.{tree}
use Rattle.records.specs.Gate.GateLaws.{event_tree}
use Rattle.records.specs.Ends.Places.{goal_end, event_places}
use Rattle.records.specs.Ends.Stands.{head_of_goal}
use Rattle.records.specs.Ends.Traversal.{end_at}
use Rattle.records.specs.declared.places.Places.{Places}
use Rattle.terms.specs.Standing.Accepted.{bets_at, bets_moved, term_moved}
use Rattle.terms.specs.Standing.AcceptedLaws.{goal_told, left_ends, accepted_bets, left_side, right_side}
use Rattle.records.specs.Gate.Reply.{told}
use Rattle.records.specs.Gate.Door.{event_door}
use Rattle.terms.specs.Values.Applied.{TermAt}
use Rattle.terms.specs.Standing.BetRow.{RuledBets}
use Rattle.terms.specs.Theory.Outcome.{unified_under}
use Rattle.terms.specs.Unifier.Equality.{UnifierAnswer, UnifierAnswered}
use Rattle.records.specs.declared.heads.GoalHead.TheVariants.{Equal}
use Rattle.records.specs.declared.questions.Refusal.{Refusal}
use Rattle.terms_cases.specs.Equalities.{other, goal_equality, equality_of, EqualityAt, equality_event, unifier_told, EqualityReplied}

-- the event is refused
pub refused_replied : {before : List ℕ} {o : Result (Unit {0}) Refusal} {f : Refusal} (r : Reading Event) → o ≡ told (event_door r) → o ≡ Err f → EqualityReplied (equality_of r) before before (Err f)
unfolding event_door told
refused_replied {f = f} (Reading.refused a) e h = let same : Err f ≡ Err (refusal (of_event a)) = sym h ∙ e in record { reply = (cc, refl) }
refused_replied (Reading.tree x) e h = never cc

-- its goal is no equality
other_goal : (g : Goal) (bets : List Bet) → (head_of_goal g ≡ Some Equal → ⊥) → goal_equality g bets ≡ other
other_goal truth bets h = refl
other_goal failure bets h = refl
other_goal (equal t u) bets h = absurd (h refl)
other_goal (conj a b) bets h = refl
other_goal (disj a b) bets h = refl
other_goal (atom p ts) bets h = refl

equality_goal : (p : Port) (g : Goal) (u : List Ancestor) (bets : List Bet) {s : List ℕ} → head_of_goal g ≡ Some Equal → read_event s ≡ tree (event p g u bets) → EqualityAt s
equality_goal p (equal t r) u bets h e = record { port = p; left = t; right = r; ancestors = u; bets = bets; read = e }
equality_goal p truth u bets h e = never cc
equality_goal p failure u bets h e = never cc
equality_goal p (conj a b) u bets h e = never cc
equality_goal p (disj a b) u bets h e = never cc
equality_goal p (atom q ts) u bets h e = never cc

module _ (s : List ℕ) (known : Known s) (e : Event) (read : read_event s ≡ tree e) where
  pub other_replied : {before : List ℕ} → (goal_head_at s 4 ≡ Some Equal → ⊥) → EqualityReplied (equality_of (read_event s)) before before (Ok None)
  other_replied {before} h = go e read
    where
      go : (e : Event) → read_event s ≡ tree e → EqualityReplied (equality_of (read_event s)) before before (Ok None)
      go (event p g u bets) i = rw (i, other_goal g bets (rw (goal_told s known p g u bets i) at h)) (record { reply = (refl, refl) })

  pub equality_found : goal_head_at s 4 ≡ Some Equal → EqualityAt s
  equality_found h = go e read
    where
      go : (e : Event) → read_event s ≡ tree e → EqualityAt s
      go (event p g u bets) i = equality_goal p g u bets (rw (goal_told s known p g u bets i) at h) i

-- such an event is accepted
pub equality_accepted : {s : List ℕ} → EqualityAt s → Accepted (read_event s)
equality_accepted q = rw q.read tt

pub equality_short : {s : List ℕ} → Known s → EqualityAt s → length s ≤ 32768
equality_short {s} known q = (event_tree s (bytes_all s known) (equality_event q) q.read).short

-- where its sides and its bets stand
module _ {s : List ℕ} (known : Known s) (q : EqualityAt s) {places : Places} (i : places ≡ event_places (equality_event q)) where
  pub bets_from : places.bets.from ≡ bets_at (equal q.left q.right) q.ancestors + 2
  unfolding event_places
  bets_from = rw i refl

  pub bets_count : places.bets.count ≡ length q.bets
  unfolding event_places
  bets_count = rw i refl

  pub goal_to : places.goal.to ≡ goal_end 4 (equal q.left q.right)
  unfolding event_places
  goal_to = rw i refl

  abbrev pub bets_there : RuledBets s places.bets.from places.bets.count
  bets_there = bets_moved bets_from bets_count (accepted_bets s known (equal q.left q.right) q.read)

  module _ {middle : ℕ} (m : end_at s 5 1 0 ≡ Some middle) where
    pub middle_is : middle ≡ 5 + length (term_bytes q.left)
    middle_is = same (sym m ∙ left_ends s known q.left q.right q.read)
      where
        same : {a b : ℕ} → Some a ≡ Some b → a ≡ b
        same e = cc

    abbrev pub left_there : TermAt s 5 middle
    left_there = term_moved refl middle_is (left_side s known q.left q.right q.read)

    abbrev pub right_there : TermAt s middle places.goal.to
    right_there = term_moved middle_is goal_to (right_side s known q.left q.right q.read)

  -- the left side has an end
  pub left_lost : {P : Type 0} → end_at s 5 1 0 ≡ None → P
  left_lost h = lost (sym (left_ends s known q.left q.right q.read) ∙ h)
    where
      lost : {P : Type 0} {e : ℕ} → Some e ≡ None → P
      lost e = never cc

-- the unifier of its sides is the answer for the event
pub unifier_replied : {s : List ℕ} (q : EqualityAt s) {before after : List ℕ} {a : UnifierAnswer} {r : Result (Option (Option ℕ)) Refusal}
    → UnifierAnswered before after (unified_under q.bets q.left q.right) a → unifier_told a ≡ r → EqualityReplied (equality_of (read_event s)) before after r
unifier_replied q {a = a} w e = rw q.read (record { reply = (a, sym e, w) })
