-- Laws of the value service: what the gate's number and the places of an event's parts give it, and how each of its answers is delivered.
use Rattle.std.specs.Prelude.{◌≡◌, refl, List, ℕ, ◌+◌, ◌-◌, ◌≤◌, ◌<◌, length, Some, None}
use Rattle.std.proofs.Math.Path.{ap}
use Rattle.std.proofs.Common.{◌∙◌, arith}
use Rattle.std.proofs.Math.Option.{Option}
use Rattle.records.specs.Format.Syntax.{Term, Bet, Event}
use Rattle.records.specs.Format.Syntax.Term.{var}
use Rattle.records.specs.Format.Syntax.Event.{event}
use Rattle.records.specs.Format.Encode.{term_bytes}
use Rattle.records.specs.Gate.RecordRules.{event_rules}
use Rattle.records.specs.Format.HeadLaws.{Known, bytes_all}
use Rattle.records.specs.Gate.Gate.{Reading, read_event}
use Rattle.records.specs.Gate.Gate.Reading.{tree}
use Rattle.records.specs.Gate.GateLaws.{event_tree}
use Rattle.records.specs.Gate.Question.{question_number}
use Rattle.records.specs.Gate.Reply.{Answer, refused, through, answer_number, Receipted}
use Rattle.records.specs.Gate.ReplyLaws.{number_refuses, receipted_refused, receipted_given}
use Rattle.records.specs.Gate.Door.{event_door}
use Rattle.records.specs.Gate.DoorLaws.{room_enough, room_short}
use Rattle.records.specs.Ends.Places.{event_places}
use Rattle.records.specs.Ends.Range.{cut, Inside}
use Rattle.records.specs.Ends.StandsLaws.{stands_cut, stands_inside, stands_within}
use Rattle.records.specs.Writing.Patched.{Put}
use Rattle.records.specs.declared.places.Places.{Places}
use Rattle.records.specs.Gate.Receipt.{Receipt}
use Rattle.terms.specs.Theory.Substitution.{apply}
use Rattle.terms.specs.Theory.SubstitutionLaws.{term_length_least}
use Rattle.terms.specs.Theory.Outcome.{value}
use Rattle.terms.specs.Standing.AcceptedLaws.{accepted_bets}
use Rattle.terms.specs.Standing.BetRow.{RuledBets}
use Rattle.terms.specs.Values.Answered.{Answered, value_refusal}
use Rattle.terms.specs.Values.AnsweredLaws.{answered_fits, answered_large}
use Rattle.terms.specs.Values.ValueService.{within_limit, value_into, value_answer, bets_of}
use Rattle.terms.specs.Values.Sized.{Sized}

-- an event that is refused
pub value_refused : {before : List ℕ} {k : ℕ} (r : Reading Event) (v : ℕ) → k ≡ answer_number (event_door r) → (k ≡ 0 → ⊥)
    → Receipted term_bytes (value_answer r (length before) v) before (record { number = k; length = 0 }) before
unfolding value_answer through
value_refused {before} r v e h =
    let w = number_refuses (event_door r) e h in
    receipted_refused term_bytes before (ap (λ (a : Answer Event). through refused a (λ x. value_into (length before) (value (bets_of x) v))) w.refuses) w.number_is

-- an output that is too short
pub value_no_room : {before : List ℕ} (o : Option Term) → length before < 32768 → Receipted term_bytes (value_into (length before) o) before (record { number = 5; length = 0 }) before
unfolding value_into question_number
value_no_room {before} o h = receipted_refused term_bytes before (room_short _ h) refl

module _ {bets : List Bet} {v : ℕ} {a : List ℕ} {r : Sized} (w : Answered bets (var v) a r) where
  -- a value that is too large
  pub value_large : {before : List ℕ} → 32768 ≤ length before → r ≡ None
      → Receipted term_bytes (value_into (length before) (value bets v)) before (record { number = value_refusal r; length = 0 }) before
  unfolding value_into question_number
  value_large {before} h e = receipted_refused term_bytes before (room_enough _ h ∙ ap within_limit (answered_large w e)) (ap value_refusal e)

  module _ {m : ℕ} (e : r ≡ Some m) where
    value_within : (0 < m) × (m ≤ length a)
    value_within = stands_within (answered_fits w e).1 (omega (arith, term_length_least (apply bets (var v))))

    pub value_inside : Inside (record { from = 0; to = m }) a
    value_inside = stands_inside (answered_fits w e).1 value_within.1

    pub value_room : {n : ℕ} → 32768 ≤ n → 0 + (m - 0) ≤ n
    value_room h = omega (arith, (answered_fits w e).2)

    -- a value copied to the output
    pub value_copied : {before after : List ℕ} {k : ℕ} → 32768 ≤ length before → Put before 0 (cut a (record { from = 0; to = m })) after k
        → Receipted term_bytes (value_into (length before) (value bets v)) before (record { number = value_refusal r; length = k }) after
    unfolding value_into
    value_copied {before} h p =
        let q = receipted_given term_bytes before (room_enough _ h ∙ ap within_limit (answered_fits w e).0) (rw (stands_cut (answered_fits w e).1) at p)
        (omega (arith, (answered_fits w e).2, (answered_fits w e).1.end)) in
        rw e q

-- the bets of an event stand where its places say
pub record BetsOf (s : List ℕ) (e : Event) (places : Places) : Type 0 where
  pub bets : RuledBets s places.bets.from places.bets.count
  pub are : bets.row.items ≡ bets_of e
  pub short : length s ≤ 32768

pub event_bets : (s : List ℕ) → Known s → (e : Event) → read_event s ≡ tree e → {places : Places} → places ≡ event_places e → BetsOf s e places
unfolding event_places event_rules
event_bets s known (event p g u bets) q i =
    rw i (record { bets = accepted_bets s known g q; are = refl; short = (event_tree s (bytes_all s known) (event p g u bets) q).short })

-- the answer for the bets of an event is the answer for the event
pub value_of_event : {s before after : List ℕ} {receipt : Receipt} (v : ℕ) (e : Event) → read_event s ≡ tree e → {places : Places} (b : BetsOf s e places)
    → Receipted term_bytes (value_into (length before) (value b.bets.row.items v)) before receipt after
    → Receipted term_bytes (value_answer (read_event s) (length before) v) before receipt after
unfolding value_answer through event_door
value_of_event v e q b w = rw (q, ← b.are) w
