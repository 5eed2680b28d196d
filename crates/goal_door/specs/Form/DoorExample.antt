-- Ways to doors, by evaluation, in the walk of (true;true),fail under the program without definitions.
use Rattle.std.specs.Prelude.{◌≡◌, refl, List, [], ◌∷◌, ℕ}
use Rattle.std.proofs.Math.Decide.{ℕ_discrete, dec_lt}
use Rattle.records.specs.Format.Encode.{record_of}
use Rattle.records.specs.Format.Syntax.{Goal, truth, failure, conj, disj, first, second, Ancestor, in_conj, in_disj, or, call, exit, fail, redo, Event, event, goal?, event?, list?, ancestor?, bet?}
use Rattle.records.specs.Gate.Question.{matches, allowed}
use Rattle.records.specs.Gate.Reply.{on_yes, through}
use Rattle.stepper.specs.Rules.Machine.{answer?}
use Rattle.stepper.specs.Rules.Rules.{step, step_back, step_forward, first_event}
use Rattle.stepper.specs.Run.Run.{Stop, met, by, mark, meets, plain, is_full, less_room, on_answer, past, run}
use Rattle.stepper.specs.Services.Desk.{layers}
use Rattle.stepper.specs.Services.Services.{machine, record_limit}
use Rattle.stepper.specs.Walks.Walk.{forward}
use Rattle.goal_door.specs.Form.GoalDoor.{is_door, from_here, way_back, to_door}

-- where a way ends, after how many steps, and why
pub record Way : Type 0 where
  pub event : Event
  pub taken : ℕ
  pub why : Stop

-- the desk's way from an event within so many steps, opened to all that it computes by
unfoldable pub way_within : ℕ → Event → Way
unfolding way_back from_here is_door through on_yes step_back step_forward answer? record_limit record_of past mark goal? event? list? ancestor? bet? ℕ_discrete dec_lt
way_within n e = let r = to_door (machine layers []) n e in record { event = r.event; taken = r.taken; why = r.why }

abbrev choice : Goal
choice = disj truth truth

-- choice is called under 1/choice,fail, and its halves under that
abbrev under_query : List Ancestor
under_query = in_conj first choice failure ∷ []

abbrev under_first : List Ancestor
under_first = in_disj first truth truth ∷ under_query

abbrev under_second : List Ancestor
under_second = in_disj second truth truth ∷ under_query

-- the event so many steps from the first of (true;true),fail, opened likewise
unfoldable pub event_after : ℕ → Event
unfolding run is_full on_answer less_room meets past mark first_event step record_limit record_of goal? ℕ_discrete dec_lt
event_after n = (run (machine layers []) (plain forward) n (first_event (conj choice failure))).event

-- event 1 calls choice, event 2 its first half, and event 5 fail, with as many ancestors as choice has
pub event_1 : event_after 1 ≡ event call choice under_query []
unfolding event_after
event_1 = refl

pub event_2 : event_after 2 ≡ event call truth under_first []
unfolding event_after
event_2 = refl

pub event_5 : event_after 5 ≡ event call failure (in_conj second choice failure ∷ []) (or first ∷ [])
unfolding event_after
event_5 = refl

-- event 9 is the first half's fail, event 11 the second half's exit, and event 12 the second exit of choice
pub event_9 : event_after 9 ≡ event fail truth under_first []
unfolding event_after
event_9 = refl

pub event_11 : event_after 11 ≡ event exit truth under_second []
unfolding event_after
event_11 = refl

pub event_12 : event_after 12 ≡ event exit choice under_query (or second ∷ [])
unfolding event_after
event_12 = refl

-- a call is its own door
pub own_door : way_within 0 (event call choice under_query []) ≡ record { event = event call choice under_query []; taken = 0; why = met }
unfolding way_within
own_door = refl

-- the second half's exit has its call one step back, and a limit of none is too small
pub second_door : way_within 1 (event exit truth under_second []) ≡ record { event = event call truth under_second []; taken = 1; why = met }
unfolding way_within
second_door = refl

pub no_step_allowed : way_within 0 (event exit truth under_second []) ≡ record { event = event exit truth under_second []; taken = 0; why = by allowed }
unfolding way_within
no_step_allowed = refl

-- the first half's fail goes back over its redo and exit to its own call, event 2
pub first_door : way_within 9 (event fail truth under_first []) ≡ record { event = event call truth under_first []; taken = 7; why = met }
unfolding way_within
first_door = refl

-- the second exit of choice, with its bet, goes back to event 1, past event 5, a call with as many ancestors
pub choice_door : way_within 11 (event exit choice under_query (or second ∷ [])) ≡ record { event = event call choice under_query []; taken = 11; why = met }
unfolding way_within
choice_door = refl

pub past_fail : way_within 7 (event exit choice under_query (or second ∷ []))
    ≡ record { event = event call failure (in_conj second choice failure ∷ []) (or first ∷ []); taken = 7; why = by allowed }
unfolding way_within
past_fail = refl

pub one_too_few : way_within 10 (event exit choice under_query (or second ∷ [])) ≡ record { event = event call truth under_first []; taken = 10; why = by allowed }
unfolding way_within
one_too_few = refl

-- a redo of true with empty stacks, which no walk reaches, has no source, and that is asked before the limit
pub no_source : way_within 0 (event redo truth [] []) ≡ record { event = event redo truth [] []; taken = 0; why = by matches }
unfolding way_within
no_source = refl
