-- Laws of one answer: its variables are the query's, all of them, and the value of each is the one that the value service gives at the answer's exit.
use Rattle.std.specs.Prelude.{◌≡◌, refl, List, [], ◌∷◌, Bool, true, false, cond, ℕ, ◌≤◌, eqb, ltb}
use Rattle.std.proofs.Math.Path.{ap}
use Rattle.std.proofs.Common.{inl, inr, eqb-true}
use Rattle.std.proofs.Math.Option.{Option, none, some}
use Rattle.records.specs.Format.Never.{never}
use Rattle.records.specs.Format.Syntax.{Term, Goal, Binding, bind, Bet, Event}
use Rattle.records.specs.Format.Formed.{All}
use Rattle.records.specs.Gate.Door.{event_door}
use Rattle.records.specs.Gate.DoorLaws.{room_enough}
use Rattle.records.specs.Gate.Gate.{tree, read_event}
use Rattle.records.specs.Gate.RecordRules.{bound, goal_variables}
use Rattle.records.specs.Gate.Reply.{refused, gives, through}
use Rattle.terms.specs.Theory.Outcome.{value}
use Rattle.terms.specs.Theory.Variables.{Among}
use Rattle.terms.specs.Values.ValueService.{bets_of, value_into, value_answer}
use Rattle.answers.specs.Form.Answer.{rising_with, rising_once, query_variables, paired, values_of, used_of, QuerySolution, all_within, solution_for, solution}

-- the value of a pair's variable under the bets is its term
abbrev ValueOf : List Bet → Binding → Type 0
ValueOf s (bind v t) = value s v ≡ some t

-- the value service, lent the record r and so much room, gives a pair's variable its term
abbrev pub ValueServed : List ℕ → ℕ → Binding → Type 0
ValueServed r room (bind v t) = value_answer (read_event r) room v ≡ gives t

values_told : (s : List Bet) (vs : List ℕ) (l : List Binding) → values_of s vs ≡ some l → (bound l ≡ vs) × All (ValueOf s) l
unfolding values_of
values_told s [] l h = let e : [] ≡ l = cc in rw (← e) (refl, tt)
values_told s (v ∷ vs) l h = go (value s v) refl (values_of s vs) (values_told s vs) h
  where
    go : (o : Option Term) → value s v ≡ o → (r : Option (List Binding)) → ((m : List Binding) → r ≡ some m → (bound m ≡ vs) × All (ValueOf s) m)
        → paired v o r ≡ some l → (bound l ≡ v ∷ vs) × All (ValueOf s) l
    go none e r f k = never cc
    go (some t) e none f k = never cc
    go (some t) e (some m) f k =
        let (x, y) = f m refl in
        let same : bind v t ∷ m ≡ l = cc in
        rw (← same) (ap (v ∷◌) x, (e, y))

module _ (q : Goal) (s : List Bet) (x : QuerySolution) (h : solution q s ≡ gives x) where
  -- an answer has the values of the query's variables under the bets, all within the limit, and what was used among the bets;
  pub solution_given : (values_of s (query_variables q) ≡ some x.values) × (used_of s ≡ x.used)
  unfolding solution_for through
  solution_given = go (values_of s (query_variables q)) h
    where
      go : (o : Option (List Binding)) → through refused (all_within o) (λ l. gives (record { values = l; used = used_of s })) ≡ gives x
          → (o ≡ some x.values) × (used_of s ≡ x.used)
      go none k = never cc
      go (some l) k = let e : record { values = l; used = used_of s } ≡ x = cc in (ap (λ x. some x.values) e, ap (λ x. x.used) e)

  -- so its variables are the query's, rising;
  pub solution_variables : bound x.values ≡ query_variables q
  solution_variables = (values_told s (query_variables q) x.values solution_given.0).0

  -- each has the value that the value service gives at an event with these bets
  pub solution_values : (r : List ℕ) (e : Event) → read_event r ≡ tree e → bets_of e ≡ s → (room : ℕ) → 32768 ≤ room → All (ValueServed r room) x.values
  unfolding value_answer through event_door value_into
  solution_values r e i j room n = go x.values (values_told s (query_variables q) x.values solution_given.0).1
    where
      one : (b : Binding) → ValueOf s b → ValueServed r room b
      one (bind v t) k = rw (i, j, k) (room_enough _ n)

      go : (l : List Binding) → All (ValueOf s) l → All (ValueServed r room) l
      go [] k = tt
      go (b ∷ l) k = (one b k.0, go l k.1)

-- what is put into a rising list stands in it, and what stood there still does
once_with : (v : ℕ) (l : List ℕ) → Among v (rising_with v l)
once_with v [] = inl refl
once_with v (w ∷ l) = go (ltb v w) (eqb v w) refl (once_with v l)
  where
    go : (a b : Bool) → eqb v w ≡ b → Among v (rising_with v l) → Among v (cond a (v ∷ (w ∷ l)) (cond b (w ∷ l) (w ∷ rising_with v l)))
    go true b e h = inl refl
    go false true e h = inl (eqb-true v w e)
    go false false e h = inr h

with_others : (x v : ℕ) (l : List ℕ) → Among x l → Among x (rising_with v l)
with_others x v [] h = absurd h
with_others x v (w ∷ l) h = go (ltb v w) (eqb v w) h (with_others x v l)
  where
    go : (a b : Bool) → Among x (w ∷ l) → (Among x l → Among x (rising_with v l)) → Among x (cond a (v ∷ (w ∷ l)) (cond b (w ∷ l) (w ∷ rising_with v l)))
    go true b k f = inr k
    go false true k f = k
    go false false (inl e) f = inl e
    go false false (inr k) f = inr (f k)

among_once : (v : ℕ) (l : List ℕ) → Among v l → Among v (rising_once l)
among_once v [] h = absurd h
among_once v (w ∷ l) (inl e) = rw e (once_with w (rising_once l))
among_once v (w ∷ l) (inr h) = with_others v w (rising_once l) (among_once v l h)

-- Every variable of a query is among those of its answers.
pub variable_listed : (q : Goal) (v : ℕ) → Among v (goal_variables q) → Among v (query_variables q)
unfolding query_variables
variable_listed q v h = among_once v (goal_variables q) h
