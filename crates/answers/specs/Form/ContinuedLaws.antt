-- The exits at which answers are told in the walk of 'Q, fail' are those of the walk of Q itself, continued by redo: with the same bets, in the same order.
use Rattle.std.specs.Prelude.{◌≡◌, Bool, true, false, cond, eqb, length}
use Rattle.std.proofs.Math.Path.{refl, sym, ap, subst}
use Rattle.std.proofs.Common.{◌∙◌, suc-add, ne_eqb}
use mathlib.Core.List.{List, [], ◌∷◌, ◌++◌, append-nil}
use Rattle.std.proofs.Math.Option.{none}
use Rattle.std.proofs.Math.Nat.{zero-add}
use native.Mathlib.Omega.{arith}
use Prim.Native.Nat.{ℕ, zero, suc, ◌+◌, ◌≤◌, max}
use Rattle.std.proofs.Math.ListN.{length-append}
use Rattle.records.specs.Format.Syntax.{Terms, Goal, truth, failure, equal, conj, disj, atom, first, second, Ancestor, called, in_conj, in_disj, Bet, Port, call, exit, fail, redo, Event, event, Definition, goal?}
use Rattle.records.specs.Format.Encode.{each, ancestor_bytes, goal_bytes, bet_bytes, event_bytes, event_record}
use Rattle.records.specs.Gate.Question.{Question, possible, question_number}
use Rattle.records.specs.Gate.RecordRules.{goal_variables, ancestor_variables}
use Rattle.records.specs.Gate.Reply.{through}
use Rattle.records.specs.Gate.ReplyLaws.{gives_injective, number_injective, refused_not_gives}
use Rattle.records.specs.Ends.Above.{above}
use Rattle.records.specs.Writing.EmittedLaws.{length_record_of}
use Rattle.terms.specs.Body.Body.{next_variable, ancestors_variables, bets_variables, body}
use Rattle.terms.specs.Body.TopLaws.{above_append}
use Rattle.terms.specs.Values.NodeBytesLaws.{each_append}
use Rattle.stepper.specs.Rules.Machine.{Machine, StepOutcome, refused, gives}
use Rattle.stepper.specs.Rules.AnswerLaws.{Given, given_matching}
use Rattle.stepper.specs.Rules.ListedLaws.{rule_iff, forward_by_rule, forward_iff}
use Rattle.stepper.specs.Rules.RefusalLaws.{ends_refused, forward_refused_iff}
use Rattle.stepper.specs.Rules.Refusals.{AtEnd}
use Rattle.stepper.specs.Rules.Rules.{rule, ununifiable, limited_by, step_forward, first_event}
use Rattle.stepper.specs.Run.Run.{mark, meets}
use Rattle.stepper.specs.Walks.Legal.{CalledUnder, Legal}
use Rattle.stepper.specs.Walks.ReachedLaws.{Anything}
use Rattle.stepper.specs.Walks.OwnWalk.{event_on, machine_on}
use Rattle.stepper.specs.Walks.OwnWalkLaws.{step_on}
use Rattle.stepper.specs.Walks.Crossing.{call_entry, redo_entry, End}
use Rattle.stepper.specs.Walks.CrossingLaws.{end_under, entry_not_end}
use Rattle.stepper.specs.Walks.Inverse.{rule_good}
use Rattle.stepper.specs.Services.Desk.{layers}
use Rattle.stepper.specs.Services.ServiceLaws.{limit_fits, fits_limit}
use Rattle.stepper.specs.Services.Services.{record_limit, machine}
use Rattle.answers.specs.Form.Answers.{all_of, exit_bets, events, events_number}
use Rattle.answers.specs.Form.AnswersLaws.{exit_told, unmet_exit, number_none, number_refused, number_given}
use Rattle.answers.specs.Form.Continued.{step_or_redo, continued, own_bets, with_bets, own_exits, answer_exits}
use Rattle.answers.specs.Form.EndLaws.{record_limits, six_ends}

-- an event of another port is not aimed at
unmet_port : (n : ℕ) → cond (eqb n 1) false false ≡ false
unmet_port n = go (eqb n 1)
  where
    go : (b : Bool) → cond b false false ≡ false
    go true = refl
    go false = refl

-- the variables of a query stand in every event inside it
module _ (M : Machine) (q : Goal) (Seen : Event → Type 0) where
  query_below : (u : List Ancestor) (g : Goal) (s : List Bet) → CalledUnder M q Seen u g s
      → above (goal_variables q) ≤ max (above (goal_variables g)) (above (ancestors_variables u))
  query_below [] g s (e, _) = rw e (omega arith)
  query_below (in_conj first a b ∷ u) g s (_, c, _) = rw above_append (let h = query_below u (conj a b) s c in omega arith)
  query_below (in_conj second a b ∷ u) g s (_, (r, c, _, _, _, _)) = rw above_append (let h = query_below u (conj a b) r c in omega arith)
  query_below (in_disj n a b ∷ u) g s (_, c, _) = rw above_append (let h = query_below u (disj a b) s c in omega arith)
  query_below (called p ts ∷ u) g s (_, c, _) = rw above_append (let h = query_below u (atom p ts) s c in omega arith)

module _ (ds : List Definition) (q : Goal) where
  abbrev M : Machine
  M = machine layers ds

  -- the ancestor that Q has in the walk of 'Q, fail', and the one that fail has
  abbrev under : List Ancestor
  under = in_conj first q failure ∷ []

  abbrev beside : List Ancestor
  beside = in_conj second q failure ∷ []

  abbrev own : Machine
  own = machine_on under [] M

  -- it holds the variables of Q and no others, so bodies are numbered alike with it and without it
  same_next : (g : Goal) (v : List Ancestor) (t : List Bet) → above (goal_variables q) ≤ max (above (goal_variables g)) (above (ancestors_variables v))
      → next_variable g (v ++ under) t ≡ next_variable g v t
  unfolding next_variable
  same_next g v t h =
      let a = above_append (goal_variables g) (ancestors_variables (v ++ under) ++ bets_variables t) in
      let b = above_append (ancestors_variables (v ++ under)) (bets_variables t) in
      let c = ap above (each_append ancestor_variables v under) ∙ above_append (ancestors_variables v) (ancestors_variables under) in
      let d : above (ancestors_variables under) ≡ above (goal_variables q) = rw (append-nil, append-nil) refl in
      let e = above_append (goal_variables g) (ancestors_variables v ++ bets_variables t) in
      let f = above_append (ancestors_variables v) (bets_variables t) in
      omega arith

  same_body : (p : ℕ) (ts : Terms) (v : List Ancestor) (t : List Bet) → above (goal_variables q) ≤ max (above (goal_variables (atom p ts))) (above (ancestors_variables v))
      → own.body p ts v t ≡ M.body p ts v t
  unfolding body
  same_body p ts v t h = rw (append-nil t, same_next (atom p ts) v t h) refl

  same_rule : (d : Event) → Legal own q Anything d → rule own d ≡ rule M d
  unfolding rule
  same_rule (event call truth v t) l = refl
  same_rule (event call failure v t) l = refl
  same_rule (event call (equal a b) v t) l = rw (append-nil t) refl
  same_rule (event call (conj a b) v t) l = refl
  same_rule (event call (disj a b) v t) l = refl
  same_rule (event call (atom p ts) v t) l = rw (same_body p ts v t (query_below own q Anything v (atom p ts) t l)) refl
  same_rule (event exit g v t) l = refl
  same_rule (event fail g v t) l = refl
  same_rule (event redo g v t) l = refl

  same_unifiable : (d : Event) → ununifiable own d ≡ ununifiable M d
  unfolding ununifiable
  same_unifiable (event call truth v t) = refl
  same_unifiable (event call failure v t) = refl
  same_unifiable (event call (equal a b) v t) = rw (append-nil t) refl
  same_unifiable (event call (conj a b) v t) = refl
  same_unifiable (event call (disj a b) v t) = refl
  same_unifiable (event call (atom p ts) v t) = refl
  same_unifiable (event exit g v t) = refl
  same_unifiable (event fail g v t) = refl
  same_unifiable (event redo g v t) = refl

  -- and an event without it is shorter
  size : (p : Port) (g : Goal) (u : List Ancestor) (s : List Bet) → length (event_record (event p g u s)) ≡ 8 + length (goal_bytes g) + length (each ancestor_bytes u) + length (each bet_bytes s)
  size p g u s = length_record_of (event_bytes (event p g u s)) ∙ simp length-append (omega arith)

  shorter : (d : Event) → record_limit (event_on under [] d) ≡ none → record_limit d ≡ none
  shorter (event p g v t) h =
      let long = limit_fits (event p g (v ++ under) (t ++ [])) h in
      let more = ap length (each_append ancestor_bytes v under) ∙ length-append (each ancestor_bytes v) (each ancestor_bytes under) in
      let same = ap (λ s. length (each bet_bytes s)) (append-nil t) in
      fits_limit (event p g v t) (omega (arith, size p g (v ++ under) (t ++ []), size p g v t))

  -- so a step of Q's own walk under it is one of Q's walk
  same_step : (d c : Event) → Legal own q Anything d → step_forward own d ≡ gives c → step_forward M d ≡ gives c
  same_step d c l h =
      let (r, admits) = (forward_iff own d c).0 h in
      let gave : rule M d ≡ gives c = sym (same_rule d l) ∙ (rule_iff own d c).1 r in
      (forward_iff M d c).1 ((rule_iff M d c).0 gave, λ k. shorter c (admits (same_unifiable d ∙ k)))

  -- an event of the walk of 'Q, fail' beside one of the walk of Q that is continued by redo
  data Beside : Event → Event → Type 0 where
    inside : (d : Event) → Legal own q Anything d → Beside (event_on under [] d) d
    fail_called : (s : List Bet) → Legal own q Anything (event exit q [] s) → Beside (event call failure beside (s ++ [])) (event exit q [] s)
    fail_failed : (s : List Bet) → Legal own q Anything (event exit q [] s) → Beside (event fail failure beside (s ++ [])) (event exit q [] s)
    over : (s : List Bet) → Beside (event fail (all_of q) [] (s ++ [])) (event fail q [] s)

  -- where the one tells an answer the other is at an exit
  same_exit : (c : Event) → Legal own q Anything c → exit_bets q (event_on under [] c) ≡ own_bets c
  unfolding meets mark
  same_exit (event call g v t) l = unmet_exit q (event call g (v ++ under) (t ++ [])) (unmet_port (length (v ++ under)))
  same_exit (event exit g [] t) (r, (k, _), _, _) = rw (append-nil t, k) (exit_told q t)
  same_exit (event exit g (a ∷ v) t) l =
      unmet_exit q (event exit g (a ∷ (v ++ under)) (t ++ [])) (rw (ne_eqb (suc (length (v ++ under))) 1 (λ e. omega (arith, length-append v under))) refl)
  same_exit (event fail g v t) l = unmet_exit q (event fail g (v ++ under) (t ++ [])) (unmet_port (length (v ++ under)))
  same_exit (event redo g v t) l = unmet_exit q (event redo g (v ++ under) (t ++ [])) (unmet_port (length (v ++ under)))

  -- the steps between two of Q's
  after_exit : (s : List Bet) (e : Event) → step_forward M (event exit q under s) ≡ gives e → e ≡ event call failure beside s
  unfolding rule
  after_exit s e h =
      subst (Given (λ c. c ≡ event call failure beside s)) (forward_by_rule M (event exit q under s) e h)
      (given_matching (λ c. c ≡ event call failure beside s) (goal? q q) (event call failure beside s) (λ k. refl))

  after_fail : (s : List Bet) (e : Event) → step_forward M (event fail q under s) ≡ gives e → e ≡ event fail (all_of q) [] s
  unfolding rule
  after_fail s e h =
      subst (Given (λ c. c ≡ event fail (all_of q) [] s)) (forward_by_rule M (event fail q under s) e h)
      (given_matching (λ c. c ≡ event fail (all_of q) [] s) (goal? q q) (event fail (all_of q) [] s) (λ k. refl))

  after_called : (s : List Bet) (e : Event) → step_forward M (event call failure beside s) ≡ gives e → e ≡ event fail failure beside s
  unfolding rule
  after_called s e h = sym (gives_injective (forward_by_rule M (event call failure beside s) e h))

  after_failed : (s : List Bet) (e : Event) → step_forward M (event fail failure beside s) ≡ gives e → e ≡ event redo q under s
  unfolding rule
  after_failed s e h =
      subst (Given (λ c. c ≡ event redo q under s)) (forward_by_rule M (event fail failure beside s) e h)
      (given_matching (λ c. c ≡ event redo q under s) (goal? failure failure) (event redo q under s) (λ k. refl))

  -- The exits within n steps from e have the same bets as those within some number of steps of the continued walk from d; and where question 6 stops the
  -- one, the other has no more of them, however far it goes on.
  abbrev pub SameExits : ℕ → Event → Event → Type 0
  SameExits n e d = (m : ℕ) × (answer_exits q (events M n e) ≡ own_exits (continued M m d))
      × (events_number M n e ≡ question_number possible → (k : ℕ) → own_exits (continued M (m + k) d) ≡ own_exits (continued M m d))

  -- one walk goes on alone, at no answer; or both do
  goes_alone : (n : ℕ) (e f d : Event) → step_forward M e ≡ gives f → exit_bets q f ≡ none → SameExits n f d → SameExits (suc n) e d
  unfolding events through
  goes_alone n e f d h k (m, w, z) = (m, rw (h, k) w, λ i. z (sym (number_given M q n e f h) ∙ i))

  go_both : (n : ℕ) (e f d c : Event) → step_forward M e ≡ gives f → step_or_redo M d ≡ gives c → exit_bets q f ≡ own_bets c → SameExits n f c → SameExits (suc n) e d
  unfolding events continued through
  go_both n e f d c h i k (m, w, z) = (suc m, rw (h, i, k) (ap (with_bets (own_bets c)) w), λ j l. rw (suc-add, i) (ap (with_bets (own_bets c)) (z (sym (number_given M q n e f h) ∙ j) l)))

  module _ (n : ℕ) (later : (e d : Event) → Beside e d → SameExits n e d) where
    -- at an exit of Q the walk of 'Q, fail' goes on to fail
    from_exit : (s : List Bet) (f : Event) → Legal own q Anything (event exit q [] s) → step_forward M (event exit q under (s ++ [])) ≡ gives f
        → SameExits (suc n) (event exit q under (s ++ [])) (event exit q [] s)
    unfolding meets mark
    from_exit s f l h =
        let e = after_exit (s ++ []) f h in
        goes_alone n _ f _ h (ap (exit_bets q) e ∙ unmet_exit q (event call failure beside (s ++ [])) refl)
        (later f _ (subst (λ f. Beside f (event exit q [] s)) (sym e) (fail_called s l)))

    from_fail : (s : List Bet) (f : Event) → step_forward M (event fail q under (s ++ [])) ≡ gives f
        → SameExits (suc n) (event fail q under (s ++ [])) (event fail q [] s)
    unfolding meets mark
    from_fail s f h =
        let e = after_fail (s ++ []) f h in
        goes_alone n _ f _ h (ap (exit_bets q) e ∙ unmet_exit q (event fail (all_of q) [] (s ++ [])) refl)
        (later f _ (subst (λ f. Beside f (event fail q [] s)) (sym e) (over s)))

    -- inside Q both make the same step
    both_inside : (d f : Event) → Legal own q Anything d → (End q [] d → ⊥) → step_or_redo M d ≡ step_forward M d → step_forward M (event_on under [] d) ≡ gives f
        → SameExits (suc n) (event_on under [] d) d
    both_inside d f l o same h =
        let (c, k, e) = step_on M q under [] d f l o h in
        let legal = (rule_good own q Anything d c l tt (forward_by_rule own d c k)).0 in
        go_both n (event_on under [] d) f d c h (same ∙ same_step d c l k) (ap (exit_bets q) (sym e) ∙ same_exit c legal)
        (later f c (subst (λ f. Beside f c) e (inside c legal)))

    not_under : (p : Port) (g : Goal) (a : Ancestor) (v : List Ancestor) (t : List Bet) → End q [] (event p g (a ∷ v) t) → ⊥
    not_under p g a v t z = let l = ap length (end_under z) in omega arith

    from_inside : (d f : Event) → Legal own q Anything d → step_forward M (event_on under [] d) ≡ gives f → SameExits (suc n) (event_on under [] d) d
    unfolding step_or_redo
    from_inside (event call g v t) f l h = both_inside (event call g v t) f l (entry_not_end call_entry) refl h
    from_inside (event redo g v t) f l h = both_inside (event redo g v t) f l (entry_not_end redo_entry) refl h
    from_inside (event exit g (a ∷ v) t) f l h = both_inside (event exit g (a ∷ v) t) f l (not_under exit g a v t) refl h
    from_inside (event fail g (a ∷ v) t) f l h = both_inside (event fail g (a ∷ v) t) f l (not_under fail g a v t) refl h
    from_inside (event exit g [] t) f l h =
        subst (λ x. Legal own q Anything (event exit x [] t) → step_forward M (event exit x under (t ++ [])) ≡ gives f → SameExits (suc n) (event exit x under (t ++ [])) (event exit x [] t))
        (sym l.1.0) (from_exit t f) l h
    from_inside (event fail g [] t) f l h =
        subst (λ x. step_forward M (event fail x under (t ++ [])) ≡ gives f → SameExits (suc n) (event fail x under (t ++ [])) (event fail x [] t))
        (sym l.0.0) (from_fail t f) h

    -- and behind fail the one is at redo of Q, as the other
    next_beside : {e d : Event} (f : Event) → Beside e d → step_forward M e ≡ gives f → SameExits (suc n) e d
    unfolding step_or_redo meets mark
    next_beside f (inside d l) h = from_inside d f l h
    next_beside f (fail_called s l) h =
        let x = after_called (s ++ []) f h in
        goes_alone n _ f _ h (ap (exit_bets q) x ∙ unmet_exit q (event fail failure beside (s ++ [])) refl)
        (later f _ (subst (λ f. Beside f (event exit q [] s)) (sym x) (fail_failed s l)))
    next_beside f (fail_failed s l) h =
        let x = after_failed (s ++ []) f h in
        let legal : Legal own q Anything (event redo q [] s) = (l.0, l.1, l.2, l.3, tt) in
        go_both n _ f _ (event redo q [] s) h refl (ap (exit_bets q) x ∙ unmet_exit q (event redo q under (s ++ [])) refl)
        (later f _ (subst (λ f. Beside f (event redo q [] s)) (sym x) (inside (event redo q [] s) legal)))
    next_beside f (over s) h = absurd (refused_not_gives (sym (ends_refused M (event fail (all_of q) [] (s ++ [])) tt) ∙ forward_by_rule M (event fail (all_of q) [] (s ++ [])) f h))

  -- an event with Q's ancestor below its own is no end of the walk
  not_end : (p : Port) (g : Goal) (v : List Ancestor) (s : List Bet) → AtEnd (event p g (v ++ under) s) → ⊥
  not_end call g v s w = w
  not_end exit g [] s w = w
  not_end exit g (a ∷ v) s w = w
  not_end fail g [] s w = w
  not_end fail g (a ∷ v) s w = w
  not_end redo g v s w = w

  fail_refused : (s : List Bet) → step_or_redo M (event fail q [] s) ≡ refused possible
  unfolding step_or_redo step_forward limited_by
  fail_refused s = rw (ends_refused M (event fail q [] s) tt)

  goes_no_further : (d : Event) (p : Question) → step_or_redo M d ≡ refused p → (k : ℕ) → continued M k d ≡ []
  unfolding continued through
  goes_no_further d p h zero = refl
  goes_no_further d p h (suc k) = rw h refl

  -- where question 6 stops the walk of 'Q, fail', the walk of Q stands at its fail and goes no further
  ended_exits : {e d : Event} → Beside e d → AtEnd e → (k : ℕ) → own_exits (continued M k d) ≡ []
  ended_exits (inside (event p g v t) l) w k = absurd (not_end p g v (t ++ []) w)
  ended_exits (fail_called s l) w k = absurd w
  ended_exits (fail_failed s l) w k = absurd w
  ended_exits (over s) w k = ap own_exits (goes_no_further (event fail q [] s) possible (fail_refused s) k)

  six_at_end : (n : ℕ) (e : Event) (k : Question) → step_forward M e ≡ refused k → events_number M (suc n) e ≡ question_number possible → AtEnd e
  six_at_end n e k h i =
      let same : k ≡ possible = number_injective k possible (sym (number_refused M q n e k h) ∙ i) in
      six_ends M record_limits e k ((forward_refused_iff M e k).0 h) same

  not_six : (e : Event) → events_number M zero e ≡ question_number possible → ⊥
  unfolding question_number
  not_six e i = omega (arith, sym (number_none M q e) ∙ i)

  beside_exits : (n : ℕ) (e d : Event) → Beside e d → SameExits n e d
  unfolding events continued through
  beside_exits zero e d b = (0, refl, λ i. absurd (not_six e i))
  beside_exits (suc n) e d b = go (step_forward M e) refl (beside_exits n)
    where
      go : (a : StepOutcome) → step_forward M e ≡ a → ((e d : Event) → Beside e d → SameExits n e d) → SameExits (suc n) e d
      go (refused k) h later = (0, rw h refl, λ i l. rw zero-add (ended_exits b (six_at_end n e k h i) l))
      go (gives f) h later = next_beside n later f b h

  -- The answers of Q are told at the exits of Q's own walk, continued by redo: with the same bets, in the same order.
  pub same_exits : (n : ℕ) → SameExits n (first_event (all_of q)) (first_event q)
  unfolding events continued through first_event rule meets mark
  same_exits zero = (0, refl, λ i. absurd (not_six _ i))
  same_exits (suc n) = go (step_forward M (first_event (all_of q))) refl
    where
      go : (a : StepOutcome) → step_forward M (first_event (all_of q)) ≡ a → SameExits (suc n) (first_event (all_of q)) (first_event q)
      go (refused k) h = (0, rw h refl, λ i. absurd (six_at_end n _ k h i))
      go (gives f) h =
          let x : f ≡ event call q under [] = sym (gives_injective (forward_by_rule M (first_event (all_of q)) f h)) in
          goes_alone n (first_event (all_of q)) f (first_event q) h (ap (exit_bets q) x ∙ unmet_exit q (event call q under []) refl)
          (beside_exits n f _ (subst (λ f. Beside f (event call q [] [])) (sym x) (inside (event call q [] []) (refl, refl))))
