-- A list of answers that is told at the exits of the walk of 'Q, fail' is right; and where that walk comes to its fail within the steps, it is whole. On
-- events, for every machine.
use Rattle.std.specs.Prelude.{◌≡◌}
use Rattle.std.proofs.Math.Path.{refl, ap, subst}
use Rattle.std.proofs.Common.{sym, ◌∙◌, inl, inr}
use Rattle.std.proofs.Math.Logic.{if_pos, if_neg}
use mathlib.Core.List.{List, [], ◌∷◌, ◌++◌, append-nil}
use Rattle.std.proofs.Math.Option.{some-injective}
use Rattle.std.proofs.Math.Decide.{ℕ_discrete}
use native.Mathlib.Omega.{arith}
use Prim.Native.Nat.{ℕ, zero, suc, ◌+◌, ◌<◌}
use Rattle.records.specs.Format.Formed.{All}
use Rattle.records.specs.Format.Never.{never}
use Rattle.records.specs.Format.Syntax.{Goal, failure, first, in_conj, Bet, fail, event, Definition}
use Rattle.records.specs.Gate.RecordRules.{goal_variables}
use Rattle.records.specs.Gate.Reply.{gives}
use Rattle.records.specs.Gate.ReplyLaws.{gives_injective}
use Rattle.terms.specs.Theory.Substitution.{Substitution, substitute, as_substitution, apply}
use Rattle.terms.specs.Values.Entries.{under}
use Rattle.terms.specs.Theory.Variables.{Among}
use Rattle.terms.specs.Theory.VariablesLaws.{among_left}
use Rattle.terms.specs.Body.Body.{substitute_goal}
use Rattle.terms.specs.Body.GoalLaws.{substitute_goal_agree}
use Rattle.stepper.specs.Rules.Machine.{Machine}
use Rattle.stepper.specs.Rules.Rules.{candidate, first_event}
use Rattle.stepper.specs.Walks.Walk.{Reach}
use Rattle.stepper.specs.Walks.Reached.{Reached}
use Rattle.stepper.specs.Walks.PlaceLaws.{reached_from}
use Rattle.answers.specs.Form.Answer.{query_variables, QuerySolution, solution}
use Rattle.answers.specs.Form.AnswerLaws.{solution_given, variable_listed}
use Rattle.answers.specs.Writing.Values.{value_pairs}
use Rattle.answers.specs.Writing.ValuesLaws.{all_within_limit}
use Rattle.answers.specs.Form.Answers.{all_of, exit_of, events, Written}
use Rattle.answers.specs.Form.Told.{ToldAt, ToldAnswers}
use Rattle.answers.specs.Form.EndLaws.{failed}
use Rattle.meaning.specs.Says.Any.{Any, Belongs}
use Rattle.meaning.specs.Says.Holds.{DefinitionBody, Holds}
use Rattle.meaning.specs.Says.HoldsLaws.{holds_same}
use Rattle.meaning.specs.Solutions.Faithful.{Faithful, New}
use Rattle.meaning.specs.Solutions.General.{AsGeneral}
use Rattle.meaning.specs.Solutions.RightLaws.{reached_right}
use Rattle.meaning.proofs.WholeLaws.{reached_whole}
use Rattle.meaning.specs.Answers.Reading.{RightAnswer, WholeList}
use Rattle.meaning.specs.Answers.ExitLaws.{ExitReached, exits_reached, reached_in}

-- values as pairs, read as a substitution, are what the bets make of their variables
pairs_under : (s : List Bet) (vs : List ℕ) (v : ℕ) → Among v vs → as_substitution (value_pairs s vs) v ≡ under s v
pairs_under s [] v h = absurd h
pairs_under s (w ∷ vs) v h = go (ℕ_discrete v w) h (pairs_under s vs v)
  where
    go : Dec (v ≡ w) → Among v (w ∷ vs) → (Among v vs → as_substitution (value_pairs s vs) v ≡ under s v) → as_substitution (value_pairs s (w ∷ vs)) v ≡ under s v
    go (yes e) k f = if_pos (ℕ_discrete v w) e (under s w) (as_substitution (value_pairs s vs) v) ∙ ap (under s) (sym e)
    go (no d) (inl e) f = absurd (d e)
    go (no d) (inr k) f = if_neg (ℕ_discrete v w) d (under s w) (as_substitution (value_pairs s vs) v) ∙ f k

module _ (q : Goal) (s : List Bet) (x : QuerySolution) (h : solution q s ≡ gives x) where
  -- an answer has the values of its query's variables,
  pub values_are : x.values ≡ value_pairs s (query_variables q)
  values_are =
      let e = (solution_given q s x h).0 in
      some-injective _ _ (sym e ∙ all_within_limit s (query_variables q) x.values e)

  -- which at the variables of the query are what the bets make of them
  values_under : (v : ℕ) → Among v (goal_variables q) → as_substitution x.values v ≡ under s v
  values_under v o = ap (λ l. as_substitution l v) values_are ∙ pairs_under s (query_variables q) v (variable_listed q v o)

-- the members of a front
all_front : {A : Type 0} (Φ : A → Type 0) (xs ys : List A) → All Φ (xs ++ ys) → All Φ xs
all_front Φ [] ys h = tt
all_front Φ (x ∷ xs) ys (a, h) = (a, all_front Φ xs ys h)

-- what holds of the answer at each exit that the walk comes to holds of all that are told at such exits
pub told_all : (M : Machine) (q : Goal) (Φ : QuerySolution → Type 0)
    → ((s : List Bet) (x : QuerySolution) → solution q s ≡ gives x → ExitReached M q (all_of q) s → Φ x)
    → (ss : List (List Bet)) (xs : List QuerySolution) → ToldAt q ss xs → All (ExitReached M q (all_of q)) ss → All Φ xs
told_all M q Φ f [] [] t a = tt
told_all M q Φ f [] (x ∷ xs) t a = absurd t
told_all M q Φ f (s ∷ ss) [] t a = absurd t
told_all M q Φ f (s ∷ ss) (x ∷ xs) (h, t) (r, a) = (f s x h r, told_all M q Φ f ss xs t a)

-- where one of the exits is general enough, so is the answer that is told at it
exit_general : (q : Goal) (θ : Substitution) (ss : List (List Bet)) (xs : List QuerySolution) → ToldAt q ss xs → (s : List Bet) → Belongs s ss
    → AsGeneral (goal_variables q) θ (under s) → Any (λ x. AsGeneral (goal_variables q) θ (as_substitution x.values)) xs
exit_general q θ [] xs t s i g = absurd i
exit_general q θ (r ∷ ss) [] t s i g = absurd t
exit_general q θ (r ∷ ss) (x ∷ xs) (h, t) s (inl e) (ε, agrees) =
    inl (ε, λ v o. agrees v o ∙ ap (substitute ε) (ap (λ b. under b v) e ∙ sym (values_under q r x h v o)))
exit_general q θ (r ∷ ss) (x ∷ xs) (h, t) s (inr i) g = inr (exit_general q θ ss xs t s i g)

module _ (P : List Definition) (M : Machine) (q : Goal) where
  exit_right : Faithful P M → (s : List Bet) (x : QuerySolution) → solution q s ≡ gives x → ExitReached M q (all_of q) s → RightAnswer (Holds P) q x
  exit_right f s x h (j, r) ρ =
      holds_same (DefinitionBody P) _ _ (substitute_goal_agree _ _ q (λ v o. ap (substitute ρ) (sym (values_under q s x h v o))))
      (reached_right P M f (all_of q) j q _ s r ρ)

  -- where the walk of 'Q, fail' has come to its fail, every substitution under which Q holds goes through an exit of Q before it
  failed_general : (f : Faithful P M) → New P M f → (k : ℕ) → Reached M (all_of q) k (failed q) → (θ : Substitution) → Holds P (substitute_goal θ q)
      → (s : List Bet) × (j : ℕ) × (0 < j) × (j < k) × Reached M (all_of q) j (exit_of q s) × AsGeneral (goal_variables q) θ (under s)
  unfolding Reach first_event candidate apply
  failed_general f new zero h θ x = never cc
  failed_general f new (suc k) h θ x =
      let (d, r, z) = reached_from M (all_of q) k (failed q) h in
      let there : Reached M (all_of q) k (event fail q (in_conj first q failure ∷ []) []) = subst (Reached M (all_of q) k) (sym (gives_injective z)) r in
      let (i, l, c, whole) = reached_whole P M f new (all_of q) k q (in_conj first q failure ∷ []) [] there in
      let t = whole θ x in
      let after = t.after in
      let between = t.between in
      let before = t.before in
      let (ε, agrees) = t.general in
      (t.bets, t.exit_place, omega arith, omega arith, t.exits, (ε, λ v o. agrees v (among_left v (goal_variables q) _ o)))

  module _ (n : ℕ) (w : Written) (t : ToldAnswers q (events M n (first_event (all_of q))) w) where
    pub told_exits : All (ExitReached M q (all_of q)) t.exits
    unfolding Reach
    told_exits = all_front (ExitReached M q (all_of q)) t.exits t.later (rw t.exits_are at (exits_reached M q (all_of q) n 0 (first_event (all_of q)) refl))

    pub told_right : Faithful P M → All (RightAnswer (Holds P) q) t.found
    told_right f = told_all M q (RightAnswer (Holds P) q) (exit_right f) t.exits t.found t.told told_exits

    pub told_whole : (f : Faithful P M) → New P M f → w.number ≡ 6 → (k : ℕ) → k < n → Reached M (all_of q) k (failed q) → WholeList (Holds P) q t.found
    unfolding Reach
    told_whole f new six k l h θ x =
        let (s, j, later, before, exits, general) = failed_general f new k h θ x in
        let all : t.exits ++ t.later ≡ t.exits = ap (λ r. t.exits ++ r) (t.all_told (λ e. omega (arith, e, six)) (λ e. omega (arith, e, six))) ∙ append-nil t.exits in
        let here = reached_in M q (all_of q) n 0 (first_event (all_of q)) refl j later (omega arith) s exits in
        exit_general q θ t.exits t.found t.told s (subst (Belongs s) (t.exits_are ∙ all) here) general
