-- Whole: between the call of a goal and its fail, every substitution under which the goal holds goes through one of its exits.
-- The walk is read back from the fail, by induction on its place: the event in front of it is the source that the rules name (`reached_from`). An exit
-- is found with the redo that it comes to, since from that the walk is read back further: to the fail of what was called behind the exit.
-- That locals are new is used in one place, `body_covers`.
use Rattle.std.specs.Prelude.{◌≡◌, ◌⊎◌}
use Rattle.std.proofs.Math.Path.{refl, sym, ap, subst}
use Rattle.std.proofs.Common.{◌∙◌, arith}
use Rattle.std.proofs.Math.Logic.{inl, inr}
use mathlib.Core.List.{List, [], ◌∷◌, ◌++◌}
use Rattle.std.proofs.Math.Option.{some, none-ne-some}
use Prim.Native.Nat.{ℕ, zero, suc, ◌+◌, ◌<◌, ◌≤◌}
use Rattle.records.specs.Format.Never.{never}
use Rattle.records.specs.Format.Syntax.{Term, var, Terms, Goal, truth, failure, equal, conj, disj, atom, Half, first, second, Ancestor, called, in_conj, in_disj, Bet, unifier, or, by, call, exit, fail, redo, event, goal?, Definition, definition, arity}
use Rattle.records.specs.Gate.RecordRules.{goal_variables, terms_variables, ancestor_variables}
use Rattle.records.specs.Gate.ReplyLaws.{gives_injective}
use Rattle.terms.specs.Theory.Substitution.{Substitution, substitute, substitute_all, and_then, as_substitution, apply}
use Rattle.terms.specs.Values.Entries.{under}
use Rattle.terms.specs.Theory.SubstitutionLaws.{substitute_twice, substitute_agree, substitute_all_agree, arity_substitute}
use Rattle.terms.specs.Theory.Variables.{Among}
use Rattle.terms.specs.Theory.VariablesLaws.{among_left, among_right, among_either, occurs_in_among}
use Rattle.terms.specs.Theory.Outcome.{Unified, too_large, clash, unified, Meant}
use Rattle.terms.specs.Body.Body.{ancestors_variables, bet_variables, bets_variables, event_variables, numbered, substitute_goal, definition_of, Body, too_many, undefined, defined}
use Rattle.terms.specs.Body.BodyLaws.{MadeFrom}
use Rattle.terms.specs.Body.BetVariablesLaws.{Below}
use Rattle.terms.specs.Body.GoalLaws.{substitute_goal_agree}
use Rattle.stepper.specs.Rules.Machine.{Machine, gives}
use Rattle.stepper.specs.Rules.Rules.{selected, rule, candidate, first_event}
use Rattle.stepper.specs.Rules.AnswerLaws.{matching_yes}
use Rattle.stepper.specs.Rules.ListedLaws.{forward_by_rule}
use Rattle.stepper.specs.Walks.Walk.{Reach}
use Rattle.stepper.specs.Walks.Reached.{Reached, Before}
use Rattle.stepper.specs.Walks.ReachedLaws.{fail_has_call}
use Rattle.stepper.specs.Walks.PlaceLaws.{reached_from, one_place, goes_on}
use Rattle.meaning.specs.Says.Holds.{with_terms, DefinitionBody, Holds}
use Rattle.meaning.specs.Says.HoldsLaws.{numbered_then, with_terms_agree, made_of, holds_same}
use Rattle.meaning.specs.Solutions.Faithful.{NewFrom, Faithful, New}
use Rattle.meaning.specs.Solutions.General.{AsGeneral}
use Rattle.meaning.specs.Solutions.ExtendedLaws.{extended, extended_old, extended_new}
use Rattle.meaning.specs.Solutions.InwardLaws.{Inner, inner}
use Rattle.meaning.specs.Solutions.RightLaws.{under_or, under_by, apply_unifier, applied_then}

-- what stands in an event stands in the events below it, under bets that keep their variables
deeper : (v : ℕ) (g u s h x : List ℕ) → (Among v s → Among v x) → Among v (g ++ (u ++ s)) → Among v (h ++ ((g ++ u) ++ x))
deeper v g u s h x kept o = among_right v h _ (elim (among_either v g (u ++ s) o) [
  | inl i ↦ among_left v (g ++ u) x (among_left v g u i)
  | inr i ↦ (elim (among_either v u s i) [
    | inl j ↦ among_left v (g ++ u) x (among_right v g u j)
    | inr j ↦ among_right v (g ++ u) x (kept j)
  ])
])

module _ (P : List Definition) (M : Machine) (f : Faithful P M) (new : New P M f) (q : Goal) where
  -- between the places i and n an exit of g under u, and its redo, with bets that ρ after s goes through at the variables of the call event
  pub record Through (g : Goal) (u : List Ancestor) (s : List Bet) (ρ : Substitution) (i n : ℕ) : Type 0 where
    pub bets : List Bet
    pub exit_place : ℕ
    pub redo_place : ℕ
    pub after : i < exit_place
    pub between : exit_place < redo_place
    pub before : redo_place < n
    pub exits : Reached M q exit_place (event exit g u bets)
    pub redone : Reached M q redo_place (event redo g u bets)
    pub kept : (v : ℕ) → Among v (bets_variables s) → Among v (bets_variables bets)
    pub general : AsGeneral (event_variables g u s) (and_then (under s) ρ) (under bets)

  -- what is shown of a fail in place n: each substitution under which the goal holds goes through one of its exits
  abbrev WholeAt : ℕ → Type 0
  WholeAt n = (g : Goal) (u : List Ancestor) (s : List Bet) → Reached M q n (event fail g u s)
      → (i : ℕ) → Reached M q i (event call g u s) → i < n
      → (ρ : Substitution) → Holds P (substitute_goal (and_then (under s) ρ) g) → Through g u s ρ i n

  -- An exit of a part h of g, under g's ancestor a, leads to one of g, and its redo comes from that of g; `put` lays the bet that the exit of g has besides,
  -- if it has one.
  module _ (g h : Goal) (u : List Ancestor) (a : Ancestor) (put : List Bet → List Bet) (own : ancestor_variables a ≡ goal_variables g)
      (exited : (y : List Bet) → rule M (event exit h (a ∷ u) y) ≡ gives (event exit g u (put y)))
      (asked : (y : List Bet) → candidate M (event redo h (a ∷ u) y) ≡ gives (event redo g u (put y)))
      (does_nothing : (y : List Bet) (v : ℕ) → under (put y) v ≡ under y v)
      (keeps : (y : List Bet) (v : ℕ) → Among v (bets_variables y) → Among v (bets_variables (put y))) where
    lifted : (s x : List Bet) (ρ ε : Substitution) (i j k n : ℕ) → i ≤ j → k ≤ n
        → ((v : ℕ) → Among v (bets_variables s) → Among v (bets_variables x))
        → ((v : ℕ) → Among v (event_variables g u s) → and_then (under s) ρ v ≡ and_then (under x) ε v)
        → Through h (a ∷ u) x ε j k → Through g u s ρ i n
    unfolding first_event
    lifted s x ρ ε i j k n l m kept agrees t =
        let y = t.bets in
        let (δ, same) = t.general in
        let after = t.after in
        let before = t.before in
        let w = inner M q t.exit_place t.redo_place (event exit h (a ∷ u) y) (event redo h (a ∷ u) y) (event exit g u (put y)) (event redo g u (put y))
        t.exits t.redone t.between (exited y) (asked y) (λ e. never cc) (λ e. never cc) (λ e. never cc) in
        let is = w.is in
        record {
          bets = put y;
          exit_place = suc t.exit_place;
          redo_place = w.place;
          after = omega arith;
          between = w.apart;
          before = omega arith;
          exits = w.behind_at;
          redone = w.front_at;
          kept = λ v o. keeps y v (t.kept v (kept v o));
          general = (δ, λ v o. agrees v o ∙ same v (inside v o) ∙ ap (substitute δ) (sym (does_nothing y v)));
        }
      where
        inside : (v : ℕ) → Among v (event_variables g u s) → Among v (event_variables h (a ∷ u) x)
        inside v o =
            rw own (deeper v (goal_variables g) (ancestors_variables u) (bets_variables s) (goal_variables h) (bets_variables x) (kept v) o)

  -- an exit right behind the call, with bets x, whose redo leads to the fail
  at_once : (g : Goal) (u : List Ancestor) (s x : List Bet) (ρ : Substitution) (i n : ℕ) → Inner M q i n (event exit g u x) (event redo g u x)
      → ((v : ℕ) → Among v (bets_variables s) → Among v (bets_variables x)) → AsGeneral (event_variables g u s) (and_then (under s) ρ) (under x) → Through g u s ρ i n
  at_once g u s x ρ i n w kept general =
      let is = w.is in
      record {
        bets = x;
        exit_place = suc i;
        redo_place = w.place;
        after = omega arith;
        between = w.apart;
        before = omega arith;
        exits = w.behind_at;
        redone = w.front_at;
        kept = kept;
        general = general;
      }

  -- A goal fails in place n, its call is in place i, and what is to be shown is shown of the fails in earlier places.
  module _ (n : ℕ) (earlier : (k : ℕ) → k < n → WholeAt k) (i : ℕ) (l : i < n) where
    -- true
    truth_whole : (u : List Ancestor) (s : List Bet) → Reached M q n (event fail truth u s) → Reached M q i (event call truth u s)
        → (ρ : Substitution) → Through truth u s ρ i n
    unfolding rule candidate first_event
    truth_whole u s h c ρ =
        at_once truth u s s ρ i n
        (inner M q i n (event call truth u s) (event fail truth u s) _ _ c h l refl refl (λ e. never cc) (λ e. never cc) (λ e. never cc))
        (λ v o. o) (ρ, λ v o. refl)

    -- equality: what makes the terms equal goes through the most general unifier
    equal_whole : (x y : Term) (u : List Ancestor) (s : List Bet) → Reached M q n (event fail (equal x y) u s) → Reached M q i (event call (equal x y) u s)
        → (ρ : Substitution) → substitute (and_then (under s) ρ) x ≡ substitute (and_then (under s) ρ) y
        → (o : Unified) → M.unify s x y ≡ o → Through (equal x y) u s ρ i n
    unfolding rule candidate first_event
    equal_whole x y u s h c ρ same too_large e = let (d, _, z) = goes_on M q n _ h i _ l c in let r = forward_by_rule M _ d z in never (cc (r, e))
    equal_whole x y u s h c ρ same clash e =
        let z : Meant s x y clash = subst (Meant s x y) e (f.unifies s x y) in
        absurd (z.1 ρ (sym (applied_then s ρ x) ∙ same ∙ applied_then s ρ y))
    equal_whole x y u s h c ρ same (unified m) e =
        let z : Meant s x y (unified m) = subst (Meant s x y) e (f.unifies s x y) in
        let (δ, through) = z.1.general ρ (sym (applied_then s ρ x) ∙ same ∙ applied_then s ρ y) in
        at_once (equal x y) u s (unifier m ∷ s) ρ i n
        (inner M q i n (event call (equal x y) u s) (event fail (equal x y) u s) _ _ c h l (rw e refl) (rw e refl) (λ e. never cc) (λ e. never cc) (λ e. never cc))
        (λ v o. among_right v (bet_variables (unifier m)) (bets_variables s) o) (
          δ,
          λ v o.
              substitute_agree _ _ (under s v) (λ w i. through w) ∙ sym (substitute_twice δ (as_substitution m) (under s v))
              ∙ ap (substitute δ) (sym (apply_unifier m s (var v))),
        )

    -- conjunction: through an exit of the first half, and then through one of the second, called with the bets of that exit
    conj_second : (a b : Goal) (u : List Ancestor) (s : List Bet) (ρ : Substitution) (k : ℕ) → k < n → Through a (in_conj first a b ∷ u) s ρ (suc i) k
        → Holds P (substitute_goal (and_then (under s) ρ) b) → Through (conj a b) u s ρ i n
    unfolding rule candidate first_event
    conj_second a b u s ρ k m x holds =
        let w = inner M q x.exit_place x.redo_place (event exit a (in_conj first a b ∷ u) x.bets) (event redo a (in_conj first a b ∷ u) x.bets)
        (event call b (in_conj second a b ∷ u) x.bets) (event fail b (in_conj second a b ∷ u) x.bets) x.exits x.redone x.between
        (matching_yes (goal? a a) _ refl) (matching_yes (goal? a a) _ refl) (λ e. never cc) (λ e. never cc) (λ e. never cc) in
        let is = w.is in
        let after = x.after in
        let before = x.before in
        lifted (conj a b) b u (in_conj second a b) (λ y. y) refl (λ y. matching_yes (goal? b b) _ refl) (λ y. matching_yes (goal? b b) _ refl) (λ y v. refl) (λ y v o. o)
        s x.bets ρ x.general.0 i (suc x.exit_place) w.place n (omega arith) (omega arith) x.kept agrees
        (earlier w.place (omega arith) b (in_conj second a b ∷ u) x.bets w.front_at (suc x.exit_place) w.behind_at w.apart x.general.0
        (holds_same (DefinitionBody P) _ _ (substitute_goal_agree _ _ b (λ v o. agrees v (among_left v (goal_variables (conj a b)) _ (among_right v (goal_variables a) _ o)))) holds))
      where
        agrees : (v : ℕ) → Among v (event_variables (conj a b) u s) → and_then (under s) ρ v ≡ and_then (under x.bets) x.general.0 v
        agrees v o =
            x.general.1 v (deeper v (goal_variables (conj a b)) (ancestors_variables u) (bets_variables s) (goal_variables a) (bets_variables s) (λ j. j) o)

    conj_whole : (a b : Goal) (u : List Ancestor) (s : List Bet) → Reached M q n (event fail (conj a b) u s) → Reached M q i (event call (conj a b) u s)
        → (ρ : Substitution) → Holds P (substitute_goal (and_then (under s) ρ) a) → Holds P (substitute_goal (and_then (under s) ρ) b)
        → Through (conj a b) u s ρ i n
    unfolding rule candidate first_event
    conj_whole a b u s h c ρ x y =
        let w : Inner M q i n (event call a (in_conj first a b ∷ u) s) (event fail a (in_conj first a b ∷ u) s)
        = inner M q i n (event call (conj a b) u s) (event fail (conj a b) u s) _ _ c h l refl refl (λ e. never cc) (λ e. never cc) (λ e. never cc) in
        let is = w.is in
        conj_second a b u s ρ w.place (omega arith)
        (earlier w.place (omega arith) a (in_conj first a b ∷ u) s w.front_at (suc i) w.behind_at w.apart ρ x) y

    -- disjunction: through an exit of the half that holds; where the second half was called, the first had failed
    half_whole : (d : Half) (a b : Goal) (u : List Ancestor) (s : List Bet) (ρ : Substitution) (j k : ℕ) → i ≤ j → k ≤ n
        → Through (selected d a b) (in_disj d a b ∷ u) s ρ j k → Through (disj a b) u s ρ i n
    unfolding rule candidate
    half_whole d a b u s ρ j k m o =
        lifted (disj a b) (selected d a b) u (in_disj d a b) (λ y. or d ∷ y) refl (λ y. matching_yes (goal? _ _) _ refl) (λ y. matching_yes (goal? _ _) _ refl)
        (under_or d) (λ y v o. o) s s ρ ρ i j k n m o (λ v o. o) (λ v o. refl)

    first_failed : (a b : Goal) (u : List Ancestor) (s : List Bet) (k : ℕ)
        → Reached M q (suc i) (event call a (in_disj first a b ∷ u) s) → Reached M q k (event fail b (in_disj second a b ∷ u) s)
        → (j : ℕ) × (suc i < j) × Reached M q j (event fail a (in_disj first a b ∷ u) s) × (suc j < k) × Reached M q (suc j) (event call b (in_disj second a b ∷ u) s)
    unfolding Reach candidate first_event
    first_failed a b u s k called_a failed_b = go (fail_has_call M q k b (in_disj second a b ∷ u) s failed_b)
      where
        go : Before M q k (event call b (in_disj second a b ∷ u) s)
            → (j : ℕ) × (suc i < j) × Reached M q j (event fail a (in_disj first a b ∷ u) s) × (suc j < k) × Reached M q (suc j) (event call b (in_disj second a b ∷ u) s)
        go (zero, below, called_b) = never cc
        go (suc j, below, called_b) =
            let (d, here, z) = reached_from M q j (event call b (in_disj second a b ∷ u) s) called_b in
            let failed_a : Reached M q j (event fail a (in_disj first a b ∷ u) s)
            = subst (Reached M q j) (gives_injective (sym z ∙ matching_yes (goal? b b) (event fail a (in_disj first a b ∷ u) s) refl)) here in
            let (m, l, again) = fail_has_call M q j a (in_disj first a b ∷ u) s failed_a in
            (j, subst (λ x. x < j) (one_place M q m (suc i) (event call a (in_disj first a b ∷ u) s) again called_a) l, failed_a, below, called_b)

    disj_whole : (a b : Goal) (u : List Ancestor) (s : List Bet) → Reached M q n (event fail (disj a b) u s) → Reached M q i (event call (disj a b) u s)
        → (ρ : Substitution) → Holds P (substitute_goal (and_then (under s) ρ) a) ⊎ Holds P (substitute_goal (and_then (under s) ρ) b)
        → Through (disj a b) u s ρ i n
    unfolding rule candidate first_event selected
    disj_whole a b u s h c ρ holds =
        let w : Inner M q i n (event call a (in_disj first a b ∷ u) s) (event fail b (in_disj second a b ∷ u) s)
        = inner M q i n (event call (disj a b) u s) (event fail (disj a b) u s) _ _ c h l refl refl (λ e. never cc) (λ e. never cc) (λ e. never cc) in
        let is = w.is in
        let (j, after, failed_a, before, called_b) = first_failed a b u s w.place w.behind_at w.front_at in
        elim holds [
          | inl x ↦ half_whole first a b u s ρ (suc i) j (omega arith) (omega arith) (earlier j (omega arith) a (in_disj first a b ∷ u) s failed_a (suc i) w.behind_at after ρ x)
          | inr x ↦ half_whole second a b u s ρ (suc j) w.place (omega arith) (omega arith)
              (earlier w.place (omega arith) b (in_disj second a b ∷ u) s w.front_at (suc j) called_b before ρ x)
        ]

  -- An atom: the terms that its body has for the locals are put in their place, since locals are new.
  body_covers : (p : ℕ) (ts : Terms) (u : List Ancestor) (s : List Bet) (m : ℕ) (g : Goal) → MadeFrom P p ts m g
      → NewFrom m ts u s → (ρ : Substitution) (h : Goal)
      → DefinitionBody P p (substitute_all (and_then (under s) ρ) ts) h → Holds P h
      → (ε : Substitution) × Holds P (substitute_goal (and_then (under s) ε) g)
      × ((v : ℕ) → Among v (event_variables (atom p ts) u s) → and_then (under s) ρ v ≡ and_then (under s) ε v)
  body_covers p ts u s m g b new_from ρ h w holds =
      (ε, holds_same (DefinitionBody P) _ _ (sym (whole ∙ w.is)) holds, λ v o. sym (old v (below v o)))
    where
      ε : Substitution
      ε = extended m ρ w.terms

      below : Below m (event_variables (atom p ts) u s)
      below v o = elim (among_either v (terms_variables ts) (ancestors_variables u ++ bets_variables s) o) [
        | inl i ↦ new_from.arguments v i
        | inr i ↦ elim (among_either v (ancestors_variables u) (bets_variables s) i) [ inl j ↦ new_from.ancestors v j | inr j ↦ new_from.bets v j ]
      ]

      -- ε does what ρ did to the variables of the event, and has the body's terms for the locals
      old : (v : ℕ) → v < m → and_then (under s) ε v ≡ and_then (under s) ρ v
      old = extended_old m ρ w.terms s new_from.bets

      arguments : substitute_all (and_then (under s) ε) ts ≡ substitute_all (and_then (under s) ρ) ts
      arguments = substitute_all_agree (and_then (under s) ε) (and_then (under s) ρ) ts (λ v o. old v (new_from.arguments v (occurs_in_among v ts o)))

      one_definition : definition_of P p (arity ts) ≡ some (definition w.predicate w.heads w.locals w.goal)
      one_definition = ap (definition_of P p) (sym (arity_substitute (and_then (under s) ρ) ts)) ∙ w.found

      one_goal : b.goal ≡ w.goal
      one_goal = let e = sym b.found ∙ one_definition in cc

      whole : substitute_goal (and_then (under s) ε) g ≡ substitute_goal (with_terms (substitute_all (and_then (under s) ρ) ts) w.terms) w.goal
      whole =
          ap (substitute_goal (and_then (under s) ε)) (sym b.is ∙ ap (substitute_goal (numbered ts m)) one_goal)
          ∙ numbered_then (and_then (under s) ε) ts m w.goal
          ∙ substitute_goal_agree (with_terms (substitute_all (and_then (under s) ε) ts) (λ j. and_then (under s) ε (m + j)))
          (with_terms (substitute_all (and_then (under s) ε) ts) w.terms) w.goal
          (λ v o. with_terms_agree (substitute_all (and_then (under s) ε) ts) (λ j. and_then (under s) ε (m + j)) w.terms (λ j. extended_new m ρ w.terms s new_from.bets j) v)
          ∙ ap (λ x. substitute_goal (with_terms x w.terms) w.goal) arguments

  module _ (n : ℕ) (earlier : (k : ℕ) → k < n → WholeAt k) (i : ℕ) (l : i < n) where
    atom_whole : (p : ℕ) (ts : Terms) (u : List Ancestor) (s : List Bet) → Reached M q n (event fail (atom p ts) u s) → Reached M q i (event call (atom p ts) u s)
        → (ρ : Substitution) (b : Goal) → DefinitionBody P p (substitute_all (and_then (under s) ρ) ts) b → Holds P b
        → (o : Body) → M.body p ts u s ≡ o → Through (atom p ts) u s ρ i n
    unfolding rule candidate first_event
    atom_whole p ts u s h c ρ b made holds too_many e = let (d, _, z) = goes_on M q n _ h i _ l c in let r = forward_by_rule M _ d z in never (cc (r, e))
    atom_whole p ts u s h c ρ b made holds undefined e =
        absurd (none-ne-some _ (sym (f.missing p ts u s e) ∙ ap (definition_of P p) (sym (arity_substitute (and_then (under s) ρ) ts)) ∙ made.found))
    atom_whole p ts u s h c ρ b made holds (defined g) e =
        let (m, from_definition) = f.made p ts u s g e in
        let (ε, body_holds, agrees) = body_covers p ts u s m g from_definition (new.new p ts u s g e) ρ b made holds in
        let w : Inner M q i n (event call g (called p ts ∷ u) s) (event fail g (called p ts ∷ u) s)
        = inner M q i n (event call (atom p ts) u s) (event fail (atom p ts) u s) _ _ c h l (rw e refl) (rw e refl) (λ e. never cc) (λ e. never cc) (λ e. never cc) in
        let is = w.is in
        lifted (atom p ts) g u (called p ts) (λ y. by g ∷ y) refl (λ y. refl) (λ y. refl) (under_by g) (λ y v o. among_right v (goal_variables g) (bets_variables y) o)
        s s ρ ε i (suc i) w.place n (omega arith) (omega arith) (λ v o. o) agrees
        (earlier w.place (omega arith) g (called p ts ∷ u) s w.front_at (suc i) w.behind_at w.apart ε body_holds)

  whole_at : (n : ℕ) → ((k : ℕ) → k < n → WholeAt k) → WholeAt n
  whole_at n earlier truth u s h i c l ρ x = truth_whole n earlier i l u s h c ρ
  whole_at n earlier failure u s h i c l ρ x = absurd (made_of (DefinitionBody P) failure x)
  whole_at n earlier (equal a b) u s h i c l ρ x =
      equal_whole n earlier i l a b u s h c ρ (made_of (DefinitionBody P) (substitute_goal (and_then (under s) ρ) (equal a b)) x) (M.unify s a b) refl
  whole_at n earlier (conj a b) u s h i c l ρ x =
      let (y, z) = made_of (DefinitionBody P) (substitute_goal (and_then (under s) ρ) (conj a b)) x in conj_whole n earlier i l a b u s h c ρ y z
  whole_at n earlier (disj a b) u s h i c l ρ x =
      disj_whole n earlier i l a b u s h c ρ (made_of (DefinitionBody P) (substitute_goal (and_then (under s) ρ) (disj a b)) x)
  whole_at n earlier (atom p ts) u s h i c l ρ x =
      let (b, made, holds) = made_of (DefinitionBody P) (substitute_goal (and_then (under s) ρ) (atom p ts)) x in
      atom_whole n earlier i l p ts u s h c ρ b made holds (M.body p ts u s) refl

  all_whole : (n k : ℕ) → k < n → WholeAt k
  all_whole zero k l = absurd (omega arith)
  all_whole (suc n) k l = whole_at k (λ j m. all_whole n j (omega arith))

  -- Whole, at every fail of a reached event: the goal was called, and every substitution after the call's bets under which it holds goes through one of its
  -- exits in between, at the variables of the call event.
  pub reached_whole : (n : ℕ) (g : Goal) (u : List Ancestor) (s : List Bet) → Reached M q n (event fail g u s)
      → (i : ℕ) × (i < n) × Reached M q i (event call g u s)
      × ((ρ : Substitution) → Holds P (substitute_goal (and_then (under s) ρ) g) → Through g u s ρ i n)
  reached_whole n g u s h =
      let (i, l, c) = fail_has_call M q n g u s h in
      (i, l, c, λ ρ x. all_whole (suc n) n (omega arith) g u s h i c l ρ x)

  -- So where the walk of a query ends in fail, the query holds under no substitution.
  pub failed_never : (n : ℕ) → Reached M q n (event fail q [] []) → (θ : Substitution) → Holds P (substitute_goal θ q) → ⊥
  unfolding apply rule
  failed_never n h θ x =
      let (_, _, _, whole) = reached_whole n q [] [] h in
      let t = whole θ x in
      let between = t.between in
      let before = t.before in
      let (d, _, z) = goes_on M q n _ h t.exit_place _ (omega arith) t.exits in
      let r = forward_by_rule M _ d z in
      never cc
