-- The last page: what an answer means (SPECIFICATION 9.12), of the services on bytes. Every answer follows from the rules, and none is missing.
-- `Holds P g` says that the goal g holds by the program P, `Follows cs g` that it follows from the clauses cs, without any machine (`Says.Holds`).
-- `and_then (under s) ρ` is what the bets s make of each variable, and then the substitution ρ; `AsGeneral l θ σ`: the terms that θ has for the variables l
-- are instances, all by one substitution, of those that σ has; `event_variables` are those of an event's goal, ancestors and bets. `Program`, `Start`, `EndsAt`
-- and `Earlier` are those of `Demands` and `Training`. `reply` is what the answers service replies, and `KeptAre` says of a list of answers that the bytes
-- which the service keeps are its bytes, one answer behind the other. `SaysExample` has what two clauses say, `AnswersExample` lists of answers.
use Rattle.std.specs.Prelude.{◌≡◌, ◌↔◌, List, [], ℕ, ◌<◌, take}
use Rattle.std.proofs.Common.{sym, ◌∙◌, ap, subst, arith}
use Rattle.records.specs.Format.Formed.{All}
use Rattle.records.specs.Format.HeadLaws.{Bytes}
use Rattle.records.specs.Format.Syntax.{Goal, Ancestor, Bet, call, exit, fail, event, Definition, Clause}
use Rattle.records.specs.Gate.Gate.{tree, read_query}
use Rattle.records.specs.Gate.GateLaws.{tree_injective}
use Rattle.terms.specs.Body.Body.{event_variables, substitute_goal}
use Rattle.terms.specs.Theory.Substitution.{Substitution, and_then}
use Rattle.terms.specs.Values.Entries.{under}
use Rattle.stepper.specs.Services.Desk.{layers}
use Rattle.stepper.specs.Services.DeskLaws.{lawful}
use Rattle.stepper.specs.Services.Services.{Program, rules_of, Start, Move}
use Rattle.stepper.specs.Training.{EndsAt, Earlier}
use Rattle.stepper.specs.Walks.ByteDemands.{read_reached, reached_served}
use Rattle.canonical.specs.Demand.{Became}
use Rattle.canonical.specs.Form.Canonical.{canonical}
use Rattle.answers.specs.EveryAnswer.{reply}
use Rattle.answers.specs.Form.Answer.{QuerySolution}
use Rattle.meaning.specs.Says.Holds.{Holds, Follows}
use Rattle.meaning.specs.Says.HoldsLaws.{holds_instance}
use Rattle.meaning.specs.Says.ClausesLaws.{holds_follows, follows_holds}
use Rattle.meaning.specs.Solutions.FaithfulLaws.{desk_faithful, desk_new}
use Rattle.meaning.specs.Solutions.General.{AsGeneral}
use Rattle.meaning.specs.Solutions.RightLaws.{reached_right}
use Rattle.meaning.proofs.WholeLaws.{reached_whole, failed_never}
use Rattle.meaning.specs.Answers.Reading.{KeptAre, RightAnswer, WholeList}
use Rattle.meaning.proofs.BytesLaws.{kept_one_list, kept_right, kept_whole, right_by, whole_by}

-- What holds, holds however its variables are filled; and clauses say what their canonical form says.
pub holds_however_filled : (P : List Definition) (θ : Substitution) (g : Goal) → Holds P g → Holds P (substitute_goal θ g)
holds_however_filled = holds_instance

pub same_meaning : (cs : List Clause) (g : Goal) → Holds (canonical cs) g ↔ Follows cs g
same_meaning cs g = (holds_follows cs g, follows_holds cs g)

module _ (c : Program layers) where
  module _ (q : Start layers) (ms : List Move) (g : Goal) (u : List Ancestor) (s : List Bet) where
    -- Right. Where a list of steps ends at an exit, the goal holds under the bets, however the variables that stay free are filled.
    pub exit_is_right : EndsAt c q ms (event exit g u s) → (ρ : Substitution) → Holds c.definitions (substitute_goal (and_then (under s) ρ) g)
    exit_is_right h = let (n, r, _) = read_reached layers lawful c q ms _ h in reached_right c.definitions (rules_of c) (desk_faithful _) q.goal n g u s r

    -- Whole. Where it ends at a fail, the call of the goal with the same ancestors and bets is earlier in the walk. For each substitution ρ such that the goal
    -- holds under these bets and then ρ, an exit of the goal under the same ancestors stands between that call and the fail, and its bets are at least as
    -- general at all variables of the call event.
    pub fail_is_whole : EndsAt c q ms (event fail g u s)
        → (calls : Earlier c q ms (event call g u s))
        × ((ρ : Substitution) → Holds c.definitions (substitute_goal (and_then (under s) ρ) g)
        → (x : List Bet) × (exits : Earlier c q ms (event exit g u x)) × (calls.0 < exits.0) × AsGeneral (event_variables g u s) (and_then (under s) ρ) (under x))
    fail_is_whole h =
        let (n, r, z) = read_reached layers lawful c q ms _ h in
        let (i, l, called, whole) = reached_whole c.definitions (rules_of c) (desk_faithful _) (desk_new _) q.goal n g u s r in (
          (i, omega arith, reached_served layers lawful c q i _ called),
          λ ρ x.
              let t = whole ρ x in
              let between = t.between in
              let before = t.before in
              (t.bets, (t.exit_place, omega arith, reached_served layers lawful c q t.exit_place _ t.exits), t.after, t.general),
        )

  -- So where the query itself has failed, it holds under no substitution.
  pub failed_holds_never : (q : Start layers) (ms : List Move) → EndsAt c q ms (event fail q.goal [] []) → (θ : Substitution)
      → Holds c.definitions (substitute_goal θ q.goal) → ⊥
  failed_holds_never q ms h = let (n, r, _) = read_reached layers lawful c q ms _ h in failed_never c.definitions (rules_of c) (desk_faithful _) (desk_new _) q.goal n r

  -- Answers: for every query record, step count n and output `out`, the bytes that the service keeps are those of one list of answers.
  module _ (query : List ℕ) (b : Bytes query) (Q : Goal) (reads : read_query query ≡ tree Q) (n : ℕ) (out : List ℕ) where
    pub answers_are_one_list : (xs : List QuerySolution) × KeptAre c.program query n out xs × ((ys : List QuerySolution) → KeptAre c.program query n out ys → xs ≡ ys)
    answers_are_one_list = kept_one_list c query b n out Q reads

    module _ (xs : List QuerySolution) (h : KeptAre c.program query n out xs) where
      -- The query holds under the values of each, however the variables that stay free are filled;
      pub answers_right : All (RightAnswer (Holds c.definitions) Q) xs
      answers_right = kept_right c query b n out Q reads xs h

      -- and where the number is 6, each substitution under which the query holds has one that is at least as general.
      pub answers_whole : (reply c.program query n out).number ≡ 6 → WholeList (Holds c.definitions) Q xs
      answers_whole = kept_whole c query b n out Q reads xs h

      -- The same of the clauses cs, where the program's record is what they become (`Demand` of the crate `canonical`).
      module _ (cs : List Clause) (became : Became cs c.program) where
        form : c.definitions ≡ canonical cs
        form = tree_injective (sym c.reads ∙ became.reads)

        pub answers_right_by_clauses : All (RightAnswer (Follows cs) Q) xs
        answers_right_by_clauses = right_by cs Q xs (subst (λ P. All (RightAnswer (Holds P) Q) xs) form answers_right)

        pub answers_whole_by_clauses : (reply c.program query n out).number ≡ 6 → WholeList (Follows cs) Q xs
        answers_whole_by_clauses six = whole_by cs Q xs (subst (λ P. WholeList (Holds P) Q xs) form (answers_whole six))

    -- So where the number is 6 and nothing is written, the query holds under no substitution.
    pub none_holds_never : (reply c.program query n out).written ≡ 0 → (reply c.program query n out).number ≡ 6
        → (θ : Substitution) → Holds c.definitions (substitute_goal θ Q) → ⊥
    none_holds_never none = answers_whole [] (record { bytes = ap (λ k. take k (reply c.program query n out).output) none; formed = tt })
