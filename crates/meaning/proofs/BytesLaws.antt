-- What the answers service writes, as a list of answers: it is right, and whole where the number is 6.
use Rattle.std.specs.Prelude.{◌≡◌, refl, List, [], ◌∷◌, ℕ, ◌+◌, ◌≤◌, length}
use Rattle.std.proofs.Common.{sym, ◌∙◌, ap₂, subst, length-append}
use native.Mathlib.Omega.{arith}
use Rattle.records.specs.Format.Encode.{event_bytes, event_record, goal_bytes}
use Rattle.records.specs.Format.Formed.{All, Counted, GoalFormed, BetFormed}
use Rattle.records.specs.Format.HeadLaws.{Bytes}
use Rattle.records.specs.Format.Syntax.{Goal, Bet, Definition, Clause}
use Rattle.records.specs.Gate.Door.{Trees}
use Rattle.records.specs.Gate.Gate.{tree, read_program, read_query}
use Rattle.records.specs.Gate.RecordRules.{event_rules}
use Rattle.records.specs.Gate.GateLaws.{tree_injective, query_tree}
use Rattle.records.specs.Gate.Reply.{Answer, refused, gives}
use Rattle.records.specs.Gate.ReplyLaws.{refused_not_gives}
use Rattle.records.specs.Writing.EmittedLaws.{length_record_of}
use Rattle.stepper.specs.Rules.Rules.{first_event}
use Rattle.stepper.specs.Run.Run.{plain}
use Rattle.stepper.specs.Run.RunLaws.{reached_run}
use Rattle.stepper.specs.Run.RunServiceLaws.{run_recordable}
use Rattle.stepper.specs.Services.Desk.{layers}
use Rattle.stepper.specs.Services.DeskLaws.{lawful}
use Rattle.stepper.specs.Services.ServiceLaws.{Recordable, fits_limit}
use Rattle.stepper.specs.Services.Services.{Program, rules_of}
use Rattle.stepper.specs.Walks.Walk.{forward}
use Rattle.answers.specs.EveryAnswer.{reply, opened, six_passes, six_is_fail, told_at_exits}
use Rattle.answers.specs.Form.Answer.{QuerySolution, solution}
use Rattle.answers.specs.Form.Answers.{all_of, exit_of}
use Rattle.answers.specs.Form.ServiceLaws.{begin_gives, kept_nothing}
use Rattle.canonical.specs.Form.Canonical.{canonical}
use Rattle.meaning.specs.Says.Holds.{Holds, Follows}
use Rattle.meaning.specs.Says.ClausesLaws.{holds_follows, follows_holds}
use Rattle.meaning.specs.Solutions.FaithfulLaws.{desk_faithful, desk_new}
use Rattle.meaning.specs.Answers.Reading.{SolutionFormed, KeptAre, RightAnswer, WholeList}
use Rattle.meaning.specs.Answers.ReadingLaws.{one_reading}
use Rattle.meaning.specs.Answers.ExitLaws.{ExitReached}
use Rattle.meaning.proofs.FormedLaws.{solution_formed}
use Rattle.meaning.proofs.ListLaws.{told_all, told_exits, told_right, told_whole}

-- the length of a first event
first_length : (q : Goal) → length (event_record (first_event (all_of q))) ≡ 10 + length (goal_bytes q)
unfolding first_event
first_length q = length_record_of (event_bytes (first_event (all_of q))) ∙ simp length-append (omega arith)

module _ (c : Program layers) (query : List ℕ) (bytes : Bytes query) (n : ℕ) (out : List ℕ) where
  -- the list that is written
  record WrittenList (q : Goal) : Type 0 where
    answers : List QuerySolution
    read : KeptAre c.program query n out answers
    right : All (RightAnswer (Holds c.definitions) q) answers
    whole : (reply c.program query n out).number ≡ 6 → WholeList (Holds c.definitions) q answers

  module _ (q : Goal) (reads : read_query query ≡ tree q) (short : length (event_record (first_event (all_of q))) ≤ 32768) where
    formed : GoalFormed q
    formed = (query_tree query bytes q reads).formed

    -- the events of the walk have records, so their bets are well formed
    exit_formed : (s : List Bet) → ExitReached (rules_of c) q (all_of q) s → Counted BetFormed s
    unfolding first_event event_rules
    exit_formed s (j, h) =
        let start : Recordable (first_event (all_of q)) = ((((formed, tt), (omega arith, tt), (omega arith, tt)), refl), fits_limit (first_event (all_of q)) short) in
        let there = run_recordable layers lawful c (plain forward) j (first_event (all_of q)) start in
        (subst Recordable (reached_run (rules_of c) (all_of q) j (exit_of q s) h).0 there).0.0.2

    answer_formed : (s : List Bet) (x : QuerySolution) → solution q s ≡ gives x → ExitReached (rules_of c) q (all_of q) s → SolutionFormed x
    answer_formed s x h r = solution_formed q s x formed (omega (arith, short, first_length q)) (exit_formed s r) h

  listed : (q : Goal) → read_query query ≡ tree q → opened c.program query out ≡ gives (record { program = c.definitions; event = q }) → WrittenList q
  listed q reads i =
      let P = c.definitions in
      let M = rules_of c in
      let t : Trees (List Definition) Goal = record { program = P; event = q } in
      let w = told_at_exits c.program query n out t i in
      let short = (begin_gives (read_program c.program) (read_query query) (length out) i).3 in
      record {
        answers = w.found;
        read = record { bytes = w.bytes_are; formed = told_all M q SolutionFormed (answer_formed q reads short) w.exits w.found w.told (told_exits P M q n _ w) };
        right = told_right P M q n _ w (desk_faithful P);
        whole = λ six. let (l, h) = (six_is_fail c.program query n out t i).0 six in told_whole P M q n _ w (desk_faithful P) (desk_new P) six _ l h;
      }

  written_list : (q : Goal) → read_query query ≡ tree q → WrittenList q
  written_list q reads = go (opened c.program query out) refl
    where
      go : (a : Answer (Trees (List Definition) Goal)) → opened c.program query out ≡ a → WrittenList q
      go (refused k) i = record {
        answers = [];
        read = record { bytes = (kept_nothing n c.program query out i).0; formed = tt };
        right = tt;
        whole = λ six. let (t, j) = six_passes c.program query n out six in absurd (refused_not_gives (sym i ∙ j));
      }
      go (gives t) i =
          let (p, r, _, _) = begin_gives (read_program c.program) (read_query query) (length out) i in
          let same_program : t.program ≡ c.definitions = tree_injective (sym p ∙ c.reads) in
          let same_query : t.event ≡ q = tree_injective (sym r ∙ reads) in
          listed q reads (i ∙ ap₂ (λ x y. gives (record { program = x; event = y })) same_program same_query)

  module _ (q : Goal) (reads : read_query query ≡ tree q) where
    -- The bytes that are kept are those of one list,
    pub kept_one_list : (xs : List QuerySolution) × KeptAre c.program query n out xs × ((ys : List QuerySolution) → KeptAre c.program query n out ys → xs ≡ ys)
    kept_one_list = let w = written_list q reads in (w.answers, w.read, λ ys h. one_reading _ _ ys w.read h)

    -- which is right, and whole where the number is 6.
    module _ (xs : List QuerySolution) (h : KeptAre c.program query n out xs) where
      pub kept_right : All (RightAnswer (Holds c.definitions) q) xs
      kept_right = let w = written_list q reads in subst (All (RightAnswer (Holds c.definitions) q)) (one_reading _ _ xs w.read h) w.right

      pub kept_whole : (reply c.program query n out).number ≡ 6 → WholeList (Holds c.definitions) q xs
      kept_whole six = let w = written_list q reads in subst (WholeList (Holds c.definitions) q) (one_reading _ _ xs w.read h) (w.whole six)

-- What is right and whole by a canonical form is so by its clauses.
pub right_by : (cs : List Clause) (q : Goal) (xs : List QuerySolution) → All (RightAnswer (Holds (canonical cs)) q) xs → All (RightAnswer (Follows cs) q) xs
right_by cs q [] h = tt
right_by cs q (x ∷ xs) (h, hs) = (λ ρ. holds_follows cs _ (h ρ), right_by cs q xs hs)

pub whole_by : (cs : List Clause) (q : Goal) (xs : List QuerySolution) → WholeList (Holds (canonical cs)) q xs → WholeList (Follows cs) q xs
whole_by cs q xs h θ k = h θ (follows_holds cs _ k)
