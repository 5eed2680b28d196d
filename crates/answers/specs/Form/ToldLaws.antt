-- What is written of a walk is told at its exits, in their order.
use Rattle.std.specs.Prelude.{◌≡◌, Bool, ℕ, ◌-◌, leb}
use Rattle.std.proofs.Math.Path.{refl, ap}
use Rattle.std.proofs.Common.{sym, ◌∙◌, arith}
use Rattle.std.proofs.Math.Bool.{true, false}
use mathlib.Core.List.{List, [], ◌∷◌, ◌++◌}
use Rattle.std.proofs.Math.Option.{Option, none, some}
use Rattle.std.proofs.Math.ListN.{length}
use Rattle.records.specs.Format.Never.{never}
use Rattle.records.specs.Format.Encode.{each}
use Rattle.records.specs.Format.Syntax.{Goal, Binding, Bet, Event}
use Rattle.records.specs.Gate.Question.{Question, possible, values, fits, question_number}
use Rattle.records.specs.Gate.Reply.{Answer, refused, gives, on_yes, through}
use Rattle.answers.specs.Form.Answer.{QuerySolution, solution_bytes, all_within, values_of, used_of, query_variables, solution_for, solution, solution_into}
use Rattle.answers.specs.Form.Answers.{exit_bets, settled, from_event, written}
use Rattle.answers.specs.Form.Continued.{answer_exits}
use Rattle.answers.specs.Form.Told.{ToldAnswers}

-- an answer that is written is given, and its bytes are written
pub into_given : (room : ℕ) (a : Answer QuerySolution) (b : List ℕ) → solution_into room a ≡ gives b → (x : QuerySolution) × (a ≡ gives x) × (b ≡ solution_bytes x)
unfolding solution_into through on_yes
into_given room (refused k) b h = never cc
into_given room (gives x) b h = go (leb (length (solution_bytes x)) room) h
  where
    go : (t : Bool) → on_yes fits t (gives (solution_bytes x)) ≡ gives b → (y : QuerySolution) × (◌≡◌ {A = Answer QuerySolution} (gives x) (gives y)) × (b ≡ solution_bytes y)
    go true k = (x, refl, cc)
    go false k = never cc

module _ (q : Goal) (room : ℕ) (s : List Bet) where
  -- one that is refused is refused by 8 or by 10
  pub into_refused : (k : Question) → solution_into room (solution q s) ≡ refused k → (question_number k ≡ 8 → ⊥) → (question_number k ≡ 10 → ⊥) → ⊥
  unfolding solution_into solution_for through on_yes question_number
  into_refused k h eight ten = go (values_of s (query_variables q)) h
    where
      last : (b : List ℕ) (t : Bool) → on_yes fits t (gives b) ≡ refused k → ⊥
      last b true i = never cc
      last b false i = let e : fits ≡ k = cc in ten (ap question_number (sym e))

      go : (o : Option (List Binding)) → solution_into room (through refused (all_within o) (λ l. gives (record { values = l; used = used_of s }))) ≡ refused k → ⊥
      go none i = let e : values ≡ k = cc in eight (ap question_number (sym e))
      go (some l) i =
          let b = solution_bytes (record { values = l; used = used_of s }) in
          last b (leb (length b) room) i

  -- and never by 6
  pub into_not_six : (k : Question) → solution_into room (solution q s) ≡ refused k → question_number k ≡ question_number possible → ⊥
  unfolding question_number
  into_not_six k h z = into_refused k h (λ e. omega arith) (λ e. omega arith)

module _ (q : Goal) (n : ℕ) where
  -- an event more in front
  told_event : (room : ℕ) (e : Event) (es : List Event) → ((r : ℕ) → ToldAnswers q es (written q r es n)) → ToldAnswers q (e ∷ es) (written q room (e ∷ es) n)
  unfolding written from_event settled through
  told_event room e es rest = go (exit_bets q e) refl
    where
      go : (o : Option (List Bet)) → exit_bets q e ≡ o → ToldAnswers q (e ∷ es) (written q room (e ∷ es) n)
      go none h =
          let t = rest room in
          rw h (record { found = t.found; exits = t.exits; later = t.later; bytes_are = t.bytes_are; exits_are = rw h t.exits_are; told = t.told; all_told = t.all_told })
      go (some s) h = turn (solution_into room (solution q s)) refl
        where
          turn : (a : Answer (List ℕ)) → solution_into room (solution q s) ≡ a → ToldAnswers q (e ∷ es) (written q room (e ∷ es) n)
          turn (refused k) i =
              rw (h, i) (record {
                found = [];
                exits = [];
                later = answer_exits q (e ∷ es);
                bytes_are = refl;
                exits_are = refl;
                told = tt;
                all_told = λ eight ten. absurd (into_refused q room s k i eight ten);
              })
          turn (gives b) i =
              let t = rest (room - length b) in
              let (x, j, k) = into_given room (solution q s) b i in
              rw (h, i) (record {
                found = x ∷ t.found;
                exits = s ∷ t.exits;
                later = t.later;
                bytes_are = ap (b ++◌) t.bytes_are ∙ ap (◌++ each solution_bytes t.found) k;
                exits_are = rw h (ap (s ∷◌) t.exits_are);
                told = (j, t.told);
                all_told = t.all_told;
              })

  pub told : (room : ℕ) (es : List Event) → ToldAnswers q es (written q room es n)
  unfolding written
  told room [] = record { found = []; exits = []; later = []; bytes_are = refl; exits_are = refl; told = tt; all_told = λ eight ten. refl }
  told room (e ∷ es) = told_event room e es (λ r. told r es)

  -- a list with the number 6 has it of its walk
  pub walk_six : (room : ℕ) (es : List Event) → (written q room es n).number ≡ 6 → n ≡ 6
  unfolding written from_event settled through question_number
  walk_six room [] z = z
  walk_six room (e ∷ es) z = go (exit_bets q e) z (λ r. walk_six r es)
    where
      go : (o : Option (List Bet)) → (from_event q room o (λ r. written q r es n)).number ≡ 6 → ((r : ℕ) → (written q r es n).number ≡ 6 → n ≡ 6) → n ≡ 6
      go none y f = f room y
      go (some s) y f = turn (solution_into room (solution q s)) refl y
        where
          turn : (a : Answer (List ℕ)) → solution_into room (solution q s) ≡ a → (settled room a (λ r. written q r es n)).number ≡ 6 → n ≡ 6
          turn (refused k) i x = absurd (into_not_six q room s k i x)
          turn (gives b) i x = f (room - length b) x
