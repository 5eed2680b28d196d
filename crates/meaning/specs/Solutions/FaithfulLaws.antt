-- The desk's machine is faithful, and its locals are new (SPECIFICATION 4).
use Rattle.std.specs.Prelude.{List, ℕ}
use Rattle.records.specs.Format.Syntax.{Terms, atom, Ancestor, Bet, Definition}
use Rattle.records.specs.Gate.RecordRules.{terms_variables}
use Rattle.terms.specs.Theory.OutcomeLaws.{unified_meant}
use Rattle.terms.specs.Body.Body.{ancestors_variables, bets_variables, next_variable}
use Rattle.terms.specs.Theory.VariablesLaws.{among_left, among_right}
use Rattle.terms.specs.Body.BetVariablesLaws.{Below}
use Rattle.terms.specs.Body.BodyLaws.{body_made, body_missing, next_above}
use Rattle.stepper.specs.Services.Services.{machine}
use Rattle.stepper.specs.Services.Desk.{layers}
use Rattle.meaning.specs.Solutions.Faithful.{Faithful, New}

-- m is above every variable of the call event
module _ (p : ℕ) (ts : Terms) (u : List Ancestor) (s : List Bet) where
  abbrev m : ℕ
  m = next_variable (atom p ts) u s

  arguments_below : Below m (terms_variables ts)
  arguments_below v o = next_above (atom p ts) u s v (among_left v (terms_variables ts) _ o)

  ancestors_below : Below m (ancestors_variables u)
  ancestors_below v o = next_above (atom p ts) u s v (among_right v (terms_variables ts) _ (among_left v (ancestors_variables u) _ o))

  bets_below : Below m (bets_variables s)
  bets_below v o = next_above (atom p ts) u s v (among_right v (terms_variables ts) _ (among_right v (ancestors_variables u) _ o))

module _ (P : List Definition) where
  abbrev pub desk_faithful : Faithful P (machine layers P)
  desk_faithful = record {
    unifies = unified_meant;
    made = λ p ts u s g e. (m p ts u s, body_made P p ts u s g e);
    missing = body_missing P;
  }

  pub desk_new : New P (machine layers P) desk_faithful
  desk_new = record {
    new = λ p ts u s g e. record { arguments = arguments_below p ts u s; ancestors = ancestors_below p ts u s; bets = bets_below p ts u s };
  }
