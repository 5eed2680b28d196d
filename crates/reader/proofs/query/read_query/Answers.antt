use Rattle.std.proofs.Common.{sym, refl, arith}
use Rattle.text.specs.Reading.{reading_exact, goal_reading_exact}
use Rattle.reader.specs.Survey.ServiceLaws.{query_foreign, query_outside, query_long}
use Rattle.reader.proofs.query.read_query.Goals.{then-not-all_allowed-via-then-not-all_allowed, then-not-all_allowed-via-else-not-all_allowed+then-not-all_allowed-2, then-not-grammatical-via-then-not-grammatical, then-not-grammatical-via-else-not-grammatical+then-not-goal_grammatical}
use Rattle.reader.proofs.query.read_query.Goals as goal

pub returns-then-not-all_allowed : goal.returns-then-not-all_allowed
returns-then-not-all_allowed c =
    elim c.then-not-all_allowed.branch [
      | then-not-all_allowed-via-then-not-all_allowed w ↦ query_foreign _ _ _ _ (rw (sym w.if-not-all_allowed.ensures) refl)
      | then-not-all_allowed-via-else-not-all_allowed+then-not-all_allowed-2 w ↦ query_foreign _ _ _ _ (rw (sym w.if-not-all_allowed.ensures, sym w.if-not-all_allowed-2.ensures) refl)
    ]

pub returns-then-not-grammatical : goal.returns-then-not-grammatical
returns-then-not-grammatical c =
    let a = sym c.if-not-all_allowed.ensures in
    let b = sym c.if-not-all_allowed-2.ensures in
    elim c.then-not-grammatical.branch [
      | then-not-grammatical-via-then-not-grammatical w ↦ query_outside _ _ _ _ a b (rw (sym w.if-not-grammatical.ensures) refl)
      | then-not-grammatical-via-else-not-grammatical+then-not-goal_grammatical w ↦ query_outside _ _ _ _ a b (rw (sym w.if-not-grammatical.ensures, sym w.if-not-goal_grammatical.ensures) refl)
    ]

pub returns-then-saturating_add-gt-TEXT_LIMIT : goal.returns-then-saturating_add-gt-TEXT_LIMIT
returns-then-saturating_add-gt-TEXT_LIMIT c =
    let x = (reading_exact _).0 (sym c.if-not-grammatical.ensures) in
    let y = (goal_reading_exact _).0 (sym c.if-not-goal_grammatical.ensures) in
    query_long _ _ _ _ x.0 x.1 y.0 y.1 (omega (arith, c.saturating_add.ensures, c.if-saturating_add-gt-TEXT_LIMIT.true))

pub read_goal-requires : goal.read_goal-requires
read_goal-requires c = record {
  text_value = (sym c.if-not-grammatical.ensures, sym c.if-not-goal_grammatical.ensures);
  query_len_bound = omega (arith, c.saturating_add.ensures, c.if-saturating_add-gt-TEXT_LIMIT.false);
}
