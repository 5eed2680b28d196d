-- `unify_goal` finds the sides of the equality and the bets.
use mathlib.Core.Path.{sym, ap, ◌∙◌}
use Rattle.std.proofs.lemmas.Result.{err_from_is_err_and}
use Rattle.terms_cases.specs.Equalities.{equality_event, unifier_told}
use Rattle.terms_cases.specs.EqualityLaws.{equality_accepted, equality_short, bets_there, left_there, right_there, left_lost, unifier_replied}
use Rattle.terms_cases.proofs.unify.unify_goal.Goals as goal

pub event_places-places-requires : goal.event_places-places-requires
event_places-places-requires c = equality_accepted c.requires

pub returns-in_default : goal.returns-in_default
returns-in_default c = left_lost c.type_inv.event c.requires (c.event_places-places.ensures (equality_event c.requires) c.requires.read) (sym c.term_end.ensures ∙ c.in_default.is)

pub unifier_under-requires : goal.unifier_under-requires
unifier_under-requires c = let i = c.event_places-places.ensures (equality_event c.requires) c.requires.read in
    let m = sym c.term_end.ensures ∙ c.in-Some.is in
    record { equality_under = (bets_there c.type_inv.event c.requires i, left_there c.type_inv.event c.requires i m, right_there c.type_inv.event c.requires i m); event_len_bound = equality_short c.type_inv.event c.requires }

pub returns-in_err-unifier_under : goal.returns-in_err-unifier_under
returns-in_err-unifier_under c =
    let i = c.event_places-places.ensures (equality_event c.requires) c.requires.read in
    let m = sym c.term_end.ensures ∙ c.in-Some.is in
    let p = err_from_is_err_and c.from_residual.result c.from_residual.ensures.1 in
    rw (p.1, p.2.0) (unifier_replied c.requires (c.unifier_under.ensures (bets_there c.type_inv.event c.requires i) (left_there c.type_inv.event c.requires i m) (right_there c.type_inv.event c.requires i m)) (ap unifier_told c.in_err-unifier_under.was))

pub returns : goal.returns
returns c =
    let i = c.event_places-places.ensures (equality_event c.requires) c.requires.read in
    let m = sym c.term_end.ensures ∙ c.in-Some.is in
    unifier_replied c.requires (c.unifier_under.ensures (bets_there c.type_inv.event c.requires i) (left_there c.type_inv.event c.requires i m) (right_there c.type_inv.event c.requires i m)) (ap unifier_told c.in_ok-unifier_under.was)
