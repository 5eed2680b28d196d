use Rattle.std.specs.Prelude.{◌≡◌, Some, None, Ok, Err}
use Rattle.std.proofs.Common.{◌∙◌, ap}
use Rattle.terms.specs.declared.equality.UnifierRefusal.TheVariants.{TooLarge, TooLong}
use Rattle.stepper.specs.Step.EqualityStepLaws.{told_as}
use Rattle.stepper.specs.Step.LastSevenLaws.{rest_bets, unifier_left, unifier_right, unifier_large, unifier_clash, unifier_same, unifier_long, unifier_cut}
use Rattle.stepper.specs.Step.SteppedLaws.{event_short}
use Rattle.stepper.specs.Plans.MadeLaws.{put_cuts}
use borrow.Author.Rules.{rules}
use Rattle.stepper.proofs.same.same_unifier.Goals as goal

pub unifier_under-answer-requires : goal.unifier_under-answer-requires
unifier_under-answer-requires c =
    rw (c.first.ensures, c.second.ensures) (record { equality_under = (rest_bets c.type_inv.event c.requires, unifier_left c.type_inv.event c.requires, unifier_right c.type_inv.event c.requires); event_len_bound = event_short _ c.type_inv.event c.requires.reads })

pub same_front-requires : goal.same_front-requires
same_front-requires c =
    let w = c.requires in
    let i : c.unifier_under-answer.result ≡ Ok c.in-Ok-Some.field-0 = c.in-Ok-Some.is in
    let e : c.unifier_under-answer.result ≡ Ok (Some c.in-Ok-Some.n) = i ∙ ap Ok (rw i at c.in-Ok-Some.field-0-is) in
    let h = told_as ((rw (c.first.ensures, c.second.ensures) at c.unifier_under-answer.ensures) (rest_bets c.type_inv.event w) (unifier_left c.type_inv.event w) (unifier_right c.type_inv.event w)) e in
    record { inside = (put_cuts h.put h.room).inside; inside_2 = rw c.content.ensures (unifier_cut c.type_inv.event w).inside }

pub returns-in-Ok-Some : goal.returns-in-Ok-Some
returns-in-Ok-Some c =
    λ w.
    let i : c.unifier_under-answer.result ≡ Ok c.in-Ok-Some.field-0 = c.in-Ok-Some.is in
    let e : c.unifier_under-answer.result ≡ Ok (Some c.in-Ok-Some.n) = i ∙ ap Ok (rw i at c.in-Ok-Some.field-0-is) in
    unifier_same c.type_inv.event w (told_as ((rw (c.first.ensures, c.second.ensures) at c.unifier_under-answer.ensures) (rest_bets c.type_inv.event w) (unifier_left c.type_inv.event w) (unifier_right c.type_inv.event w)) e) (rw c.content.ensures at c.same_front.ensures)

pub returns-in-Ok-None : goal.returns-in-Ok-None
returns-in-Ok-None c =
    λ w. let i : c.unifier_under-answer.result ≡ Ok c.in-Ok-None.field-0 = c.in-Ok-None.is in
    let e : c.unifier_under-answer.result ≡ Ok None = i ∙ ap Ok (rw i at c.in-Ok-None.field-0-is) in unifier_clash c.type_inv.event w (told_as ((rw (c.first.ensures, c.second.ensures) at c.unifier_under-answer.ensures) (rest_bets c.type_inv.event w) (unifier_left c.type_inv.event w) (unifier_right c.type_inv.event w)) e).0

pub returns-in-Err-TooLarge : goal.returns-in-Err-TooLarge
returns-in-Err-TooLarge c =
    λ w. let i : c.unifier_under-answer.result ≡ Err c.in-Err-TooLarge.field-0 = c.in-Err-TooLarge.is in
    let e : c.unifier_under-answer.result ≡ Err TooLarge = i ∙ ap Err (rw i at c.in-Err-TooLarge.field-0-is) in unifier_large c.type_inv.event w (told_as ((rw (c.first.ensures, c.second.ensures) at c.unifier_under-answer.ensures) (rest_bets c.type_inv.event w) (unifier_left c.type_inv.event w) (unifier_right c.type_inv.event w)) e).0

pub returns-in-Err-TooLong : goal.returns-in-Err-TooLong
returns-in-Err-TooLong c =
    λ w. let i : c.unifier_under-answer.result ≡ Err c.in-Err-TooLong.field-0 = c.in-Err-TooLong.is in
    let e : c.unifier_under-answer.result ≡ Err TooLong = i ∙ ap Err (rw i at c.in-Err-TooLong.field-0-is) in unifier_long c.type_inv.event w (search rules) (told_as ((rw (c.first.ensures, c.second.ensures) at c.unifier_under-answer.ensures) (rest_bets c.type_inv.event w) (unifier_left c.type_inv.event w) (unifier_right c.type_inv.event w)) e).0
