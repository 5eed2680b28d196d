-- The answers for an equality and for an atom tell the outcome, and what was done to the buffer.
use Rattle.std.specs.Prelude.{◌≡◌, refl, Bool, true, false, cond, List, ℕ, leb, length, Err, Ok, Some}
use Rattle.std.proofs.Common.{sym, ap, ◌∙◌, subst, inl, inr, leb-true, leb-false}
use Rattle.records.specs.Format.Syntax.{Goal, Binding}
use Rattle.records.specs.Format.Encode.{goal_bytes}
use Rattle.records.specs.Gate.Reply.{on_yes, reply_with}
use Rattle.records.specs.Gate.ReplyLaws.{reply_put}
use Rattle.terms.specs.Theory.Outcome.{Unified, too_large, clash, unified}
use Rattle.terms.specs.Body.Body.{Body, too_many, undefined, defined}
use Rattle.terms.specs.Body.BodyBytes.{BodyAnswer, of_length, body_answer, body_given, BodyAnswered}
use Rattle.terms.specs.Unifier.Equality.{unifier_bytes, unifier_answer, unifier_given, UnifierAnswered}
use Rattle.terms.specs.Unifier.Told.{Told, BodyTold}
use Rattle.terms.specs.Unifier.Equality.{UnifierAnswer}
use Rattle.terms.specs.declared.equality.UnifierRefusal.TheVariants.{TooLong}
use Rattle.terms.specs.declared.body.BodyRefusal.TheVariants.{TooLong as TooLongBody}

pub told : {before after : List ℕ} {u : Unified} {r : UnifierAnswer} → UnifierAnswered before after u r → Told before after u r
unfolding unifier_given on_yes reply_with
told {before} {after} {u} {r} w = go u refl
  where
    sized : (σ : List Binding) → u ≡ unified σ → (a b : Bool) → leb (length (unifier_bytes σ)) 32768 ≡ a → leb (length (unifier_bytes σ)) (length before) ≡ b
        → r ≡ cond a (cond b (Ok (Some (length (unifier_bytes σ)))) (Err TooLong)) (Err TooLong) → Told before after u r
    sized σ e true true p q i =
        let h = leb-true _ _ q in
        subst (Told before after u) (sym i)
        (record { bindings = σ; is = e; put = reply_put (λ x. x) before (unifier_bytes σ) h (w.output_is ∙ rw (e, p, q)); room = h })
    sized σ e true false p q i =
        subst (Told before after u) (sym i) (record { bindings = σ; is = e; long = inr (leb-false _ _ q) }, w.output_is ∙ rw (e, p, q))
    sized σ e false b p q i =
        subst (Told before after u) (sym i) (record { bindings = σ; is = e; long = inl (leb-false _ _ p) }, w.output_is ∙ rw (e, p))

    go : (x : Unified) → u ≡ x → Told before after u r
    go too_large e = subst (Told before after u) (sym (w.is ∙ ap (unifier_answer (length before)) e)) (e, w.output_is ∙ rw e)
    go clash e = subst (Told before after u) (sym (w.is ∙ ap (unifier_answer (length before)) e)) (e, w.output_is ∙ rw e)
    go (unified σ) e = sized σ e _ _ refl refl (w.is ∙ ap (unifier_answer (length before)) e)

pub body_told : {before after : List ℕ} {b : Body} {r : BodyAnswer} → BodyAnswered before after b r → BodyTold before after b r
unfolding body_given on_yes reply_with
body_told {before} {after} {b} {r} w = go b refl
  where
    sized : (g : Goal) → b ≡ defined g → (t : Bool) → leb (length (goal_bytes g)) (length before) ≡ t
        → r ≡ cond t (of_length (length (goal_bytes g))) (Err TooLongBody) → BodyTold before after b r
    sized g e true q i =
        let h = leb-true _ _ q in
        subst (BodyTold before after b) (sym i)
        (record { goal = g; is = e; put = reply_put (λ x. x) before (goal_bytes g) h (w.output_is ∙ rw (e, q)); room = h })
    sized g e false q i = subst (BodyTold before after b) (sym i) (record { goal = g; is = e; long = leb-false _ _ q }, w.output_is ∙ rw (e, q))

    go : (x : Body) → b ≡ x → BodyTold before after b r
    go too_many e = subst (BodyTold before after b) (sym (w.is ∙ ap (body_answer (length before)) e)) (e, w.output_is ∙ rw e)
    go undefined e = subst (BodyTold before after b) (sym (w.is ∙ ap (body_answer (length before)) e)) (e, w.output_is ∙ rw e)
    go (defined g) e = sized g e _ refl (w.is ∙ ap (body_answer (length before)) e)
