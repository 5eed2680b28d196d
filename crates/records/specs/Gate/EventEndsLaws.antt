-- Laws of an event at positions: its port, its goal, its ancestors, where its bets start, and its verdict.
use Rattle.std.specs.Prelude.{ℕ, ◌+◌, ◌≤◌, ◌<◌, ◌≡◌, Bool, List, [], ◌∷◌, eqb, length, drop, get_or, Option, Some, None, Err}
use Rattle.std.proofs.Common.{arith, sym, ◌∙◌, length-drop, drop-cons, ne_eqb}
use Rattle.std.proofs.Math.Path.{refl, ap}
use Rattle.std.proofs.lemmas.Bool.{eqb-false}
use Rattle.records.specs.Format.Never.{never}
use Rattle.records.specs.Format.Syntax.{Port}
use Rattle.records.specs.Format.Syntax.Port.{call, exit, fail, redo}
use Rattle.records.specs.Gate.RecordRules.{every, bet_rules, event_rules}
use Rattle.records.specs.Format.HeadLaws.{by_test}
use Rattle.records.specs.Format.Reader.{Read}
use Rattle.records.specs.Format.Reader.Read.{unread, found}
use Rattle.records.specs.Format.Items.{Stacks, EventFrame, read_counted, read_goal, read_ancestor, read_bet, read_port, port_of, read_stacks, read_frame, event_of_frame, read_event_bytes}
use Rattle.records.specs.Format.Items.Stacks.{stacks}
use Rattle.records.specs.Format.Items.EventFrame.{frame}
use Rattle.records.specs.Ends.Traversal.{place_of, end_of, end_at}
use Rattle.records.specs.Ends.EndLaws.{onward}
use Rattle.records.specs.Ends.ItemEndsLaws.{goal_ends, after_ends}
use Rattle.records.specs.Gate.Rows.{kept_at}
use Rattle.records.specs.Gate.RowsLaws.{kept_after}
use Rattle.records.specs.Gate.Gate.{Verdict, passed, read_event, verdict}
use Rattle.records.specs.declared.questions.Fault.TheVariants.{Grammar}
use Rattle.records.specs.declared.ends.Item.TheVariants.{Ancestor, Bet}
use Rattle.records.specs.Gate.GateEnds.{opening_of, judged_at}
use Rattle.records.specs.Gate.GateEndsLaws.{unreadable, readable}
use Rattle.records.specs.Gate.CountedEnds.{counted_end, counted_kept}
use Rattle.records.specs.Gate.EventEnds.{port_end, bets_place, bets_judged, bets_verdict}

pub past_port : (s : List ℕ) (at : ℕ) → length s ≤ at → None ≡ port_end s at
unfolding port_end end_of
past_port s at h = go (drop at s) (rw length-drop (omega arith))
  where
    go : (l : List ℕ) → length l ≡ 0 → None ≡ place_of at (read_port l)
    go [] e = refl
    go (b ∷ l) e = absurd (omega arith)

port_byte_at : (s : List ℕ) (at : ℕ) → at < length s → port_end s at ≡ place_of at (port_of (get_or s at 0))
unfolding port_end end_of
port_byte_at s at h = rw (drop-cons s at 0 h)

port_in : (at k : ℕ) → 1 ≤ k → k ≤ 4 → place_of at (port_of k) ≡ Some (at + 1)
port_in at k a b =
    by_test P (eqb k 1) (found call 1) _ (λ _. refl) (λ e1. by_test P (eqb k 2) (found exit 1) _ (λ _. refl) (λ e2. by_test P (eqb k 3) (found fail 1) _ (λ _. refl)
    (λ e3. by_test P (eqb k 4) (found redo 1) unread (λ _. refl) (λ e4. absurd (none (eqb-false k 1 e1) (eqb-false k 2 e2) (eqb-false k 3 e3) (eqb-false k 4 e4))))))
  where
    P : Read Port → Type 0
    P o = place_of at o ≡ Some (at + 1)

    none : (k ≡ 1 → ⊥) → (k ≡ 2 → ⊥) → (k ≡ 3 → ⊥) → (k ≡ 4 → ⊥) → ⊥
    none e1 e2 e3 e4 = omega arith

pub port_at : (s : List ℕ) (at : ℕ) → at < length s → 1 ≤ get_or s at 0 → get_or s at 0 ≤ 4 → Some (at + 1) ≡ port_end s at
port_at s at h a b = sym (port_byte_at s at h ∙ port_in at (get_or s at 0) a b)

pub no_port : (s : List ℕ) (at : ℕ) → at < length s → (1 ≤ get_or s at 0 → 4 < get_or s at 0) → None ≡ port_end s at
no_port s at h a =
    let k = get_or s at 0 in
    sym (port_byte_at s at h ∙ rw (
      ne_eqb (get_or s at 0) 1 (λ e. differs 1 e (omega arith) (omega arith)),
      ne_eqb (get_or s at 0) 2 (λ e. differs 2 e (omega arith) (omega arith)),
      ne_eqb (get_or s at 0) 3 (λ e. differs 3 e (omega arith) (omega arith)),
      ne_eqb (get_or s at 0) 4 (λ e. differs 4 e (omega arith) (omega arith)),
    ))
  where
    differs : (n : ℕ) → get_or s at 0 ≡ n → 1 ≤ n → n ≤ 4 → ⊥
    differs n e x y = let z = a (omega arith) in omega arith

stacks_end : (s : List ℕ) (at : ℕ) → end_of read_stacks s at ≡ onward (counted_end Ancestor s at) (λ e. counted_end Bet s e)
unfolding read_stacks counted_end end_of
stacks_end s at = after_ends stacks (read_counted read_ancestor) (read_counted read_bet) s at

frame_end : (s : List ℕ) (at : ℕ) → end_of read_frame s at ≡ onward (end_at s at 0 1) (λ e. end_of read_stacks s e)
unfolding read_frame end_of
frame_end s at = after_ends frame read_goal read_stacks s at ∙ ap (λ (f : Option ℕ). onward f (λ e. place_of e (read_stacks (drop e s)))) (goal_ends s at)

frame_whole : (s : List ℕ) (g : ℕ) → end_of read_frame s g ≡ onward (onward (end_at s g 0 1) (λ e. counted_end Ancestor s e)) (λ e. counted_end Bet s e)
frame_whole s g = frame_end s g ∙ go (end_at s g 0 1)
  where
    go : (f : Option ℕ) → onward f (λ e. end_of read_stacks s e) ≡ onward (onward f (λ e. counted_end Ancestor s e)) (λ e. counted_end Bet s e)
    go (Some e) = stacks_end s e
    go None = refl

event_frame : (s : List ℕ) → end_of read_event_bytes s 3 ≡ onward (port_end s 3) (λ e. end_of read_frame s e)
unfolding read_event_bytes end_of port_end
event_frame s = after_ends event_of_frame read_port read_frame s 3

pub event_end : (s : List ℕ) → end_of read_event_bytes s 3 ≡ onward (bets_place s) (λ e. counted_end Bet s e)
unfolding bets_place
event_end s = event_frame s ∙ go (port_end s 3)
  where
    go : (f : Option ℕ) → onward f (λ e. end_of read_frame s e) ≡ onward (onward f (λ g. onward (end_at s g 0 1) (λ e. counted_end Ancestor s e))) (λ e. counted_end Bet s e)
    go (Some g) = frame_whole s g
    go None = refl

-- an event's rules are those of its bets
stacks_rules : Stacks → Bool
stacks_rules (stacks u s) = every bet_rules s

frame_rules : EventFrame → Bool
frame_rules (frame g k) = stacks_rules k

event_rules_frame : (p : Port) (f : EventFrame) → event_rules (event_of_frame p f) ≡ frame_rules f
unfolding event_rules frame_rules stacks_rules
event_rules_frame p (frame g (stacks u s)) = refl

kept_frame : (s : List ℕ) (g : ℕ) → port_end s 3 ≡ Some g → kept_at event_rules read_event_bytes s 3 ≡ kept_at frame_rules read_frame s g
unfolding kept_at port_end read_event_bytes
kept_frame s g e = kept_after event_of_frame read_port read_frame event_rules frame_rules s 3 g event_rules_frame e

kept_stacks : (s : List ℕ) (g k : ℕ) → end_at s g 0 1 ≡ Some k → kept_at frame_rules read_frame s g ≡ kept_at stacks_rules read_stacks s k
unfolding kept_at read_frame frame_rules
kept_stacks s g k e = kept_after frame read_goal read_stacks frame_rules stacks_rules s g k (λ _ _. refl) (goal_ends s g ∙ e)

kept_bets : (s : List ℕ) (k b : ℕ) → counted_end Ancestor s k ≡ Some b → kept_at stacks_rules read_stacks s k ≡ counted_kept Bet s b
unfolding kept_at read_stacks counted_end counted_kept stacks_rules
kept_bets s k b e = kept_after stacks (read_counted read_ancestor) (read_counted read_bet) stacks_rules (every bet_rules) s k b (λ _ _. refl) e

pub event_kept : (s : List ℕ) (b : ℕ) → bets_place s ≡ Some b → kept_at event_rules read_event_bytes s 3 ≡ counted_kept Bet s b
unfolding bets_place
event_kept s b e = go (port_end s 3) refl e
  where
    nowhere : {P : Type 0} → None ≡ Some b → P
    nowhere q = never cc

    inner : (g : ℕ) (f : Option ℕ) → end_at s g 0 1 ≡ f → onward f (λ e. counted_end Ancestor s e) ≡ Some b → kept_at frame_rules read_frame s g ≡ counted_kept Bet s b
    inner g (Some k) q z = kept_stacks s g k q ∙ kept_bets s k b z
    inner g None q z = nowhere z

    go : (f : Option ℕ) → port_end s 3 ≡ f → onward f (λ g. onward (end_at s g 0 1) (λ e. counted_end Ancestor s e)) ≡ Some b → kept_at event_rules read_event_bytes s 3 ≡ counted_kept Bet s b
    go (Some g) q z = kept_frame s g q ∙ inner g (end_at s g 0 1) refl z
    go None q z = nowhere z

module _ (s : List ℕ) (b : ℕ) {f : Option ℕ} (is : f ≡ counted_end Bet s b) where
  pub bets_read : {e : ℕ} {k : Bool} → f ≡ Some e → k ≡ counted_kept Bet s b → judged_at s e k ≡ bets_verdict s b
  unfolding bets_verdict
  bets_read q w = rw (← is, q, w)

  pub bets_unread : f ≡ None → Err Grammar ≡ bets_verdict s b
  unfolding bets_verdict
  bets_unread q = rw (← is, q)

module _ (s : List ℕ) {o : Verdict} (asked : o ≡ opening_of s) (granted : o ≡ passed) {p : Option ℕ} (is : p ≡ bets_place s) where
  pub event_unread : p ≡ None → Err Grammar ≡ verdict (read_event s)
  event_unread q = unreadable read_event_bytes event_rules s asked granted {p = None} (sym (event_end s ∙ ap (λ (x : Option ℕ). onward x (λ e. counted_end Bet s e)) (sym is ∙ q))) refl

  pub event_judged : {b : ℕ} {r : Verdict} → p ≡ Some b → r ≡ bets_verdict s b → r ≡ verdict (read_event s)
  unfolding bets_verdict
  event_judged {b} q w = w ∙ go (counted_end Bet s b) refl
    where
      ends : end_of read_event_bytes s 3 ≡ counted_end Bet s b
      ends = event_end s ∙ ap (λ (x : Option ℕ). onward x (λ e. counted_end Bet s e)) (sym is ∙ q)

      go : (g : Option ℕ) → counted_end Bet s b ≡ g → bets_judged s b g ≡ verdict (read_event s)
      go (Some e) z = readable read_event_bytes event_rules s asked granted {p = Some e} (sym (ends ∙ z)) refl (sym (event_kept s b (sym is ∙ q)))
      go None z = unreadable read_event_bytes event_rules s asked granted {p = None} (sym (ends ∙ z)) refl

-- the bets' place, goal by goal
module _ (s : List ℕ) {p : Option ℕ} (is : p ≡ port_end s 3) where
  pub no_event : p ≡ None → None ≡ bets_place s
  unfolding bets_place
  no_event q = rw (← is, q)

  pub no_event_goal : {g : ℕ} {f : Option ℕ} → p ≡ Some g → f ≡ end_at s g 0 1 → f ≡ None → None ≡ bets_place s
  unfolding bets_place
  no_event_goal q w z = rw (← is, q, ← w, z)

  pub event_bets : {g e : ℕ} {f r : Option ℕ} → p ≡ Some g → f ≡ end_at s g 0 1 → f ≡ Some e → r ≡ counted_end Ancestor s e → r ≡ bets_place s
  unfolding bets_place
  event_bets q w z y = y ∙ rw (← is, q, ← w, z)
