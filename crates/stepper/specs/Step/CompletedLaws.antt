-- Laws of the records that are completed around a part: the part that is lent, the event whose record it is, and the step that this makes.
use Rattle.std.specs.Prelude.{◌≡◌, false, ℕ, ◌+◌, ◌-◌, ◌≤◌, ◌<◌, Ok}
use Rattle.std.proofs.Math.Path.{refl, sym}
use Rattle.std.proofs.Common.{ap, subst, ◌∙◌, zero-add, length-take, length-drop, take-append-drop}
use mathlib.Core.List.{List, [], ◌∷◌, ◌++◌, append_assoc}
use Rattle.std.proofs.Math.Numerals.{add-one}
use native.Mathlib.Omega.{arith}
use Rattle.std.proofs.Math.ListN.{length, length-append}
use Rattle.records.specs.Gate.ReplyLaws.{gives_injective}
use Rattle.records.specs.Format.Syntax.{Terms, Goal, atom, Ancestor, called, Binding, Bet, unifier, Port, Event, event}
use Rattle.records.specs.Format.Encode.{word, each, counted, goal_bytes, ancestor_bytes, bet_bytes, port_byte, event_bytes, event_record, record_of, record_head}
use Rattle.records.specs.Writing.Patched.{Put}
use Rattle.records.specs.Writing.PatchedLaws.{put_length, put_part, put_around, put_front}
use Rattle.records.specs.Ends.Range.{cut, Inside}
use Rattle.records.specs.Writing.EmittedLaws.{record_head_body}
use Rattle.records.specs.Ends.StandsLaws.{stands_join, stands_second, stands_cut}
use Rattle.records.specs.Ends.Places.{goal_end, part_ends, EventParts}
use Rattle.records.specs.declared.put.Range.{Range}
use Rattle.records.specs.declared.places.PartEnds.{PartEnds}
use Rattle.records.specs.Gate.Reply.{reply_with, answer_length}
use Rattle.terms.specs.Unifier.Equality.{unifier_bytes}
use Rattle.terms.specs.Standing.Accepted.{bets_at}
use Rattle.stepper.specs.Rules.Machine.{gives}
use Rattle.stepper.specs.Rules.Rules.{limited_by}
use Rattle.stepper.specs.Rules.AnswerLaws.{fitting_none}
use Rattle.stepper.specs.Services.Services.{record_limit}
use Rattle.stepper.specs.Services.ServiceLaws.{fits_limit}
use Rattle.stepper.specs.Plans.View.{event_view}
use Rattle.stepper.specs.Plans.LayoutLaws.{goal_starts, goal_ends}
use Rattle.stepper.specs.Step.Stepped.{Stepped}
use Rattle.stepper.specs.Step.Completed.{Gap, lent_part, handed_back, InOrder, unifier_front, unifier_back, unifier_ends, body_front, body_back, body_ends, Completed}
use Rattle.stepper.specs.declared.emit.Reached.{Reached}
use Rattle.stepper.specs.declared.view.View.{View}

-- a part that was lent and handed back
module _ {at others : ℕ} {r : Range} (g : Gap at others r) (before : List ℕ) (l : 32768 ≤ length before) where
  -- it has the room that the other bytes leave
  pub lent_room : length (lent_part before r) ≡ 32768 - others
  lent_room = simp (length-take, length-drop) (omega (arith, g.room, g.stop, g.order))

  -- as it was
  pub lent_kept : {part : List ℕ} → part ≡ lent_part before r → handed_back before r part ≡ before
  lent_kept e = rw (e, take-append-drop, take-append-drop) refl

  -- the output is as long as before
  pub handed_room : {x part : List ℕ} {n : ℕ} → Put (lent_part before r) 0 x part n → 32768 ≤ length (handed_back before r part)
  handed_room p = let e = put_length p in let k = lent_room in simp (length-append, length-take, length-drop) (omega (arith, g.room, g.stop, g.order))

  -- with something written into it: then the record has room for that, and it is at its place
  module _ (x : List ℕ) (some : 0 < length x) (fits : length x ≤ length (lent_part before r)) where
    pub lent_fits : others + length x ≤ 32768
    lent_fits = omega (arith, lent_room)

    pub lent_put : {part : List ℕ} {n : ℕ} → Put (lent_part before r) 0 x part n → Put before at x (handed_back before r part) (at + n)
    lent_put {part} {n} p =
        subst (λ (j : ℕ). Put before j x (handed_back before r part) (j + n)) (g.place (omega (arith, lent_fits)))
        (put_part {before = before} {at = r.from} {k = r.to - r.from} (omega (arith, lent_room, g.room)) p)

-- two writes around n bytes
pub completed : {before front between back after : List ℕ} {n place end : ℕ} {ends : PartEnds}
    → Put before 0 front between place → Put between (place + n) back after end → Completed before front n back ends (record { length = end; ends = ends }) after
completed {between = between} {place = place} p q = record { around = record { between = between; place = place; ahead = p; behind = q }; ends_are = refl }

-- the ranges that are copied lie in the event
module _ {s : List ℕ} {v : View} (o : InOrder s v) where
  pub ahead_inside : Inside (record { from = v.goal.from; to = v.ancestors.to }) s
  ahead_inside = record { order = omega arith; stop = omega arith }

  pub behind_inside : Inside (record { from = v.bets.from; to = v.bets.to }) s
  behind_inside = record { order = omega arith; stop = omega arith }

  pub atom_inside : Inside (record { from = v.goal.from; to = v.goal.to }) s
  atom_inside = record { order = omega arith; stop = omega arith }

  pub stacks_inside : Inside (record { from = v.ancestors.from; to = v.bets.to }) s
  stacks_inside = record { order = omega arith; stop = omega arith }

-- a record that is completed around what was put in its midst is the step to its event
pub stepped_completed : (e : Event) {before within after front middle back : List ℕ} {at next n : ℕ} {ends : PartEnds} {reached : Reached} → 32768 ≤ length before
    → length (event_record e) ≤ 32768 → at ≡ length front → n ≡ length middle → front ++ (middle ++ back) ≡ event_record e → ends ≡ part_ends e
    → Put before at middle within next → Completed within front n back ends reached after → Stepped (limited_by record_limit false (gives e)) before (Ok reached) after
unfolding limited_by reply_with answer_length
stepped_completed e {before} {after = after} {reached = reached} h l a m is ends put c =
    rw (fits_limit e l, fitting_none) (record {
      number_is = refl;
      length_is = whole.place ∙ zero-add _;
      ends_are = λ d k. c.ends_are ∙ ends ∙ ap part_ends (gives_injective k);
      output_is = put_front whole (omega arith);
    })
  where
    whole : Put before 0 (event_record e) after reached.length
    whole = rw is at (put_around a m put c.around)

regrouped : (a b c d : List ℕ) → ((a ++ b) ++ c) ++ d ≡ a ++ (b ++ (c ++ d))
regrouped a b c d = simp append_assoc

-- an accepted event
module _ {s : List ℕ} {p : Port} {g : Goal} {u : List Ancestor} {b : List Bet} (w : EventParts s p g u b) where
  pub in_order : length s ≤ 32768 → InOrder s (event_view (event p g u b))
  unfolding event_view
  in_order h = record {
    goal_from = goal_starts 4 g;
    goal_to = omega (arith, goal_ends 4 g);
    ancestors_from = omega (arith, goal_ends 4 g);
    ancestors_to = omega arith;
    bets_from = refl;
    bets_to = omega arith;
    end = sym w.bets_stand.end;
    short = h;
  }

  -- its goal and ancestors, its bets, and its ancestors and bets
  ahead_cut : cut s (record { from = 4; to = bets_at g u }) ≡ goal_bytes g ++ counted ancestor_bytes u
  ahead_cut = stands_cut (stands_join (goal_bytes g) (counted ancestor_bytes u) w.goal_stands w.ancestors_stand)

  bets_cut : cut s (record { from = bets_at g u + 2; to = length s }) ≡ each bet_bytes b
  bets_cut = stands_cut (stands_second (word (length b)) (each bet_bytes b) w.bets_stand)

  stacks_cut : cut s (record { from = goal_end 4 g + 2; to = length s }) ≡ each ancestor_bytes u ++ counted bet_bytes b
  stacks_cut =
      stands_cut (stands_join (each ancestor_bytes u) (counted bet_bytes b) (stands_second (word (length u)) (each ancestor_bytes u) w.ancestors_stand) w.bets_stand)

  -- around a unifier that is put on its bets
  module _ (q : Port) (σ : List Binding) {n : ℕ} (m : n ≡ length (unifier_bytes σ)) where
    pub unifier_place : (event_view (event p g u b)).bets.from + 1 ≡ length (unifier_front s (event_view (event p g u b)) (port_byte q) n)
    unfolding event_view unifier_front
    unifier_place =
        rw (goal_starts 4 g, ahead_cut)
        (omega (arith, length-append (goal_bytes g ++ counted ancestor_bytes u) (word (length b + 1) ++ (0x20 ∷ [])), length-append (goal_bytes g) (counted ancestor_bytes u)))

    pub unifier_record : unifier_front s (event_view (event p g u b)) (port_byte q) n ++ (unifier_bytes σ ++ unifier_back s (event_view (event p g u b)))
        ≡ event_record (event q g u (unifier σ ∷ b))
    unfolding event_view unifier_front unifier_back
    unifier_record =
        rw (goal_starts 4 g, ahead_cut, ← w.bets_stand.end, bets_cut, add-one (length b))
        (ap (λ (l : List ℕ). record_head (length s + 1 + n) ++ (port_byte q ∷ l))
        (regrouped (goal_bytes g) (counted ancestor_bytes u) (word (length (unifier σ ∷ b)) ++ (0x20 ∷ [])) (unifier_bytes σ ++ each bet_bytes b))
        ∙ record_head_body (event_bytes (event q g u (unifier σ ∷ b))) (simp length-append (omega (arith, w.bets_stand.end))))

    pub unifier_record_length : length (event_record (event q g u (unifier σ ∷ b))) ≡ length s + 1 + length (unifier_bytes σ)
    unfolding record_of
    unifier_record_length = simp length-append (omega (arith, w.bets_stand.end))

  pub unifier_ends_are : (q : Port) (σ : List Binding) → unifier_ends (event_view (event p g u b)) ≡ part_ends (event q g u (unifier σ ∷ b))
  unfolding event_view part_ends
  unifier_ends_are q σ = rw (goal_ends 4 g) refl

-- around the body of an atom that is put on the ancestors
module _ {s : List ℕ} {p : Port} {k : ℕ} {ts : Terms} {u : List Ancestor} {b : List Bet} (w : EventParts s p (atom k ts) u b) (q : Port) (g : Goal) where
  pub body_record_length : length (event_record (event q g (called k ts ∷ u) b)) ≡ length s + length (goal_bytes g)
  unfolding record_of
  body_record_length = simp length-append (omega (arith, w.bets_stand.end))

  module _ {n : ℕ} (m : n ≡ length (goal_bytes g)) where
    pub body_place : (event_view (event p (atom k ts) u b)).goal.from ≡ length (body_front s (port_byte q) n)
    unfolding event_view body_front
    body_place = refl

    pub body_record : body_front s (port_byte q) n ++ (goal_bytes g ++ body_back s (event_view (event p (atom k ts) u b))) ≡ event_record (event q g (called k ts ∷ u) b)
    unfolding event_view body_front body_back
    body_record =
        rw (stands_cut w.goal_stands, ← w.bets_stand.end, stacks_cut w, add-one (length u))
        (ap (λ (l : List ℕ). record_head (length s + n) ++ (port_byte q ∷ (goal_bytes g ++ (word (length (called k ts ∷ u)) ++ l))))
        (sym (append_assoc (ancestor_bytes (called k ts)) (each ancestor_bytes u) (counted bet_bytes b)))
        ∙ record_head_body (event_bytes (event q g (called k ts ∷ u) b)) (simp length-append (omega (arith, w.bets_stand.end))))

    pub body_ends_are : body_ends (event_view (event p (atom k ts) u b)) n ≡ part_ends (event q g (called k ts ∷ u) b)
    unfolding event_view part_ends
    body_ends_are =
        let x : 4 + n ≡ goal_end 4 g = omega arith in
        let y : bets_at (atom k ts) u + n ≡ goal_end 4 g + length (counted ancestor_bytes (called k ts ∷ u)) = simp length-append (omega arith) in
        rw (x, y) refl
