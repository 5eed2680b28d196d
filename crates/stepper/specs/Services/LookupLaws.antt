-- Laws of the lookup: its part lies in the program and holds the bytes of the definition found, it is empty exactly when none is, and what the gate
-- answers, the goal's head and the search for a definition tell is this part.
use Rattle.std.specs.Prelude.{◌≡◌, ◌↔◌, Bool, true, false, cond, List, [], ◌∷◌, ◌++◌, ℕ, ◌+◌, ◌-◌, ◌≤◌, drop, Some, None, Option as Optional, Result, Err}
use Rattle.std.proofs.Math.Path.{refl, ap}
use Rattle.std.proofs.Common.{sym, ◌∙◌, append_assoc, arith, length-append, take_at, drop_at}
use Rattle.std.proofs.Math.Option.{Option, none, some, none-ne-some}
use Rattle.std.proofs.Math.Nat.{add-sub_cancel_left}
use Rattle.std.proofs.Math.ListN.{length, take, length-take, length-drop}
use Rattle.std.specs.Borrow.{Bor}
use Rattle.records.specs.Format.Syntax.{Port, Goal, truth, failure, equal, conj, disj, atom, Ancestor, Bet, Event, event, Definition, definition, arity}
use Rattle.records.specs.Format.Encode.{word, each, counted, definition_bytes, record_of}
use Rattle.records.specs.Format.HeadLaws.{Known, Bytes, bytes_all}
use Rattle.records.specs.Format.Heads.{goal_head_at}
use Rattle.records.specs.Ends.Stands.{head_of_goal}
use Rattle.records.specs.Ends.Places.{event_places}
use Rattle.records.specs.Gate.Gate.{Reading, tree, Accepted, read_program, read_event}
use Rattle.records.specs.Gate.Reply.{Answer, refused, gives, through, told}
use Rattle.records.specs.Gate.OutcomeLaws.{told_refuses}
use Rattle.records.specs.declared.questions.Refusal.{Refusal}
use Rattle.records.specs.Gate.Door.{Trees, door, BothPassed}
use Rattle.records.specs.Gate.DoorLaws.{door_gives, door_both}
use Rattle.records.specs.Gate.GateLaws.{program_tree}
use Rattle.records.specs.declared.heads.GoalHead.{GoalHead}
use Rattle.records.specs.declared.heads.GoalHead.TheVariants.{Truth, Failure, Equal, Conj, Disj, Atom}
use Rattle.records.specs.declared.places.Places.{Places}
use Rattle.records.specs.declared.put.Range.{Range}
use Rattle.terms.specs.Standing.AcceptedLaws.{goal_told, accepted_program}
use Rattle.terms.specs.Body.Body.{defines, definition_of}
use Rattle.terms.specs.Body.Definitions.{ProgramAt, Lookup, definition_place, find_definition}
use Rattle.stepper.specs.Services.Lookup.{ProgramPart, empty, part_of, named, found, definition_part, lookup, range_of, named_part, LookedUp}

-- the bytes of a definition, if there is one
abbrev pub found_bytes : Option Definition → List ℕ
found_bytes none = []
found_bytes (some d) = definition_bytes d

-- the part of s for what was found
pub record PartHolds (s : List ℕ) (r : ProgramPart) (o : Option Definition) : Type 0 where
  pub within : r.at + r.size ≤ length s
  pub bytes : part_of s r ≡ found_bytes o
  pub empty_exactly : (r.size ≡ 0) ↔ (o ≡ none)

holds_none : (s : List ℕ) → PartHolds s empty none
unfolding part_of
holds_none s = record { within = omega arith; bytes = refl; empty_exactly = (λ h. refl, λ h. refl) }

holds_some : (pre : List ℕ) (d : Definition) (rest : List ℕ)
    → PartHolds (pre ++ (definition_bytes d ++ rest)) (record { at = length pre; size = length (definition_bytes d) }) (some d)
unfolding part_of
holds_some pre (definition p n l g) rest =
    let d = definition p n l g in
    record {
      within = simp length-append (omega arith);
      bytes = ap (take (length (definition_bytes d))) (drop_at pre (definition_bytes d ++ rest) (length pre) refl)
          ∙ take_at (definition_bytes d) rest (length (definition_bytes d)) refl;
      empty_exactly = (λ h. absurd (omega arith), λ h. absurd (none-ne-some d (sym h)));
    }

definitions_hold : (pre : List ℕ) (ds : List Definition) (p n : ℕ)
    → PartHolds (pre ++ each definition_bytes ds) (definition_part (length pre) ds p n) (definition_of ds p n)
unfolding definition_part definition_of
definitions_hold pre [] p n = holds_none (pre ++ [])
definitions_hold pre (d ∷ ds) p n = go (defines p n d) (definitions_hold (pre ++ definition_bytes d) ds p n)
  where
    go : (b : Bool)
        → PartHolds ((pre ++ definition_bytes d) ++ each definition_bytes ds) (definition_part (length (pre ++ definition_bytes d)) ds p n) (definition_of ds p n)
        → PartHolds (pre ++ (definition_bytes d ++ each definition_bytes ds))
        (cond b (record { at = length pre; size = length (definition_bytes d) }) (definition_part (length pre + length (definition_bytes d)) ds p n))
        (cond b (some d) (definition_of ds p n))
    go true h = holds_some pre d (each definition_bytes ds)
    go false h = rw (← append_assoc pre (definition_bytes d) (each definition_bytes ds), ← length-append pre (definition_bytes d)) h

pub lookup_holds : (program s : List ℕ) → Bytes program → PartHolds program (lookup program s) (found program s)
unfolding lookup found through named record_of
lookup_holds program s b = go (door (read_program program) (read_event s)) refl
  where
    goal : (P : List Definition) → read_program program ≡ tree P → (e : Event)
        → PartHolds program (named empty (definition_part 5 P) e) (named none (definition_of P) e)
    goal P h (event p truth u s) = holds_none program
    goal P h (event p failure u s) = holds_none program
    goal P h (event p (equal l r) u s) = holds_none program
    goal P h (event p (conj x y) u s) = holds_none program
    goal P h (event p (disj x y) u s) = holds_none program
    goal P h (event p (atom f ts) u s) =
        rw (program_tree program b P h).laid
        (definitions_hold (word (1 + length (counted definition_bytes P)) ++ (1 ∷ word (length P))) P f (arity ts))

    go : (a : Answer (Trees (List Definition) Event)) → door (read_program program) (read_event s) ≡ a
        → PartHolds program (through (λ q. empty) a (λ t. named empty (definition_part 5 t.program) t.event))
        (through (λ q. none) a (λ t. named none (definition_of t.program) t.event))
    go (refused q) h = holds_none program
    go (gives t) h = goal t.program (door_gives (read_program program) (read_event s) h).0 t.event

-- an accepted program has definitions
pub has_definitions : (s : List ℕ) → Known s → Accepted (read_program s) → ProgramAt s
has_definitions s known h = go (read_program s) refl h
  where
    go : (r : Reading (List Definition)) → read_program s ≡ r → Accepted r → ProgramAt s
    go (Reading.refused q) e z = absurd z
    go (tree ds) e z = accepted_program s known ds e

-- the place that the search for a definition finds, as a range
abbrev pub place_range : Lookup → Range
place_range None = range_of empty
place_range (Some a) = record { from = a.start; to = a.end }

searched_range : (at i : ℕ) (ds : List Definition) (p k : ℕ) → place_range (find_definition at i ds p k) ≡ range_of (definition_part at ds p k)
unfolding find_definition definition_part
searched_range at i [] p k = refl
searched_range at i (d ∷ ds) p k = go (defines p k d) (searched_range (at + length (definition_bytes d)) (i + 1) ds p k)
  where
    placed : (x : Definition) → place_range (Some (definition_place at i x)) ≡ range_of (record { at = at; size = length (definition_bytes x) })
    placed (definition q m l g) = refl

    go : (b : Bool) → place_range (find_definition (at + length (definition_bytes d)) (i + 1) ds p k) ≡ range_of (definition_part (at + length (definition_bytes d)) ds p k)
        → place_range (cond b (Some (definition_place at i d)) (find_definition (at + length (definition_bytes d)) (i + 1) ds p k))
        ≡ range_of (cond b (record { at = at; size = length (definition_bytes d) }) (definition_part (at + length (definition_bytes d)) ds p k))
    go true h = placed d
    go false h = h

-- for code that searched an accepted program
pub range_found : (s : List ℕ) → Known s → (p k : ℕ) {found : Lookup} → ((d : ProgramAt s) → found ≡ find_definition 5 0 d.definitions p k)
    → (i : Lookup) → found ≡ i → {r : Range} → r ≡ place_range i → (ds : List Definition) → read_program s ≡ tree ds → r ≡ range_of (definition_part 5 ds p k)
range_found s known p k is i q w ds e = w ∙ ap place_range (sym q ∙ is (accepted_program s known ds e)) ∙ searched_range 5 0 ds p k

-- what a goal's head names: nothing if it is no atom's
abbrev head_named : {A : Type 0} → A → (ℕ → ℕ → A) → Optional GoalHead → A
head_named z f (Some Truth) = z
head_named z f (Some Failure) = z
head_named z f (Some Equal) = z
head_named z f (Some Conj) = z
head_named z f (Some Disj) = z
head_named z f (Some (Atom p k)) = f p k
head_named z f None = z

named_head : {A : Type 0} (z : A) (f : ℕ → ℕ → A) (p : Port) (g : Goal) (u : List Ancestor) (b : List Bet) → named z f (event p g u b) ≡ head_named z f (head_of_goal g)
unfolding named
named_head z f p truth u b = refl
named_head z f p failure u b = refl
named_head z f p (equal l r) u b = refl
named_head z f p (conj x y) u b = refl
named_head z f p (disj x y) u b = refl
named_head z f p (atom q ts) u b = refl

unnamed_head : {A : Type 0} (z : A) (f : ℕ → ℕ → A) (h : Optional GoalHead) → ((p k : ℕ) → h ≡ (Some (Atom p k)) → ⊥) → head_named z f h ≡ z
unnamed_head z f (Some Truth) n = refl
unnamed_head z f (Some Failure) n = refl
unnamed_head z f (Some Equal) n = refl
unnamed_head z f (Some Conj) n = refl
unnamed_head z f (Some Disj) n = refl
unnamed_head z f (Some (Atom p k)) n = absurd (n p k refl)
unnamed_head z f None n = refl

-- for code that has the head h of an accepted event's goal
module _ (program : List ℕ) (s : List ℕ) (known : Known s) {places : Places} (are : (e : Event) → read_event s ≡ tree e → places ≡ event_places e)
    {h : Optional GoalHead} (is : h ≡ goal_head_at s places.goal.from) where
  goal_names : (ds : List Definition) (e : Event) → read_event s ≡ tree e → named_part ds e ≡ head_named empty (definition_part 5 ds) h
  unfolding named_part event_places
  goal_names ds (event p g u b) q =
      let w : h ≡ head_of_goal g = is ∙ rw (are (event p g u b) q) (goal_told s known p g u b q) in
      named_head empty (definition_part 5 ds) p g u b ∙ ap (head_named empty (definition_part 5 ds)) (sym w)

  pub atom_named : {p k : ℕ} {r : Range} → h ≡ (Some (Atom p k)) → ((ds : List Definition) → read_program program ≡ tree ds → r ≡ range_of (definition_part 5 ds p k))
      → (ds : List Definition) (e : Event) → read_program program ≡ tree ds → read_event s ≡ tree e → r ≡ range_of (named_part ds e)
  atom_named {p} {k} q w ds e x y = w ds x ∙ ap range_of (sym (goal_names ds e y ∙ ap (head_named empty (definition_part 5 ds)) q))

  pub none_named : {r : Range} → ((p k : ℕ) → h ≡ (Some (Atom p k)) → ⊥) → r ≡ range_of empty
      → (ds : List Definition) (e : Event) → read_program program ≡ tree ds → read_event s ≡ tree e → r ≡ range_of (named_part ds e)
  none_named n w ds e x y = w ∙ ap range_of (sym (goal_names ds e y ∙ unnamed_head empty (definition_part 5 ds) h n))

module _ (program event : List ℕ) {r : Range} where
  -- a record is refused
  pub no_record : {outcome : Result (Unit {0}) Refusal} {e : Refusal} → outcome ≡ told (door (read_program program) (read_event event)) → outcome ≡ Err e
      → r ≡ range_of empty → r ≡ range_of (lookup program event)
  unfolding lookup through
  no_record is z w = let p = told_refuses (door (read_program program) (read_event event)) is z in w ∙ rw p.1

  -- both are accepted
  pub both_accepted : (w : BothPassed program event)
      → ((ds : List Definition) (e : Event) → read_program program ≡ tree ds → read_event event ≡ tree e → r ≡ range_of (named_part ds e)) → r ≡ range_of (lookup program event)
  unfolding lookup through named_part
  both_accepted w f =
      f w.definitions w.event w.program_reads w.reads ∙ rw (door_both (read_program program) (read_event event) w.program_reads w.reads)

-- the slice from the range's start to its end
module _ (program : Bor (List ℕ)) (event : List ℕ) (known : Known program.now) {r : Range} (is : r ≡ range_of (lookup program.now event)) where
  pub range_inside : (r.from ≤ r.to) × (r.to ≤ length program.now)
  range_inside =
      let w = lookup_holds program.now event (bytes_all program.now known) in
      rw is (omega arith, w.within)

  pub looked_up : (part : Bor (List ℕ)) → part.now ≡ take (r.to - r.from) (drop r.from program.now) → part.ref_ptr.0 ≡ program.ref_ptr.0
      → part.ref_ptr.1 ≡ r.from + program.ref_ptr.1 → LookedUp part program event
  unfolding part_of
  looked_up part now block place =
      let w = lookup_holds program.now event (bytes_all program.now known) in
      let at = (lookup program.now event).at in
      let n = (lookup program.now event).size in
      let bytes : part.now ≡ take n (drop at program.now) = now ∙ rw (is, add-sub_cancel_left at n) refl in
      let size : length part.now ≡ n = rw (bytes, length-take n (drop at program.now), length-drop at program.now) (omega (arith, w.within)) in
      record {
        bytes = bytes;
        size = size;
        block = block;
        place = place ∙ rw is refl;
        within = w.within;
        empty_exactly = (λ h. w.empty_exactly.0 (sym size ∙ h), λ h. size ∙ w.empty_exactly.1 h);
      }
