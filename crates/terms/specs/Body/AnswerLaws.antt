-- The answer for an atom's body, by what the code found: its definition, question 9, the body's length, and what was written.
use Rattle.std.specs.Prelude.{◌≡◌, refl, List, [], ◌∷◌, ◌++◌, Bool, true, false, ℕ, ◌+◌, ◌≤◌, ◌<◌, min, length, take, Some, None, Option, Ok, Err}
use Rattle.std.proofs.Math.Path.{sym}
use Rattle.std.proofs.Common.{ap, ◌∙◌, arith, le-leb}
use Rattle.std.proofs.lemmas.Bool.{lt-leb}
use Rattle.records.specs.Format.Syntax.{Goal, arity}
use Rattle.records.specs.Format.Syntax.Goal.{atom}
use Rattle.records.specs.Format.Encode.{word, terms_bytes, goal_bytes}
use Rattle.records.specs.Format.Formed.{AtomFormed}
use Rattle.records.specs.Format.Heads.{goal_head_at}
use Rattle.records.specs.Gate.Reply.{on_yes, reply_with}
use Rattle.records.specs.Writing.Patched.{Put}
use Rattle.records.specs.Writing.PatchedLaws.{put_front}
use Rattle.records.specs.Ends.Stands.{Stands}
use Rattle.records.specs.Ends.StandsLaws.{stands_second, stands_within, goal_stands}
use Rattle.records.specs.declared.heads.GoalHead.{GoalHead}
use Rattle.records.specs.declared.heads.GoalHead.TheVariants.{Atom}
use Rattle.terms.specs.Body.Body.{too_many, undefined, defined, locals_beyond, next_variable, definition_of, body}
use Rattle.terms.specs.Body.BodyLaws.{next_variable_formed}
use Rattle.terms.specs.Standing.Frames.{GoalAt}
use Rattle.terms.specs.Body.Definitions.{ProgramAt, Lookup, find_definition}
use Rattle.terms.specs.Body.DefinitionLaws.{absent_none, found_in}
use Rattle.terms.specs.Body.Arguments.{ArgumentsAt, ArgumentTable, term_places}
use Rattle.terms.specs.Body.BodyBytes.{BodyAnswer, of_length, AtomAt, numbered_goal, body_with, body_given, BodyAnswered}
use Rattle.terms.specs.declared.variables.Frame.{Frame}
use Rattle.terms.specs.declared.definitions.Place.{Place}
use Rattle.terms.specs.declared.body.BodyRefusal.TheVariants.{TooMany, TooLong}

-- a body that fits, and one that does not, by the length that was measured
pub written_answer : {before after : List ℕ} (g : Goal) {n to : ℕ} → n ≡ min (length before + 1) (length (goal_bytes g)) → n ≤ length before
    → Put before 0 (goal_bytes g) after to → BodyAnswered before after (defined g) (of_length n)
unfolding body_given on_yes reply_with
written_answer {before} g {n} is h p =
    let e : n ≡ length (goal_bytes g) = omega arith in
    let l = le-leb (length (goal_bytes g)) (length before) (omega arith) in
    record { is = rw l (ap of_length e); output_is = rw l (put_front p (omega arith)) }

pub long_answer : {before : List ℕ} (g : Goal) {n : ℕ} → n ≡ min (length before + 1) (length (goal_bytes g)) → length before < n → BodyAnswered before before (defined g) (Err TooLong)
unfolding body_given on_yes reply_with
long_answer {before} g is h = let l = lt-leb (length (goal_bytes g)) (length before) (omega arith) in record { is = rw l; output_is = rw l }

-- nothing was written
too_many_answer : (out : List ℕ) → BodyAnswered out out too_many (Err TooMany)
unfolding body_given reply_with
too_many_answer out = record { is = refl; output_is = refl }

undefined_answer : (out : List ℕ) → BodyAnswered out out undefined (Ok None)
unfolding body_given reply_with
undefined_answer out = record { is = refl; output_is = refl }

module _ {s : List ℕ} {f : Frame} (a : AtomAt s f) where
  atom_here : Stands s f.goal (goal_bytes (atom a.predicate a.terms)) a.frame.goal.end
  atom_here = rw a.atom at a.frame.goal.stands

  atom_formed : AtomFormed a.predicate a.terms
  atom_formed = rw a.atom at a.frame.goal.formed

  -- the atom's arguments stand after its head
  pub atom_arguments : {k : ℕ} → arity a.terms ≡ k → ArgumentsAt s (record { at = f.goal + 4; arity = k })
  atom_arguments e = record {
    terms = a.terms;
    formed = atom_formed.2;
    many = e;
    end = a.frame.goal.end;
    stands = stands_second (0x15 ∷ (word a.predicate ++ (arity a.terms ∷ []))) (terms_bytes a.terms) atom_here;
  }

  -- and are at most 16
  pub atom_few : {k : ℕ} → arity a.terms ≡ k → k < 17
  atom_few e = omega (arith, atom_formed.1)

  -- a table that was filled with their places
  abbrev pub atom_table : {k : ℕ} {table : List ℕ} → arity a.terms ≡ k
      → ((x : ArgumentsAt s (record { at = f.goal + 4; arity = k })) → take (k + 1) table ≡ term_places (f.goal + 4) x.terms) → ArgumentTable s k table
  atom_table e t =
      let x = atom_arguments e in
      record { listed = record { terms = x.terms; many = x.many; at = f.goal + 4; places = t x }; end = x.end; stands = x.stands }

  pub atom_room : f.goal + 4 ≤ length s
  atom_room = omega (arith, stands_within atom_here (omega arith), atom_here.end)

  -- the head that was read is the atom's
  pub atom_is : {h : Option GoalHead} → h ≡ goal_head_at s f.goal → h ≡ (Some (Atom a.predicate (arity a.terms)))
  atom_is is = is ∙ goal_stands (atom a.predicate a.terms) atom_formed atom_here

  pub atom_inner : {h : Option GoalHead} {g : GoalHead} → h ≡ goal_head_at s f.goal → h ≡ Some g → g ≡ Atom a.predicate (arity a.terms)
  atom_inner {h} {g} is e = let q : Some g ≡ Some (Atom a.predicate (arity a.terms)) = sym e ∙ atom_is is in cc

  pub atom_head : {h : Option GoalHead} {p k : ℕ} → h ≡ goal_head_at s f.goal → h ≡ (Some (Atom p k)) → (a.predicate ≡ p) × (arity a.terms ≡ k)
  atom_head {h} {p} {k} is e = let q : (Some (Atom a.predicate (arity a.terms))) ≡ (Some (Atom p k)) = sym (atom_is is) ∙ e in (cc, cc)

  -- the first new variable
  abbrev pub first_new : ℕ
  first_new = next_variable a.frame.goal.item a.frame.ancestors.items a.frame.bets.items

  pub first_new_small : {m : ℕ} → m ≡ first_new → m ≤ 65536
  first_new_small e = rw e (next_variable_formed a.frame.goal.item a.frame.ancestors.items a.frame.bets.items a.frame.goal.formed a.frame.ancestors.formed a.frame.bets.formed)

  module _ {m : ℕ} (new : m ≡ first_new) {b : Bool} (l : ℕ) (test : b ≡ locals_beyond m l) where
    pub body_too_many : (out : List ℕ) (g : Goal) → b ≡ true → BodyAnswered out out (body_with l g a.terms first_new) (Err TooMany)
    unfolding body_with
    body_too_many out g e = rw (← new, sym test ∙ e) (too_many_answer out)

    pub body_answered : {program before after table : List ℕ} {at k : ℕ} (g : GoalAt program at) (q : arity a.terms ≡ k) → b ≡ false → {r : BodyAnswer}
        → ((x : ArgumentsAt s (record { at = f.goal + 4; arity = k })) → take (k + 1) table ≡ term_places (f.goal + 4) x.terms)
        → ((h : GoalAt program at) (x : ArgumentTable s k table) → BodyAnswered before after (defined (numbered_goal x.listed.terms m h.item)) r)
        → BodyAnswered before after (body_with l g.item a.terms first_new) r
    unfolding body_with numbered_goal atom_arguments
    body_answered g q e t h = rw (← new, sym test ∙ e) (h g (atom_table q t))

  -- the body by what was found of a definition
  module _ {program : List ℕ} (d : ProgramAt program) {h : Option GoalHead} {p k : ℕ} (is : h ≡ goal_head_at s f.goal) (e : h ≡ (Some (Atom p k))) where
    found_as : definition_of d.definitions a.predicate (arity a.terms) ≡ definition_of d.definitions p k
    found_as = let q = atom_head is e in rw (q.0, q.1)

    pub body_undefined : {r : Lookup} (out : List ℕ) → r ≡ find_definition 5 0 d.definitions p k → r ≡ None
        → BodyAnswered out out (body d.definitions a.predicate a.terms a.frame.ancestors.items a.frame.bets.items) (Ok None)
    unfolding body
    body_undefined out w q = rw (found_as ∙ absent_none 5 0 d.definitions p k (sym w ∙ q)) (undefined_answer out)

    pub place_goal : {r : Lookup} {c : Place} → r ≡ find_definition 5 0 d.definitions p k → r ≡ Some c → GoalAt program c.goal × (c.locals < 256)
    place_goal w q = let z = found_in d (sym w ∙ q) in (z.goal, z.few)

    pub body_defined : {r : Lookup} {c : Place} {before after : List ℕ} {o : BodyAnswer} → r ≡ find_definition 5 0 d.definitions p k → r ≡ Some c
        → ((g : GoalAt program c.goal) (x : AtomAt s f) → arity x.terms ≡ k → BodyAnswered before after (body_with c.locals g.item x.terms (next_variable x.frame.goal.item x.frame.ancestors.items x.frame.bets.items)) o)
        → BodyAnswered before after (body d.definitions a.predicate a.terms a.frame.ancestors.items a.frame.bets.items) o
    unfolding body body_with
    body_defined w q h =
        let z = found_in d (sym w ∙ q) in
        let v = h z.goal a (atom_head is e).1 in
        rw (found_as ∙ z.found) (rw a.atom at v)
