-- What is written of a well-formed tree is bytes.
use Rattle.std.specs.Prelude.{ℕ, ◌+◌, ◌<◌, List, [], ◌∷◌, ◌++◌, length}
use Rattle.std.proofs.Common.{arith}
use Rattle.records.specs.Format.Syntax.{Term, var, app, Terms, nil, cons, Goal, truth, failure, equal, conj, disj, atom, Half, first, second, Ancestor, called, in_conj, in_disj, Binding, bind, Bet, unifier, or, by, Port, call, exit, fail, redo, Event, event, arity}
use Rattle.records.specs.Format.Encode.{word, each, counted, term_bytes, terms_bytes, atom_bytes, goal_bytes, tag, ancestor_bytes, binding_bytes, bet_bytes, port_byte, event_bytes, record_of, event_record}
use Rattle.records.specs.Format.Formed.{TermFormed, TermsFormed, AtomFormed, GoalFormed, All, Counted, AncestorFormed, BindingFormed, BetFormed, EventFormed}
use Rattle.records.specs.Format.HeadLaws.{Bytes}

pub bytes_append : (a b : List ℕ) → Bytes a → Bytes b → Bytes (a ++ b)
bytes_append [] b h k = k
bytes_append (x ∷ a) b h k = (h.0, bytes_append a b h.1 k)

word_written : (n : ℕ) (l : List ℕ) → Bytes l → Bytes (word n ++ l)
word_written n l h = (omega arith, (omega arith, h))

each_written : {A : Type 0} (f : A → List ℕ) (Φ : A → Type 0) → ((x : A) → Φ x → Bytes (f x)) → (l : List A) → All Φ l → Bytes (each f l)
each_written f Φ h [] k = tt
each_written f Φ h (x ∷ l) k = bytes_append (f x) (each f l) (h x k.0) (each_written f Φ h l k.1)

counted_written : {A : Type 0} (f : A → List ℕ) (Φ : A → Type 0) → ((x : A) → Φ x → Bytes (f x)) → (l : List A) → Counted Φ l → Bytes (counted f l)
counted_written f Φ h l k = word_written (length l) (each f l) (each_written f Φ h l k.1)

mutual
  pub term_written : (t : Term) → TermFormed t → Bytes (term_bytes t)
  term_written (var v) h = (omega arith, word_written v [] tt)
  term_written (app f ts) h = let n = h.1 in (omega arith, word_written f (arity ts ∷ terms_bytes ts) (omega arith, terms_written ts h.2))

  pub terms_written : (ts : Terms) → TermsFormed ts → Bytes (terms_bytes ts)
  terms_written nil h = tt
  terms_written (cons t ts) h = bytes_append (term_bytes t) (terms_bytes ts) (term_written t h.0) (terms_written ts h.1)

atom_written : (p : ℕ) (ts : Terms) → AtomFormed p ts → Bytes (atom_bytes p ts)
atom_written p ts h = let n = h.1 in (omega arith, word_written p (arity ts ∷ terms_bytes ts) (omega arith, terms_written ts h.2))

pub goal_written : (g : Goal) → GoalFormed g → Bytes (goal_bytes g)
goal_written truth h = (omega arith, tt)
goal_written failure h = (omega arith, tt)
goal_written (equal t u) h = (omega arith, bytes_append (term_bytes t) (term_bytes u) (term_written t h.0) (term_written u h.1))
goal_written (conj a b) h = (omega arith, bytes_append (goal_bytes a) (goal_bytes b) (goal_written a h.0) (goal_written b h.1))
goal_written (disj a b) h = (omega arith, bytes_append (goal_bytes a) (goal_bytes b) (goal_written a h.0) (goal_written b h.1))
goal_written (atom p ts) h = atom_written p ts h

tag_small : (n : Half) → tag n < 256
tag_small first = omega arith
tag_small second = omega arith

pub ancestor_written : (a : Ancestor) → AncestorFormed a → Bytes (ancestor_bytes a)
ancestor_written (called p ts) h = atom_written p ts h
ancestor_written (in_conj n a b) h = (omega arith, (tag_small n, bytes_append (goal_bytes a) (goal_bytes b) (goal_written a h.0) (goal_written b h.1)))
ancestor_written (in_disj n a b) h = (omega arith, (tag_small n, bytes_append (goal_bytes a) (goal_bytes b) (goal_written a h.0) (goal_written b h.1)))

binding_written : (b : Binding) → BindingFormed b → Bytes (binding_bytes b)
binding_written (bind v t) h = word_written v (term_bytes t) (term_written t h.1)

pub bet_written : (b : Bet) → BetFormed b → Bytes (bet_bytes b)
bet_written (unifier m) h = (omega arith, counted_written binding_bytes BindingFormed binding_written m h)
bet_written (or n) h = (omega arith, (tag_small n, tt))
bet_written (by g) h = (omega arith, goal_written g h)

port_small : (p : Port) → port_byte p < 256
port_small call = omega arith
port_small exit = omega arith
port_small fail = omega arith
port_small redo = omega arith

pub event_bytes_written : (e : Event) → EventFormed e → Bytes (event_bytes e)
event_bytes_written (event p g u s) h = (
  port_small p,
  bytes_append (goal_bytes g) (counted ancestor_bytes u ++ counted bet_bytes s) (goal_written g h.0)
      (bytes_append (counted ancestor_bytes u) (counted bet_bytes s)
      (counted_written ancestor_bytes AncestorFormed ancestor_written u h.1) (counted_written bet_bytes BetFormed bet_written s h.2)),
)

pub event_written : (e : Event) → EventFormed e → Bytes (event_record e)
unfolding record_of
event_written e h = word_written (1 + length (event_bytes e)) (1 ∷ event_bytes e) (omega arith, event_bytes_written e h)
