-- What the answers for an equality and for an atom tell: the outcome, and what was done to the buffer.
use Rattle.std.specs.Prelude.{◌≡◌, List, ◌⊎◌, ℕ, ◌≤◌, ◌<◌, length, Some, None, Ok, Err}
use Rattle.records.specs.Format.Syntax.{Goal, Binding}
use Rattle.records.specs.Format.Encode.{goal_bytes}
use Rattle.records.specs.Writing.Patched.{Put}
use Rattle.terms.specs.Theory.Outcome.{Unified, too_large, clash, unified}
use Rattle.terms.specs.Body.Body.{Body, too_many, undefined, defined}
use Rattle.terms.specs.Unifier.Equality.{unifier_bytes}
use Rattle.terms.specs.Unifier.Equality.{UnifierAnswer}
use Rattle.terms.specs.declared.equality.UnifierRefusal.TheVariants.{TooLarge, TooLong}
use Rattle.terms.specs.Body.BodyBytes.{BodyAnswer}
use Rattle.terms.specs.declared.body.BodyRefusal.TheVariants.{TooMany, TooLong as TooLongBody}

-- a unifier whose count and pairs were put at the start of the buffer
pub record UnifierHere (u : Unified) (before after : List ℕ) (n : ℕ) : Type 0 where
  pub bindings : List Binding
  pub is : u ≡ unified bindings
  pub put : Put before 0 (unifier_bytes bindings) after n
  pub room : length (unifier_bytes bindings) ≤ length before

-- one that is too long for a buffer of so many bytes, or for a record
pub record UnifierLong (u : Unified) (room : ℕ) : Type 0 where
  pub bindings : List Binding
  pub is : u ≡ unified bindings
  pub long : (32768 < length (unifier_bytes bindings)) ⊎ (room < length (unifier_bytes bindings))

-- what an answer tells of an equality; where there is no unifier to write, the buffer is as it was
abbrev pub Told : List ℕ → List ℕ → Unified → UnifierAnswer → Type 0
Told before after u (Err TooLarge) = (u ≡ too_large) × (after ≡ before)
Told before after u (Ok None) = (u ≡ clash) × (after ≡ before)
Told before after u (Ok (Some n)) = UnifierHere u before after n
Told before after u (Err TooLong) = UnifierLong u (length before) × (after ≡ before)

-- a body that was put at the start of the buffer, and one that is too long for a buffer of so many bytes
pub record BodyHere (b : Body) (before after : List ℕ) (n : ℕ) : Type 0 where
  pub goal : Goal
  pub is : b ≡ defined goal
  pub put : Put before 0 (goal_bytes goal) after n
  pub room : length (goal_bytes goal) ≤ length before

pub record BodyLong (b : Body) (room : ℕ) : Type 0 where
  pub goal : Goal
  pub is : b ≡ defined goal
  pub long : room < length (goal_bytes goal)

-- what an answer tells of an atom; where there is no body to write, the buffer is as it was
abbrev pub BodyTold : List ℕ → List ℕ → Body → BodyAnswer → Type 0
BodyTold before after b (Err TooMany) = (b ≡ too_many) × (after ≡ before)
BodyTold before after b (Ok None) = (b ≡ undefined) × (after ≡ before)
BodyTold before after b (Ok (Some n)) = BodyHere b before after n
BodyTold before after b (Err TooLongBody) = BodyLong b (length before) × (after ≡ before)
