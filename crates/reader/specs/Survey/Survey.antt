-- What code knows of a text before it writes to its caller: the list of names and the record's bytes in buffers of its own, and whether an arity or the
-- number of variables is over.
use Rattle.std.specs.Prelude.{◌≡◌, Bool, true, false, not, ◌&&◌, List, [], ℕ, Option, Some, None, leb, length, take}
use Rattle.reader.specs.Form.Meaning.{name_list}
use Rattle.reader.specs.Items.Items.{Item}
use Rattle.reader.specs.Items.Words.{name_numbers, most_met, Agrees}
use Rattle.reader.specs.Emit.Cells.{cells, emitted, whole, bytes_of, over_of, clause_count}
use Rattle.reader.specs.Emit.Emits.{Held}
use Rattle.reader.specs.declared.survey.Body.{Body}
use Rattle.reader.specs.declared.survey.Survey.{Survey}

-- the bytes of a body, and its clauses
pub record BodyStands (bytes : List ℕ) (n : ℕ) (scratch : List ℕ) (b : Body) : Type 0 where
  pub held : Held false scratch b.at bytes
  pub clauses_are : b.clauses ≡ n

-- there is a body just where all is within the limits
abbrev pub BodyWithin : (within : Bool) (bytes : List ℕ) (n : ℕ) (scratch : List ℕ) → Option Body → Type 0
BodyWithin within bytes n scratch None = within ≡ false
BodyWithin within bytes n scratch (Some b) = (within ≡ true) × BodyStands bytes n scratch b

-- the names' list, the body's bytes, whether all is within the limits, and the clauses
pub record Surveyed (names bytes : List ℕ) (within : Bool) (n : ℕ) (list scratch : List ℕ) (r : Survey) : Type 0 where
  pub listed_is : r.listed ≡ length names
  pub names_are : take r.listed list ≡ names
  pub room : length scratch ≡ 32766
  pub body_is : BodyWithin within bytes n scratch r.body

-- the names of a text's items numbered and listed, behind those of another text
pub record Listed (is : List Item) (ns : List (List ℕ)) (count : ℕ) (numbers list : List ℕ) (listed : ℕ) : Type 0 where
  pub numbers_are : Agrees numbers (name_numbers ns is) count
  pub listed_is : listed ≡ length (name_list ns)
  pub names_are : take listed list ≡ name_list ns

-- the items measured and written, under the names ns
abbrev pub Measured : (is : List Item) (ns : List (List ℕ)) (scratch : List ℕ) → Option Body → Type 0
Measured is ns scratch b =
    let x = emitted (cells ns [] is) in
    BodyWithin (leb (most_met 0 [] is) 64 && not (over_of x)) (bytes_of (whole x)) (clause_count x) scratch b
