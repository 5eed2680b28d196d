-- A record as it is read: its length field, and then as many bytes as the field names, each as far as the input goes. How far that is the C library
-- says; all else is what stands in the buffer.
use Rattle.std.specs.Prelude.{◌≡◌, List, ℕ, ◌+◌, ◌≤◌, take}
use Rattle.records.specs.Gate.Question.{Asked}
use Rattle.records.specs.Gate.Gate.{refused, Accepted, read_program}
use Rattle.walk_text.specs.Input.{bytes_named}

-- a call that may read `most` bytes answered n. All that holds of such a count is its bound, so a program that makes one up meets a contract as well:
-- the name is shut to show a reader where counts come from, and that the proofs of the code take them from there
pub Delivered : (most n : ℕ) → Type 0
Delivered most n = n ≤ most

-- to be cited by the proof of the one function that makes the call
pub delivered : {most n : ℕ} → n ≤ most → Delivered most n
unfolding Delivered
delivered h = h

pub delivered_most : {most n : ℕ} → Delivered most n → n ≤ most
unfolding Delivered
delivered_most h = h

-- a call that may read n bytes to a place of the buffer; the bytes before it stay
pub record PartRead (from n : ℕ) (before : List ℕ) (r : ℕ) (after : List ℕ) : Type 0 where
  pub count : Delivered n r
  pub kept : take from after ≡ take from before

-- a record of r bytes, now at the front of the buffer
pub record RecordRead (buffer : List ℕ) (r : ℕ) : Type 0 where
  pub field : ℕ
  pub rest : ℕ
  pub field_read : Delivered 2 field
  pub rest_read : Delivered (bytes_named (take field buffer)) rest
  pub length_is : r ≡ field + rest

-- the query's record, or nothing at all where the program is refused
pub record QueryRead (program before : List ℕ) (r : ℕ) (after : List ℕ) : Type 0 where
  pub unread : (q : Asked) → read_program program ≡ refused q → (r ≡ 0) × (after ≡ before)
  pub record_read : Accepted (read_program program) → RecordRead after r
