-- A record is read by two calls, of which the second leaves the length field as it is; and how long it is at most.
use Rattle.std.specs.Prelude.{◌≡◌, List, ℕ, ◌+◌, ◌≤◌, take}
use Rattle.std.proofs.Math.Path.{refl}
use Rattle.std.proofs.Common.{sym, ap, ◌∙◌, arith, take-take}
use Rattle.records.specs.Format.Never.{never}
use Rattle.records.specs.Format.Syntax.{Definition}
use Rattle.records.specs.Gate.Question.{Asked, Question}
use Rattle.records.specs.Gate.Gate.{Reading, tree, read_program}
use Rattle.records.specs.Gate.Reply.{Answer, answer_number}
use Rattle.records.specs.Gate.ReplyLaws.{number_refuses}
use Rattle.records.specs.Gate.Door.{program_door}
use Rattle.records.specs.Gate.DoorLaws.{program_open}
use Rattle.walk_text.specs.Input.{bytes_named}
use Rattle.walk_text.specs.InputLaws.{named_most}
use Rattle.walk.specs.Reading.{delivered_most, PartRead, RecordRead, QueryRead}

pub record_read : {before between after : List ℕ} {field n rest : ℕ} → PartRead 0 2 before field between → n ≡ bytes_named (take field between)
    → PartRead 2 n between rest after → RecordRead after (field + rest)
record_read {between = between} {after} {field} {n} {rest} a is b =
    let h = delivered_most a.count in
    let same : take field after ≡ take field between = sym (take-take field 2 after h) ∙ ap (take field) b.kept ∙ take-take field 2 between h in
    record { field = field; rest = rest; field_read = a.count; rest_read = rw (same, ← is) b.count; length_is = refl }

-- a record that was read has at most 32,768 bytes
pub record_within : {buffer : List ℕ} {r : ℕ} → RecordRead buffer r → r ≤ 32768
record_within {buffer} w = omega (arith, w.length_is, delivered_most w.field_read, delivered_most w.rest_read, named_most (take w.field buffer))

pub query_within : {program before after : List ℕ} {r : ℕ} → QueryRead program before r after → r ≤ 32768
query_within {program} {r = r} w = go (read_program program) refl
  where
    go : (o : Reading (List Definition)) → read_program program ≡ o → r ≤ 32768
    go (Reading.refused q) h = omega (arith, (w.unread q h).0)
    go (tree P) h = record_within (w.record_read (rw h tt))

-- the query of a refused program, and of an accepted one
module _ {program before : List ℕ} {n : ℕ} (is : n ≡ answer_number (program_door (read_program program))) where
  pub query_unread : (n ≡ 0 → ⊥) → QueryRead program before 0 before
  unfolding program_door
  query_unread z = go (read_program program) refl (number_refuses (program_door (read_program program)) is z).refuses
    where
      go : (o : Reading (List Definition)) → read_program program ≡ o → {q : Question} → program_door o ≡ Answer.refused q → QueryRead program before 0 before
      go (Reading.refused a) h e = record { unread = λ q h. (refl, refl); record_read = λ a. absurd (rw h at a) }
      go (tree P) h e = never cc

  pub query_told : {after : List ℕ} {r : ℕ} → n ≡ 0 → RecordRead after r → QueryRead program before r after
  query_told z w =
      let p = program_open (read_program program) is z in
      record { unread = λ q h. absurd (differ p.0 q (sym p.1 ∙ h)); record_read = λ a. w }
    where
      differ : {A : Type 0} (x : A) (q : Asked) → tree x ≡ Reading.refused q → ⊥
      differ x q e = never cc
