-- A reading that loses no byte: where each call gives the next bytes of the input, as many as it may or as there are, what is read of a record is
-- what is taken of the input, and so the text of the two slices is `printed`.
use Rattle.std.specs.Prelude.{◌≡◌, List, ℕ, ◌-◌, ◌≤◌, min, length, take, drop}
use Rattle.std.proofs.Math.Path.{refl}
use Rattle.std.proofs.Common.{sym, ap, ◌∙◌, arith, take-take}
use Rattle.std.proofs.Math.Decide.{dec_le}
use Rattle.records.specs.Gate.Question.{Asked}
use Rattle.records.specs.Gate.Gate.{refused, read_program}
use Rattle.records.specs.Gate.Reply.{through}
use Rattle.records.specs.Gate.Door.{program_door}
use Rattle.walk_text.specs.Input.{bytes_named, taken}
use Rattle.walk_text.specs.InputLaws.{named_field, taken_length, taken_front}
use Rattle.walk_text.specs.Text.{text, printed}
use Rattle.walk.specs.Reading.{RecordRead}

-- the calls gave the next bytes of the input, as far as it goes
pub record Faithful (input buffer : List ℕ) {r : ℕ} (w : RecordRead buffer r) : Type 0 where
  pub field_whole : w.field ≡ min 2 (length input)
  pub rest_whole : w.rest ≡ min (bytes_named (take w.field buffer)) (length input - w.field)
  pub bytes : take r buffer ≡ take r input

module _ (input buffer : List ℕ) {r : ℕ} (w : RecordRead buffer r) (f : Faithful input buffer w) where
  -- the field in the buffer is that of the input
  same_field : 2 ≤ length input → bytes_named (take w.field buffer) ≡ bytes_named input
  same_field h =
      let two : w.field ≡ 2 = omega (arith, f.field_whole) in
      let more : 2 ≤ r = omega (arith, two, w.length_is) in
      let same : take 2 buffer ≡ take 2 input = sym (take-take 2 r buffer more) ∙ ap (take 2) f.bytes ∙ take-take 2 r input more in
      rw (two, same) (named_field input)

  taken_size : r ≡ length (taken input)
  taken_size = go (dec_le 2 (length input))
    where
      go : Dec (2 ≤ length input) → r ≡ length (taken input)
      go (yes h) = omega (arith, w.length_is, f.field_whole, f.rest_whole, same_field h, taken_length input)
      go (no h) = omega (arith, w.length_is, f.field_whole, f.rest_whole, taken_length input)

  -- what is read of a record is what is taken of the input
  pub record_taken : take r buffer ≡ taken input
  record_taken = f.bytes ∙ taken_front input taken_size

  -- a refused program: nothing is read after it
  pub refused_printed : (q : Asked) → read_program (take r buffer) ≡ refused q → (query : List ℕ) → text (take r buffer) query ≡ printed input
  unfolding printed text through program_door
  refused_printed q h query = rw (sym record_taken, h) refl

-- the text of the two records that were read is the text of the input
pub read_printed : (input program query : List ℕ) {p q : ℕ} (a : RecordRead program p) (b : RecordRead query q) → Faithful input program a
    → Faithful (drop p input) query b → text (take p program) (take q query) ≡ printed input
unfolding printed
read_printed input program query a b f g = rw (record_taken input program a f, record_taken _ query b g, sym (taken_size input program a f)) refl
