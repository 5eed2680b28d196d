-- Laws of emitting: an output that is too short, a record that is too long, and a record that is written, which is its head and its body.
use Rattle.std.specs.Prelude.{◌≡◌, refl, List, ◌++◌, ℕ, ◌+◌, ◌-◌, ◌≤◌, ◌<◌, length}
use Rattle.std.proofs.Common.{◌∙◌, arith, le-leb, length-append}
use Rattle.std.proofs.lemmas.Bool.{lt-leb}
use Rattle.records.specs.Format.Encode.{record_of, record_head}
use Rattle.records.specs.Gate.Question.{question_number}
use Rattle.records.specs.Gate.Question.Question.{output, fits}
use Rattle.records.specs.Gate.Reply.{refused, gives, on_yes}
use Rattle.records.specs.Gate.ReplyLaws.{receipted_refused, receipted_given}
use Rattle.records.specs.Gate.DoorLaws.{room_short, room_enough}
use Rattle.records.specs.Writing.Patched.{Put}
use Rattle.records.specs.Writing.PatchedLaws.{put_then}
use Rattle.records.specs.Writing.Emitted.{emit_answer, Emitted}

-- an output that is too short, a record that is too long, and a record that is written
module _ (room : ℕ) (rec : List ℕ) where
  emit_short : room < 32768 → emit_answer room rec ≡ refused output
  unfolding emit_answer
  emit_short h = room_short _ h

  emit_long : 32768 ≤ room → 32768 < length rec → emit_answer room rec ≡ refused fits
  unfolding emit_answer on_yes
  emit_long h k = room_enough _ h ∙ rw (lt-leb (length rec) 32768 k)

  emit_whole : 32768 ≤ room → length rec ≤ 32768 → emit_answer room rec ≡ gives rec
  unfolding emit_answer on_yes
  emit_whole h k = room_enough _ h ∙ rw (le-leb (length rec) 32768 k)

-- emitted from what a writer does: nothing, for either refusal, or all of the record
pub emitted_short : {before : List ℕ} (rec : List ℕ) → length before < 32768 → Emitted before rec (record { number = 5; length = 0 }) before
unfolding question_number
emitted_short {before} rec h = receipted_refused (λ b. b) before (emit_short (length before) rec h) refl

pub emitted_long : {before : List ℕ} (rec : List ℕ) → 32768 ≤ length before → 32768 < length rec → Emitted before rec (record { number = 10; length = 0 }) before
unfolding question_number
emitted_long {before} rec h k = receipted_refused (λ b. b) before (emit_long (length before) rec h k) refl

pub emitted_whole : {before rec after : List ℕ} {n : ℕ} → 32768 ≤ length before → length rec ≤ 32768 → Put before 0 rec after n
    → Emitted before rec (record { number = 0; length = n }) after
emitted_whole {before} {rec} h k p = receipted_given (λ b. b) before (emit_whole (length before) rec h k) p (omega arith)

pub length_record_of : (body : List ℕ) → length (record_of body) ≡ 3 + length body
unfolding record_of
length_record_of body = simp length-append (omega arith)

-- a record is its head and its body
pub record_head_body : {n : ℕ} (body : List ℕ) → n ≡ 3 + length body → record_head n ++ body ≡ record_of body
unfolding record_of
record_head_body {n} body e = let k : n - 2 ≡ 1 + length body = omega arith in rw k refl

-- and is written by them, one after the other
pub put_record : {before between body after : List ℕ} {n next end : ℕ} → n ≡ length (record_of body)
    → Put before 0 (record_head n) between next → Put between next body after end → Put before 0 (record_of body) after end
put_record {body = body} e p q = rw (record_head_body body (e ∙ length_record_of body)) at (put_then p q)
