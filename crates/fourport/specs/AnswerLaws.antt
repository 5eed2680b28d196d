-- Laws of the layers' answers, for handing them on: a part has the start and the length of its range, and a value is short.
use Rattle.std.specs.Prelude.{◌≡◌, Bool, true, false, ℕ, ◌≤◌, ◌-◌, leb, Result, Ok, Err}
use Rattle.std.specs.Result.{result_unwrap_or}
use Rattle.std.proofs.Math.Path.{refl}
use Rattle.std.proofs.Math.Nat.{add-sub_cancel_left}
use Rattle.std.proofs.Common.{arith}
use Rattle.records.specs.Format.Syntax.{Event}
use Rattle.records.specs.Format.Syntax.Term.{var}
use Rattle.records.specs.Gate.Gate.{Reading, refused, tree}
use Rattle.records.specs.Gate.Question.{output}
use Rattle.records.specs.Gate.Receipt.{receipt_of}
use Rattle.records.specs.declared.questions.Refusal.{Refusal}
use Rattle.records.specs.Gate.Reply.{on_yes, through, answer_length}
use Rattle.records.specs.Gate.Door.{event_door, with_room}
use Rattle.records.specs.Format.Encode.{term_bytes}
use Rattle.records.specs.declared.put.Range.{Range}
use Rattle.terms.specs.Theory.Outcome.{value_limit, value}
use Rattle.terms.specs.Theory.OutcomeLaws.{Valued, within, beyond, valued}
use Rattle.terms.specs.Values.ValueService.{within_limit, bets_of, value_into, value_answer}
use Rattle.stepper.specs.Services.Lookup.{ProgramPart, range_of}

-- the range of a part
module _ {r : Range} (p : ProgramPart) (e : r ≡ range_of p) where
  pub range_in_order : r.from ≤ r.to
  range_in_order = rw e (omega arith)

  pub part_of_range : record { at = r.from; size = r.to - r.from } ≡ p
  part_of_range = rw (e, add-sub_cancel_left)

-- the length that is handed on of a receipt
pub length_told : (r : Result ℕ Refusal) → result_unwrap_or r 0 ≡ (receipt_of r).length
length_told (Ok n) = refl
length_told (Err e) = refl

-- the value service writes at most 8,192 bytes
pub value_short : (r : Reading Event) (room v : ℕ) → answer_length term_bytes (value_answer r room v) ≤ value_limit
unfolding value_answer value_into through event_door with_room on_yes answer_length
value_short (refused q) room v = omega arith
value_short (tree e) room v = put (leb 32768 room) (valued (bets_of e) (var v))
  where
    put : (b : Bool) → Valued (bets_of e) (var v) → answer_length term_bytes (on_yes output b (within_limit (value (bets_of e) v))) ≤ value_limit
    put false w = omega arith
    put true (within h i) = rw i h
    put true (beyond h i) = rw i (omega arith)
