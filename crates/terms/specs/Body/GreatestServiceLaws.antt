-- Laws of the service of the greatest variable: an event that is refused, the frame of an accepted one, what is told of it, and that it fits two bytes.
use Rattle.std.specs.Prelude.{◌≡◌, refl, List, ℕ, ◌≤◌, ◌<◌, Option, Some, None}
use Rattle.std.proofs.Common.{ap, arith}
use Rattle.records.specs.Format.Syntax.{Event}
use Rattle.records.specs.Format.Syntax.Event.{event}
use Rattle.records.specs.Format.HeadLaws.{Known}
use Rattle.records.specs.Gate.Gate.{Reading, read_event}
use Rattle.records.specs.Gate.Gate.Reading.{refused, tree}
use Rattle.records.specs.Gate.Reply.{through, answer_number}
use Rattle.records.specs.Gate.ReplyLaws.{number_refuses}
use Rattle.records.specs.Gate.Door.{event_door}
use Rattle.records.specs.Ends.Places.{event_places}
use Rattle.records.specs.Ends.PlacesLaws.{event_parts}
use Rattle.records.specs.declared.places.Places.{Places}
use Rattle.terms.specs.Standing.Frames.{FrameAt}
use Rattle.terms.specs.Standing.Accepted.{event_frame}
use Rattle.terms.specs.Standing.AcceptedLaws.{frame_told, parts_frame}
use Rattle.terms.specs.Body.Greatest.{greatest_variable, next_after}
use Rattle.terms.specs.Body.GreatestLaws.{next_after_formed}
use Rattle.terms.specs.Body.GreatestService.{greatest_told, greatest_in, greatest_record}
use Rattle.terms.specs.declared.variables.Frame.{Frame}
use Rattle.terms.specs.declared.greatest.Greatest.{Greatest}

pub part_refused : (s : List ℕ) {k : ℕ} → k ≡ answer_number (event_door (read_event s)) → (k ≡ 0 → ⊥)
    → record { number = k; part = 0; variable = 0 } ≡ greatest_record s
unfolding greatest_record through
part_refused s i z = let w = number_refuses (event_door (read_event s)) i z in
    rw w.refuses (ap (λ (n : ℕ). record { number = n; part = 0; variable = 0 }) w.number_is)

-- the frame that an event's places tell, and what stands in it
pub record FrameOf (s : List ℕ) (e : Event) (f : Frame) : Type 0 where
  pub frame : FrameAt s f
  pub holds : greatest_variable frame.goal.item frame.ancestors.items frame.bets.items ≡ greatest_in e

pub frame_found : (s : List ℕ) → Known s → (e : Event) → read_event s ≡ tree e → {places : Places} → places ≡ event_places e
    → {f : Frame} → f ≡ event_frame places → FrameOf s e f
frame_found s known (event p g u b) q i j = rw (frame_told (event p g u b) i j) (record { frame = parts_frame (event_parts s known p g u b q); holds = refl })

pub part_told : (s : List ℕ) (e : Event) → read_event s ≡ tree e → {m : Option Greatest} → m ≡ greatest_in e → greatest_told m ≡ greatest_record s
unfolding greatest_record through event_door
part_told s e q i = rw (q, i) refl

-- the variable fits two bytes
below_next : (m : Option Greatest) → next_after m ≤ 65536 → (greatest_told m).variable < 65536
below_next None h = omega arith
below_next (Some g) h = omega arith

pub greatest_small : (s : List ℕ) → Known s → (greatest_record s).variable < 65536
unfolding greatest_record through event_door
greatest_small s known = go (read_event s) refl
  where
    go : (r : Reading Event) → read_event s ≡ r → (greatest_record s).variable < 65536
    go (refused q) i = rw i (omega arith)
    go (tree (event p g u b)) i =
        let w = event_parts s known p g u b i in
        rw i (below_next (greatest_variable g u b) (next_after_formed g u b w.formed.0 w.formed.1.1 w.formed.2.1))
