use Rattle.terms.specs.Unifier.EqualityLaws.{clashed, beyond_record, beyond_output, has_room, written}
use Rattle.std.proofs.Common.{arith}
use Rattle.terms.proofs.equality.unifier_in.Goals as goal

pub returns-in_default : goal.returns-in_default
returns-in_default c = record { each = λ s t f g e h. clashed s t (c.in_default.ensures.each s t f g e h) }

pub returns-then-length-gt-RECORD_LIMIT : goal.returns-then-length-gt-RECORD_LIMIT
returns-then-length-gt-RECORD_LIMIT c = record { each = λ s t f g e h. beyond_record (c.in-Some.ensures.each s t f g e h) (omega arith) }

pub returns-then-out-length : goal.returns-then-out-length
returns-then-out-length c = record { each = λ s t f g e h. beyond_output (c.in-Some.ensures.each s t f g e h) (omega arith) (omega arith) }

pub put_unifier-requires : goal.put_unifier-requires
put_unifier-requires c =
    let v = c.requires.layable in has_room (c.in-Some.ensures.each _ _ v.first.formed v.second.formed v.first.same v.second.same) (omega arith) (omega arith)

pub returns : goal.returns
returns c = record { each = λ s t f g e h. written (c.in-Some.ensures.each s t f g e h) (omega arith) (omega arith) c.put_unifier.ensures }
