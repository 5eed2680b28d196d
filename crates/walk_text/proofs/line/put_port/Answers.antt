use Rattle.std.proofs.Common.{arith}
use Rattle.walk_text.specs.Line.{port_word, byte_word}
use Rattle.walk_text.specs.LineLaws.{other_word}
use Rattle.walk_text.proofs.line.put_port.Goals as goal

pub returns-in-1-clause-put : goal.returns-in-1-clause-put
unfolding byte_word port_word
returns-in-1-clause-put c = rw c.in-1.is c.put_part.ensures

pub returns-in-2-clause-put : goal.returns-in-2-clause-put
unfolding byte_word port_word
returns-in-2-clause-put c = rw c.in-2.is c.put_part-in-2.ensures

pub returns-in-3-clause-put : goal.returns-in-3-clause-put
unfolding byte_word port_word
returns-in-3-clause-put c = rw c.in-3.is c.put_part-in-3.ensures

pub returns-in_default-clause-put : goal.returns-in_default-clause-put
unfolding port_word
returns-in_default-clause-put c = rw (other_word c.args.port (λ h. omega arith) (λ h. omega arith) (λ h. omega arith)) c.put_part-in_default.ensures
