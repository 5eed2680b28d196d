-- `put_head` writes a node's own bytes.
use Rattle.records.specs.Writing.PatchedLaws.{put_then}
use Rattle.terms.proofs.write.put_head.Goals as goal

pub returns-in-Variable : goal.returns-in-Variable
returns-in-Variable c = rw c.in-Variable.is (put_then c.put_byte-e.ensures c.put_word.ensures)

pub returns-in-Symbol : goal.returns-in-Symbol
returns-in-Symbol c = rw c.in-Symbol.is (put_then (put_then c.put_byte-e-in-Symbol.ensures c.put_word-e.ensures) c.put_byte.ensures)
