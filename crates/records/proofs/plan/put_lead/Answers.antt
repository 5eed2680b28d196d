use native.Mathlib.Omega.{arith}
use Rattle.records.specs.Writing.PatchedLaws.{put_none, put_then}
use Rattle.records.proofs.plan.put_lead.Goals as goal

pub put_byte-requires : goal.put_byte-requires
put_byte-requires c = let h = rw c.in-One.is at c.requires in omega arith

pub put_byte-next-requires : goal.put_byte-next-requires
put_byte-next-requires c = let h = rw c.in-Two.is at c.requires in omega arith

pub put_byte-requires-in-Two : goal.put_byte-requires-in-Two
put_byte-requires-in-Two c =
    let h = rw c.in-Two.is at c.requires in omega arith

pub returns-in-Bare : goal.returns-in-Bare
returns-in-Bare c = rw c.in-Bare.is put_none

pub returns-in-One : goal.returns-in-One
returns-in-One c = rw c.in-One.is c.put_byte.ensures

pub returns-in-Two : goal.returns-in-Two
returns-in-Two c =
    rw c.in-Two.is (put_then c.put_byte-next.ensures c.put_byte-in-Two.ensures)
