-- `list_name` puts the length and then the bytes, or nothing.
use Rattle.records.specs.Writing.PatchedLaws.{put_none}
use Rattle.reader.specs.Names.NamingLaws.{put_new}
use Rattle.reader.proofs.names.list_name.Goals as goal

pub returns-then-new : goal.returns-then-new
returns-then-new c = put_new c.if-new.true c.requires.inside c.put_word-next.ensures c.put_range.ensures

pub returns : goal.returns
returns c = rw c.if-new.false put_none
