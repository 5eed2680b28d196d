-- The count of names tells whether the name is new.
use Rattle.std.proofs.Common.{arith}
use Rattle.records.specs.Ends.Range.{size, cut}
use Rattle.records.specs.Ends.RangeLaws.{length_cut}
use Rattle.reader.specs.Names.NamingLaws.{entered}
use Rattle.reader.proofs.names.enter_name.Goals as goal

pub name_number-number-requires : goal.name_number-number-requires
unfolding cut size
name_number-number-requires c = (omega (arith, length_cut c.requires.inside, c.requires.from_bound.0), c.requires.from_bound.1)

pub returns : goal.returns
unfolding cut size
returns c = entered c.requires.inside c.requires.from_bound.2 c.name_number-number.ensures c.list_name-listed.ensures
