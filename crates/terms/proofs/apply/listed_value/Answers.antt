-- `listed_value` looks with no links.
use mathlib.Core.Path.{refl}
use Rattle.terms.specs.Values.LinksLaws.{linked_none}
use Rattle.terms.proofs.apply.listed_value.Goals as goal

pub linked_value-requires : goal.linked_value-requires
linked_value-requires c = record { pairs_of = (_, record { listed = c.requires.pairs_listed.1; linked = linked_none refl }); by_index = c.requires.by_index; out_len = c.requires.out_len }

pub returns : goal.returns
returns c = λ bets l to q. c.linked_value.ensures bets (record { listed = l; linked = linked_none refl }) to q
