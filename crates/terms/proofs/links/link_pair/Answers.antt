-- `link_pair` stores one link.
use native.Mathlib.Omega.{arith}
use Rattle.terms.specs.Values.LinksLaws.{no_pair_linked, beyond_linked, pair_linked}
use Rattle.terms.proofs.links.link_pair.Goals as goal

pub returns-in_default : goal.returns-in_default
returns-in_default c = no_pair_linked c.word_at.ensures c.in_default.is

pub returns-then-v-links : goal.returns-then-v-links
returns-then-v-links c = pair_linked c.word_at.ensures c.in-Some.is c.if-v-links.true

pub returns-else-v-links : goal.returns-else-v-links
returns-else-v-links c = beyond_linked c.word_at.ensures c.in-Some.is (omega (arith, c.if-v-links.false))
