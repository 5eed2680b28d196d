use mathlib.Core.Path.{sym, ◌∙◌}
use Rattle.reader.specs.Names.NodeLaws.{full_marks}
use Rattle.reader.specs.Names.NamingLaws.{entered_none}
use Rattle.reader.proofs.names.enter_item.Goals as goal

pub returns-then-takes_name : goal.returns-then-takes_name
returns-then-takes_name c = rw (sym c.takes_name.ensures ∙ c.if-takes_name.true) c.enter_name.ensures

pub returns : goal.returns
returns c = rw (sym c.takes_name.ensures ∙ c.if-takes_name.false) (entered_none c.args.trie.now.filled (full_marks _ c.args.trie.now.filled.full))
