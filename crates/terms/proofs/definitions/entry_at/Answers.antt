-- `entry_at` reads the definition that stands there.
use Rattle.terms.specs.Body.DefinitionLaws.{entry_is, entry_headed, entry_ended, entry_read}
use Rattle.terms.proofs.definitions.entry_at.Goals as goal

pub returns-in_err-signature : goal.returns-in_err-signature
returns-in_err-signature c = λ d. entry_headed d c.definition_head.ensures c.in_err-signature.was

pub returns-in_err-definition_end : goal.returns-in_err-definition_end
returns-in_err-definition_end c = λ d. entry_ended d c.definition_end.ensures c.in_err-definition_end.was

pub returns : goal.returns
returns c = λ d. entry_read (entry_is d c.definition_head.ensures c.in_ok-signature.was c.definition_end.ensures c.in_ok-definition_end.was)
