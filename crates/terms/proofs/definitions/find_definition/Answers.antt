-- `find_definition` searches behind the count.
use Rattle.terms.specs.Body.DefinitionLaws.{program_row, program_searched, program_counted}
use Rattle.terms.proofs.definitions.find_definition.Goals as goal

pub among-requires : goal.among-requires
among-requires c = program_row c.requires c.word_at.ensures c.in-Some.is

pub returns-in-Some : goal.returns-in-Some
returns-in-Some c = λ d. program_searched d _ _ c.word_at.ensures c.in-Some.is c.among.ensures

pub returns-in-None : goal.returns-in-None
returns-in-None c = λ d. program_counted d c.word_at.ensures c.in-None.is
