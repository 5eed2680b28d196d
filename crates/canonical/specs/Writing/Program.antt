-- What the measuring of a program answers, before anything is written.
use Rattle.std.specs.Prelude.{cond, List, length, Option, Some, None}
use Rattle.records.specs.Format.Syntax.{Definition}
use Rattle.records.specs.Format.Encode.{each, definition_bytes}
use Rattle.records.specs.Gate.RecordRules.{every}
use Rattle.canonical.specs.Writing.Service.{locals_fit}
use Rattle.canonical.specs.declared.program.Survey.{Survey}

-- how many definitions there are, with their bytes; none where question 9 says no
unfoldable pub surveyed : List Definition → Option Survey
surveyed ds = cond (every locals_fit ds) (Some (record { count = length ds; size = length (each definition_bytes ds) })) None
