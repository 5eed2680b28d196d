-- The desk: the stepper over the readers of records, and over the unifier and the bodies of terms.
use Rattle.records.specs.Gate.Gate.{read_program, read_query, read_event}
use Rattle.terms.specs.Theory.Outcome.{unified_under}
use Rattle.terms.specs.Body.Body.{body}
use Rattle.stepper.specs.Services.Layers.{Layers}

abbrev pub layers : Layers
layers = record { read_program = read_program; read_query = read_query; read_event = read_event; unify = unified_under; body = body }
