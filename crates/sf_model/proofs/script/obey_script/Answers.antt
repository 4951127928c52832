-- the commands that lines say are of the callers of a script, and their run is its answer
use Rattle.std.specs.Prelude.{string_bytes}
use Rattle.sf_model.proofs.Runs.{read_within, answered}
use Rattle.sf_model.proofs.script.obey_script.Goals as goal

pub obey_all-requires : goal.obey_all-requires
obey_all-requires c = rw (c.as_slice.ensures.value, c.new-group.ensures) (read_within _ _ c.in_ok-commands.ensures.read)

pub returns-clause-obeyed : goal.returns-clause-obeyed
returns-clause-obeyed c = answered c.args.input.now (string_bytes c.in_ok-lines.lines) _ _ _ _ c.new-group.ensures c.as_slice.ensures.value c.in_ok-commands.ensures.read c.in_ok-lines.ensures.obeyed
