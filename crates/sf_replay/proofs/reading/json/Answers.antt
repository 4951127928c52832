use Rattle.std.proofs.Common.{sym}
use Rattle.sf_replay.proofs.Lines.{json_read, json_none}
use Rattle.sf_replay.proofs.reading.json.Goals as goal

pub returns-in-Ok : goal.returns-in-Ok
returns-in-Ok c = sym (json_read c.args.line.now _ c.in-Ok.ensures.ok.0 c.in-Ok.ensures.ok.1)

pub returns-else-is_memory : goal.returns-else-is_memory
returns-else-is_memory c = sym (json_none c.args.line.now (c.in-Err.ensures.err (λ memory. let is = c.is_memory.ensures.1 memory in let isnt = c.if-is_memory.false in cc)))
