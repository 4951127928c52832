-- want of memory for the input is an answer to it
use Rattle.sf_cli_engines.proofs.Answered.{memory_part, memory_written}
use Rattle.sf_cli_engines.proofs.engine.Engine.answer_reader.Goals as goal

pub returns-in_err-write_line-in-Err-OutOfMemory-clause-part :
    goal.returns-in_err-write_line-in-Err-OutOfMemory-clause-part
returns-in_err-write_line-in-Err-OutOfMemory-clause-part g c = memory_part _ _ _ c.args.self _ _ c.write_line.ensures.part

pub returns-in_ok-write_line-in-Err-OutOfMemory-clause-written :
    goal.returns-in_ok-write_line-in-Err-OutOfMemory-clause-written
returns-in_ok-write_line-in-Err-OutOfMemory-clause-written g c = memory_written _ c.args.self _ _ c.in_ok-write_line-in-Err-OutOfMemory.ensures.ok
