use Rattle.std.proofs.Common.{rules, Err, refl}
use Rattle.sf_fill_values.specs.declared.fault.LoadFault.TheVariants as fault
use Rattle.sf_fill.proofs.Bytes.{far_bytes, near_bytes, near_memory}
use Rattle.sf_fill.proofs.hit.Hit.bytes.Goals as goal

pub returns-in-Ok-clause-shown : goal.returns-in-Ok-clause-shown
returns-in-Ok-clause-shown g c = near_bytes _ _ _ c.in-Near.letter c.in-Ok.bytes (search rules) (search rules) c.bytes.ensures.answer c.bytes.ensures.keyed c.bytes.ensures.loaded

pub returns-in-Err-clause-shown : goal.returns-in-Err-clause-shown
returns-in-Err-clause-shown g c = near_memory _ _ _ c.in-Near.letter (search rules)

pub returns-in-Err-found-clause-shown : goal.returns-in-Err-found-clause-shown
returns-in-Err-found-clause-shown g c = far_bytes _ _ _ c.in-Far.found (Err fault.Memory) (Err fault.Memory) (search rules) (search rules) refl tt tt
