use Rattle.sf_steps_laws.proofs.Tickets.{tickets_are_served}
use Rattle.sf_steps_laws.proofs.laws.tickets_are_served.Goals as goal

pub returns : goal.returns
returns g c z s is a k n d held = tickets_are_served z s is a k n d held
