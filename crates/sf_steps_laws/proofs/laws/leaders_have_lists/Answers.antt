use Rattle.sf_steps_laws.proofs.Lined.{lists_stay, leaders_have_lists}
use Rattle.sf_steps_laws.proofs.Apart.{delivers_are_apart}
use Rattle.sf_steps_laws.proofs.laws.leaders_have_lists.Goals as goal

pub returns-clause-lists : goal.returns-clause-lists
returns-clause-lists g c z s is a k n own leads = leaders_have_lists z s is a k n own leads

pub returns-clause-stay : goal.returns-clause-stay
returns-clause-stay g c z s ts is k d top l others listed = lists_stay z s ts is k d top l others listed

pub returns-clause-apart : goal.returns-clause-apart
returns-clause-apart g c z s is a b m n l k first second same = delivers_are_apart z s is a b m n l k first second same
