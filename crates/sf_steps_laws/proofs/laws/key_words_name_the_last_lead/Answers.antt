use Rattle.sf_steps_laws.proofs.LastLed.{names_are_right}
use Rattle.sf_steps_laws.proofs.laws.key_words_name_the_last_lead.Goals as goal

pub returns : goal.returns
returns g c z s is = names_are_right z s is
