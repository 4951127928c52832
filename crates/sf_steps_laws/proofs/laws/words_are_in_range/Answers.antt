use Rattle.sf_steps_laws.proofs.StagesWithin.{worlds_are_within, words_are_lawful}
use Rattle.sf_steps_laws.proofs.laws.words_are_in_range.Goals as goal

pub returns-clause-within : goal.returns-clause-within
returns-clause-within g c z s least is = worlds_are_within z s least is

pub returns-clause-lawful : goal.returns-clause-lawful
returns-clause-lawful g c z s least few is = words_are_lawful z s least few is
