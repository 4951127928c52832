use Rattle.sf_steps_laws.proofs.Changes.{keys_change, words_change}
use Rattle.sf_steps_laws.proofs.laws.words_change_by_turns.Goals as goal

pub returns-clause-keys : goal.returns-clause-keys
returns-clause-keys g c w k ts differs = keys_change w k ts differs

pub returns-clause-words : goal.returns-clause-words
returns-clause-words g c w seen l ts was isnt = words_change w seen l ts was isnt
