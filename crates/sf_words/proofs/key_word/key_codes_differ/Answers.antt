use Rattle.sf_words.proofs.KeyCodes.{key_code_one}
use Rattle.sf_words.proofs.key_word.key_codes_differ.Goals as goal

pub returns : goal.returns
returns c = key_code_one
