use Rattle.sf_words.proofs.CallCodes.{call_code_one}
use Rattle.sf_words.proofs.call_word.call_codes_differ.Goals as goal

pub returns : goal.returns
returns c = call_code_one
