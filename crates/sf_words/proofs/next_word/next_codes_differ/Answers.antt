use Rattle.sf_words.proofs.NextCodes.{next_code_one}
use Rattle.sf_words.proofs.next_word.next_codes_differ.Goals as goal

pub returns : goal.returns
returns c = next_code_one
