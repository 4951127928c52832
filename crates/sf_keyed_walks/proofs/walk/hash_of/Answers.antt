use Rattle.std.proofs.Common.{refl}
use Rattle.sf_keyed_words.specs.Rule.{hash_of}
use Rattle.sf_keyed_walks.proofs.walk.hash_of.Goals as goal

-- src/walk.rt:98:1
pub returns : goal.returns
unfolding hash_of
returns c = refl
