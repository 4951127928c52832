use Rattle.std.proofs.Common.{◌∙◌, subst, List, ℕ}
use Rattle.sf_cli_drive.specs.Jobs.{IsGetOf}
use Rattle.sf_cli_drive.specs.Values.{value_of}
use Rattle.sf_cli_drive.proofs.Turning.{stated}
use Rattle.sf_cli_drive.proofs.jobs.get_entry.Goals as goal

pub is_value-requires : goal.is_value-requires
is_value-requires g c =
    stated g.O.Origin.loaded _ _ _ c.get-answer.result c.requires.values c.get-answer.ensures.loaded c.as_bytes-key.ensures.value (c.as_bytes-value.ensures.value ∙ c.requires.entry)

pub returns : goal.returns
returns g c few = subst (λ (k : List ℕ). IsGetOf g.N.Naming.space k c.args.getter.now c.get-answer.new.getter c.is_value.result) c.as_bytes-key.ensures.value (record {
  answer = c.get-answer.result;
  fresh = c.get-answer.ensures.fresh few;
  counted = c.get-answer.ensures.counted few;
  value = stated g.O.Origin.loaded _ _ _ c.get-answer.result c.requires.values c.get-answer.ensures.loaded (λ _. c.as_bytes-key.result.now) (λ _. value_of c.as_bytes-key.result.now);
  is_right = c.is_value.ensures;
})
