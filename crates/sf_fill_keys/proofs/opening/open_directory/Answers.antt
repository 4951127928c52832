use Rattle.std.proofs.Common.{◌∙◌}
use Rattle.sf_fill_keys.proofs.Desks.{as_many, desks_of_directory}
use Rattle.sf_fill_keys.proofs.opening.open_directory.Goals as goal

pub returns-clause-count : goal.returns-clause-count
returns-clause-count c =
    c.in_ok-of_directory.field-0.ok.0 ∙ as_many c.in_ok-directory.dealt.items c.in_ok-of_directory.field-0.items c.args.desks c.in_ok-of_directory.ensures c.in_ok-directory.ensures.numbers

pub returns-clause-desks : goal.returns-clause-desks
returns-clause-desks c =
    desks_of_directory c.in_ok-directory.directory c.in_ok-directory.dealt.items c.in_ok-of_directory.field-0.items c.in_ok-of_directory.ensures c.in_ok-directory.ensures.desks
