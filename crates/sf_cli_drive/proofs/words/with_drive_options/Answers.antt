use Rattle.std.proofs.Common.{rules, ap, ap₂, codes, ◌≡◌, ◌∙◌}
use Rattle.std.proofs.lemmas.Result.{IfOk-weaker}
use Rattle.clap.specs.Words.{app_of, rule_of, with_rule}
use Rattle.sf_cli_drive.specs.Words.{count_rule, switch_rule}
use Rattle.sf_cli_drive.specs.declared.line.TheConstants.{MOST_THREADS, MOST_KEYS, MOST_GETS}
use Rattle.sf_cli_drive.proofs.words.with_drive_options.Goals as goal

pub returns : goal.returns
returns c =
    let threads : rule_of c.count.result ≡ count_rule (codes "threads") MOST_THREADS = search rules in
    let keys : rule_of c.count-2.result ≡ count_rule (codes "keys") MOST_KEYS = search rules in
    let gets : rule_of c.count-3.result ≡ count_rule (codes "gets") MOST_GETS = search rules in
    let open_is : rule_of c.switch.result ≡ switch_rule (codes "open") = search rules in
    let history : rule_of c.switch-2.result ≡ switch_rule (codes "history") = search rules in
    IfOk-weaker c.arg-5.result _ _ (λ with added. added.shape c.switch-2.ensures.local
    ∙ ap₂ with_rule (c.in_ok-arg-4.ensures.shape c.switch.ensures.local
    ∙ ap₂ with_rule (c.in_ok-arg-3.ensures.shape c.count-3.ensures.local
    ∙ ap₂ with_rule (c.in_ok-arg-2.ensures.shape c.count-2.ensures.local
    ∙ ap₂ with_rule (c.in_ok-arg.ensures.shape c.count.ensures.local
    ∙ ap (with_rule (app_of c.args.command)) threads) keys) gets) open_is) history) c.arg-5.ensures
