use Rattle.std.proofs.Common.{rules, ◌≡◌, ◌∙◌, ap, sym, map, string_bytes}
use Rattle.std.specs.Str.Parse.{ParsesUnsigned, ExplainsUnsignedError, HasUnsignedDigitsIfOk}
use Rattle.clap.specs.Words.{App, app_of, fault_of, is_simple_and_free}
use Rattle.sf_cli_drive.specs.Words.{drive_app}
use Rattle.sf_cli_drive.proofs.Options.{Parses, number_read, flag_read, threads_option, keys_option, gets_option, open_option, history_option}
use Rattle.sf_cli_drive.proofs.words.drive_line.Goals as goal

pub invariant_of-result : goal.invariant_of-result
invariant_of-result c =
    let p : Parses (map string_bytes c.args.words.now) c.in_ok-matches.matches = record { old = c.in_ok-command.command; is = c.in_ok-command.ensures.made; parsed = c.in_ok-matches.ensures.parsed; matches = c.in_ok-matches.ensures.matches } in
    let number = number_read _ (λ bs r. ParsesUnsigned 32 10 bs r × ExplainsUnsignedError 10 bs r × HasUnsignedDigitsIfOk bs r) (λ u x g. g.0) _ _ p in
    let threads = number _ _ _ threads_option c.get_one.result (λ none. c.get_one.ensures.none (search rules)) (λ text some. c.get_one.ensures.value text (search rules)) in
    let keys = number _ _ _ keys_option c.get_one-2.result (λ none. c.get_one-2.ensures.none (search rules)) (λ text some. c.get_one-2.ensures.value text (search rules)) in
    let gets = number _ _ _ gets_option c.get_one-3.result (λ none. c.get_one-3.ensures.none (search rules)) (λ text some. c.get_one-3.ensures.value text (search rules)) in
    record {
      threads_in_range = rw c.unwrap_or.ensures (threads.1, threads.2);
      keys_in_range = rw c.unwrap_or-2.ensures (keys.1, keys.2);
      gets_in_range = rw c.unwrap_or-3.ensures (gets.1, gets.2);
    }

pub returns-clause-asked : goal.returns-clause-asked
returns-clause-asked c =
    let p : Parses (map string_bytes c.args.words.now) c.in_ok-matches.matches = record { old = c.in_ok-command.command; is = c.in_ok-command.ensures.made; parsed = c.in_ok-matches.ensures.parsed; matches = c.in_ok-matches.ensures.matches } in
    let number = number_read _ (λ bs r. ParsesUnsigned 32 10 bs r × ExplainsUnsignedError 10 bs r × HasUnsignedDigitsIfOk bs r) (λ u x g. g.0) _ _ p in
    let flag = flag_read _ _ p in
    let threads = number _ _ _ threads_option c.get_one.result (λ none. c.get_one.ensures.none (search rules)) (λ text some. c.get_one.ensures.value text (search rules)) in
    let keys = number _ _ _ keys_option c.get_one-2.result (λ none. c.get_one-2.ensures.none (search rules)) (λ text some. c.get_one-2.ensures.value text (search rules)) in
    let gets = number _ _ _ gets_option c.get_one-3.result (λ none. c.get_one-3.ensures.none (search rules)) (λ text some. c.get_one-3.ensures.value text (search rules)) in
    let hashed = flag _ open_option c.get_flag.result
    (λ none. c.get_flag.ensures.none (search rules)) (λ some. c.get_flag.ensures.value (search rules)) (λ other. c.get_flag.ensures.other (search rules)) in
    let history = flag _ history_option c.get_flag-2.result
    (λ none. c.get_flag-2.ensures.none (search rules)) (λ some. c.get_flag-2.ensures.value (search rules)) (λ other. c.get_flag-2.ensures.other (search rules)) in
    (c.unwrap_or.ensures ∙ threads.0, c.unwrap_or-2.ensures ∙ keys.0, c.unwrap_or-3.ensures ∙ gets.0, hashed, history)

pub returns-clause-refused : goal.returns-clause-refused
returns-clause-refused c =
    let is : app_of c.in_ok-command.command ≡ drive_app = c.in_ok-command.ensures.made in
    ap (λ (a : App). fault_of a (map string_bytes c.args.words.now)) (sym is) ∙ c.in_ok-matches.ensures.kinds (ap is_simple_and_free is)
