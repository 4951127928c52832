-- the words of a drive, the subcommand's name first: what clap makes of five options
use Rattle.std.specs.Prelude.{◌≡◌, ℕ, Bool, false, List, Some, pos, codes}
use Rattle.std.specs.Option.{option_map_or}
use Rattle.std.specs.Str.{bytes_eq}
use Rattle.std.specs.Str.Parse.{digits_value, without_leading_plus}
use Rattle.clap.specs.Words.{App, Row, Rule, Text, matches_of, new_app, new_rule, one_of, with_rule}
use Rattle.clap.specs.declared.builder.action.ArgAction.TheVariants.{Set, SetTrue}
use Rattle.clap.specs.declared.builder.value_parser.ValueParser.TheVariants.{Bool as a_bool, Signed}
use Rattle.sf_cli_drive.specs.declared.line.DriveLine.{DriveLine}
use Rattle.sf_cli_drive.specs.declared.line.TheConstants.{MOST_THREADS, MOST_KEYS, MOST_GETS}

-- an option whose value is a number from 1 to a greatest one
abbrev pub count_rule : Text → ℕ → Rule
count_rule name greatest = record (new_rule name) {
  long = Some name;
  action = Some Set;
  value_names = 1;
  parser = Some (Signed (pos 1) (pos greatest));
}

-- an option that takes no value
abbrev pub switch_rule : Text → Rule
switch_rule name = record (new_rule name) { long = Some name; action = Some SetTrue; parser = Some a_bool }

-- a command with the options of a drive
abbrev pub with_drive_rules : App → App
with_drive_rules app = with_rule (with_rule (with_rule (with_rule (with_rule app
    (count_rule (codes "threads") MOST_THREADS)) (count_rule (codes "keys") MOST_KEYS)) (count_rule (codes "gets") MOST_GETS))
    (switch_rule (codes "open"))) (switch_rule (codes "history"))

-- the command of a drive
abbrev pub drive_app : App
drive_app = with_drive_rules (new_app (codes "drive"))

-- the number that an option is given, or this one where it is absent
abbrev pub number_in : List Row → Text → ℕ → ℕ
number_in rows name absent = option_map_or (λ text. digits_value 10 (without_leading_plus text)) (one_of name rows) absent

-- an option is there
abbrev pub is_in : List Row → Text → Bool
is_in rows name = option_map_or (λ text. bytes_eq text (codes "true")) (one_of name rows) false

-- how much a drive does that these words ask for
abbrev pub IsAskedLine : List Text → DriveLine → Type 0
IsAskedLine words line =
    (line.threads ≡ number_in (matches_of drive_app words) (codes "threads") 4)
    × (line.keys ≡ number_in (matches_of drive_app words) (codes "keys") 8)
    × (line.gets ≡ number_in (matches_of drive_app words) (codes "gets") 100)
    × (line.«open» ≡ is_in (matches_of drive_app words) (codes "open"))
    × (line.history ≡ is_in (matches_of drive_app words) (codes "history"))
