-- what a drive found, and what it says of it
use Rattle.std.specs.Prelude.{◌≡◌, ◌⊎◌, ℕ, ◌*◌, Bool, true, false, List, [], ◌++◌, length, map, All, IsPermutation, Ok, codes, nat_eq}
use Rattle.std.specs.List.{enumerate_from, flat_map, sum_by}
use Rattle.sf_history.specs.declared.event.Event.{Event}
use Rattle.sf_history.specs.declared.event.Event.TheVariants.{Lead, Enter, Forget, ForgetCall, Settle, Handed}
use Rattle.sf_group_rows.specs.Tokens.{GroupValue}
use Rattle.sf_replay_check.specs.Checker.{IsVerdictOf}
use Rattle.sf_replay.specs.Record.{TextEvent}
use Rattle.sf_replay.specs.TextKeys.{with_text_keys}
use Rattle.sf_replay.specs.Written.{history_text}
use Rattle.sf_fill_keys.specs.Spaces.{SpaceId}
use Rattle.sf_cli_drive.specs.declared.jobs.ThreadEnd.{ThreadEnd}
use Rattle.sf_cli_drive.specs.declared.line.DriveLine.{DriveLine}
use Rattle.sf_cli_drive.specs.declared.report.Report.{Report}
use Rattle.sf_cli_drive.specs.Jobs.{IsPartOf}
use Rattle.sf_cli_drive.specs.Reports.{report_text}

-- the logs of a drive keep no values
abbrev pub DriveEvent : Type 0
DriveEvent = Event ℕ (Unit {0})

-- What a drive of so many threads found, so many gets each, that did this: the gets of all, their right answers, and the verdict on the history, in which
-- each event of each log stands once, and nothing else. No thread owes anything.
pub record IsFoundBy (threads gets : ℕ) (parts : List ThreadEnd) (report : Report) (history : List DriveEvent) : Type 0 where
  pub each : length parts ≡ threads
  pub made : report.gets ≡ threads * gets
  pub answers : report.answers ≡ sum_by (λ part. part.answers) parts
  pub merged : IsPermutation (flat_map (λ part. part.log.items) parts) history
  pub settled : All (λ part. part.settled ≡ true) parts
  pub verdict : IsVerdictOf nat_eq history report.verdict

-- what a drive found: each part, in the order of the threads, is what came of its thread's job, over one key space and in one group, and this is what it found by them
abbrev pub IsFound : DriveLine → Report → List DriveEvent → Type 0
IsFound line report history =
    (space : SpaceId) × (group : GroupValue) × (parts : List ThreadEnd) × All (λ at. IsPartOf space group line.keys line.gets at.0 at.1) (enumerate_from 0 parts)
    × IsFoundBy line.threads line.gets parts report history

-- in records each call of a drive is settled with the empty text
abbrev pub empty_settled : Event (List ℕ) (Unit {0}) → TextEvent
empty_settled (Lead by key call own) = Lead by key call own
empty_settled (Enter by key call member) = Enter by key call member
empty_settled (Forget by key closed) = Forget by key closed
empty_settled (ForgetCall by key call hit) = ForgetCall by key call hit
empty_settled (Settle by call result joiners) = Settle by call (Ok []) joiners
empty_settled (Handed by call) = Handed by call

abbrev pub drive_records : List DriveEvent → List ℕ
drive_records history = history_text (map empty_settled (with_text_keys history))

-- what a drive says: its report, or the records of its history where it is asked to show them
abbrev pub said_text : Bool → Report → List DriveEvent → List ℕ
said_text false report history = report_text report ++ codes "\n"
said_text true report history = drive_records history

-- what a drive may write: what it found, or the one line of its want of memory
abbrev pub IsSaid : DriveLine → List ℕ → Type 0
IsSaid line text = (text ≡ codes "out of memory\n")
    ⊎ ((report : Report) × (history : List DriveEvent) × IsFound line report history × (text ≡ said_text line.history report history))
