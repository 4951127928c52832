-- the four lines of a drive, and its exit status
use Rattle.std.specs.Prelude.{ℕ, Bool, true, false, if◌then◌else◌, ◌==◌, List, ◌++◌, codes, decimal}
use Rattle.sf_replay_check.specs.Checker.{cause_text}
use Rattle.sf_replay_check.specs.declared.checking.Verdict.{Verdict}
use Rattle.sf_replay_check.specs.declared.checking.Verdict.TheVariants.{Legal, Illegal}
use Rattle.sf_cli_drive.specs.declared.progress.ProgressLine.{ProgressLine}
use Rattle.sf_cli_drive.specs.declared.report.Report.{Report}
use Rattle.sf_cli_drive.specs.declared.report.DriveEnding.{DriveEnding}
use Rattle.sf_cli_drive.specs.declared.report.DriveEnding.TheVariants.{Passed, Failed, OutOfMemory}

abbrev pub verdict_text : Verdict → List ℕ
verdict_text Legal = codes "history legal"
verdict_text (Illegal index cause) = codes "event " ++ (decimal index ++ (codes ": " ++ cause_text cause))

abbrev pub totals_text : Bool → List ℕ
totals_text true = codes "equal"
totals_text false = codes "differ"

abbrev pub report_text : Report → List ℕ
report_text r =
    codes "gets " ++ (decimal r.gets ++ (codes "\nanswers " ++ (decimal r.answers ++ (codes "\ntotals " ++ (totals_text r.totals_equal ++ (codes "\n" ++ verdict_text r.verdict))))))

-- how far the first thread of a drive is
abbrev pub progress_text : ProgressLine → List ℕ
progress_text p = decimal p.seconds ++ (codes " s: " ++ (decimal p.made ++ (codes " of " ++ (decimal p.gets ++ codes " gets on the first thread"))))

abbrev pub is_legal : Verdict → Bool
is_legal Legal = true
is_legal (Illegal index cause) = false

-- it passes where every get was answered rightly, the totals agree, and the history is legal
abbrev pub ending_of : Report → DriveEnding
ending_of r = if r.gets == r.answers then (if r.totals_equal then (if is_legal r.verdict then Passed else Failed) else Failed) else Failed

abbrev pub status_of : DriveEnding → ℕ
status_of Passed = 0
status_of Failed = 1
status_of OutOfMemory = 2
