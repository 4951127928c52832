-- what the words of the command line ask for, the program's name first
use Rattle.std.specs.Prelude.{◌≡◌, ◌⊎◌, ℕ, List, [], ◌∷◌, drop, Some, Result, Ok, Err, codes, slice_get}
use Rattle.clap.specs.Words.{HasKind, Kinds, fault_of, kind_of}
use Rattle.clap.specs.declared.error.Error.{Error}
use Rattle.clap.specs.declared.error.kind.ErrorKind.{ErrorKind}
use Rattle.clap.specs.declared.error.kind.ErrorKind.TheVariants.{DisplayHelp, DisplayVersion, OutOfMemory}
use Rattle.sf_cli_engines.specs.Engines.{name_of, shown_by}
use Rattle.sf_cli_engines.specs.declared.engine.Engine as engine
use Rattle.sf_cli_drive.specs.Words.{IsAskedLine, drive_app}
use Rattle.sf_cli.specs.Work.{options_of}
use Rattle.sf_cli.specs.declared.usage.Mistake.TheVariants.{Said}
use Rattle.sf_cli.specs.declared.usage.Subcommand.{Subcommand}
use Rattle.sf_cli.specs.declared.usage.Subcommand.TheVariants.{Engine, Drive}
use Rattle.sf_cli.specs.declared.usage.Usage.{Usage}
use Rattle.sf_cli.specs.declared.usage.Usage.TheVariants.{Help, Mistake}

-- the words ask for this engine: they name it, say what it shows, and no more
abbrev pub AskFor : List (List ℕ) → engine.Engine → Type 0
AskFor words e = drop 1 words ≡ name_of e ∷ options_of (shown_by e)

-- the words name a drive
abbrev pub NameDrive : List (List ℕ) → Type 0
NameDrive words = slice_get words 1 ≡ Some (codes "drive")

-- clap's answer is a text that was asked for
abbrev pub IsShown : ErrorKind → Type 0
IsShown kind = (kind ≡ DisplayHelp) ⊎ (kind ≡ DisplayVersion)

-- what is said of clap's answer in place of matches: the text that was asked for, or a mistake, or want of memory
abbrev pub IsUsageOf : ErrorKind → Usage → Type 0
IsUsageOf kind (Help text) = IsShown kind
IsUsageOf kind (Mistake (Said error)) = (kind_of error ≡ OutOfMemory) ⊎ ((kind_of error ≡ kind) × (IsShown kind → ⊥))
IsUsageOf kind (Mistake mistake) = ⊥

-- want of memory, said as a mistake
abbrev pub IsWantOfMemory : Usage → Type 0
IsWantOfMemory (Mistake (Said error)) = kind_of error ≡ OutOfMemory
IsWantOfMemory usage = ⊥

-- what is said of words that clap refuses for one of these kinds of reason, or for want of memory
abbrev pub IsRefusedBy : Kinds → Usage → Type 0
IsRefusedBy kinds usage = (error : Error) × HasKind kinds error × IsUsageOf (kind_of error) usage

-- the words ask for this subcommand; where they are refused, they ask for no engine, and for no drive but for want of memory
abbrev pub IsAskedBy : List (List ℕ) → Result Subcommand Usage → Type 0
IsAskedBy words (Ok (Engine e)) = AskFor words e
IsAskedBy words (Ok (Drive line)) =
    NameDrive words × IsAskedLine (drop 1 words) line × (fault_of drive_app (drop 1 words) ≡ [])
IsAskedBy words (Err usage) = ((e : engine.Engine) → ¬ AskFor words e)
    × (NameDrive words → IsRefusedBy (fault_of drive_app (drop 1 words)) usage)
