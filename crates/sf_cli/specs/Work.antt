-- the subcommands by their names, and the words that say what an engine is to show
use Rattle.std.specs.Prelude.{ℕ, false, List, [], ◌∷◌, codes}
use Rattle.sf_cli_engines.specs.Engines.{name_of}
use Rattle.sf_cli_engines.specs.declared.engine.Engine.TheVariants as engine
use Rattle.sf_cli_engines.specs.declared.engine.Judged.TheVariants as judged
use Rattle.sf_cli_engines.specs.declared.engine.Shown.TheVariants as shown
use Rattle.sf_cli_engines.specs.declared.engine.Form.{Form}
use Rattle.sf_cli_engines.specs.declared.engine.Form.TheVariants.{Lines, History, Timed, Picture, All, TimedAll, Merged}
use Rattle.sf_cli.specs.declared.table.Work.{Work}
use Rattle.sf_cli.specs.declared.table.Work.TheVariants.{Engine, Drive, Bench}

abbrev pub work_name_of : Work → List ℕ
work_name_of (Engine e) = name_of e
work_name_of Drive = codes "drive"
work_name_of Bench = codes "bench"

-- what the rows of the table do, in their order
abbrev pub works : List Work
works = Engine (engine.Run false) ∷ Engine (engine.Steps shown.Lines) ∷ Engine (engine.Check judged.AsItStands) ∷ Engine engine.Merge ∷ Drive ∷ Bench ∷ []

-- the words after an engine's name that ask it to show this: lines need none
abbrev pub options_of : Form → List (List ℕ)
options_of Lines = []
options_of History = codes "--history" ∷ []
options_of Timed = codes "--timed" ∷ []
options_of Picture = codes "--svg" ∷ []
options_of All = codes "--all" ∷ []
options_of TimedAll = codes "--timed" ∷ codes "--all" ∷ []
options_of (Merged judged.AsItStands) = codes "--merge" ∷ []
options_of (Merged judged.InTime) = codes "--merge" ∷ codes "--timed" ∷ []
options_of (Merged judged.Drawn) = codes "--merge" ∷ codes "--svg" ∷ []
options_of (Merged judged.EachKey) = codes "--merge" ∷ codes "--all" ∷ []
options_of (Merged judged.EachKeyInTime) = codes "--merge" ∷ codes "--timed" ∷ codes "--all" ∷ []
