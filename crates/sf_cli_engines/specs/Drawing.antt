-- what `sfctl check --svg` answers
use Rattle.std.specs.Prelude.{◌≡◌, ℕ, List, ◌++◌, codes, string_bytes}
use Rattle.sf_pictures.specs.Pictures.{IsPictureOf}
use Rattle.sf_cli_engines.specs.Timing.{IsTimedCheckOf, timed_text}
use Rattle.sf_cli_engines.specs.declared.drawing.Drawn.{Drawn}
use Rattle.sf_cli_engines.specs.declared.drawing.Drawn.TheVariants.{Picture, Line}
use Rattle.sf_cli_engines.specs.declared.timing.Found.{Found}
use Rattle.sf_cli_engines.specs.declared.timing.Found.TheVariants.{Legal, NoOrder, Unplaced, Undecided}
use Rattle.sf_cli_engines.specs.declared.timing.TimedChecked.{TimedChecked}
use Rattle.sf_cli_engines.specs.declared.timing.TimedChecked.TheVariants.{Whole, Incomplete, BadRecord, OutOfMemory}

-- how what is found is shown, by what is said of it: by a picture where events have no order, and else by the line
abbrev pub IsFoundShown : Found → List ℕ → List ℕ → Type 0
IsFoundShown (Legal n) line text = text ≡ line ++ codes "\n"
IsFoundShown (NoOrder witness) line text = IsPictureOf line text
IsFoundShown (Unplaced event) line text = text ≡ line ++ codes "\n"
IsFoundShown Undecided line text = text ≡ line ++ codes "\n"

abbrev pub IsShownAs : TimedChecked → List ℕ → Type 0
IsShownAs (Whole found) text = IsFoundShown found (timed_text (Whole found)) text
IsShownAs (Incomplete lost found) text = IsFoundShown found (timed_text (Incomplete lost found)) text
IsShownAs (BadRecord n) text = text ≡ timed_text (BadRecord n) ++ codes "\n"
IsShownAs OutOfMemory text = text ≡ timed_text OutOfMemory ++ codes "\n"

-- what is said of an input, which is shown by this picture, or by its line
abbrev pub IsDrawnFrom : List ℕ → Drawn → Type 0
IsDrawnFrom input (Picture checked picture) = IsTimedCheckOf input checked × IsShownAs checked (string_bytes picture)
IsDrawnFrom input (Line checked) = IsTimedCheckOf input checked × IsShownAs checked (timed_text checked ++ codes "\n")
