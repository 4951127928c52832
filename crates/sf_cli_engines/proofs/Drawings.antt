-- what is said to have no order is shown by a picture
use Rattle.std.proofs.Common.{◌≡◌, ℕ, List, Bool, true, false}
use Rattle.sf_pictures.specs.Pictures.{IsPictureOf}
use Rattle.sf_cli_engines.specs.Drawing.{IsShownAs}
use Rattle.sf_cli_engines.specs.Timing.{timed_text}
use Rattle.sf_cli_engines.specs.declared.timing.Found.{Found}
use Rattle.sf_cli_engines.specs.declared.timing.Found.TheVariants.{Legal, NoOrder, Unplaced, Undecided}
use Rattle.sf_cli_engines.specs.declared.timing.TimedChecked.{TimedChecked}
use Rattle.sf_cli_engines.specs.declared.timing.TimedChecked.TheVariants.{Whole, Incomplete, BadRecord, OutOfMemory}

abbrev pub is_drawable : TimedChecked → Bool
is_drawable (Whole (NoOrder witness)) = true
is_drawable (Incomplete lost (NoOrder witness)) = true
is_drawable checked = false

pub shown_by_picture : (checked : TimedChecked) → is_drawable checked ≡ true → (text : List ℕ) → IsPictureOf (timed_text checked) text → IsShownAs checked text
shown_by_picture (Whole (NoOrder witness)) is text picture = picture
shown_by_picture (Whole (Legal n)) is text picture = cc
shown_by_picture (Whole (Unplaced event)) is text picture = cc
shown_by_picture (Whole Undecided) is text picture = cc
shown_by_picture (Incomplete lost (NoOrder witness)) is text picture = picture
shown_by_picture (Incomplete lost (Legal n)) is text picture = cc
shown_by_picture (Incomplete lost (Unplaced event)) is text picture = cc
shown_by_picture (Incomplete lost Undecided) is text picture = cc
shown_by_picture (BadRecord n) is text picture = cc
shown_by_picture OutOfMemory is text picture = cc
