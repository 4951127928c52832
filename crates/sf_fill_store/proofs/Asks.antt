-- askings that met other keys' calls, and how the last one ends
use Rattle.std.proofs.Common.{ℕ, suc, List}
use Rattle.sf_group_rows.specs.declared.outcomes.Finished.{Finished}
use Rattle.sf_group_rows.specs.declared.outcomes.Finished.TheVariants.{Done, Held}
use Rattle.sf_group_rows.specs.Tokens.{CallerValue, TicketValue, LetterValue, SettledValue}
use Rattle.sf_group_rows.specs.Begins.{HasJoined}
use Rattle.sf_group_rows.specs.Finishes.{IsReady}
use Rattle.sf_fill_keys.specs.Spaces.{SpaceId}
use Rattle.sf_fill_keys.specs.Spots.{IsInSpace, IsOther}
use Rattle.sf_fill_counters.specs.declared.totals.GetCounts.{GetCounts}
use Rattle.sf_fill_values.specs.FillValue.{Filled, FitsFill}
use Rattle.sf_fill_store.specs.Found.{Led, HasMissed}
use Rattle.sf_fill_store.specs.Replies.{counts_of}
use Rattle.sf_fill_counters.specs.Totals.{IsOfOneGet}

-- what a get counts whose caller led
pub led_counts : (finished : Finished (CallerValue Filled) (LetterValue Filled) (SettledValue Filled)) (n : GetCounts) → IsOfOneGet n → IsOfOneGet (counts_of (Led finished n))
led_counts (Done c l) n one = one
led_counts (Held s) n one = one

-- one more asking that met another key's call
pub missed_again : (s : SpaceId) (key : List ℕ) (k n : ℕ) (c u d : CallerValue Filled) (t : TicketValue Filled) (l : LetterValue Filled) → HasMissed s key k n c u → HasJoined u k t → IsReady FitsFill t d l
    → IsInSpace s l.value.spot → IsOther l.value.spot key → HasMissed s key k (suc n) c d
missed_again s key k n c u d t l before joined ready within other = (u, before, record { ticket = t; letter = l; joined = joined; ready = ready; space = within; other = other })
