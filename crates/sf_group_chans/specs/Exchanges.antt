-- how often two askers tried to exchange a word
use Rattle.std.specs.Prelude.{ℕ}
use Rattle.sf_group_steps.specs.declared.view.View.{View}
use Rattle.sf_group_steps.specs.declared.asking.AskAttempt.{AskAttempt}
use Rattle.sf_group_steps.specs.Exchanges.{HasExchanged, HasTriedSo}
use Rattle.sf_group_chans.specs.declared.askers.Askers.{Askers}

module _ {V : Type 0} where
  -- of all turns that the two know then, so many more are exchanges of the first, and none of the second
  abbrev pub HaveExchanged : Askers → ℕ → View V → View V → Type 0
  HaveExchanged c n v w = HasExchanged c.sizes c.number n v w × HasExchanged c.sizes c.second 0 v w

  -- how often an asking of so many tries made an exchange: the first so often where all failed, and else at most so often; the second never
  abbrev pub HaveTriedSo : Askers → ℕ → View V → View V → AskAttempt → Type 0
  HaveTriedSo c tries v w r = HasTriedSo c.sizes c.number tries v w r × HasExchanged c.sizes c.second 0 v w

  -- the same from what each had known, where both know as much then
  abbrev pub HaveAskedSo : Askers → ℕ → View V → View V → View V → View V → AskAttempt → Type 0
  HaveAskedSo c tries v w v' w' r = HasTriedSo c.sizes c.number tries v v' r × HasExchanged c.sizes c.second 0 w w'
