-- what a player has played
use Rattle.std.specs.Prelude.{◌≡◌, List, map}
use Rattle.sf_steps_text.specs.declared.player.Player.{Player}
use Rattle.sf_steps_laws.specs.declared.turn.Turn.{Turn}
use Rattle.sf_steps_laws.specs.World.{first_world}
use Rattle.sf_steps_laws.specs.Events.{world_after}
use Rattle.sf_steps.specs.Running.{world_of, setting_of}
use Rattle.sf_steps_laws.specs.Schedules.{IsSchedule}
use Rattle.sf_steps_text.specs.Played.{shown, steps_of, text_setting}
use Rattle.sf_steps_text.specs.TraceText.{Outcome}

-- the player has played these turns, which are a schedule
pub record IsAfter (p : Player) (ts : List (Turn Outcome)) : Type 0 where
  pub allowed : IsSchedule text_setting ts
  pub world : world_of p.world ≡ world_after 64 1 ts
  pub setting : setting_of p.world ≡ text_setting
  pub steps : map shown p.steps.items ≡ steps_of (first_world 64 1) ts
