use Rattle.std.proofs.Common.{ap, sym, ◌∙◌, arith}
use Rattle.sf_cli_drive.specs.Values.{value_of}
use Rattle.sf_cli_drive.proofs.Numbered.{entry_at}
use Rattle.sf_cli_drive.proofs.Turning.{turn_alone, turn_again}
use Rattle.sf_cli_drive.proofs.jobs.Crew.take_turn.Goals as goal

pub get_entry-is_right-requires-clause-entry : goal.get_entry-is_right-requires-clause-entry
get_entry-is_right-requires-clause-entry g c =
    let at = entry_at c.args.self.now.entries.now c.turn_number-number.result c.index-self-number.result c.requires.entries.1 (omega (arith, c.requires.entries.0, c.turn_number-number.ensures.within)) in
    at.value ∙ ap value_of (sym at.key)

pub returns-then-turn-ne9 : goal.returns-then-turn-ne9
returns-then-turn-ne9 g c few =
    let at = entry_at c.args.self.now.entries.now c.turn_number-number.result c.index-self-number.result c.requires.entries.1 (omega (arith, c.requires.entries.0, c.turn_number-number.ensures.within)) in
    turn_alone g.N.Naming.space _ _ _ c.args.turn c.args.getter.now c.get_entry-is_right.new.getter c.get_entry-is_right.result at.key c.turn_number-number.ensures.value (c.get_entry-is_right.ensures few) c.if-turn-ne9.true

pub returns : goal.returns
returns g c few =
    let at = entry_at c.args.self.now.entries.now c.turn_number-number.result c.index-self-number.result c.requires.entries.1 (omega (arith, c.requires.entries.0, c.turn_number-number.ensures.within)) in
    turn_again g.N.Naming.space _ _ _ _ c.args.turn c.args.getter.now c.get_entry-is_right.new.getter c.reload-forgot.new.getter c.get_entry-is_right.result c.reload-forgot.result at.key c.turn_number-number.ensures.value
    c.as_bytes-key.ensures.value (c.get_entry-is_right.ensures few) c.if-turn-ne9.false c.reload-forgot.ensures.reloaded c.reload-forgot.ensures.adds
