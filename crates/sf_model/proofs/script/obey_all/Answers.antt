-- one command more
use Rattle.std.proofs.Common.{rules, ◌<◌, ◌+◌, length, drop, sym, ◌∙◌, ap}
use Rattle.std.specs.Prelude.{string_bytes}
use Rattle.sf_model.specs.ScriptText.{after_line, replies_of}
use Rattle.sf_model.proofs.Runs.{next_reply, obeyed_keeps_callers, drop_at}
use Rattle.sf_model.proofs.script.obey_all.Goals as goal

pub loop-i-preserved : goal.loop-i-preserved
loop-i-preserved c =
    let within : c.loop-i.i < length c.args.commands.now = search rules in
    let left = drop_at c.args.commands.now c.loop-i.i c.index-commands-i.result within c.index-commands-i.is in
    record {
      callers = obeyed_keeps_callers _ _ _ _ _ c.in-Ok.ensures.ok ∙ c.loop-i.invariant.callers;
      told = c.in-Ok.ensures.told;
      replied = sym (next_reply (c.loop-i.i + 1) (string_bytes c.loop-i.lines) (string_bytes c.obey.new.lines) c.loop-i.group c.obey.new.group c.index-commands-i.result (drop (c.loop-i.i + 1) c.args.commands.now) c.in-Ok.ensures.ok)
          ∙ ap (λ cs. after_line (string_bytes c.loop-i.lines) (replies_of (c.loop-i.i + 1) c.loop-i.group cs)) (sym left)
          ∙ c.loop-i.invariant.replied;
    }
