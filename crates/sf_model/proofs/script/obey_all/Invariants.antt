-- what is written, and what the run of the commands left would add, is what the whole run says
use Rattle.std.proofs.Common.{◌≡◌, ◌+◌, drop}
use Rattle.std.specs.Prelude.{string_bytes}
use Rattle.sf_model.specs.ScriptText.{after_line, replies_of}
use Rattle.sf_sequential.specs.NotedMaps.{IsTold}
use Rattle.sf_text.specs.Texts.{same_text}
use Rattle.std.specs.Cmp.Lexicographic.{slice_cmp}
use Rattle.std.specs.Ordering.{nat_cmp}
use Rattle.sf_model.proofs.script.obey_all.Given as goal

abbrev pub invariant-loop-i : goal.invariant-loop-i
invariant-loop-i l = record {
  callers : l.group.callers ≡ l.fn.group.callers;
  told : IsTold (slice_cmp nat_cmp) same_text l.group l.index;
  replied : after_line (string_bytes l.lines) (replies_of (l.i + 1) l.group (drop l.i l.commands)) ≡ replies_of 1 l.fn.group l.commands;
}
