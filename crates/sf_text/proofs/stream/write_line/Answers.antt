-- what is written is the line's text, which is made whole first
use Rattle.std.proofs.lemmas.Result.{on_ok_weaker}
use Rattle.std.specs.Fmt.InlineText.{inline_text, IsIntact}
use Rattle.std.specs.Io.KnownBytes.{Appends}
use Rattle.sf_text.specs.StreamText.{AppendsPart}
use Rattle.sf_text.proofs.Written.{line_said}
use Rattle.sf_text.proofs.stream.write_line.Goals as goal

pub returns-clause-ok : goal.returns-clause-ok
returns-clause-ok g c =
    let writes = Appends (g.W.Write.contents c.args.writer.now) (g.W.Write.contents c.write_all.new.writer) in
    on_ok_weaker c.write_all.result
    (line_said inline_text IsIntact writes _ c.new-text.result c.writeln.new.self c.as_str.result.now c.new-text.ensures.text c.new-text.ensures.intact c.in-Ok.ensures.writes c.as_str.ensures.value)
    c.write_all.ensures.ok

pub returns-clause-part : goal.returns-clause-part
returns-clause-part g c =
    let writes = AppendsPart (g.W.Write.contents c.args.writer.now) (g.W.Write.contents c.write_all.new.writer) in
    line_said inline_text IsIntact writes _ c.new-text.result c.writeln.new.self c.as_str.result.now c.new-text.ensures.text c.new-text.ensures.intact c.in-Ok.ensures.writes c.as_str.ensures.value
    c.write_all.ensures.part
