-- each part so far, without its carriage return
use Rattle.std.proofs.Common.{◌≡◌, map, take}
use Rattle.std.specs.Str.Lines.{strip_carriage_return}
use Rattle.sf_text.proofs.splitting.lines.Given as goal

abbrev pub invariant-loop-part : goal.invariant-loop-part
invariant-loop-part l = map (λ x. x.now) l.lines.items ≡ map (λ x. strip_carriage_return x.now) (take l.part-index l.ended)
