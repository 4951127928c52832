-- a picture is its head, its title, its marks and its end
use Rattle.sf_pictures.proofs.Assembled.{assembled}
use Rattle.sf_pictures.proofs.races.drawing.put_together.Goals as goal

pub returns : goal.returns
returns c = (
  c.args.size.0,
  c.args.size.1,
  c.args.style.now,
  c.args.marks.now,
  assembled _ _ _ _ _ _ _ _ _ c.new-svg.ensures.bytes c.in_ok-begin.ensures c.in_ok-text.ensures c.in_ok-push_str.ensures.bytes c.in_ok-end.ensures,
)
