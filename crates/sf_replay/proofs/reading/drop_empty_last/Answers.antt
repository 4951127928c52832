use Rattle.std.proofs.Common.{◌-◌, ℕ, length, take, sym, ◌∙◌, ap}
use Rattle.std.proofs.lemmas.Bool.{eqb-true, ltb-true}
use Rattle.sf_replay.proofs.Lines.{empty_shown, kept_shown}
use Rattle.sf_replay.proofs.reading.drop_empty_last.Goals as goal

pub returns-then-is_empty : goal.returns-then-is_empty
returns-then-is_empty c =
    let items = c.args.lines.now.items in
    let last = rw c.deref.ensures.value at c.in-Some.ensures.item in
    let left = c.pop.ensures.rest ∙ ap (λ (n : ℕ). take (n - 1) items) (sym c.deref.ensures.len ∙ ap length c.deref.ensures.value) in
    empty_shown items c.pop.new.self.items c.in-Some.last.now (ltb-true _ _ (sym last.0)) last.1 (eqb-true _ _ (sym c.is_empty.ensures ∙ c.if-is_empty.true)) left

pub returns-else-is_empty : goal.returns-else-is_empty
returns-else-is_empty c =
    let last = rw c.deref.ensures.value at c.in-Some.ensures.item in
    kept_shown c.args.lines.now.items c.in-Some.last.now (ltb-true _ _ (sym last.0)) last.1 (sym c.is_empty.ensures ∙ c.if-is_empty.false)
