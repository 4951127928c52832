use Rattle.std.proofs.Common.{◌≡◌, ℕ, ap, ◌∙◌, replicate, arith}
use Rattle.sf_steps.specs.Rows.{first_row}
use Rattle.sf_steps.proofs.caller_row.first_rows.Goals as goal

pub returns : goal.returns
returns g c =
    let below = c.loop-i.auto._i-end in
    let end = c.loop-i-test.false in
    let last : c.loop-i._i ≡ c.args.len = omega (arith, below, end) in
    c.loop-i.invariant ∙ ap (λ (n : ℕ). replicate n (first_row {V = g.row.V.Denot})) last
