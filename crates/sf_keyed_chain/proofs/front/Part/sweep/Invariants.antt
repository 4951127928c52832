use Rattle.std.proofs.Common.{◌≡◌, ◌<◌, ℕ, true}
use Rattle.std.specs.Prelude.{IsSomeAnd}
use Rattle.sf_keyed_words.specs.Rule.{slot_of}
use Rattle.sf_keyed.specs.Known.{IsGone}
use Rattle.sf_keyed_chain.specs.Chains.{GoesOn}
use Rattle.sf_keyed_chain.proofs.front.Part.sweep.Given as goal

abbrev pub invariant-loop : goal.invariant-loop
invariant-loop l =
    let p = l.self-inside in
    (p.note.cell ≡ l.fn.self.cell) × IsSomeAnd p.note.known (λ n. (n.group ≡ p.front.group) × (n.ages.table ≡ p.known.of)) × (l.level-inside.group ≡ p.front.group) × (p.known ≡ l.fn.self.known) × ((k : ℕ) → slot_of p.front.group.sizes k < p.swept → IsGone p.front k) × (p.done ≡ true → (k : ℕ) → IsGone p.front k) × GoesOn l.fn.self.front p.front × (p.front.spare ≡ l.fn.self.front.spare)
