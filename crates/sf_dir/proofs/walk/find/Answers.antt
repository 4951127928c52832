use Rattle.std.proofs.Common.{◌≡◌, ℕ, ◌+◌, ◌%◌, ◌<◌, [], ap, sym, ◌∙◌, subst, arith}
use mathlib.Core.Logic.{dite}
use native.Mathlib.Decide.{ℕ_discrete}
use Rattle.sf_dir.specs.KeyRow.{first_index, hash_of, place_after}
use Rattle.sf_dir.specs.declared.rule.DirectorySizes.{DirectorySizes}
use Rattle.sf_dir.specs.Rule.{IsTaken}
use Rattle.sf_dir.proofs.Walking.{grows_again, grows_taken, resolves_from, all_taken, when_true, when_false}
use Rattle.sf_dir.proofs.Publishing.{place_within}
use Rattle.sf_dir.proofs.walk.find.Goals as goal

pub returns-then-visit-clause-found : goal.returns-then-visit-clause-found
returns-then-visit-clause-found c =
    let keys = c.requires.limits.2.some_key in
    let same = ap (λ z. z.keys) (sym c.requires.limits.0) in
    let inside = place_within c.args.sizes.keys (c.start_of-start.result + c.loop-passed.passed) (omega arith) in
    let is = c.place_of-place.ensures in
    (omega arith, omega arith, resolves_from c.args.seat.now.me.0 c.loop-passed.seat.me.0 c.visit.new.seat.me.0 c.place_of-place.result c.args.key.now c.loop-passed.invariant.grows (when_true c.visit.result c.if-visit.true c.visit.ensures.yes))

pub loop-passed-preserved : goal.loop-passed-preserved
loop-passed-preserved c =
    let passes = when_false c.visit.result c.if-visit.false c.visit.ensures.no in
    record {
      own = c.visit.ensures.own ∙ c.loop-passed.invariant.own;
      grows = grows_again _ _ _ [] [] c.loop-passed.invariant.grows passes.grows;
      holds = c.visit.ensures.spare;
      before = λ k lt. dite (ℕ_discrete k c.loop-passed.passed)
          (λ e. subst (λ p. IsTaken c.visit.new.seat.me.0.seen p c.args.key.now) (c.place_of-place.ensures ∙ (ap (λ s. (s + c.loop-passed.passed) % c.args.sizes.keys + 1) c.start_of-start.ensures.is ∙ (ap (λ (z : DirectorySizes). place_after z c.args.key.now c.loop-passed.passed) (sym c.requires.limits.0) ∙ ap (place_after c.args.words.now.key c.args.key.now) (sym e)))) passes.taken)
          (λ d. grows_taken c.loop-passed.seat.me.0 c.visit.new.seat.me.0 [] _ c.args.key.now passes.grows (c.loop-passed.invariant.before k (before k c.loop-passed.passed lt d)));
    }
  where
    before : (i n : ℕ) → i < n + 1 → ¬ (i ≡ n) → i < n
    before i n lt d = grind arith

pub returns-clause-full : goal.returns-clause-full
returns-clause-full c = (
  c.loop-passed.invariant.grows,
  λ place low high. all_taken c.args.words.now.key c.args.key.now c.loop-passed.seat.me.0.seen place (subst (λ (z : DirectorySizes). first_index (hash_of z c.args.key.now) z.keys < z.keys) (sym c.requires.limits.0) (subst (λ n. n < c.args.sizes.keys) c.start_of-start.ensures.is c.start_of-start.ensures.within))
      (λ k lt. let same = ap (λ z. z.keys) (sym c.requires.limits.0) in let out = c.loop-passed-test.false in c.loop-passed.invariant.before k (omega arith)) low high,
)
