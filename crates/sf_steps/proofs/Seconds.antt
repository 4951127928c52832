-- the seconds of chans: who they are, and that they have a generation left
use Rattle.std.proofs.Common.{◌≡◌, ◌≢◌, ℕ, ◌<◌, ◌≤◌, true, Option, Some, None, inl, inr, refl, ◌∙◌, ap}
use Rattle.std.proofs.lemmas.Bool.{cases_lt}
use Rattle.sf_steps_laws.specs.declared.operation.Stage.{Stage}
use Rattle.sf_steps_laws.specs.declared.operation.Stage.TheVariants.{Free, Leading, Holding, Polling, Seconding, Asking, Settling, Forgetting, Naming, Questioning}
use Rattle.sf_steps_laws.specs.declared.operation.AskStep.{AskStep}
use Rattle.sf_steps_laws.specs.Stages.{is_asking, second_in, first_in}
use Rattle.sf_steps_laws.specs.Askings.{joiner}
use Rattle.sf_steps.specs.Rows.{ArePaired}
use Rattle.sf_steps.proofs.Rows.{none_some}

module _ {V : Type 0} where
  second_asks : (s : Stage V) (a : ℕ) → first_in s ≡ Some a → is_asking s ≡ true
  second_asks Free a is = cc
  second_asks (Leading k g own) a is = cc
  second_asks (Holding k g c) a is = cc
  second_asks (Polling k g c) a is = cc
  second_asks (Seconding first) a is = refl
  second_asks (Asking k s step) a is = refl
  second_asks (Settling k g own v step) a is = cc
  second_asks (Forgetting k target step) a is = cc
  second_asks (Naming k) a is = cc
  second_asks (Questioning k c step) a is = cc

  second_within : (f : ℕ → Stage V) (callers b a : ℕ) → ((j : ℕ) → callers < j → f j ≡ Free) → first_in (f b) ≡ Some a → b ≤ callers
  second_within f callers b a free is = elim (cases_lt callers b) [
    | inl past ↦ absurd (none_some (first_in (f b)) a (ap first_in (free b past)) is)
    | inr within ↦ within
  ]

  -- what is known of the second of an asking
  pub record IsSecond (f : ℕ → Stage V) (callers a b : ℕ) : Type 0 where
    pub first : first_in (f b) ≡ Some a
    pub asks : is_asking (f b) ≡ true
    pub within : b ≤ callers
    pub apart : b ≢ a

  pub is_second : (f : ℕ → Stage V) (callers a k b : ℕ) (s : Option ℕ) (step : AskStep) → ((j : ℕ) → callers < j → f j ≡ Free) → ArePaired f → f a ≡ Asking k s step → s ≡ Some b → IsSecond f callers a b
  is_second f callers a k b s step free paired at has =
      let known : first_in (f b) ≡ Some a = paired a b (ap second_in at ∙ has) in
      record {
        first = known;
        asks = second_asks (f b) a known;
        within = second_within f callers b a free known;
        apart = λ is. none_some (first_in (f b)) a (ap (λ (n : ℕ). first_in (f n)) is ∙ ap first_in at) known;
      }

  -- who joins is there, and has a generation left
  pub joiner_within : (f : ℕ → Stage V) (callers a k : ℕ) (s : Option ℕ) (step : AskStep) → ((j : ℕ) → callers < j → f j ≡ Free) → ArePaired f → a ≤ callers → f a ≡ Asking k s step → joiner a s ≤ callers
  joiner_within f callers a k None step free paired within at = within
  joiner_within f callers a k (Some b) step free paired within at = (is_second f callers a k b (Some b) step free paired at refl).within

  pub joiner_asks : (f : ℕ → Stage V) (callers a k : ℕ) (s : Option ℕ) (step : AskStep) → ((j : ℕ) → callers < j → f j ≡ Free) → ArePaired f → f a ≡ Asking k s step → is_asking (f (joiner a s)) ≡ true
  joiner_asks f callers a k None step free paired at = ap is_asking at
  joiner_asks f callers a k (Some b) step free paired at = (is_second f callers a k b (Some b) step free paired at refl).asks

  -- the first of a second is one caller
  pub one_first : {f : ℕ → Stage V} {callers a b : ℕ} → IsSecond f callers a b → (x : ℕ) → first_in (f b) ≡ Some x → x ≡ a
  one_first {f} {callers} {a} {b} second x has = same_some (first_in (f b)) x a has second.first
    where
      same_some : (o : Option ℕ) (x a : ℕ) → o ≡ Some x → o ≡ Some a → x ≡ a
      same_some o x a has is = cc
