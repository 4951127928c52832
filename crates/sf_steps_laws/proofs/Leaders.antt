-- the leaders of calls that are not settled, and the calls of words that were loaded
use Rattle.std.proofs.Common.{◌≡◌, ◌≢◌, ℕ, true, false, List, [], ◌∷◌, ◌++◌, inl, inr, Option, Some, None, refl, sym, ◌∙◌, ap, subst}
use Rattle.sf_history.specs.declared.call.CallId.{CallId}
use Rattle.sf_history.specs.declared.event.Event.{Event}
use Rattle.std.specs.Prelude.{nat_eq}
use Rattle.sf_history.specs.Legal.{IsLegal}
use Rattle.sf_words.specs.declared.key_word.KeyState.{KeyState}
use Rattle.sf_words.specs.declared.key_word.KeyState.TheVariants.{Never, Names}
use Rattle.sf_words.specs.declared.call_word.CallState.{CallState}
use Rattle.sf_words.specs.declared.call_word.CallState.TheVariants as word
use Rattle.sf_steps_laws.specs.declared.operation.Stage.{Stage}
use Rattle.sf_steps_laws.specs.declared.operation.Stage.TheVariants.{Free, Leading, Holding, Polling, Seconding, Asking, Settling, Forgetting, Naming, Questioning}
use Rattle.sf_steps_laws.specs.declared.operation.SettleStep.TheVariants as settle
use Rattle.sf_steps_laws.specs.World.{World, key_of, open_in}
use Rattle.sf_steps_laws.specs.Schedules.{leads_on, was_led_on}
use Rattle.sf_lists.proofs.Lists.{list_any_push_cases}
use Rattle.sf_steps_laws.proofs.Histories.{opened, now, opened_now}
use Rattle.sf_steps_laws.proofs.Compared.{same_pair, open_in_open}
use Rattle.sf_steps_laws.proofs.Sound.{call_of, IsForgotWord, unsettled, ticket, Waits, Leads, SawClosed, Good, GoodKey, Sound}
use Rattle.sf_steps_laws.proofs.Kept.{Same}

module _ {V : Type 0} where
  -- a key without a current call has no open one
  pub not_now_not_open : (h : List (Event ℕ V)) (k : ℕ) → IsLegal nat_eq h → now h k ≡ None → opened h k ≡ None
  not_now_not_open h k legal none = at (opened h k) refl
    where
      at : (o : Option CallId) → opened h k ≡ o → opened h k ≡ None
      at None is = is
      at (Some c) is = let current : now h k ≡ Some c = opened_now h k c legal is in cc

  -- a word that is not found open is not that of an open call
  pub not_open_in : (first : ℕ) (h : List (Event ℕ V)) (w : World V) (k : ℕ) (c : CallId) → Sound first h w → open_in c.generation (w.calls c.caller) ≡ None → opened h k ≢ Some c
  not_open_in first h w k c sound none is =
      let x = sound.held k c is in
      let found : open_in c.generation (w.calls c.caller) ≡ Some x.state = open_in_open c.generation (w.calls c.caller) x.state x.open_word x.generation in
      cc

  -- where the key word is still the one by which an asking may lead, no call of the key is open
  pub unopened : (h : List (Event ℕ V)) (w : World V) (k : ℕ) (v : KeyState) → IsLegal nat_eq h → GoodKey h w k v → SawClosed h k v → opened h k ≡ None
  unopened h w k Never legal good saw = not_now_not_open h k legal good
  unopened h w k (Names b g true) legal good saw = not_now_not_open h k legal good
  unopened h w k (Names b g false) legal good saw = at (opened h k) refl
    where
      at : (o : Option CallId) → opened h k ≡ o → opened h k ≡ None
      at None is = is
      at (Some c) is =
          let current : now h k ≡ Some c = opened_now h k c legal is in
          elim good.1 [
            | inl same ↦ absurd (saw.1 (is ∙ (sym current ∙ same)))
            | inr debt ↦ let none : now h k ≡ None = debt.0 in cc
          ]

  -- a key word that names the open call's place: the current call is the one that it names
  pub named_current : (h : List (Event ℕ V)) (w : World V) (k : ℕ) (c d : CallId) → GoodKey h w k (key_of c) → now h k ≡ Some d → d ≡ c
  named_current h w k c d good is = elim good.1 [
    | inl same ↦ let alike : Some d ≡ Some c = sym is ∙ same in cc
    | inr debt ↦ let none : now h k ≡ None = debt.0 in cc
  ]

  -- the place's key word names its current call
  pub current_key : (h : List (Event ℕ V)) (w : World V) (k : ℕ) (c : CallId) (v : KeyState) → GoodKey h w k v → now h k ≡ Some c → v ≡ key_of c
  current_key h w k c Never good is = cc
  current_key h w k c (Names b g true) good is = cc
  current_key h w k c (Names b g false) good is = let same : c ≡ call_of b g = named_current h w k (call_of b g) c good is in ap (λ (z : CallId). key_of z) (sym same)

  -- a call whose word says that it is forgotten is not current
  pub forgotten_not_now : (first : ℕ) (h : List (Event ℕ V)) (w : World V) (a k g : ℕ) → Sound first h w → IsForgotWord g (w.calls a) → now h k ≢ Some (call_of a g)
  forgotten_not_now first h w a k g sound forgot = at (w.calls a) refl forgot
    where
      at : (u : CallState) → w.calls a ≡ u → IsForgotWord g u → now h k ≢ Some (call_of a g)
      at word.Free is none found = none
      at (word.Open s) is none found = none
      at (word.Forgot s) is same found = (sound.callers a).forgot k s is (found ∙ ap (λ (n : ℕ). Some (call_of a n)) (sym same))
      at (word.Done s) is none found = none
      at (word.Listed n) is none found = none
      at (word.Full n) is none found = none

  -- what an unsettled leader's stage promises, and that the same promise is enough elsewhere
  pub unsettled_good : (h : List (Event ℕ V)) (w : World V) (l : ℕ) (p : Stage V) (k g : ℕ) → unsettled p ≡ Some (k, g) → Good h w l p
      → (own : Option CallId) × Leads h w l k g own × ((i : List (Event ℕ V)) (u : World V) → Leads i u l k g own → Good i u l p)
  unsettled_good h w l Free k g is good = cc
  unsettled_good h w l (Leading i n own) k g is good =
      let same : (i, n) ≡ (k, g) = same_pair (i, n) (k, g) is in
      (own, subst (λ (y : ℕ × ℕ). Leads h w l y.0 y.1 own) same good, λ j u leads. subst (λ (y : ℕ × ℕ). Leads j u l y.0 y.1 own) (sym same) leads)
  unsettled_good h w l (Holding i n c) k g is good = cc
  unsettled_good h w l (Polling i n c) k g is good = cc
  unsettled_good h w l (Seconding first) k g is good = cc
  unsettled_good h w l (Asking i s step) k g is good = cc
  unsettled_good h w l (Settling i n own v settle.Peek) k g is good =
      let same : (i, n) ≡ (k, g) = same_pair (i, n) (k, g) is in
      (own, subst (λ (y : ℕ × ℕ). Leads h w l y.0 y.1 own) same good, λ j u leads. subst (λ (y : ℕ × ℕ). Leads j u l y.0 y.1 own) (sym same) leads)
  unsettled_good h w l (Settling i n own v (settle.Close seen)) k g is good =
      let same : (i, n) ≡ (k, g) = same_pair (i, n) (k, g) is in
      (own, subst (λ (y : ℕ × ℕ). Leads h w l y.0 y.1 own) same good.0, λ j u leads. (subst (λ (y : ℕ × ℕ). Leads j u l y.0 y.1 own) (sym same) leads, good.1))
  unsettled_good h w l (Settling i n own v (settle.Clear top)) k g is good = cc
  unsettled_good h w l (Settling i n own v (settle.Count j m top)) k g is good = cc
  unsettled_good h w l (Settling i n own v (settle.Follow joiners m)) k g is good = cc
  unsettled_good h w l (Settling i n own v (settle.PeekMember joiners m next)) k g is good = cc
  unsettled_good h w l (Settling i n own v (settle.Deliver joiners m next)) k g is good = cc
  unsettled_good h w l (Settling i n own v (settle.PeekOwn joiners)) k g is good = cc
  unsettled_good h w l (Settling i n own v (settle.DeliverOwn joiners m)) k g is good = cc
  unsettled_good h w l (Forgetting i target step) k g is good = cc
  unsettled_good h w l (Naming i) k g is good = cc
  unsettled_good h w l (Questioning i c step) k g is good = cc

  -- who holds a ticket is another caller than one who holds none
  pub ticket_apart : (w : World V) (k : ℕ) (c m : CallId) (a : ℕ) → Waits w k c m → ticket (w.stages a) ≡ None → m.caller ≢ a
  ticket_apart w k c m a waits none is =
      let same : ticket (w.stages m.caller) ≡ ticket (w.stages a) = ap (λ (n : ℕ). ticket (w.stages n)) is in
      let has : ticket (w.stages m.caller) ≡ Some (k, m.generation, c) = waits.0 in
      cc

  -- an unsettled leader holds no ticket
  pub leader_ticketless : (p : Stage V) (x : ℕ × ℕ) → unsettled p ≡ Some x → ticket p ≡ None
  leader_ticketless Free x is = refl
  leader_ticketless (Leading k g own) x is = refl
  leader_ticketless (Holding k g c) x is = cc
  leader_ticketless (Polling k g c) x is = cc
  leader_ticketless (Seconding first) x is = refl
  leader_ticketless (Asking k s step) x is = refl
  leader_ticketless (Settling k g own v step) x is = refl
  leader_ticketless (Forgetting k target step) x is = refl
  leader_ticketless (Naming k) x is = refl
  leader_ticketless (Questioning k c step) x is = refl

  -- who waits still waits where it is as before
  pub waits_same : (w w' : World V) (k : ℕ) (c m : CallId) → Same w w' m.caller → Waits w k c m → Waits w' k c m
  waits_same w w' k c m same waits = (ap ticket same.stage ∙ waits.0, same.word ∙ waits.1)

  -- an event that leads no call adds none that was led
  pub led_still : (h : List (Event ℕ V)) (e : Event ℕ V) (k : ℕ) (c : CallId) → leads_on k c e ≡ false → was_led_on (h ++ e ∷ []) k c ≡ true → was_led_on h k c ≡ true
  led_still h e k c isnt is = elim (list_any_push_cases (leads_on k c) h e is) [
    | inl was ↦ was
    | inr last ↦ cc
  ]
