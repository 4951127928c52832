-- whom a turn leaves alone, and turns that change the stage of one caller alone
use Rattle.std.proofs.Common.{◌≡◌, ◌≢◌, ℕ, ◌+◌, true, false, List, [], ◌++◌, ◌⊎◌, inl, inr, Option, Some, None, refl, sym, ◌∙◌, ap, subst}
use Rattle.std.proofs.lemmas.Bool.{cases_eq}
use Rattle.std.proofs.lemmas.List.{append-nil}
use Rattle.sf_history.specs.declared.call.CallId.{CallId}
use Rattle.sf_history.specs.declared.event.Event.{Event}
use Rattle.sf_words.specs.declared.key_word.KeyState.{KeyState}
use Rattle.sf_words.specs.declared.key_word.KeyState.TheVariants.{Never, Names}
use Rattle.sf_words.specs.declared.call_word.CallState.{CallState}
use Rattle.sf_steps_laws.specs.declared.letter.Letter.{Letter}
use Rattle.sf_steps_laws.specs.declared.operation.Stage.{Stage}
use Rattle.sf_steps_laws.specs.declared.operation.Stage.TheVariants.{Free, Leading, Holding, Polling, Seconding, Asking, Settling, Forgetting, Naming, Questioning}
use Rattle.sf_steps_laws.specs.declared.operation.AskStep.{AskStep}
use Rattle.sf_steps_laws.specs.World.{World, with_stage, with_call, with_next, with_cell, with_key, with_used}
use Rattle.sf_lists.specs.Functions.{put}
use Rattle.sf_steps_laws.specs.Askings.{joiner}
use Rattle.sf_steps_laws.specs.Schedules.{was_led_on}
use Rattle.sf_steps_laws.proofs.Histories.{opened, now}
use Rattle.sf_steps_laws.proofs.Growing.{grows_none}
use Rattle.sf_lists.proofs.Functions.{put_here, put_else, put_cases}
use Rattle.sf_steps_laws.proofs.Sound.{call_of, IsForgotWord, unsettled, uncleared, ticket, Waits, GoodSecond, Good, GoodKey, Caller, Sound}
use Rattle.sf_steps_laws.proofs.Kept.{Same, Spared, sound_after}

-- the callers that a turn touches: two or three
abbrev pub Two : ℕ → ℕ → ℕ → Type 0
Two a b z = (z ≡ a) ⊎ (z ≡ b)

abbrev pub Three : ℕ → ℕ → ℕ → ℕ → Type 0
Three a b c z = (z ≡ a) ⊎ (z ≡ b) ⊎ (z ≡ c)

module _ {V : Type 0} where
  -- who is not written to is as before
  pub same_self : (w : World V) (z : ℕ) → Same w w z
  same_self w z = record { stage = refl; word = refl; next = refl; cell = refl; generation = refl }

  pub same_keyed : (w : World V) (k : ℕ) (v : KeyState) (z : ℕ) → Same w (with_key w k v) z
  same_keyed w k v z = record { stage = refl; word = refl; next = refl; cell = refl; generation = refl }

  pub same_stage : (w : World V) (a : ℕ) (s : Stage V) (z : ℕ) → z ≢ a → Same w (with_stage w a s) z
  same_stage w a s z other = record { stage = put_else w.stages a s z other; word = refl; next = refl; cell = refl; generation = refl }

  pub same_word : (w : World V) (a : ℕ) (u : CallState) (z : ℕ) → z ≢ a → Same w (with_call w a u) z
  same_word w a u z other = record { stage = refl; word = put_else w.calls a u z other; next = refl; cell = refl; generation = refl }

  pub same_next : (w : World V) (a : ℕ) (n : Option ℕ) (z : ℕ) → z ≢ a → Same w (with_next w a n) z
  same_next w a n z other = record { stage = refl; word = refl; next = put_else w.nexts a n z other; cell = refl; generation = refl }

  pub same_cell : (w : World V) (a : ℕ) (l : Option (Letter V)) (z : ℕ) → z ≢ a → Same w (with_cell w a l) z
  same_cell w a l z other = record { stage = refl; word = refl; next = refl; cell = put_else w.cells a l z other; generation = refl }

  pub same_used : (w : World V) (a : ℕ) (z : ℕ) → z ≢ a → Same w (with_used w a) z
  same_used w a z other = record { stage = refl; word = refl; next = refl; cell = refl; generation = put_else w.generations a (w.generations a + 1) z other }

  pub same_then : (w u v : World V) (z : ℕ) → Same w u z → Same u v z → Same w v z
  same_then w u v z x y = record { stage = y.stage ∙ x.stage; word = y.word ∙ x.word; next = y.next ∙ x.next; cell = y.cell ∙ x.cell; generation = y.generation ∙ x.generation }

  pub split_one : (w w' : World V) (a : ℕ) → ((z : ℕ) → z ≢ a → Same w w' z) → (z : ℕ) → (z ≡ a) ⊎ ((z ≡ a → ⊥) × Same w w' z)
  split_one w w' a same z = elim (cases_eq z a) [
    | inl is ↦ inl is
    | inr other ↦ inr (other, same z other)
  ]

  pub split_two : (w w' : World V) (a b : ℕ) → ((z : ℕ) → z ≢ a → z ≢ b → Same w w' z) → (z : ℕ) → Two a b z ⊎ ((Two a b z → ⊥) × Same w w' z)
  split_two w w' a b same z = elim (cases_eq z a) [
    | inl is ↦ inl (inl is)
    | inr other ↦ elim (cases_eq z b) [
      | inl is ↦ inl (inr is)
      | inr apart ↦ inr (
        λ (t : Two a b z). elim t [
          | inl is ↦ other is
          | inr is ↦ apart is
        ],
        same z other apart,
      )
    ]
  ]

  pub split_three : (w w' : World V) (a b c : ℕ) → ((z : ℕ) → z ≢ a → z ≢ b → z ≢ c → Same w w' z) → (z : ℕ) → Three a b c z ⊎ ((Three a b c z → ⊥) × Same w w' z)
  split_three w w' a b c same z = elim (cases_eq z a) [
    | inl is ↦ inl (inl is)
    | inr other ↦ elim (cases_eq z b) [
      | inl is ↦ inl (inr (inl is))
      | inr apart ↦ elim (cases_eq z c) [
        | inl is ↦ inl (inr (inr is))
        | inr far ↦ inr (
          λ (t : Three a b c z). elim t [
            | inl is ↦ other is
            | inr two ↦ elim two [
              | inl is ↦ apart is
              | inr is ↦ far is
            ]
          ],
          same z other apart far,
        )
      ]
    ]
  ]

  -- who waits for a letter holds a ticket
  pub not_ticketed : (w : World V) (a k : ℕ) (c m : CallId) → ticket (w.stages a) ≡ None → m.caller ≡ a → Waits w k c m → ⊥
  not_ticketed w a k c m none is waits =
      let same : ticket (w.stages m.caller) ≡ ticket (w.stages a) = ap (λ (n : ℕ). ticket (w.stages n)) is in
      let has : ticket (w.stages m.caller) ≡ Some (k, m.generation, c) = waits.0 in
      cc

  -- a caller whose stage is neither a ticket nor a second's
  pub own_spared : (w w' : World V) (a : ℕ) (p : Stage V) → w.stages a ≡ p → ticket p ≡ None → ((b : ℕ) → p ≢ Seconding b) → (b z : ℕ) → z ≡ a → Spared w w' b z
  own_spared w w' a p at none not_second b z is = subst (λ (n : ℕ). Spared w w' b n) (sym is) (record {
    second = λ serves. not_second b (sym at ∙ serves);
    member = λ k c m here by waits. absurd (not_ticketed w a k c m (ap ticket at ∙ none) here waits);
  })

  -- a leader before its settle
  pub leader_spared : (w w' : World V) (l : ℕ) (x : ℕ × ℕ) → unsettled (w.stages l) ≡ Some x → (b z : ℕ) → z ≡ l → Spared w w' b z
  leader_spared w w' l x is b z here = at (w.stages l) refl is
    where
      at : (p : Stage V) → w.stages l ≡ p → unsettled p ≡ Some x → Spared w w' b z
      at Free e is = cc
      at (Leading k g own) e is = own_spared w w' l (Leading k g own) e refl (λ b x. cc) b z here
      at (Holding k g c) e is = cc
      at (Polling k g c) e is = cc
      at (Seconding first) e is = cc
      at (Asking k s step) e is = cc
      at (Settling k g own v step) e is = own_spared w w' l (Settling k g own v step) e refl (λ b x. cc) b z here
      at (Forgetting k target step) e is = cc
      at (Naming k) e is = cc
      at (Questioning k c step) e is = cc

  -- one who asks, or serves as the second of a, has no call and no ticket
  pub record Idle (w : World V) (a j : ℕ) : Type 0 where
    pub no_ticket : ticket (w.stages j) ≡ None
    pub no_call : unsettled (w.stages j) ≡ None
    pub no_debt : uncleared (w.stages j) ≡ None
    pub second : (b : ℕ) → w.stages j ≡ Seconding b → b ≡ a

  pub idle_self : (w : World V) (a k : ℕ) (s : Option ℕ) (step : AskStep) → w.stages a ≡ Asking k s step → Idle w a a
  idle_self w a k s step at = record {
    no_ticket = ap ticket at;
    no_call = ap unsettled at;
    no_debt = ap uncleared at;
    second = λ b is. let clash : Asking k s step ≡ Seconding b = sym at ∙ is in cc;
  }

  pub idle_second : (w : World V) (a b : ℕ) → w.stages b ≡ Seconding a → Idle w a b
  idle_second w a b at = record {
    no_ticket = ap ticket at;
    no_call = ap unsettled at;
    no_debt = ap uncleared at;
    second = λ x is. let same : Seconding a ≡ Seconding x = sym at ∙ is in cc;
  }

  pub idle_joiner : (w : World V) (a k : ℕ) (s : Option ℕ) (step : AskStep) → w.stages a ≡ Asking k s step → GoodSecond w a s → Idle w a (joiner a s)
  idle_joiner w a k None step at good = idle_self w a k None step at
  idle_joiner w a k (Some b) step at good = idle_second w a b good

  pub idle_spared : (w w' : World V) (a j : ℕ) → Idle w a j → (b z : ℕ) → b ≢ a → z ≡ j → Spared w w' b z
  idle_spared w w' a j idle b z other is = subst (λ (n : ℕ). Spared w w' b n) (sym is) (record {
    second = λ serves. other (idle.second b serves);
    member = λ k c m here by waits. absurd (not_ticketed w j k c m idle.no_ticket here waits);
  })

  -- a caller that leads no unsettled call has no open one
  pub not_held : (first : ℕ) (h : List (Event ℕ V)) (w : World V) (a k : ℕ) (c : CallId) → Sound first h w → unsettled (w.stages a) ≡ None → opened h k ≡ Some c → c.caller ≢ a
  not_held first h w a k c sound none is here =
      let stage : unsettled (w.stages c.caller) ≡ Some (k, c.generation) = (sound.held k c is).stage in
      let same : unsettled (w.stages c.caller) ≡ unsettled (w.stages a) = ap (λ (n : ℕ). unsettled (w.stages n)) here in
      cc

  -- nor does it owe a clear
  pub not_owing : (w : World V) (a b : ℕ) (x : ℕ × ℕ) → uncleared (w.stages a) ≡ None → uncleared (w.stages b) ≡ Some x → b ≢ a
  not_owing w a b x none is here =
      let same : uncleared (w.stages b) ≡ uncleared (w.stages a) = ap (λ (n : ℕ). uncleared (w.stages n)) here in
      cc

  -- a key word that stays keeps its promise, where the key's current call stays and a debt is still owed
  pub key_kept : (h h' : List (Event ℕ V)) (w w' : World V) (k : ℕ) (v : KeyState) → GoodKey h w k v
      → ((c : CallId) → was_led_on h k c ≡ true → was_led_on h' k c ≡ true) → now h' k ≡ now h k
      → ((b g : ℕ) → v ≡ Names b g false → IsForgotWord g (w.calls b) → uncleared (w.stages b) ≡ Some (k, g) → IsForgotWord g (w'.calls b) × (uncleared (w'.stages b) ≡ Some (k, g)))
      → GoodKey h' w' k v
  key_kept h h' w w' k Never good led same owed = same ∙ good
  key_kept h h' w w' k (Names b g true) good led same owed = same ∙ good
  key_kept h h' w w' k (Names b g false) good led same owed = (
    led (call_of b g) good.0,
    elim good.1 [
      | inl is ↦ inl (same ∙ is)
      | inr debt ↦ let still = owed b g refl debt.1 debt.2 in inr (same ∙ debt.0, still.0, still.1)
    ],
  )

  -- of a caller that is as before a debt is as before
  pub debt_same : (w w' : World V) (b k g : ℕ) → Same w w' b → IsForgotWord g (w.calls b) → uncleared (w.stages b) ≡ Some (k, g) → IsForgotWord g (w'.calls b) × (uncleared (w'.stages b) ≡ Some (k, g))
  debt_same w w' b k g same forgot debt = (subst (λ (u : CallState). IsForgotWord g u) (sym same.word) forgot, ap uncleared same.stage ∙ debt)

  -- a turn that adds no event
  pub still : (first : ℕ) (h : List (Event ℕ V)) (w : World V) → Sound first h w → Sound first (h ++ []) w
  still first h w sound = subst (λ (q : List (Event ℕ V)). Sound first q w) (sym (append-nil h)) sound

  -- only the caller's stage changes; it owes what it owed
  pub quiet : (first : ℕ) (h : List (Event ℕ V)) (w : World V) (a : ℕ) (p s : Stage V) → w.stages a ≡ p → Sound first h w → ticket p ≡ None → ((b : ℕ) → p ≢ Seconding b) → unsettled s ≡ unsettled p
      → ((k g : ℕ) → w.keys k ≡ Names a g false → uncleared p ≡ Some (k, g) → uncleared s ≡ Some (k, g)) → Good h (with_stage w a s) a s → Sound first h (with_stage w a s)
  quiet first h w a p s at sound none not_second same owes good =
      let w' : World V = with_stage w a s in
      sound_after first a (λ z. z ≡ a) h w h w' sound (record {
        bound = refl;
        past = sound.past;
        grows = grows_none a h;
        mine = refl;
        split = split_one w w' a (same_stage w a s);
        spared = λ b z free. own_spared w w' a p at none not_second b z;
        members = λ c free. refl;
        kept_open = λ k c free is. is;
        callers = λ z is. subst (λ (n : ℕ). Caller h w' n) (sym is) (record {
          good = subst (λ (q : Stage V). Good h w' a q) (sym (put_here w.stages a s)) good;
          live = (sound.callers a).live;
          forgot = (sound.callers a).forgot;
          empty = λ ticketless. (sound.callers a).empty (ap ticket at ∙ none);
        });
        keys = λ k. key_kept h h w w' k (w.keys k) (sound.keys k) (λ c is. is) refl (λ b g is forgot debt. (
          forgot,
          put_cases (λ (q : Stage V). uncleared q ≡ Some (k, g)) w.stages a s b
              (λ (here : b ≡ a). owes k g (subst (λ (n : ℕ). w.keys k ≡ Names n g false) here is) (sym (ap uncleared at) ∙ (ap (λ (n : ℕ). uncleared (w.stages n)) (sym here) ∙ debt)))
              (λ other. debt),
        ));
        held = λ k c here is.
            let x = sound.held k c is in
            record {
              state = x.state;
              open_word = x.open_word;
              generation = x.generation;
              stage = ap (λ (n : ℕ). unsettled (put w.stages a s n)) here ∙ (ap unsettled (put_here w.stages a s) ∙ (same ∙ (sym (ap unsettled at) ∙ (ap (λ (n : ℕ). unsettled (w.stages n)) (sym here) ∙ x.stage))));
            };
      })
