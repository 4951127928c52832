-- whom a leader serves at each stage, and turns that leave it serving them
use Rattle.std.proofs.Common.{◌≡◌, ◌≢◌, ℕ, true, ◌⊎◌, List, [], ◌∷◌, inl, inr, Option, Some, None, refl, sym, ◌∙◌, ap, subst}
use Rattle.std.proofs.lemmas.Bool.{cases_eq}
use Rattle.sf_history.specs.declared.call.CallId.{CallId}
use Rattle.sf_words.specs.declared.call_word.CallState.{CallState}
use Rattle.sf_steps_laws.specs.declared.operation.Stage.{Stage}
use Rattle.sf_steps_laws.specs.declared.operation.Stage.TheVariants.{Free, Leading, Holding, Polling, Seconding, Asking, Settling, Forgetting, Naming, Questioning}
use Rattle.sf_steps_laws.specs.declared.operation.AskStep.{AskStep}
use Rattle.sf_steps_laws.specs.declared.operation.SettleStep.{SettleStep}
use Rattle.sf_steps_laws.specs.declared.operation.SettleStep.TheVariants as settle
use Rattle.sf_steps_laws.specs.World.{World, with_stage, with_call}
use Rattle.sf_lists.specs.Functions.{put}
use Rattle.sf_steps_laws.specs.Askings.{joiner}
use Rattle.sf_steps_laws.proofs.Members.{Chain}
use Rattle.sf_lists.proofs.Functions.{put_here, put_else}
use Rattle.sf_steps_laws.proofs.Sound.{call_of, top_in, owes, ticket, Waits, GoodSecond}

-- the caller is one of a list of calls
abbrev pub Among : ℕ → List CallId → Type 0
Among x [] = ⊥
Among x (m ∷ l) = (x ≡ m.caller) ⊎ Among x l

-- the member is the own channel, or its caller is on the list from the top on
abbrev pub InLine : (ℕ → Option ℕ) → Option CallId → Option ℕ → CallId → Type 0
InLine nexts own top m = (own ≡ Some m) ⊎ ((l : List CallId) × Chain nexts top l × Among m.caller l)

no_list : (nexts : ℕ → Option ℕ) (l : List CallId) (x : ℕ) → Chain nexts None l → Among x l → ⊥
no_list nexts [] x chain among = among
no_list nexts (m ∷ l) x chain among = chain

-- a line from no top is the own channel
pub own_line : (nexts : ℕ → Option ℕ) (own : Option CallId) (m : CallId) → InLine nexts own None m → own ≡ Some m
own_line nexts own m (inl is) = is
own_line nexts own m (inr list) = absurd (no_list nexts list.0 m.caller list.1 list.2)

-- two lists of the same words have the same callers
pub same_callers : (nexts : ℕ → Option ℕ) (l k : List CallId) (top : Option ℕ) (x : ℕ) → Chain nexts top l → Chain nexts top k → Among x l → Among x k
same_callers nexts [] k top x one other among = absurd among
same_callers nexts (m ∷ l) k None x one other among = absurd one
same_callers nexts (m ∷ l) [] (Some b) x one other among = absurd other
same_callers nexts (m ∷ l) (n ∷ k) (Some b) x one other (inl here) = inl (here ∙ (sym one.0 ∙ other.0))
same_callers nexts (m ∷ l) (n ∷ k) (Some b) x one other (inr later) =
    inr (same_callers nexts l k (nexts m.caller) x one.1 (subst (λ (i : ℕ). Chain nexts (nexts i) k) (sym other.0 ∙ one.0) other.1) later)

-- after the member at hand the list goes on
pub rest_line : (nexts : ℕ → Option ℕ) (own : Option CallId) (x : ℕ) (next : Option ℕ) (m : CallId) → next ≡ nexts x → m.caller ≢ x → InLine nexts own (Some x) m → InLine nexts own next m
rest_line nexts own x next m is far (inl same) = inl same
rest_line nexts own x next m is far (inr ([], chain, among)) = absurd chain
rest_line nexts own x next m is far (inr (y ∷ l, chain, inl here)) = absurd (far (here ∙ sym chain.0))
rest_line nexts own x next m is far (inr (y ∷ l, chain, inr later)) = inr (l, subst (λ (t : Option ℕ). Chain nexts t l) (ap nexts (sym chain.0) ∙ sym is) chain.1, later)

-- who owes a member its letter has not handed all out
pub owed_unhanded : (own : Option CallId) (top : Option ℕ) (nexts : ℕ → Option ℕ) (m : CallId) → InLine nexts own top m → owes own top ≡ true
owed_unhanded None None nexts m is = let clash : ◌≡◌ {A = Option CallId} None (Some m) = own_line nexts None m is in cc
owed_unhanded None (Some x) nexts m is = refl
owed_unhanded (Some o) top nexts m is = refl

module _ {V : Type 0} where
  abbrev pub ServesAt : World V → ℕ → Option CallId → SettleStep → CallId → Type 0
  ServesAt w a own settle.Peek m = InLine w.nexts own (top_in (w.calls a)) m
  ServesAt w a own (settle.Close seen) m = InLine w.nexts own (top_in (w.calls a)) m
  ServesAt w a own (settle.Clear top) m = InLine w.nexts own top m
  ServesAt w a own (settle.Count n x top) m = InLine w.nexts own (Some top) m
  ServesAt w a own (settle.Follow joiners x) m = InLine w.nexts own (Some x) m
  ServesAt w a own (settle.PeekMember joiners x next) m = InLine w.nexts own (Some x) m
  ServesAt w a own (settle.Deliver joiners x next) m = InLine w.nexts own (Some x.caller) m
  ServesAt w a own (settle.PeekOwn joiners) m = own ≡ Some m
  ServesAt w a own (settle.DeliverOwn joiners x) m = own ≡ Some m

  -- the caller at this stage leads the call of the generation on the place, and still owes the member its letter
  abbrev pub Serves : World V → ℕ → Stage V → ℕ → ℕ → CallId → Type 0
  Serves w a Free k g m = ⊥
  Serves w a (Leading i n own) k g m = (i ≡ k) × (n ≡ g) × InLine w.nexts own (top_in (w.calls a)) m
  Serves w a (Holding i n c) k g m = ⊥
  Serves w a (Polling i n c) k g m = ⊥
  Serves w a (Seconding first) k g m = ⊥
  Serves w a (Asking i s step) k g m = ⊥
  Serves w a (Settling i n own v step) k g m = (i ≡ k) × (n ≡ g) × ServesAt w a own step m
  Serves w a (Forgetting i target step) k g m = ⊥
  Serves w a (Naming i) k g m = ⊥
  Serves w a (Questioning i c step) k g m = ⊥

  -- each member that waits is served
  abbrev pub Awaited : World V → Type 0
  Awaited w = (k : ℕ) (c m : CallId) → Waits w k c m → Serves w c.caller (w.stages c.caller) k c.generation m

  -- only words of the caller and next words bear on whom a stage serves
  pub serves_same : (w u : World V) (a : ℕ) (p : Stage V) (k g : ℕ) (m : CallId) → u.nexts ≡ w.nexts → top_in (u.calls a) ≡ top_in (w.calls a) → Serves w a p k g m → Serves u a p k g m
  serves_same w u a Free k g m nexts tops is = absurd is
  serves_same w u a (Leading i n own) k g m nexts tops is = (is.0, is.1, subst (λ (f : ℕ → Option ℕ). InLine f own (top_in (u.calls a)) m) (sym nexts) (subst (λ (t : Option ℕ). InLine w.nexts own t m) (sym tops) is.2))
  serves_same w u a (Holding i n c) k g m nexts tops is = absurd is
  serves_same w u a (Polling i n c) k g m nexts tops is = absurd is
  serves_same w u a (Seconding first) k g m nexts tops is = absurd is
  serves_same w u a (Asking i s step) k g m nexts tops is = absurd is
  serves_same w u a (Settling i n own v settle.Peek) k g m nexts tops is = (is.0, is.1, subst (λ (f : ℕ → Option ℕ). InLine f own (top_in (u.calls a)) m) (sym nexts) (subst (λ (t : Option ℕ). InLine w.nexts own t m) (sym tops) is.2))
  serves_same w u a (Settling i n own v (settle.Close seen)) k g m nexts tops is = (is.0, is.1, subst (λ (f : ℕ → Option ℕ). InLine f own (top_in (u.calls a)) m) (sym nexts) (subst (λ (t : Option ℕ). InLine w.nexts own t m) (sym tops) is.2))
  serves_same w u a (Settling i n own v (settle.Clear top)) k g m nexts tops is = (is.0, is.1, subst (λ (f : ℕ → Option ℕ). InLine f own top m) (sym nexts) is.2)
  serves_same w u a (Settling i n own v (settle.Count j x top)) k g m nexts tops is = (is.0, is.1, subst (λ (f : ℕ → Option ℕ). InLine f own (Some top) m) (sym nexts) is.2)
  serves_same w u a (Settling i n own v (settle.Follow joiners x)) k g m nexts tops is = (is.0, is.1, subst (λ (f : ℕ → Option ℕ). InLine f own (Some x) m) (sym nexts) is.2)
  serves_same w u a (Settling i n own v (settle.PeekMember joiners x next)) k g m nexts tops is = (is.0, is.1, subst (λ (f : ℕ → Option ℕ). InLine f own (Some x) m) (sym nexts) is.2)
  serves_same w u a (Settling i n own v (settle.Deliver joiners x next)) k g m nexts tops is = (is.0, is.1, subst (λ (f : ℕ → Option ℕ). InLine f own (Some x.caller) m) (sym nexts) is.2)
  serves_same w u a (Settling i n own v (settle.PeekOwn joiners)) k g m nexts tops is = is
  serves_same w u a (Settling i n own v (settle.DeliverOwn joiners x)) k g m nexts tops is = is
  serves_same w u a (Forgetting i target step) k g m nexts tops is = absurd is
  serves_same w u a (Naming i) k g m nexts tops is = absurd is
  serves_same w u a (Questioning i c step) k g m nexts tops is = absurd is

  -- a turn: whom it touches waits no more or as before, and whom it serves, it still serves
  pub record Turns (touched : ℕ → Type 0) (w u : World V) : Type 0 where
    pub nexts : u.nexts ≡ w.nexts
    pub split : (z : ℕ) → touched z ⊎ ((u.stages z ≡ w.stages z) × (u.calls z ≡ w.calls z))
    pub waiting : (k : ℕ) (c m : CallId) → touched m.caller → Waits u k c m → Waits w k c m ⊎ Serves u c.caller (u.stages c.caller) k c.generation m
    pub serving : (a k g : ℕ) (m : CallId) → touched a → Waits u k (call_of a g) m → Serves w a (w.stages a) k g m → Serves u a (u.stages a) k g m

  pub awaited_after : (touched : ℕ → Type 0) (w u : World V) → Awaited w → Turns touched w u → Awaited u
  awaited_after touched w u all t k c m waits = at (was (t.split m.caller))
    where
      was : touched m.caller ⊎ ((u.stages m.caller ≡ w.stages m.caller) × (u.calls m.caller ≡ w.calls m.caller)) → Waits w k c m ⊎ Serves u c.caller (u.stages c.caller) k c.generation m
      was (inl one) = t.waiting k c m one waits
      was (inr same) = inl (ap ticket (sym same.0) ∙ waits.0, sym same.1 ∙ waits.1)

      at : Waits w k c m ⊎ Serves u c.caller (u.stages c.caller) k c.generation m → Serves u c.caller (u.stages c.caller) k c.generation m
      at (inr now) = now
      at (inl before) = elim (t.split c.caller) [
        | inl one ↦ t.serving c.caller k c.generation m one waits (all k c m before)
        | inr same ↦ subst (λ (p : Stage V). Serves u c.caller p k c.generation m) (sym same.0) (serves_same w u c.caller (w.stages c.caller) k c.generation m t.nexts (ap top_in same.1) (all k c m before))
      ]

  -- whom the turn touches holds no ticket afterwards, and served nobody
  idle_awaited : (touched : ℕ → Type 0) (w u : World V) → Awaited w → u.nexts ≡ w.nexts → ((z : ℕ) → touched z ⊎ ((u.stages z ≡ w.stages z) × (u.calls z ≡ w.calls z)))
      → ((z : ℕ) → touched z → ticket (u.stages z) ≡ None) → ((z k g : ℕ) (m : CallId) → touched z → Serves w z (w.stages z) k g m → ⊥) → Awaited u
  idle_awaited touched w u all nexts split none served = awaited_after touched w u all (record {
    nexts = nexts;
    split = split;
    waiting = λ k c m one waits. let clash : ◌≡◌ {A = Option (ℕ × ℕ × CallId)} None (Some (k, m.generation, c)) = sym (none m.caller one) ∙ waits.0 in cc;
    serving = λ a k g m one waits is. absurd (served a k g m one is);
  })

  -- only the caller's stage and word change, it holds no ticket afterwards, and serves whom it served
  pub own_awaited : (w u : World V) (a : ℕ) (p s : Stage V) → w.stages a ≡ p → Awaited w → u.nexts ≡ w.nexts → ((z : ℕ) → z ≢ a → (u.stages z ≡ w.stages z) × (u.calls z ≡ w.calls z)) → u.stages a ≡ s → ticket s ≡ None
      → ((k g : ℕ) (m : CallId) → Serves w a p k g m → Serves u a s k g m) → Awaited u
  own_awaited w u a p s at all nexts same stage none serves = awaited_after (λ z. z ≡ a) w u all (record {
    nexts = nexts;
    split = λ z. elim (cases_eq z a) [
      | inl here ↦ inl here
      | inr other ↦ inr (same z other)
    ];
    waiting = λ k c m here waits.
        let clash : ◌≡◌ {A = Option (ℕ × ℕ × CallId)} None (Some (k, m.generation, c)) = sym (ap (λ (n : ℕ). ticket (u.stages n)) here ∙ (ap ticket stage ∙ none)) ∙ waits.0 in cc;
    serving = λ b k g m here waits. subst (λ (n : ℕ). Serves w n (w.stages n) k g m → Serves u n (u.stages n) k g m) (sym here)
        (λ is. subst (λ (q : Stage V). Serves u a q k g m) (sym stage) (serves k g m (subst (λ (q : Stage V). Serves w a q k g m) at is)));
  })

  -- only the stage of the caller changes: it is neither a leader's nor a ticket's, before and afterwards
  pub quiet_awaited : (w u : World V) (a : ℕ) (p s : Stage V) → w.stages a ≡ p → Awaited w → u.nexts ≡ w.nexts → ((z : ℕ) → z ≢ a → (u.stages z ≡ w.stages z) × (u.calls z ≡ w.calls z)) → u.stages a ≡ s → ticket s ≡ None
      → ((k g : ℕ) (m : CallId) → Serves w a p k g m → ⊥) → Awaited u
  quiet_awaited w u a p s at all nexts same stage none served = own_awaited w u a p s at all nexts same stage none (λ k g m is. absurd (served k g m is))

  pub staged : (w : World V) (a : ℕ) (s : Stage V) (z : ℕ) → z ≢ a → ((with_stage w a s).stages z ≡ w.stages z) × (w.calls z ≡ w.calls z)
  staged w a s z other = (put_else w.stages a s z other, refl)

  -- the stage of the caller changes from one that serves nobody to one without a ticket
  pub on : (w : World V) (a : ℕ) (p s : Stage V) → w.stages a ≡ p → Awaited w → ticket s ≡ None → ((k g : ℕ) (m : CallId) → Serves w a p k g m → ⊥) → Awaited (with_stage w a s)
  on w a p s at all none served = quiet_awaited w (with_stage w a s) a p s at all refl (staged w a s) (put_here w.stages a s) none served

  -- a ticket is held on
  pub held_on : (w : World V) (a : ℕ) (p s : Stage V) → w.stages a ≡ p → Awaited w → ticket s ≡ ticket p → ((k g : ℕ) (m : CallId) → Serves w a p k g m → ⊥) → Awaited (with_stage w a s)
  held_on w a p s at all same served = awaited_after (λ z. z ≡ a) w (with_stage w a s) all (record {
    nexts = refl;
    split = λ z. elim (cases_eq z a) [
      | inl here ↦ inl here
      | inr other ↦ inr (staged w a s z other)
    ];
    waiting = λ k c m here waits. inl (
      ap (λ (n : ℕ). ticket (w.stages n)) here ∙ (ap ticket at ∙ (sym same ∙ (sym (ap ticket (put_here w.stages a s)) ∙ (sym (ap (λ (n : ℕ). ticket (put w.stages a s n)) here) ∙ waits.0)))),
      waits.1,
    );
    serving = λ b k g m here waits is. absurd (served k g m (subst (λ (q : Stage V). Serves w a q k g m) at (subst (λ (n : ℕ). Serves w n (w.stages n) k g m) here is)));
  })

  -- an asking stores a word for itself or for its second
  pub word_awaited : (w : World V) (a k x : ℕ) (s : Option ℕ) (step next : AskStep) (v : CallState) → w.stages a ≡ Asking k s step → GoodSecond w a s → x ≡ joiner a s ⊎ (x ≡ a) → Awaited w → Awaited (with_stage (with_call w x v) a (Asking k s next))
  word_awaited w a k x s step next v at second who all = idle_awaited (λ z. (z ≡ a) ⊎ (z ≡ x)) w u all refl split none served
    where
      q : Stage V
      q = Asking k s next

      u : World V
      u = with_stage (with_call w x v) a q

      split : (z : ℕ) → ((z ≡ a) ⊎ (z ≡ x)) ⊎ ((u.stages z ≡ w.stages z) × (u.calls z ≡ w.calls z))
      split z = elim (cases_eq z a) [
        | inl here ↦ inl (inl here)
        | inr other ↦ elim (cases_eq z x) [
          | inl there ↦ inl (inr there)
          | inr far ↦ inr (put_else w.stages a q z other, put_else w.calls x v z far)
        ]
      ]

      -- the joiner is the caller or serves it
      rest : (s : Option ℕ) → GoodSecond w a s → (x ≡ joiner a s) ⊎ (x ≡ a) → (x ≡ a) ⊎ (w.stages x ≡ Seconding a)
      rest None second (inl is) = inl is
      rest (Some b) second (inl is) = inr (ap w.stages is ∙ second)
      rest s second (inr is) = inl is

      none_at : (z : ℕ) → (z ≡ a) ⊎ (w.stages z ≡ Seconding a) → ticket (u.stages z) ≡ None
      none_at z (inl here) = ap (λ (n : ℕ). ticket (u.stages n)) here ∙ ap ticket (put_here w.stages a q)
      none_at z (inr serves) = elim (cases_eq z a) [
        | inl here ↦ ap (λ (n : ℕ). ticket (u.stages n)) here ∙ ap ticket (put_here w.stages a q)
        | inr other ↦ ap ticket (put_else w.stages a q z other) ∙ ap ticket serves
      ]

      who_at : (z : ℕ) → (z ≡ a) ⊎ (z ≡ x) → (z ≡ a) ⊎ (w.stages z ≡ Seconding a)
      who_at z (inl here) = inl here
      who_at z (inr there) = elim (rest s second who) [
        | inl is ↦ inl (there ∙ is)
        | inr serves ↦ inr (ap w.stages there ∙ serves)
      ]

      none : (z : ℕ) → (z ≡ a) ⊎ (z ≡ x) → ticket (u.stages z) ≡ None
      none z one = none_at z (who_at z one)

      served_at : (z i g : ℕ) (m : CallId) → (z ≡ a) ⊎ (w.stages z ≡ Seconding a) → Serves w z (w.stages z) i g m → ⊥
      served_at z i g m (inl here) is = subst (λ (p : Stage V). Serves w z p i g m) (ap w.stages here ∙ at) is
      served_at z i g m (inr serves) is = subst (λ (p : Stage V). Serves w z p i g m) serves is

      served : (z i g : ℕ) (m : CallId) → (z ≡ a) ⊎ (z ≡ x) → Serves w z (w.stages z) i g m → ⊥
      served z i g m one is = served_at z i g m (who_at z one) is

  -- two callers who serve nobody change their stages together, to ones without tickets
  pub two_awaited : (w : World V) (a b : ℕ) (p q : Stage V) → Awaited w → b ≢ a → ticket p ≡ None → ticket q ≡ None → ((k g : ℕ) (m : CallId) → Serves w a (w.stages a) k g m → ⊥) → ((k g : ℕ) (m : CallId) → Serves w b (w.stages b) k g m → ⊥)
      → Awaited (with_stage (with_stage w b q) a p)
  two_awaited w a b p q all apart none_p none_q serves_a serves_b = idle_awaited (λ z. (z ≡ a) ⊎ (z ≡ b)) w u all refl split none served
    where
      u : World V
      u = with_stage (with_stage w b q) a p

      split : (z : ℕ) → ((z ≡ a) ⊎ (z ≡ b)) ⊎ ((u.stages z ≡ w.stages z) × (u.calls z ≡ w.calls z))
      split z = elim (cases_eq z a) [
        | inl here ↦ inl (inl here)
        | inr other ↦ elim (cases_eq z b) [
          | inl there ↦ inl (inr there)
          | inr far ↦ inr (put_else (put w.stages b q) a p z other ∙ put_else w.stages b q z far, refl)
        ]
      ]

      none : (z : ℕ) → (z ≡ a) ⊎ (z ≡ b) → ticket (u.stages z) ≡ None
      none z (inl here) = ap (λ (n : ℕ). ticket (u.stages n)) here ∙ (ap ticket (put_here (put w.stages b q) a p) ∙ none_p)
      none z (inr there) = ap (λ (n : ℕ). ticket (u.stages n)) there ∙ (ap ticket (put_else (put w.stages b q) a p b apart ∙ put_here w.stages b q) ∙ none_q)

      served : (z i g : ℕ) (m : CallId) → (z ≡ a) ⊎ (z ≡ b) → Serves w z (w.stages z) i g m → ⊥
      served z i g m (inl here) is = serves_a i g m (subst (λ (n : ℕ). Serves w n (w.stages n) i g m) here is)
      served z i g m (inr there) is = serves_b i g m (subst (λ (n : ℕ). Serves w n (w.stages n) i g m) there is)
