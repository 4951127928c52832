-- stages name callers of the setting, and so do the worlds of schedules
use Rattle.std.proofs.Common.{◌≡◌, ◌<◌, ◌≤◌, ℕ, ◌+◌, Bool, true, false, ◌==◌, ◌||◌, List, [], ◌∷◌, ◌++◌, inl, inr, Option, Some, None, refl, sym, ◌∙◌, ap, subst, arith}
use Rattle.std.proofs.lemmas.Bool.{cases_eq, ltb-true}
use Rattle.std.specs.Prelude.{cond, nat_lt}
use Rattle.sf_history.specs.declared.call.CallId.{CallId}
use Rattle.sf_history.specs.declared.event.Event.{Event}
use Rattle.sf_words.specs.CallWord.{IsGeneration, IsCallState}
use Rattle.sf_words.specs.KeyWord.{IsKeyState}
use Rattle.sf_words.specs.NextWord.{IsCallerNumber, IsCallerOrNone}
use Rattle.sf_words.specs.declared.key_word.KeyState.{KeyState}
use Rattle.sf_words.specs.declared.key_word.KeyState.TheVariants.{Never, Names}
use Rattle.sf_words.specs.declared.call_word.LeaderState.{LeaderState}
use Rattle.sf_words.specs.declared.call_word.CallState.{CallState}
use Rattle.sf_words.specs.declared.call_word.CallState.TheVariants as word
use Rattle.sf_steps_laws.specs.declared.operation.Op.{Op}
use Rattle.sf_steps_laws.specs.declared.operation.Op.TheVariants as op
use Rattle.sf_steps_laws.specs.declared.operation.Stage.{Stage}
use Rattle.sf_steps_laws.specs.declared.operation.Stage.TheVariants.{Free, Leading, Holding, Polling, Seconding, Asking, Settling, Forgetting, Naming, Questioning}
use Rattle.sf_steps_laws.specs.declared.operation.AskStep.{AskStep}
use Rattle.sf_steps_laws.specs.declared.operation.AskStep.TheVariants as ask
use Rattle.sf_steps_laws.specs.declared.operation.SettleStep.{SettleStep}
use Rattle.sf_steps_laws.specs.declared.operation.SettleStep.TheVariants as settle
use Rattle.sf_steps_laws.specs.declared.operation.ForgetStep.{ForgetStep}
use Rattle.sf_steps_laws.specs.declared.operation.ForgetStep.TheVariants as forget
use Rattle.sf_steps_laws.specs.declared.operation.CurrentStep.{CurrentStep}
use Rattle.sf_steps_laws.specs.declared.operation.CurrentStep.TheVariants as current
use Rattle.sf_steps_laws.specs.declared.turn.Turn.{Turn}
use Rattle.sf_steps_laws.specs.declared.turn.Turn.TheVariants as turn
use Rattle.sf_steps_laws.specs.World.{World, first_world, with_stage, next_id, key_of, same_key, is_open_with, open_in, is_forgot_in, generation_in, is_full, is_spent, one_more}
use Rattle.sf_lists.specs.Functions.{put}
use Rattle.sf_steps_laws.specs.Askings.{prepares, looked, peeked, joiner, ready_own, after_lead, after_enter, ask_stepped}
use Rattle.sf_steps_laws.specs.Turns.{after_own_peek, at_members, after_close, cleared, own_peeked, settle_stepped, key_looked, call_looked, forget_looked, misses, peek_missed, forget_peeked, forgot, forget_cleared, forget_stepped, polled, current_peeked, current_stepped, stepped, chan_started, started, freed, left, turned, run, at_count, after_count}
use Rattle.sf_steps_laws.specs.Events.{turn_events, world_after}
use Rattle.sf_steps_laws.specs.Schedules.{Setting, IsCaller, IsTurn, IsScheduleFrom}
use Rattle.sf_steps_laws.specs.Within.{TopIn, CallIn, OwnIn, KeyIn, WordIn, SettleIn, ForgetIn, AskerIn, StageIn, AreWithin, WorldsAreWithin, WordsAreLawful}
use Rattle.sf_lists.proofs.Functions.{put_here, put_else, put_cases}
use Rattle.sf_steps_laws.proofs.Sound.{call_of, Sound}
use Rattle.sf_steps_laws.proofs.Compared.{same_key_is}
use Rattle.sf_steps_laws.proofs.Flags.{turn_fair}
use Rattle.sf_steps_laws.proofs.Callers.{Fair, fair_begins}
use Rattle.sf_steps_laws.proofs.Ranges.{ask_calls, ask_keys, ask_nexts, forget_calls, forget_keys, forget_nexts, fresh, own_in, settle_calls, settle_keys, settle_nexts, stage_at, open_in_within}
use Rattle.sf_words.specs.declared.limits.TheConstants.{LARGEST_CALLER}

module _ {V : Type 0} where
  module _ (z : Setting) (h : List (Event ℕ V)) (w : World V) (least : 1 ≤ z.first) (sound : Sound z.first h w) (size : w.callers ≡ z.callers) (within : AreWithin z w) where
    -- stages
    put_in : (f : ℕ → Stage V) (b : ℕ) (v : Stage V) → StageIn z b (w.generations b) v → ((x : ℕ) → StageIn z x (w.generations x) (f x)) → (x : ℕ) → StageIn z x (w.generations x) (put f b v x)
    put_in f b v new were x = put_cases (λ (q : Stage V). StageIn z x (w.generations x) q) f b v x
        (λ here. subst (λ (n : ℕ). StageIn z n (w.generations n) v) (sym here) new) (λ other. were x)

    one_in : (b : ℕ) (v : Stage V) → StageIn z b (w.generations b) v → (x : ℕ) → StageIn z x (w.generations x) (put w.stages b v x)
    one_in b v new x = put_in w.stages b v new within.stages x

    prepares_in : (a k : ℕ) (s : Option ℕ) (seen : KeyState) (f : Bool) → AskerIn z a (w.generations a) → KeyIn z seen → StageIn {V = V} z a (w.generations a) (Asking k s (prepares s seen f))
    prepares_in a k None seen f asker lawful = (asker, lawful)
    prepares_in a k (Some j) seen f asker lawful = (asker, lawful)

    looked_in : (a k : ℕ) (s : Option ℕ) (v : KeyState) → AskerIn z a (w.generations a) → KeyIn z v → StageIn {V = V} z a (w.generations a) (Asking k s (looked s v))
    looked_in a k s Never asker lawful = prepares_in a k s Never false asker tt
    looked_in a k s (Names b g true) asker lawful = prepares_in a k s (Names b g true) false asker lawful
    looked_in a k s (Names b g false) asker lawful = (asker, lawful)

    peeked_in : (a k : ℕ) (s : Option ℕ) (c : CallId) (f : Bool) → AskerIn z a (w.generations a) → CallIn z c → (o : Option LeaderState) → open_in c.generation (w.calls c.caller) ≡ o → StageIn {V = V} z a (w.generations a) (Asking k s (peeked s c f o))
    peeked_in a k s c f asker lawful (Some seen) is = (asker, (lawful, open_in_within z c.generation (w.calls c.caller) seen (within.calls c.caller) is))
    peeked_in a k s c f asker lawful None is = prepares_in a k s (key_of c) f asker lawful

    -- at another generation and stage
    stage_in : (x n m : ℕ) (p q : Stage V) → m ≡ n → q ≡ p → StageIn z x n p → StageIn z x m q
    stage_in x n m p q gens same is = subst (λ (y : ℕ). StageIn z x y q) (sym gens) (subst (λ (y : Stage V). StageIn z x n y) (sym same) is)

    lead_in : (a k : ℕ) (s : Option ℕ) (step : AskStep) (b : Bool) → w.stages a ≡ Asking k s step → (x : ℕ) → StageIn z x ((after_lead w a k s b).generations x) ((after_lead w a k s b).stages x)
    lead_in a k s step false at x = one_in a (Asking k s (ask.Look true)) ((stage_at z h w least sound within a (Asking k s step) at).0, tt) x
    lead_in a k None step true at x = elim (cases_eq x a) [
      | inl here ↦
          let c = fresh z h w least sound within a (stage_at z h w least sound within a (Asking k None step) at).0 in
          subst (λ (q : Stage V). StageIn z x ((after_lead w a k None true).generations x) q) (sym (ap (put w.stages a (Leading k (w.generations a) None)) here ∙ put_here w.stages a (Leading k (w.generations a) None)))
          (subst (λ (n : ℕ). IsCaller z n) (sym here) c.0, c.1, tt)
      | inr other ↦ stage_in x (w.generations x) ((after_lead w a k None true).generations x) (w.stages x) ((after_lead w a k None true).stages x) (put_else w.generations a (w.generations a + 1) x other) (put_else w.stages a (Leading k (w.generations a) None) x other) (within.stages x)
    ]
    lead_in a k (Some j) step true at x = elim (cases_eq x a) [
      | inl here ↦
          let c = fresh z h w least sound within a (stage_at z h w least sound within a (Asking k (Some j) step) at).0 in
          let p : Stage V = Leading k (w.generations a) (Some (next_id w j)) in
          let f : ℕ → Stage V = put w.stages j (Holding k (w.generations j) (next_id w a)) in
          subst (λ (q : Stage V). StageIn z x ((after_lead w a k (Some j) true).generations x) q) (sym (ap (put f a p) here ∙ put_here f a p))
          (subst (λ (n : ℕ). IsCaller z n) (sym here) c.0, c.1, own_in z h w least sound within a k (Some j) step at)
      | inr other ↦ elim (cases_eq x j) [
        | inl there ↦
            let p : Stage V = Leading k (w.generations a) (Some (next_id w j)) in
            let q : Stage V = Holding k (w.generations j) (next_id w a) in
            subst (λ (y : Stage V). StageIn z x ((after_lead w a k (Some j) true).generations x) y) (sym (put_else (put w.stages j q) a p x other ∙ (ap (put w.stages j q) there ∙ put_here w.stages j q))) tt
        | inr far ↦
            let p : Stage V = Leading k (w.generations a) (Some (next_id w j)) in
            let q : Stage V = Holding k (w.generations j) (next_id w a) in
            let g : ℕ → ℕ = put w.generations j (w.generations j + 1) in
            stage_in x (w.generations x) ((after_lead w a k (Some j) true).generations x) (w.stages x) ((after_lead w a k (Some j) true).stages x)
            (put_else g a (g a + 1) x other ∙ put_else w.generations j (w.generations j + 1) x far) (put_else (put w.stages j q) a p x other ∙ put_else w.stages j q x far) (within.stages x)
      ]
    ]

    enter_in : (a k : ℕ) (s : Option ℕ) (c : CallId) (seen : LeaderState) (step : AskStep) (b : Bool) → w.stages a ≡ Asking k s step → (x : ℕ) → StageIn z x ((after_enter w a k s c seen b).generations x) ((after_enter w a k s c seen b).stages x)
    enter_in a k s c seen step false at x = one_in a (Asking k s (ask.Look true)) ((stage_at z h w least sound within a (Asking k s step) at).0, tt) x
    enter_in a k s c seen step true at x =
        let j : ℕ = joiner a s in
        let q : Stage V = Holding k (w.generations j) c in
        let f : ℕ → Stage V = put w.stages a Free in
        let n : ℕ = (after_enter w a k s c seen true).generations x in
        elim (cases_eq x j) [
          | inl there ↦ subst (λ (y : Stage V). StageIn z x n y) (sym (ap (put f j q) there ∙ put_here f j q)) tt
          | inr far ↦ elim (cases_eq x a) [
            | inl here ↦ subst (λ (y : Stage V). StageIn z x n y) (sym (put_else f j q x far ∙ (ap f here ∙ put_here w.stages a Free))) tt
            | inr other ↦ stage_in x (w.generations x) n (w.stages x) (put f j q x) (put_else w.generations j (w.generations j + 1) x far) (put_else f j q x far ∙ put_else w.stages a Free x other) (within.stages x)
          ]
        ]

    ready_in : (a k : ℕ) (s : Option ℕ) (seen : KeyState) (f : Bool) → w.stages a ≡ Asking k s (ask.ReadyOwn seen f) → (x : ℕ) → StageIn z x ((ready_own w a k s seen f).generations x) ((ready_own w a k s seen f).stages x)
    ready_in a k None seen f at x = within.stages x
    ready_in a k (Some j) seen f at x = one_in a (Asking k (Some j) (ask.ReadyLead seen f)) (stage_at z h w least sound within a (Asking k (Some j) (ask.ReadyOwn seen f)) at) x

    ask_in : (a k : ℕ) (s : Option ℕ) (step : AskStep) → w.stages a ≡ Asking k s step → (x : ℕ) → StageIn z x ((ask_stepped w a k s step).generations x) ((ask_stepped w a k s step).stages x)
    ask_in a k s (ask.Look failed) at x = one_in a (Asking k s (looked s (w.keys k))) (looked_in a k s (w.keys k) (stage_at z h w least sound within a (Asking k s (ask.Look failed)) at).0 (within.keys k)) x
    ask_in a k s (ask.Peek c) at x =
        let here : AskerIn z a (w.generations a) × CallIn z c = stage_at z h w least sound within a (Asking k s (ask.Peek c)) at in
        one_in a (Asking k s (peeked s c (is_forgot_in c.generation (w.calls c.caller)) (open_in c.generation (w.calls c.caller)))) (peeked_in a k s c (is_forgot_in c.generation (w.calls c.caller)) here.0 here.1 (open_in c.generation (w.calls c.caller)) refl) x
    ask_in a k s (ask.ReadyOwn seen f) at x = ready_in a k s seen f at x
    ask_in a k s (ask.ReadyLead seen f) at x = one_in a (Asking k s (ask.Lead seen f)) (stage_at z h w least sound within a (Asking k s (ask.ReadyLead seen f)) at) x
    ask_in a k s (ask.Lead seen f) at x = lead_in a k s (ask.Lead seen f) (same_key (w.keys k) seen) at x
    ask_in a k s (ask.ReadyJoin c seen) at x = one_in a (Asking k s (ask.Link c seen)) (stage_at z h w least sound within a (Asking k s (ask.ReadyJoin c seen)) at) x
    ask_in a k s (ask.Link c seen) at x = one_in a (Asking k s (ask.Enter c seen)) (stage_at z h w least sound within a (Asking k s (ask.Link c seen)) at) x
    ask_in a k s (ask.Enter c seen) at x = enter_in a k s c seen (ask.Enter c seen) (is_open_with seen (w.calls c.caller)) at x

    members_in : (a k g : ℕ) (own : Option CallId) (v : V) (joiners : ℕ) (top : Option ℕ) → IsCaller z a → IsGeneration g → OwnIn z own → TopIn z top → StageIn z a (w.generations a) (at_members k g own v joiners top)
    members_in a k g None v joiners None who gen owned lawful = tt
    members_in a k g (Some m) v joiners None who gen owned lawful = (who, gen, owned, tt)
    members_in a k g own v joiners (Some m) who gen owned lawful = (who, gen, owned, lawful)

    count_in : (a k g : ℕ) (own : Option CallId) (v : V) (top : Option ℕ) → IsCaller z a → IsGeneration g → OwnIn z own → TopIn z top → StageIn z a (w.generations a) (at_count k g own v top)
    count_in a k g None v None who gen owned lawful = tt
    count_in a k g (Some m) v None who gen owned lawful = (who, gen, owned, tt)
    count_in a k g own v (Some m) who gen owned lawful = (who, gen, owned, (lawful, lawful, omega arith))

    -- no more are counted than there are callers
    one_more_in : (n : ℕ) (b : Bool) → nat_lt n w.callers ≡ b → n ≤ z.callers → cond b (n + 1) n ≤ z.callers
    one_more_in n true is few = let below : n < w.callers = ltb-true n w.callers is in let alike : w.callers ≡ z.callers = size in omega arith
    one_more_in n false is few = few

    counted_in : (n top : ℕ) (next : Option ℕ) → IsCaller z top → n ≤ z.callers → TopIn z next → SettleIn z (after_count (one_more w.callers n) top next)
    counted_in n top None is few lawful = is
    counted_in n top (Some m) is few lawful = (lawful, is, one_more_in n (nat_lt n w.callers) refl few)

    own_peek_in : (u : CallState) → WordIn z u → SettleIn z (after_own_peek u)
    own_peek_in word.Free lawful = tt
    own_peek_in (word.Open s) lawful = lawful
    own_peek_in (word.Forgot s) lawful = lawful.1
    own_peek_in (word.Done s) lawful = tt
    own_peek_in (word.Listed i) lawful = tt
    own_peek_in (word.Full i) lawful = tt

    own_peeked_in : (joiners : ℕ) (own : Option CallId) → OwnIn z own → SettleIn z (own_peeked w joiners own)
    own_peeked_in joiners None owned = tt
    own_peeked_in joiners (Some m) owned = owned.0

    settle_in : (a k g : ℕ) (own : Option CallId) (v : V) (step : SettleStep) → w.stages a ≡ Settling k g own v step → (x : ℕ) → StageIn z x ((settle_stepped w a k g own v step).generations x) ((settle_stepped w a k g own v step).stages x)
    settle_in a k g own v settle.Peek at x =
        let here = stage_at z h w least sound within a (Settling k g own v settle.Peek) at in
        one_in a (Settling k g own v (after_own_peek (w.calls a))) (here.0, here.1, here.2, own_peek_in (w.calls a) (within.calls a)) x
    settle_in a k g own v (settle.Close seen) at x = close (is_open_with seen (w.calls a))
      where
        close : (b : Bool) → StageIn z x ((after_close w a k g own v seen b).generations x) ((after_close w a k g own v seen b).stages x)
        close false = let here = stage_at z h w least sound within a (Settling k g own v (settle.Close seen)) at in one_in a (Settling k g own v settle.Peek) (here.0, here.1, here.2, tt) x
        close true = let here = stage_at z h w least sound within a (Settling k g own v (settle.Close seen)) at in one_in a (at_count k g own v seen.top) (count_in a k g own v seen.top here.0 here.1 here.2 here.3.1) x
    settle_in a k g own v (settle.Clear top) at x = clear (same_key (w.keys k) (Names a g false))
      where
        clear : (b : Bool) → StageIn z x ((with_stage (cleared w k (call_of a g) b) a (at_count k g own v top)).generations x) ((with_stage (cleared w k (call_of a g) b) a (at_count k g own v top)).stages x)
        clear false = let here = stage_at z h w least sound within a (Settling k g own v (settle.Clear top)) at in one_in a (at_count k g own v top) (count_in a k g own v top here.0 here.1 here.2 here.3) x
        clear true = let here = stage_at z h w least sound within a (Settling k g own v (settle.Clear top)) at in one_in a (at_count k g own v top) (count_in a k g own v top here.0 here.1 here.2 here.3) x
    settle_in a k g own v (settle.Count n m top) at x =
        let here = stage_at z h w least sound within a (Settling k g own v (settle.Count n m top)) at in
        one_in a (Settling k g own v (after_count (one_more w.callers n) top (w.nexts m))) (here.0, here.1, here.2, counted_in n top (w.nexts m) here.3.1 here.3.2 (within.nexts m)) x
    settle_in a k g own v (settle.Follow joiners m) at x =
        let here = stage_at z h w least sound within a (Settling k g own v (settle.Follow joiners m)) at in
        one_in a (Settling k g own v (settle.PeekMember joiners m (w.nexts m))) (here.0, here.1, here.2, (here.3, within.nexts m)) x
    settle_in a k g own v (settle.PeekMember joiners m next) at x =
        let here = stage_at z h w least sound within a (Settling k g own v (settle.PeekMember joiners m next)) at in
        one_in a (Settling k g own v (settle.Deliver joiners (call_of m (generation_in (w.calls m))) next)) here x
    settle_in a k g own v (settle.Deliver joiners m next) at x =
        let here = stage_at z h w least sound within a (Settling k g own v (settle.Deliver joiners m next)) at in
        one_in a (at_members k g own v joiners next) (members_in a k g own v joiners next here.0 here.1 here.2 here.3.1) x
    settle_in a k g own v (settle.PeekOwn joiners) at x =
        let here = stage_at z h w least sound within a (Settling k g own v (settle.PeekOwn joiners)) at in
        one_in a (Settling k g own v (own_peeked w joiners own)) (here.0, here.1, here.2, own_peeked_in joiners own here.2) x
    settle_in a k g own v (settle.DeliverOwn joiners m) at x = one_in a Free tt x

    key_looked_in : (a k : ℕ) (v : KeyState) → KeyIn z v → StageIn {V = V} z a (w.generations a) (key_looked k v)
    key_looked_in a k Never lawful = tt
    key_looked_in a k (Names b g true) lawful = tt
    key_looked_in a k (Names b g false) lawful = lawful

    call_looked_in : (a k : ℕ) (c : CallId) (v : KeyState) → KeyIn z v → (b : Bool) → same_key v (key_of c) ≡ b → StageIn {V = V} z a (w.generations a) (call_looked k c b)
    call_looked_in a k c v lawful false same = tt
    call_looked_in a k c v lawful true same = subst (KeyIn z) (same_key_is v (key_of c) same) lawful

    forget_looked_in : (a k : ℕ) (target : Option CallId) (v : KeyState) → KeyIn z v → StageIn {V = V} z a (w.generations a) (forget_looked k target v)
    forget_looked_in a k None v lawful = key_looked_in a k v lawful
    forget_looked_in a k (Some c) v lawful = call_looked_in a k c v lawful (same_key v (key_of c)) refl

    forget_peeked_in : (c : CallId) → CallIn z c → (o : Option LeaderState) → open_in c.generation (w.calls c.caller) ≡ o → ForgetIn z (forget_peeked c o)
    forget_peeked_in c lawful None is = lawful
    forget_peeked_in c lawful (Some seen) is = (lawful, open_in_within z c.generation (w.calls c.caller) seen (within.calls c.caller) is)

    missed_in : (a k : ℕ) (target : Option CallId) (c : CallId) → CallIn z c → (o : Option LeaderState) → open_in c.generation (w.calls c.caller) ≡ o → (b : Bool) → StageIn {V = V} z a (w.generations a) (peek_missed k target c o b)
    missed_in a k target c lawful o is false = forget_peeked_in c lawful o is
    missed_in a k target c lawful o is true = tt

    forget_in : (a k : ℕ) (target : Option CallId) (step : ForgetStep) → w.stages a ≡ Forgetting k target step → (x : ℕ) → StageIn z x ((forget_stepped w a k target step).generations x) ((forget_stepped w a k target step).stages x)
    forget_in a k target (forget.Look failed) at x = one_in a (forget_looked k target (w.keys k)) (forget_looked_in a k target (w.keys k) (within.keys k)) x
    forget_in a k target (forget.Peek c) at x =
        let missed : Bool = misses target (is_forgot_in c.generation (w.calls c.caller)) in
        one_in a (peek_missed k target c (open_in c.generation (w.calls c.caller)) missed) (missed_in a k target c (stage_at z h w least sound within a (Forgetting k target (forget.Peek c)) at) (open_in c.generation (w.calls c.caller)) refl missed) x
    forget_in a k target (forget.Close c seen) at x = close (is_open_with seen (w.calls c.caller))
      where
        close : (b : Bool) → StageIn z x ((forgot w a k target c seen b).generations x) ((forgot w a k target c seen b).stages x)
        close false = one_in a (Forgetting k target (forget.Look true)) tt x
        close true = one_in a (Forgetting k target (forget.LastClear c)) (stage_at z h w least sound within a (Forgetting k target (forget.Close c seen)) at).0 x
    forget_in a k target (forget.FirstClear c) at x = first (same_key (w.keys k) (key_of c))
      where
        first : (b : Bool) → StageIn z x ((forget_cleared w a k target c b).generations x) ((forget_cleared w a k target c b).stages x)
        first false = one_in a (Forgetting k target (forget.Look true)) tt x
        first true = one_in a Free tt x
    forget_in a k target (forget.LastClear c) at x = clear (same_key (w.keys k) (key_of c))
      where
        clear : (b : Bool) → StageIn z x ((with_stage (cleared w k c b) a Free).generations x) ((with_stage (cleared w k c b) a Free).stages x)
        clear false = one_in a Free tt x
        clear true = one_in a Free tt x

    -- a step keeps all within
    step_within : (a : ℕ) (p : Stage V) → w.stages a ≡ p → AreWithin z (stepped w a p)
    step_within a Free at = within
    step_within a (Leading k g own) at = within
    step_within a (Holding k g c) at = within
    step_within a (Polling k g c) at = polls (is_full (w.calls a))
      where
        polls : (b : Bool) → AreWithin z (polled w a k g c b)
        polls false = record { keys = within.keys; calls = within.calls; nexts = within.nexts; stages = one_in a (Holding k g c) tt }
        polls true = record { keys = within.keys; calls = within.calls; nexts = within.nexts; stages = one_in a Free tt }
    step_within a (Seconding one) at = within
    step_within a (Asking k s step) at = record { keys = ask_keys z h w least sound within a k s step at; calls = ask_calls z h w least sound within a k s step at; nexts = ask_nexts z h w least sound within a k s step at; stages = ask_in a k s step at }
    step_within a (Settling k g own v step) at = record { keys = settle_keys z h w least sound within a k g own v step; calls = settle_calls z h w least sound within a k g own v step at; nexts = settle_nexts z h w least sound within a k g own v step; stages = settle_in a k g own v step at }
    step_within a (Forgetting k target step) at = record { keys = forget_keys z h w least sound within a k target step; calls = forget_calls z h w least sound within a k target step at; nexts = forget_nexts z h w least sound within a k target step; stages = forget_in a k target step at }
    step_within a (Naming k) at = record { keys = within.keys; calls = within.calls; nexts = within.nexts; stages = one_in a Free tt }
    step_within a (Questioning k c step) at = asks step
      where
        asks : (step : CurrentStep) → AreWithin z (current_stepped w a k c step)
        asks current.Peek = peeks (is_forgot_in c.generation (w.calls c.caller))
          where
            peeks : (b : Bool) → AreWithin z (with_stage w a (current_peeked k c b))
            peeks false = record { keys = within.keys; calls = within.calls; nexts = within.nexts; stages = one_in a (Questioning k c current.Look) tt }
            peeks true = record { keys = within.keys; calls = within.calls; nexts = within.nexts; stages = one_in a Free tt }
        asks current.Look = record { keys = within.keys; calls = within.calls; nexts = within.nexts; stages = one_in a Free tt }

    staged_within : (b : ℕ) (v : Stage V) → StageIn z b (w.generations b) v → AreWithin z (with_stage w b v)
    staged_within b v new = record { keys = within.keys; calls = within.calls; nexts = within.nexts; stages = one_in b v new }

    either_within : (u : World V) (b : Bool) → AreWithin z u → AreWithin z (cond b w u)
    either_within u true new = within
    either_within u false new = new

    chan_within : (a j k : ℕ) (q : Stage V) → AskerIn z a (w.generations a) → AskerIn z j (w.generations j) → AreWithin z (chan_started w a j k q)
    chan_within a j k Free first second = either_within (with_stage (with_stage w j (Seconding a)) a (Asking k (Some j) (ask.Look false))) ((j == a) || is_spent w j)
        (record { keys = within.keys; calls = within.calls; nexts = within.nexts; stages = put_in (put w.stages j (Seconding a)) a (Asking k (Some j) (ask.Look false)) (first, tt) (one_in j (Seconding a) second) })
    chan_within a j k _ first second = within

    start_within : (a : ℕ) (o : Op V) (p : Stage V) → w.stages a ≡ p → IsTurn z h w (turn.Start a o) → AreWithin z (started w a o p)
    start_within a (op.Ask k) Free at allowed = either_within (with_stage w a (Asking k None (ask.Look false))) (is_spent w a) (staged_within a (Asking k None (ask.Look false)) ((allowed.0, allowed.1.1.1), tt))
    start_within a (op.Chan j k) Free at allowed = either_within (chan_started w a j k (w.stages j)) (is_spent w a) (chan_within a j k (w.stages j) (allowed.0, allowed.1.3.1) (allowed.1.1, allowed.1.4.1))
    start_within a (op.Settle v) (Leading k g own) at allowed =
        let here = stage_at z h w least sound within a (Leading k g own) at in
        staged_within a (Settling k g own v settle.Peek) (here.0, here.1, here.2, tt)
    start_within a (op.Forget k) Free at allowed = staged_within a (Forgetting k None (forget.Look false)) tt
    start_within a (op.ForgetCall k d) Free at allowed = staged_within a (Forgetting k (Some d) (forget.Look false)) tt
    start_within a (op.Named k) Free at allowed = staged_within a (Naming k) tt
    start_within a op.Poll (Holding k g c) at allowed = staged_within a (Polling k g c) tt
    start_within a (op.Current k c) Free at allowed = staged_within a (Questioning k c current.Peek) tt
    start_within a _ _ at allowed = within

    freed_within : (a : ℕ) (s : Option ℕ) → AreWithin z (freed w a s)
    freed_within a None = staged_within a Free tt
    freed_within a (Some j) = record { keys = within.keys; calls = within.calls; nexts = within.nexts; stages = put_in (put w.stages j Free) a Free tt (one_in j Free tt) }

    leave_within : (a : ℕ) (p : Stage V) → AreWithin z (left w a p)
    leave_within a (Asking k s (ask.Look true)) = freed_within a s
    leave_within a (Forgetting k target (forget.Look true)) = staged_within a Free tt
    leave_within a _ = within

  turn_within : (z : Setting) (h : List (Event ℕ V)) (w : World V) (t : Turn V) → 1 ≤ z.first → Sound z.first h w → w.callers ≡ z.callers → AreWithin z w → IsTurn z h w t → AreWithin z (turned w t)
  turn_within z h w (turn.Start a o) least sound size within allowed = start_within z h w least sound size within a o (w.stages a) refl allowed
  turn_within z h w (turn.Step a) least sound size within allowed = step_within z h w least sound size within a (w.stages a) refl
  turn_within z h w (turn.Leave a) least sound size within allowed = leave_within z h w least sound size within a (w.stages a)

  run_within : (z : Setting) (ts : List (Turn V)) (h : List (Event ℕ V)) (w : World V) → 1 ≤ z.first → Fair z h w → AreWithin z w → IsScheduleFrom z h w ts → AreWithin z (run w ts)
  run_within z [] h w least sound within is = within
  run_within z (t ∷ ts) h w least sound within is = run_within z ts (h ++ turn_events w t) (turned w t) least (turn_fair z h w t sound is.0) (turn_within z h w t least sound.sound sound.size within is.0) is.1

  pub worlds_are_within : WorldsAreWithin V
  worlds_are_within z s least is = run_within z s [] (first_world z.callers z.first) least (fair_begins z) (record { keys = λ k. tt; calls = λ a. tt; nexts = λ a. tt; stages = λ a. tt }) is

caller_number : (z : Setting) (n : ℕ) → z.callers ≤ LARGEST_CALLER → IsCaller z n → IsCallerNumber n
caller_number z n few who = let high : n ≤ z.callers = who.1 in (who.0, omega (arith, high, few))

top_lawful : (z : Setting) (o : Option ℕ) → z.callers ≤ LARGEST_CALLER → TopIn z o → IsCallerOrNone o
top_lawful z None few is = tt
top_lawful z (Some n) few is = caller_number z n few is

pub key_lawful : (z : Setting) (v : KeyState) → z.callers ≤ LARGEST_CALLER → KeyIn z v → IsKeyState v
key_lawful z Never few is = tt
key_lawful z (Names a g cleared) few is = (caller_number z a few is.0, is.1)

pub word_lawful : (z : Setting) (u : CallState) → z.callers ≤ LARGEST_CALLER → WordIn z u → IsCallState u
word_lawful z word.Free few is = tt
word_lawful z (word.Open s) few is = (is.0, top_lawful z s.top few is.1)
word_lawful z (word.Forgot s) few is = (is.0, top_lawful z s.top few is.1)
word_lawful z (word.Done s) few is = (is.0, top_lawful z s.top few is.1)
word_lawful z (word.Listed g) few is = is
word_lawful z (word.Full g) few is = is

module _ {V : Type 0} where
  pub words_are_lawful : WordsAreLawful V
  words_are_lawful z s least few is =
      let within = worlds_are_within z s least is in
      record {
        keys = λ k. key_lawful z ((world_after z.callers z.first s).keys k) few (within.keys k);
        calls = λ a. word_lawful z ((world_after z.callers z.first s).calls a) few (within.calls a);
        nexts = λ a. top_lawful z ((world_after z.callers z.first s).nexts a) few (within.nexts a);
      }
