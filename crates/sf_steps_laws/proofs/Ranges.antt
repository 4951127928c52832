-- the words that steps write name callers of the setting, and generations that words can hold
use Rattle.std.proofs.Common.{◌≡◌, ◌≤◌, ℕ, Bool, true, false, ◌==◌, List, [], ◌∷◌, Option, Some, None, refl, subst, arith}
use Rattle.std.specs.Prelude.{cond, is_some}
use Rattle.sf_history.specs.declared.call.CallId.{CallId}
use Rattle.sf_history.specs.declared.event.Event.{Event}
use Rattle.sf_history.specs.History.{next_generation}
use Rattle.sf_words.specs.CallWord.{IsGeneration}
use Rattle.sf_words.specs.declared.key_word.KeyState.{KeyState}
use Rattle.sf_words.specs.declared.key_word.KeyState.TheVariants.{Names}
use Rattle.sf_words.specs.declared.call_word.LeaderState.{LeaderState}
use Rattle.sf_words.specs.declared.call_word.CallState.{CallState}
use Rattle.sf_words.specs.declared.call_word.CallState.TheVariants as word
use Rattle.sf_steps_laws.specs.declared.operation.Stage.{Stage}
use Rattle.sf_steps_laws.specs.declared.operation.Stage.TheVariants.{Seconding, Asking, Settling, Forgetting}
use Rattle.sf_steps_laws.specs.declared.operation.AskStep.{AskStep}
use Rattle.sf_steps_laws.specs.declared.operation.AskStep.TheVariants as ask
use Rattle.sf_steps_laws.specs.declared.operation.SettleStep.{SettleStep}
use Rattle.sf_steps_laws.specs.declared.operation.SettleStep.TheVariants as settle
use Rattle.sf_steps_laws.specs.declared.operation.ForgetStep.{ForgetStep}
use Rattle.sf_steps_laws.specs.declared.operation.ForgetStep.TheVariants as forget
use Rattle.sf_steps_laws.specs.World.{World, next_id, key_of, cleared_key_of, same_key, is_open_with, open_in}
use Rattle.sf_lists.specs.Functions.{put}
use Rattle.sf_steps_laws.specs.Askings.{joiner, with_top, own_of, ready_own, after_lead, after_enter, ask_stepped}
use Rattle.sf_steps_laws.specs.Turns.{after_close, cleared, settle_stepped, forgot, forget_cleared, forget_stepped}
use Rattle.sf_steps_laws.specs.Schedules.{Setting, IsCaller}
use Rattle.sf_steps_laws.specs.Within.{TopIn, CallIn, OwnIn, KeyIn, LeaderIn, WordIn, AskerIn, StageIn, AreWithin}
use Rattle.sf_lists.proofs.Functions.{put_cases}
use Rattle.sf_steps_laws.proofs.Compared.{same_key_is}
use Rattle.sf_history.proofs.Members.{Each}
use Rattle.sf_steps_laws.proofs.Members.{line, line_head}
use Rattle.sf_steps_laws.proofs.Sound.{call_of, Waits, GoodSettle, Good, Sound}

pub open_in_within : (z : Setting) (g : ℕ) (u : CallState) (seen : LeaderState) → WordIn z u → open_in g u ≡ Some seen → LeaderIn z seen
open_in_within z g word.Free seen within is = cc
open_in_within z g (word.Open s) seen within is = at (s.generation == g) is
  where
    at : (b : Bool) → cond b (Some s) None ≡ Some seen → LeaderIn z seen
    at true same = let is_it : s ≡ seen = cc in subst (LeaderIn z) is_it within
    at false same = cc
open_in_within z g (word.Forgot s) seen within is = cc
open_in_within z g (word.Done s) seen within is = cc
open_in_within z g (word.Listed i) seen within is = cc
open_in_within z g (word.Full i) seen within is = cc

module _ {V : Type 0} where
  low : (z : Setting) (h : List (Event ℕ V)) (w : World V) (a : ℕ) → 1 ≤ z.first → Sound z.first h w → 1 ≤ w.generations a
  low z h w a least sound = let counted : w.generations a ≡ next_generation z.first h a = sound.past.counted a in omega (arith, least, counted)

  module _ (z : Setting) (h : List (Event ℕ V)) (w : World V) (least : 1 ≤ z.first) (sound : Sound z.first h w) (within : AreWithin z w) where
    pub stage_at : (a : ℕ) (p : Stage V) → w.stages a ≡ p → StageIn z a (w.generations a) p
    stage_at a p at = subst (λ (q : Stage V). StageIn z a (w.generations a) q) at (within.stages a)

    good_at : (a : ℕ) (p : Stage V) → w.stages a ≡ p → Good h w a p
    good_at a p at = subst (λ (q : Stage V). Good h w a q) at (sound.callers a).good

    pub fresh : (a : ℕ) → AskerIn z a (w.generations a) → CallIn z (next_id w a)
    fresh a asker = (asker.0, (low z h w a least sound, asker.1))

    -- who joins is a caller with a generation left
    joiner_in : (a k : ℕ) (s : Option ℕ) (step : AskStep) → w.stages a ≡ Asking k s step → AskerIn z (joiner a s) (w.generations (joiner a s))
    joiner_in a k None step at = (stage_at a (Asking k None step) at).0
    joiner_in a k (Some j) step at =
        let good : Good h w a (Asking k (Some j) step) = good_at a (Asking k (Some j) step) at in
        stage_at j (Seconding a) good.0

    pub own_in : (a k : ℕ) (s : Option ℕ) (step : AskStep) → w.stages a ≡ Asking k s step → OwnIn z (own_of w s)
    own_in a k None step at = tt
    own_in a k (Some j) step at = fresh j (joiner_in a k (Some j) step at)

    -- key words
    put_key : (k : ℕ) (v : KeyState) → KeyIn z v → (x : ℕ) → KeyIn z (put w.keys k v x)
    put_key k v new x = put_cases (λ (u : KeyState). KeyIn z u) w.keys k v x (λ here. new) (λ other. within.keys x)

    key_call : (k : ℕ) (c : CallId) → same_key (w.keys k) (key_of c) ≡ true → CallIn z c
    key_call k c same = subst (KeyIn z) (same_key_is (w.keys k) (key_of c) same) (within.keys k)

    cleared_keys : (k : ℕ) (c : CallId) (b : Bool) → same_key (w.keys k) (key_of c) ≡ b → (x : ℕ) → KeyIn z ((cleared w k c b).keys x)
    cleared_keys k c false same x = within.keys x
    cleared_keys k c true same x = put_key k (cleared_key_of c) (key_call k c same) x

    lead_keys : (a k : ℕ) (s : Option ℕ) (b : Bool) → AskerIn z a (w.generations a) → (x : ℕ) → KeyIn z ((after_lead w a k s b).keys x)
    lead_keys a k s false asker x = within.keys x
    lead_keys a k None true asker x = put_key k (key_of (next_id w a)) (fresh a asker) x
    lead_keys a k (Some j) true asker x = put_key k (key_of (next_id w a)) (fresh a asker) x

    enter_keys : (a k : ℕ) (s : Option ℕ) (c : CallId) (seen : LeaderState) (b : Bool) (x : ℕ) → KeyIn z ((after_enter w a k s c seen b).keys x)
    enter_keys a k s c seen false x = within.keys x
    enter_keys a k s c seen true x = within.keys x

    own_keys : (a k : ℕ) (s : Option ℕ) (seen : KeyState) (f : Bool) (x : ℕ) → KeyIn z ((ready_own w a k s seen f).keys x)
    own_keys a k None seen f x = within.keys x
    own_keys a k (Some j) seen f x = within.keys x

    pub ask_keys : (a k : ℕ) (s : Option ℕ) (step : AskStep) → w.stages a ≡ Asking k s step → (x : ℕ) → KeyIn z ((ask_stepped w a k s step).keys x)
    ask_keys a k s (ask.Look failed) at x = within.keys x
    ask_keys a k s (ask.Peek c) at x = within.keys x
    ask_keys a k s (ask.ReadyOwn seen f) at x = own_keys a k s seen f x
    ask_keys a k s (ask.ReadyLead seen f) at x = within.keys x
    ask_keys a k s (ask.Lead seen f) at x = lead_keys a k s (same_key (w.keys k) seen) (stage_at a (Asking k s (ask.Lead seen f)) at).0 x
    ask_keys a k s (ask.ReadyJoin c seen) at x = within.keys x
    ask_keys a k s (ask.Link c seen) at x = within.keys x
    ask_keys a k s (ask.Enter c seen) at x = enter_keys a k s c seen (is_open_with seen (w.calls c.caller)) x

    close_keys : (a k g : ℕ) (own : Option CallId) (v : V) (seen : LeaderState) (b : Bool) (x : ℕ) → KeyIn z ((after_close w a k g own v seen b).keys x)
    close_keys a k g own v seen false x = within.keys x
    close_keys a k g own v seen true x = within.keys x

    pub settle_keys : (a k g : ℕ) (own : Option CallId) (v : V) (step : SettleStep) (x : ℕ) → KeyIn z ((settle_stepped w a k g own v step).keys x)
    settle_keys a k g own v settle.Peek x = within.keys x
    settle_keys a k g own v (settle.Close seen) x = close_keys a k g own v seen (is_open_with seen (w.calls a)) x
    settle_keys a k g own v (settle.Clear top) x = cleared_keys k (call_of a g) (same_key (w.keys k) (Names a g false)) refl x
    settle_keys a k g own v (settle.Count n m top) x = within.keys x
    settle_keys a k g own v (settle.Follow joiners m) x = within.keys x
    settle_keys a k g own v (settle.PeekMember joiners m next) x = within.keys x
    settle_keys a k g own v (settle.Deliver joiners m next) x = within.keys x
    settle_keys a k g own v (settle.PeekOwn joiners) x = within.keys x
    settle_keys a k g own v (settle.DeliverOwn joiners m) x = within.keys x

    forgot_keys : (a k : ℕ) (target : Option CallId) (c : CallId) (seen : LeaderState) (b : Bool) (x : ℕ) → KeyIn z ((forgot w a k target c seen b).keys x)
    forgot_keys a k target c seen false x = within.keys x
    forgot_keys a k target c seen true x = within.keys x

    first_keys : (a k : ℕ) (target : Option CallId) (c : CallId) (b : Bool) → same_key (w.keys k) (key_of c) ≡ b → (x : ℕ) → KeyIn z ((forget_cleared w a k target c b).keys x)
    first_keys a k target c false same x = within.keys x
    first_keys a k target c true same x = put_key k (cleared_key_of c) (key_call k c same) x

    pub forget_keys : (a k : ℕ) (target : Option CallId) (step : ForgetStep) (x : ℕ) → KeyIn z ((forget_stepped w a k target step).keys x)
    forget_keys a k target (forget.Look failed) x = within.keys x
    forget_keys a k target (forget.Peek c) x = within.keys x
    forget_keys a k target (forget.Close c seen) x = forgot_keys a k target c seen (is_open_with seen (w.calls c.caller)) x
    forget_keys a k target (forget.FirstClear c) x = first_keys a k target c (same_key (w.keys k) (key_of c)) refl x
    forget_keys a k target (forget.LastClear c) x = cleared_keys k c (same_key (w.keys k) (key_of c)) refl x

    -- call words
    put_word : (b : ℕ) (v : CallState) → WordIn z v → (x : ℕ) → WordIn z (put w.calls b v x)
    put_word b v new x = put_cases (λ (u : CallState). WordIn z u) w.calls b v x (λ here. new) (λ other. within.calls x)

    lead_calls : (a k : ℕ) (s : Option ℕ) (b : Bool) (x : ℕ) → WordIn z ((after_lead w a k s b).calls x)
    lead_calls a k s false x = within.calls x
    lead_calls a k None true x = within.calls x
    lead_calls a k (Some j) true x = within.calls x

    enter_calls : (a k : ℕ) (s : Option ℕ) (c : CallId) (seen : LeaderState) (b : Bool) → LeaderIn z seen → IsCaller z (joiner a s) → (x : ℕ) → WordIn z ((after_enter w a k s c seen b).calls x)
    enter_calls a k s c seen false lawful who x = within.calls x
    enter_calls a k s c seen true lawful who x = put_word c.caller (word.Open (with_top seen (joiner a s))) (lawful.0, who) x

    own_calls : (a k : ℕ) (s : Option ℕ) (seen : KeyState) (f : Bool) → w.stages a ≡ Asking k s (ask.ReadyOwn seen f) → (x : ℕ) → WordIn z ((ready_own w a k s seen f).calls x)
    own_calls a k None seen f at x = within.calls x
    own_calls a k (Some j) seen f at x = put_word j (word.Listed (w.generations j)) (fresh j (joiner_in a k (Some j) (ask.ReadyOwn seen f) at)).1 x

    pub ask_calls : (a k : ℕ) (s : Option ℕ) (step : AskStep) → w.stages a ≡ Asking k s step → (x : ℕ) → WordIn z ((ask_stepped w a k s step).calls x)
    ask_calls a k s (ask.Look failed) at x = within.calls x
    ask_calls a k s (ask.Peek c) at x = within.calls x
    ask_calls a k s (ask.ReadyOwn seen f) at x = own_calls a k s seen f at x
    ask_calls a k s (ask.ReadyLead seen f) at x = put_word a (word.Open (record { generation = w.generations a; own = is_some s; top = None })) ((fresh a (stage_at a (Asking k s (ask.ReadyLead seen f)) at).0).1, tt) x
    ask_calls a k s (ask.Lead seen f) at x = lead_calls a k s (same_key (w.keys k) seen) x
    ask_calls a k s (ask.ReadyJoin c seen) at x = put_word (joiner a s) (word.Listed (w.generations (joiner a s))) (fresh (joiner a s) (joiner_in a k s (ask.ReadyJoin c seen) at)).1 x
    ask_calls a k s (ask.Link c seen) at x = within.calls x
    ask_calls a k s (ask.Enter c seen) at x = enter_calls a k s c seen (is_open_with seen (w.calls c.caller)) (stage_at a (Asking k s (ask.Enter c seen)) at).1.1 (joiner_in a k s (ask.Enter c seen) at).0 x

    close_calls : (a k g : ℕ) (own : Option CallId) (v : V) (seen : LeaderState) (b : Bool) → LeaderIn z seen → (x : ℕ) → WordIn z ((after_close w a k g own v seen b).calls x)
    close_calls a k g own v seen false lawful x = within.calls x
    close_calls a k g own v seen true lawful x = put_word a (word.Done seen) lawful x

    clear_calls : (k : ℕ) (c : CallId) (b : Bool) (x : ℕ) → WordIn z ((cleared w k c b).calls x)
    clear_calls k c false x = within.calls x
    clear_calls k c true x = within.calls x

    -- a member that waits has a lawful generation
    waiting_in : (k : ℕ) (c m : CallId) → Waits w k c m → IsGeneration m.generation
    waiting_in k c m waits = subst (WordIn z) waits.1 (within.calls m.caller)

    pub settle_calls : (a k g : ℕ) (own : Option CallId) (v : V) (step : SettleStep) → w.stages a ≡ Settling k g own v step → (x : ℕ) → WordIn z ((settle_stepped w a k g own v step).calls x)
    settle_calls a k g own v settle.Peek at x = within.calls x
    settle_calls a k g own v (settle.Close seen) at x = close_calls a k g own v seen (is_open_with seen (w.calls a)) (stage_at a (Settling k g own v (settle.Close seen)) at).3 x
    settle_calls a k g own v (settle.Clear top) at x = clear_calls k (call_of a g) (same_key (w.keys k) (Names a g false)) x
    settle_calls a k g own v (settle.Count n m top) at x = within.calls x
    settle_calls a k g own v (settle.Follow joiners m) at x = within.calls x
    settle_calls a k g own v (settle.PeekMember joiners m next) at x = within.calls x
    settle_calls a k g own v (settle.Deliver joiners m next) at x =
        let good : GoodSettle h w a k g own v (settle.Deliver joiners m next) = good_at a (Settling k g own v (settle.Deliver joiners m next)) at in
        put_word m.caller (word.Full m.generation) (waiting_in k (call_of a g) m (line_head (Waits w k (call_of a g)) own m good.0 good.1.waits)) x
    settle_calls a k g own v (settle.PeekOwn joiners) at x = within.calls x
    settle_calls a k g own v (settle.DeliverOwn joiners m) at x =
        let good : GoodSettle h w a k g own v (settle.DeliverOwn joiners m) = good_at a (Settling k g own v (settle.DeliverOwn joiners m)) at in
        let waits : Each (Waits w k (call_of a g)) (m ∷ []) = subst (λ (o : Option CallId). Each (Waits w k (call_of a g)) (line o [])) good.2 good.0.waits in
        put_word m.caller (word.Full m.generation) (waiting_in k (call_of a g) m waits.0) x

    forgot_calls : (a k : ℕ) (target : Option CallId) (c : CallId) (seen : LeaderState) (b : Bool) → LeaderIn z seen → (x : ℕ) → WordIn z ((forgot w a k target c seen b).calls x)
    forgot_calls a k target c seen false lawful x = within.calls x
    forgot_calls a k target c seen true lawful x = put_word c.caller (word.Forgot seen) lawful x

    first_calls : (a k : ℕ) (target : Option CallId) (c : CallId) (b : Bool) (x : ℕ) → WordIn z ((forget_cleared w a k target c b).calls x)
    first_calls a k target c false x = within.calls x
    first_calls a k target c true x = within.calls x

    pub forget_calls : (a k : ℕ) (target : Option CallId) (step : ForgetStep) → w.stages a ≡ Forgetting k target step → (x : ℕ) → WordIn z ((forget_stepped w a k target step).calls x)
    forget_calls a k target (forget.Look failed) at x = within.calls x
    forget_calls a k target (forget.Peek c) at x = within.calls x
    forget_calls a k target (forget.Close c seen) at x = forgot_calls a k target c seen (is_open_with seen (w.calls c.caller)) (stage_at a (Forgetting k target (forget.Close c seen)) at).1 x
    forget_calls a k target (forget.FirstClear c) at x = first_calls a k target c (same_key (w.keys k) (key_of c)) x
    forget_calls a k target (forget.LastClear c) at x = clear_calls k c (same_key (w.keys k) (key_of c)) x

    -- next words
    pub ask_nexts : (a k : ℕ) (s : Option ℕ) (step : AskStep) → w.stages a ≡ Asking k s step → (x : ℕ) → TopIn z ((ask_stepped w a k s step).nexts x)
    ask_nexts a k s (ask.Look failed) at x = within.nexts x
    ask_nexts a k s (ask.Peek c) at x = within.nexts x
    ask_nexts a k s (ask.ReadyOwn seen f) at x = own s
      where
        own : (s : Option ℕ) → TopIn z ((ready_own w a k s seen f).nexts x)
        own None = within.nexts x
        own (Some j) = within.nexts x
    ask_nexts a k s (ask.ReadyLead seen f) at x = within.nexts x
    ask_nexts a k s (ask.Lead seen f) at x = lead s (same_key (w.keys k) seen)
      where
        lead : (s : Option ℕ) (b : Bool) → TopIn z ((after_lead w a k s b).nexts x)
        lead s false = within.nexts x
        lead None true = within.nexts x
        lead (Some j) true = within.nexts x
    ask_nexts a k s (ask.ReadyJoin c seen) at x = within.nexts x
    ask_nexts a k s (ask.Link c seen) at x = put_cases (λ (u : Option ℕ). TopIn z u) w.nexts (joiner a s) seen.top x (λ here. (stage_at a (Asking k s (ask.Link c seen)) at).1.1.1) (λ other. within.nexts x)
    ask_nexts a k s (ask.Enter c seen) at x = enter (is_open_with seen (w.calls c.caller))
      where
        enter : (b : Bool) → TopIn z ((after_enter w a k s c seen b).nexts x)
        enter false = within.nexts x
        enter true = within.nexts x

    pub settle_nexts : (a k g : ℕ) (own : Option CallId) (v : V) (step : SettleStep) (x : ℕ) → TopIn z ((settle_stepped w a k g own v step).nexts x)
    settle_nexts a k g own v settle.Peek x = within.nexts x
    settle_nexts a k g own v (settle.Close seen) x = close (is_open_with seen (w.calls a))
      where
        close : (b : Bool) → TopIn z ((after_close w a k g own v seen b).nexts x)
        close false = within.nexts x
        close true = within.nexts x
    settle_nexts a k g own v (settle.Clear top) x = clear (same_key (w.keys k) (Names a g false))
      where
        clear : (b : Bool) → TopIn z ((cleared w k (call_of a g) b).nexts x)
        clear false = within.nexts x
        clear true = within.nexts x
    settle_nexts a k g own v (settle.Count n m top) x = within.nexts x
    settle_nexts a k g own v (settle.Follow joiners m) x = within.nexts x
    settle_nexts a k g own v (settle.PeekMember joiners m next) x = within.nexts x
    settle_nexts a k g own v (settle.Deliver joiners m next) x = within.nexts x
    settle_nexts a k g own v (settle.PeekOwn joiners) x = within.nexts x
    settle_nexts a k g own v (settle.DeliverOwn joiners m) x = within.nexts x

    pub forget_nexts : (a k : ℕ) (target : Option CallId) (step : ForgetStep) (x : ℕ) → TopIn z ((forget_stepped w a k target step).nexts x)
    forget_nexts a k target (forget.Look failed) x = within.nexts x
    forget_nexts a k target (forget.Peek c) x = within.nexts x
    forget_nexts a k target (forget.Close c seen) x = close (is_open_with seen (w.calls c.caller))
      where
        close : (b : Bool) → TopIn z ((forgot w a k target c seen b).nexts x)
        close false = within.nexts x
        close true = within.nexts x
    forget_nexts a k target (forget.FirstClear c) x = first (same_key (w.keys k) (key_of c))
      where
        first : (b : Bool) → TopIn z ((forget_cleared w a k target c b).nexts x)
        first false = within.nexts x
        first true = within.nexts x
    forget_nexts a k target (forget.LastClear c) x = clear (same_key (w.keys k) (key_of c))
      where
        clear : (b : Bool) → TopIn z ((cleared w k c b).nexts x)
        clear false = within.nexts x
        clear true = within.nexts x
