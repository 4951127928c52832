-- the worlds that several writes make, one after the other
use Rattle.std.proofs.Common.{◌≡◌, ◌≢◌, ℕ, zero, suc, ◌+◌, ◌<◌, arith, Bool, true, false, List, [], ◌∷◌, Option, Some, None, refl, sym, ◌∙◌, ap}
use Rattle.std.specs.Prelude.{cond}
use Rattle.sf_history.specs.declared.call.CallId.{CallId}
use Rattle.sf_history.specs.declared.event.Event.{Event}
use Rattle.sf_history.specs.declared.event.Event.TheVariants.{Lead}
use Rattle.sf_words.specs.declared.key_word.KeyState.{KeyState}
use Rattle.sf_words.specs.declared.key_word.KeyState.TheVariants.{Names}
use Rattle.sf_words.specs.declared.call_word.LeaderState.{LeaderState}
use Rattle.sf_words.specs.declared.call_word.CallState.{CallState}
use Rattle.sf_words.specs.declared.call_word.CallState.TheVariants as word
use Rattle.sf_steps_laws.specs.declared.letter.Letter.{Letter}
use Rattle.sf_steps_laws.specs.declared.operation.Stage.{Stage}
use Rattle.sf_steps_laws.specs.declared.operation.Stage.TheVariants.{Free, Leading, Holding, Settling}
use Rattle.sf_steps_laws.specs.declared.operation.SettleStep.{SettleStep}
use Rattle.sf_steps_laws.specs.declared.operation.SettleStep.TheVariants as settle
use Rattle.sf_steps_laws.specs.World.{World, with_key, with_call, with_stage, with_used, next_id, key_of, same_key, is_open_with, count}
use Rattle.sf_steps_laws.specs.Askings.{joiner, with_top, own_of, holds_own, after_lead, after_enter}
use Rattle.sf_steps_laws.specs.Turns.{after_own_peek, at_members, at_count, cleared, delivered, stepped}
use Rattle.sf_steps_laws.specs.Events.{lead_events}
use Rattle.sf_steps.specs.Settling.{result_in, settling_at, members_at, count_at}
use Rattle.sf_steps.proofs.Rows.{put_apart, staged_again}

module _ {V : Type 0} where
  keyed_holds : (w : World V) (a k : ℕ) (s : Option ℕ) (v : KeyState) → holds_own (with_key w k v) a k s ≡ with_key (holds_own w a k s) k v
  keyed_holds w a k None v = refl
  keyed_holds w a k (Some b) v = refl

  keyed_own : (w : World V) (k : ℕ) (s : Option ℕ) (v : KeyState) → own_of (with_key w k v) s ≡ own_of w s
  keyed_own w k None v = refl
  keyed_own w k (Some b) v = refl

  -- a lead whose exchange is done
  pub lead_done : (w keyed u : World V) (a k : ℕ) (s : Option ℕ) (seen : KeyState) (done : Bool) → done ≡ same_key (w.keys k) seen → done ≡ true → keyed ≡ cond done (with_key w k (key_of (next_id w a))) w
      → u ≡ with_used (with_stage (holds_own keyed a k s) a (Leading k (keyed.generations a) (own_of keyed s))) a → u ≡ after_lead w a k s (same_key (w.keys k) seen)
  lead_done w keyed u a k s seen done tested yes_done was is =
      let key = key_of (next_id w a) in
      is ∙ (ap (λ (x : World V). with_used (with_stage (holds_own x a k s) a (Leading k (x.generations a) (own_of x s))) a) (was ∙ ap (λ (b : Bool). cond b (with_key w k key) w) yes_done)
      ∙ (ap (λ (x : World V). with_used (with_stage x a (Leading k (w.generations a) (own_of (with_key w k key) s))) a) (keyed_holds w a k s key)
      ∙ (ap (λ (o : Option CallId). with_used (with_stage (with_key (holds_own w a k s) k key) a (Leading k (w.generations a) o)) a) (keyed_own w k s key)
      ∙ ap (λ (b : Bool). after_lead w a k s b) (sym yes_done ∙ tested))))

  -- an enter whose exchange is done
  pub enter_done : (w called u : World V) (a k j : ℕ) (s : Option ℕ) (c : CallId) (seen : LeaderState) (done : Bool) → done ≡ is_open_with seen (w.calls c.caller) → done ≡ true → called ≡ cond done (with_call w c.caller (word.Open (with_top seen j))) w
      → j ≡ joiner a s → u ≡ with_used (with_stage (with_stage called a Free) (joiner a s) (Holding k (called.generations (joiner a s)) c)) (joiner a s) → u ≡ after_enter w a k s c seen (is_open_with seen (w.calls c.caller))
  enter_done w called u a k j s c seen done tested yes_done was who is =
      is ∙ (ap (λ (x : World V). with_used (with_stage (with_stage x a Free) (joiner a s) (Holding k (x.generations (joiner a s)) c)) (joiner a s)) (was ∙ (ap (λ (b : Bool). cond b (with_call w c.caller (word.Open (with_top seen j))) w) yes_done
      ∙ ap (λ (i : ℕ). with_call w c.caller (word.Open (with_top seen i))) who))
      ∙ ap (λ (b : Bool). after_enter w a k s c seen b) (sym yes_done ∙ tested))

  -- two stages of different callers
  pub staged_apart : (w : World V) (a b : ℕ) (s t : Stage V) → a ≢ b → with_stage (with_stage w a s) b t ≡ with_stage (with_stage w b t) a s
  staged_apart w a b s t apart = ap (λ (row : ℕ → Stage V). record w { stages = row }) (put_apart w.stages a b s t apart)

  -- a settle that goes on to the count of its members, after the clear of its key word
  count_cleared : (w : World V) (a k g : ℕ) (own : Option CallId) (v : V) (top : Option ℕ) (b : Bool) (x : World V) → x ≡ cond b (with_key w k (Names a g true)) w → w.stages a ≡ Settling k g own v (settle.Clear top)
      → with_stage x a (count_at top (x.stages a)) ≡ with_stage (cleared w k (record { caller = a; generation = g }) b) a (at_count k g own v top)
  count_cleared w a k g own v top false x is at = ap (λ (y : World V). with_stage y a (count_at top (y.stages a))) is ∙ ap (λ (s : Stage V). with_stage w a (count_at top s)) at
  count_cleared w a k g own v top true x is at =
      ap (λ (y : World V). with_stage y a (count_at top (y.stages a))) is ∙ ap (λ (s : Stage V). with_stage (with_key w k (Names a g true)) a (count_at top s)) at

  pub clear_done : (w x u : World V) (a k g : ℕ) (own : Option CallId) (v : V) (top : Option ℕ) (done : Bool) → w.stages a ≡ Settling k g own v (settle.Clear top) → done ≡ same_key (w.keys k) (Names a g false)
      → x ≡ cond done (with_key w k (Names a g true)) w → u ≡ with_stage x a (count_at top (x.stages a)) → u ≡ stepped w a (w.stages a)
  clear_done w x u a k g own v top done at tested was is =
      is ∙ (count_cleared w a k g own v top done x was at ∙ (ap (λ (b : Bool). with_stage (cleared w k (record { caller = a; generation = g }) b) a (at_count k g own v top)) tested ∙ ap (λ (s : Stage V). stepped w a s) (sym at)))

  the_same : (v x : V) → Some v ≡ Some x → x ≡ v
  the_same v x is = cc

  -- a letter that is put into its cell while the settle goes on
  pub deliver_done : (w x u : World V) (a k g : ℕ) (own : Option CallId) (v y : V) (joiners : ℕ) (m : CallId) (next : Option ℕ) → w.stages a ≡ Settling k g own v (settle.Deliver joiners m next) → result_in (w.stages a) ≡ Some y
      → x ≡ with_stage w a (members_at joiners next (w.stages a)) → u ≡ delivered x m (record { place = k; call = record { caller = a; generation = g }; value = y; joiners = joiners }) → u ≡ stepped w a (w.stages a)
  deliver_done w x u a k g own v y joiners m next at value was is =
      let letter : V → Letter V = λ z. record { place = k; call = record { caller = a; generation = g }; value = z; joiners = joiners } in
      is ∙ (ap (λ (o : World V). delivered o m (letter y)) (was ∙ ap (λ (s : Stage V). with_stage w a (members_at joiners next s)) at)
      ∙ (ap (λ (z : V). with_stage (delivered w m (letter z)) a (at_members k g own v joiners next)) (the_same v y (sym (ap result_in at) ∙ value)) ∙ ap (λ (s : Stage V). stepped w a s) (sym at)))

  pub deliver_own_done : (w x u : World V) (a k g : ℕ) (own : Option CallId) (v y : V) (joiners : ℕ) (m : CallId) → w.stages a ≡ Settling k g own v (settle.DeliverOwn joiners m) → result_in (w.stages a) ≡ Some y
      → x ≡ with_stage w a Free → u ≡ delivered x m (record { place = k; call = record { caller = a; generation = g }; value = y; joiners = joiners }) → u ≡ stepped w a (w.stages a)
  deliver_own_done w x u a k g own v y joiners m at value was is =
      let letter : V → Letter V = λ z. record { place = k; call = record { caller = a; generation = g }; value = z; joiners = joiners } in
      is ∙ (ap (λ (o : World V). delivered o m (letter y)) was ∙ (ap (λ (z : V). with_stage (delivered w m (letter z)) a Free) (the_same v y (sym (ap result_in at) ∙ value)) ∙ ap (λ (s : Stage V). stepped w a s) (sym at)))

  -- what a successful lead adds
  pub lead_adds : (w keyed : World V) (es : List (Event ℕ V)) (a k : ℕ) (s : Option ℕ) (seen v : KeyState) (call : CallId) (own : Option CallId) (done : Bool) → done ≡ same_key (w.keys k) seen → done ≡ true → keyed ≡ cond done (with_key w k v) w
      → call ≡ next_id w a → own ≡ own_of keyed s → es ≡ Lead a k call own ∷ [] → es ≡ lead_events w a k s (same_key (w.keys k) seen)
  lead_adds w keyed es a k s seen v call own done tested yes_done was is_call is_own is =
      let owns : own ≡ own_of w s = is_own ∙ (ap (λ (x : World V). own_of x s) (was ∙ ap (λ (b : Bool). cond b (with_key w k v) w) yes_done) ∙ keyed_own w k s v) in
      is ∙ (ap (λ (d : CallId). Lead a k d own ∷ []) is_call ∙ (ap (λ (o : Option CallId). Lead a k (next_id w a) o ∷ []) owns ∙ ap (λ (b : Bool). lead_events w a k s b) (sym yes_done ∙ tested)))

  -- the world in which the caller leads, alone or with a second
  pub leads_alone : (w x u : World V) (a k : ℕ) (s : Option ℕ) (call : CallId) → s ≡ None → call ≡ next_id w a → x ≡ with_stage w a (Leading k call.generation None) → u ≡ with_used x a
      → u ≡ with_used (with_stage (holds_own w a k s) a (Leading k (w.generations a) (own_of w s))) a
  leads_alone w x u a k s call none is_call was is =
      is ∙ (ap (λ (y : World V). with_used y a) was ∙ (ap (λ (d : CallId). with_used (with_stage w a (Leading k d.generation None)) a) is_call
      ∙ ap (λ (o : Option ℕ). with_used (with_stage (holds_own w a k o) a (Leading k (w.generations a) (own_of w o))) a) (sym none)))

  pub leads_with : (w x y u : World V) (a k b : ℕ) (s : Option ℕ) (call m : CallId) → s ≡ Some b → call ≡ next_id w a → m ≡ next_id w b → x ≡ with_stage (with_stage w b (Holding k m.generation call)) a (Leading k call.generation (Some m))
      → y ≡ with_used x b → u ≡ with_used y a → u ≡ with_used (with_stage (holds_own w a k s) a (Leading k (w.generations a) (own_of w s))) a
  leads_with w x y u a k b s call m second is_call is_m was used is =
      let made = λ (d n : CallId). with_used (with_used (with_stage (with_stage w b (Holding k n.generation d)) a (Leading k d.generation (Some n))) b) a in
      is ∙ (ap (λ (z : World V). with_used z a) (used ∙ ap (λ (z : World V). with_used z b) was) ∙ (ap (λ (d : CallId). made d m) is_call ∙ (ap (λ (n : CallId). made (next_id w a) n) is_m
      ∙ ap (λ (o : Option ℕ). with_used (with_stage (holds_own w a k o) a (Leading k (w.generations a) (own_of w o))) a) (sym second))))

  -- the world in which the joiner holds a ticket: the caller itself, or its second
  abbrev ticketed : World V → ℕ → ℕ → Option ℕ → CallId → World V
  ticketed w a k s c = with_used (with_stage (with_stage w a Free) (joiner a s) (Holding k (w.generations (joiner a s)) c)) (joiner a s)

  pub joins_alone : (w x u : World V) (a k j : ℕ) (s : Option ℕ) (c m : CallId) → s ≡ None → m ≡ next_id w j → j ≡ joiner a s → x ≡ with_stage w a (Holding k m.generation c) → u ≡ with_used x a
      → u ≡ with_used (with_stage (with_stage w a Free) (joiner a s) (Holding k (w.generations (joiner a s)) c)) (joiner a s)
  joins_alone w x u a k j s c m none is_m who was is =
      let one : m ≡ next_id w a = is_m ∙ (ap (next_id w) who ∙ ap (λ (o : Option ℕ). next_id w (joiner a o)) none) in
      is ∙ (ap (λ (y : World V). with_used y a) was ∙ (ap (λ (n : CallId). with_used (with_stage w a (Holding k n.generation c)) a) one
      ∙ (ap (λ (y : World V). with_used y a) (sym (staged_again w a Free (Holding k (w.generations a) c))) ∙ ap (λ (o : Option ℕ). ticketed w a k o c) (sym none))))

  pub joins_with : (w x u : World V) (a k b j : ℕ) (s : Option ℕ) (c m : CallId) → b ≢ a → s ≡ Some b → m ≡ next_id w j → j ≡ joiner a s → x ≡ with_stage (with_stage w b (Holding k m.generation c)) a Free → u ≡ with_used x b
      → u ≡ with_used (with_stage (with_stage w a Free) (joiner a s) (Holding k (w.generations (joiner a s)) c)) (joiner a s)
  joins_with w x u a k b j s c m apart second is_m who was is =
      let one : m ≡ next_id w b = is_m ∙ (ap (next_id w) who ∙ ap (λ (o : Option ℕ). next_id w (joiner a o)) second) in
      is ∙ (ap (λ (y : World V). with_used y b) was ∙ (ap (λ (n : CallId). with_used (with_stage (with_stage w b (Holding k n.generation c)) a Free) b) one
      ∙ (ap (λ (y : World V). with_used y b) (staged_apart w b a (Holding k (w.generations b) c) Free apart) ∙ ap (λ (o : Option ℕ). ticketed w a k o c) (sym second))))

  -- a settle that goes on at another step
  pub settle_goes_on : (w x u : World V) (a k g : ℕ) (own : Option CallId) (v : V) (before step : SettleStep) (p : Stage V) → p ≡ w.stages a → p ≡ Settling k g own v before → x ≡ with_stage w a Free → u ≡ with_stage x a (Settling k g own v step)
      → u ≡ with_stage w a (settling_at step (w.stages a))
  settle_goes_on w x u a k g own v before step p same at was is =
      is ∙ (ap (λ (y : World V). with_stage y a (Settling k g own v step)) was ∙ (staged_again w a Free (Settling k g own v step) ∙ ap (λ (q : Stage V). with_stage w a (settling_at step q)) (sym at ∙ same)))

  -- a leader's peek of its own word
  pub peek_done : (w x u : World V) (a k g : ℕ) (own : Option CallId) (v : V) (found : CallState) (step : SettleStep) → w.stages a ≡ Settling k g own v settle.Peek → found ≡ w.calls a → step ≡ after_own_peek found → x ≡ w
      → u ≡ with_stage x a (settling_at step (x.stages a)) → u ≡ stepped w a (w.stages a)
  peek_done w x u a k g own v found step at loaded goes same is =
      is ∙ (ap (λ (y : World V). with_stage y a (settling_at step (y.stages a))) same ∙ (ap (λ (q : Stage V). with_stage w a (settling_at step q)) at
      ∙ (ap (λ (t : SettleStep). with_stage w a (Settling k g own v t)) (goes ∙ ap after_own_peek loaded) ∙ ap (λ (q : Stage V). stepped w a q) (sym at))))

-- a walk of no steps counts nobody
pub count_none : (top : Option ℕ) (nexts : ℕ → Option ℕ) → count top 0 nexts ≡ 0
count_none None nexts = refl
count_none (Some m) nexts = refl

-- a walk goes on by one caller
pub walk_goes : (nexts : ℕ → Option ℕ) (callers seen joiners total m : ℕ) (next got : Option ℕ) → seen < callers → next ≡ Some m → got ≡ nexts m → (left : ℕ) → seen + left ≡ callers → joiners + count next left nexts ≡ total
    → (more : ℕ) × ((seen + 1) + more ≡ callers) × ((joiners + 1) + count got more nexts ≡ total)
walk_goes nexts callers seen joiners total m next got below some after zero parts number = absurd (omega (arith, below, parts))
walk_goes nexts callers seen joiners total m next got below some after (suc left) parts number =
    let there : count next (suc left) nexts ≡ count (Some m) (suc left) nexts = ap (λ (t : Option ℕ). count t (suc left) nexts) some in
    let here : count got left nexts ≡ count (nexts m) left nexts = ap (λ (t : Option ℕ). count t left nexts) after in
    (left, omega (arith, parts), omega (arith, number, there, here))
