-- One holder more of an open call.
use Rattle.std.proofs.Common.{◌*◌, ◌≡◌, ◌≢◌, ℕ, ◌+◌, ◌/◌, ◌%◌, ◌<◌, true, false, eqb, List, [], ◌∷◌, ◌++◌, set, length, refl, sym, ◌∙◌, ap, subst, arith}
use Rattle.std.proofs.lemmas.Bool.{true≢false}
use Rattle.std.specs.Prelude.{slice_index}
use prog.Atomic.{either}
use mathlib.Core.Option.{some}
use mathlib.Core.Logic.{dite}
use native.Mathlib.Decide.{ℕ_discrete}
use lib.ListN.{get_elem?}
use Rattle.atomic_table.specs.Table.{State, Me, Valid, stepped, keeps, Allows}
use Rattle.atomic_table.proofs.Lists.{exchanged}
use Rattle.sf_history.specs.declared.call.CallId.{CallId}
use Rattle.sf_history.specs.History.{joined}
use Rattle.sf_keyed_tells.specs.Tells.{KeyedEvent}
use Rattle.sf_history.specs.declared.event.Event.TheVariants.{Enter}
use Rattle.sf_keyed_tells.specs.Tells.{call_of, Tells}
use Rattle.sf_keyed_tells.proofs.Telling.{by_bool, enter_tells}
use Rattle.sf_keyed_words.specs.declared.rule.KeyedSizes.{KeyedSizes}
use Rattle.sf_keyed_words.specs.declared.rule.View.{View}
use Rattle.sf_keyed_words.specs.Rule.{state_at, is_open_word, IsView, held_at, KeyedTable, Holds}
use Rattle.sf_keyed_words.specs.Plays.{loses, tries_join, joined_view}
use Rattle.sf_keyed_words.proofs.Results.{enter_members, plain_settled, result_kept, other_joined, now_joined}
use Rattle.sf_keyed_words.proofs.Seats.{losing, made, still, view_away, held_here, held_else}
use Rattle.sf_keyed_words.proofs.States.{state_set, shows_state, own_never, last_never, moved, away_state, whole, one_more, one_call, open_parts, open_from, shut_from}

pub record MayJoin (z : KeyedSizes) (v : View) (old new : ℕ) : Type 0 where
  pub cell : v.but % 1048576 < z.cells
  pub some_call : v.but ≢ 0
  pub opened : is_open_word old v.but ≡ true
  pub upper : new / 2097152 ≡ old / 2097152
  pub bit : new / 1048576 % 2 ≡ 1
  pub holder : new % 1048576 ≡ old % 1048576 + 1
  pub told : v.told ≡ true
  pub idle : v.ticket ≡ 0

-- what the seat knows where the exchange finds the call open: it was led, is open, and has the name that was read
pub record OpenFound (z : KeyedSizes) (t : State ℕ View) (p : KeyedTable z t) (v : View) : Type 0 where
  pub led : p.words.led v.but ≡ true
  pub live : p.words.closed v.but ≡ false
  pub key : p.words.key_of v.but ≡ v.name

pub open_found : (z : KeyedSizes) (t : State ℕ View) (p : KeyedTable z t) (id old : ℕ) (v : View) → IsView z p.words p.history t.words p.holder id v → v.but ≢ 0 → is_open_word old v.but ≡ true → v.told ≡ true
    → slice_index t.words (state_at z v.but) ≡ old → OpenFound z t p v
open_found z t p id old v m any opened told found =
    let s = p.words in
    let led : s.led v.but ≡ true = m.look.but any in
    let live : s.closed v.but ≡ false = by_bool (s.closed v.but) (λ shut. true≢false (sym opened ∙ (ap (λ n. is_open_word n v.but) (sym found) ∙ p.shows.shut v.but led shut))) in
    record {
      led = led;
      live = live;
      key = dite (ℕ_discrete (s.key_of v.but) v.name) (λ is. is) (λ isnt. absurd (m.look.told told (s.key_of v.but) isnt led live refl));
    }

abbrev pub Outcome : (z : KeyedSizes) (id old : ℕ) (me : Me ℕ View) (t : State ℕ View) → ℕ → Type 0
Outcome z id old me t x = (w : View) × (a : _) × Valid t.homes me.1 a × Holds z (stepped t (state_at z me.0.but) x id me.1 w a) × tries_join me.0 old (slice_index t.words (state_at z me.0.but)) w

join_won : (z : KeyedSizes) (id old new : ℕ) (me : Me ℕ View) → MayJoin z me.0 old new → (t : State ℕ View) → Holds z t → get_elem? t.views id ≡ some me.0
    → slice_index t.words (state_at z me.0.but) ≡ old → Outcome z id old me t new
join_won z id old new me may t p is found =
    let v = me.0 in
    let s = p.words in
    let h = p.history in
    let m = p.seats id v is in
    let e : ℕ = v.but in
    let c : ℕ = e % 1048576 in
    let cell = may.cell in
    let i : ℕ = state_at z e in
    let parts = open_parts old e may.opened in
    let gen = parts.0 in
    let two = parts.1 in
    let upper = may.upper in
    let new_gen : new / 8388608 ≡ old / 8388608 = omega (arith, upper) in
    let new_tag : new / 2097152 % 4 ≡ old / 2097152 % 4 = ap (λ n. n % 4) upper in
    let new_held : new % 1048576 ≡ old % 1048576 + 1 = may.holder in
    let new_bit : new / 1048576 % 2 ≡ 1 = may.bit in
    let f = open_found z t p id old v m may.some_call may.opened may.told found in
    let mem : CallId = record { caller = 1048576 + id; generation = length h } in
    let x : KeyedEvent = Enter (1048576 + id) v.name (call_of e) mem in
    let h2 : List KeyedEvent = h ++ x ∷ [] in
    let tells : Tells s h2 = subst (λ k. Tells s (h ++ Enter (1048576 + id) k (call_of e) mem ∷ [])) f.key
    (enter_tells s e mem h f.led f.live (omega arith) (p.members (1048576 + id) (length h) (omega arith) (omega arith)) p.tells) in
    let ws : List ℕ = set t.words i new in
    let st = state_set z t.words c new cell p.shows.size in
    let away = away_state z s s h h2 t.words ws p.holder p.holder c new st (λ j apart. refl) (λ d. refl) (λ d _ before. plain_settled h x (call_of d) refl before) (λ d apart. other_joined h e d v.name mem (λ q. apart (ap (λ k. k % 1048576) (sym q)))) in
    let was : (d : ℕ) → d % 1048576 ≡ c → slice_index t.words (state_at z d) ≡ old = λ d here. ap (λ q. slice_index t.words (z.tops + z.sides + 8 * q)) here ∙ found in
    let all : (k : ℕ) (u : View) → get_elem? t.views k ≡ some u → IsView z s h2 ws p.holder k u = λ k u at. view_away z s s h h2 t.words ws p.holder p.holder c k u away (one_more h x) (λ l. l) (λ _ l. l)
    (λ any here o. own_never z s t.words p.holder k u.own u.named u.key old e c found gen refl f.led here o)
    (λ any here o. record {
      led = o.led;
      holder_is = o.holder_is;
      within = o.within;
      generation = ap (λ n. n / 8388608) (st.at u.leads here) ∙ (new_gen ∙ (sym (ap (λ n. n / 8388608) (was u.leads here)) ∙ o.generation));
      runs = ap (λ n. n / 2097152 % 4 % 2) (st.at u.leads here) ∙ (ap (λ n. n % 2) new_tag ∙ (sym (ap (λ n. n / 2097152 % 4 % 2) (was u.leads here)) ∙ o.runs));
      unsettled = plain_settled h x (call_of u.leads) refl o.unsettled;
      value_is = λ yes. st.value u.leads ∙ o.value_is yes;
      joins =
          let bit : slice_index ws (state_at z u.leads) / 1048576 % 2 ≡ 1 = ap (λ n. n / 1048576 % 2) (st.at u.leads here) ∙ new_bit in
          let mine : e ≡ u.leads = one_call e u.leads c (old / 8388608) refl here gen (sym (ap (λ n. n / 8388608) (was u.leads here)) ∙ o.generation) in
          (λ none. absurd (omega (arith, bit, none)), λ _. subst (λ q. joined h2 (call_of q) ≢ 0) mine (now_joined h e v.name mem));
    })
    (λ any here o. record {
      led = o.led;
      within = o.within;
      generation = ap (λ n. n / 8388608) (st.at u.ticket here) ∙ (new_gen ∙ (sym (ap (λ n. n / 8388608) (was u.ticket here)) ∙ o.generation));
      settled = λ yes. ap (λ n. n / 2097152 % 4 % 2) (st.at u.ticket here) ∙ (ap (λ n. n % 2) new_tag ∙ (sym (ap (λ n. n / 2097152 % 4 % 2) (was u.ticket here)) ∙ o.settled yes));
    })
    (λ any here o. last_never z p.words t.words p.holder k u.last old c found (λ odd none. omega (arith, two, odd)) here o)
    (p.seats k u at) in
    let mine = all id v is in
    let none : (d : ℕ) → held_at d v.ticket ≡ 0 = λ d. ap (held_at d) may.idle in
    let w : View = joined_view v h2 in (
      w,
      keeps,
      tt,
      made z t p id i new me w s h2 p.holder p.keeps tells (enter_members h e v.name (1048576 + id) p.members)
          (shows_state z s h h2 t.words ws c old new s.closed cell st p.shows found
          (λ d here led live. let o = open_parts _ d (p.shows.live d led live).0 in
          let a : old / 8388608 ≡ d / 1048576 = sym (ap (λ n. n / 8388608) (was d here)) ∙ o.0 in
          (open_from new d (new_gen ∙ a) (new_tag ∙ two), live))
          (λ d here led shut. shut_from new d (λ a b. true≢false (sym (open_from old d (sym new_gen ∙ a) two) ∙ (ap (λ n. is_open_word n d) (sym (was d here)) ∙ p.shows.shut d led shut))))
          (λ d apart. refl)
          p.shows.only
          (omega (arith, new_gen))
          (λ d here led a odd. let even : new / 2097152 % 4 ≡ 2 = new_tag ∙ two in absurd (omega (arith, even, odd)))
          (λ d r a. result_kept h x (call_of d) r a))
          is
          (moved z t.words ws c old new v w st found
          (let a = held_here c e may.some_call refl in let b = none c in omega (arith, a, b, new_held))
          (λ d apart. ap (λ n. held_at d v.own + held_at d v.leads + n) (none d ∙ sym (held_else d e (λ q. apart (sym q))))))
          (λ k u apart at. all k u at)
          (record {
            seen = whole h2;
            heard = mine.heard;
            look = mine.look;
            walk = mine.walk;
            own = mine.own;
            begun = mine.begun;
            leads = mine.leads;
            ticket = λ any. record {
              led = f.led;
              within = cell;
              generation = ap (λ n. n / 8388608) (st.at e refl) ∙ (new_gen ∙ gen);
              settled = λ no. absurd (true≢false (sym no));
            };
            last = mine.last;
          }),
      record {
        won = λ _. (refl, record { member = mem; adds = record { before = m.seen.0; seen = ap (λ l. l ++ x ∷ []) m.seen.1; legal = tells.legal; gone = λ k is. tells.shuts k (mine.look.gone k is).none } });
        lost = λ no. absurd (no found);
      },
    )

join_lost : (z : KeyedSizes) (id old : ℕ) (me : Me ℕ View) → (t : State ℕ View) → Holds z t → get_elem? t.views id ≡ some me.0
    → slice_index t.words (state_at z me.0.but) ≢ old → Outcome z id old me t (slice_index t.words (state_at z me.0.but))
join_lost z id old me t p is differ = (
  loses me.0,
  keeps,
  tt,
  still z t p id (state_at z me.0.but) me (loses me.0) is (λ d. refl) (losing z p.words p.history t.words p.holder id me.0 (p.seats id me.0 is)),
  record { won = λ yes. absurd (differ yes); lost = λ _. refl },
)

pub joins : (z : KeyedSizes) (slots id old new : ℕ) (me : Me ℕ View) → MayJoin z me.0 old new
    → Allows (Holds z) slots id me (state_at z me.0.but) (λ n. either (eqb n old) new n) (λ n after. tries_join me.0 old n after.0)
joins z slots id old new me may t p len is fits =
    exchanged (slice_index t.words (state_at z me.0.but)) old new (Outcome z id old me t) (join_won z id old new me may t p is) (join_lost z id old me t p is)
