-- A call is forgotten: who holds it goes on, and nobody joins it any more.
use Rattle.std.proofs.Common.{◌*◌, ◌≡◌, ◌≢◌, ℕ, ◌+◌, ◌/◌, ◌%◌, ◌<◌, true, eqb, List, [], ◌∷◌, ◌++◌, Some, set, refl, sym, ◌∙◌, ap, subst, arith}
use Rattle.std.proofs.lemmas.Bool.{true≢false}
use Rattle.std.specs.Prelude.{slice_index}
use prog.Atomic.{either}
use mathlib.Core.Option.{some}
use lib.ListN.{get_elem?}
use Rattle.atomic_table.specs.Table.{State, Me, Valid, stepped, keeps, Allows}
use Rattle.atomic_table.proofs.Lists.{exchanged}
use Rattle.sf_lists.specs.Functions.{put}
use Rattle.sf_lists.proofs.Functions.{put_here, put_else}
use Rattle.sf_keyed_tells.specs.Tells.{KeyedEvent}
use Rattle.sf_history.specs.declared.event.Event.TheVariants.{Forget}
use Rattle.sf_keyed_laws.specs.Words.{Words}
use Rattle.sf_keyed_laws.specs.Steps.{Step, closes, closed_one}
use Rattle.sf_keyed_laws.proofs.Walking.{steps_keep, still_open}
use Rattle.sf_keyed_tells.specs.Tells.{call_of, Tells}
use Rattle.sf_keyed_tells.proofs.Telling.{forget_tells}
use Rattle.sf_keyed_words.specs.declared.rule.KeyedSizes.{KeyedSizes}
use Rattle.sf_keyed_words.specs.declared.rule.View.{View}
use Rattle.sf_keyed_words.specs.Rule.{state_at, layout_of, is_open_word, IsView, stake, Holds}
use Rattle.sf_keyed_words.proofs.Lasting.{look_lasts, walk_lasts}
use Rattle.sf_history.proofs.Members.{joined_kept}
use Rattle.sf_keyed_words.proofs.Results.{forget_members, plain_settled, result_kept, says_on}
use Rattle.sf_keyed_words.proofs.Seats.{losing, made, still, view_away}
use Rattle.sf_keyed_words.proofs.States.{state_set, shows_state, own_never, last_never, moved, away_state, whole, one_more, one_call, open_parts, shut_from}
use Rattle.sf_keyed_words.specs.Plays.{loses, tries_close}
use Rattle.sf_keyed_words.proofs.Joining.{open_found}
use Rattle.sf_keyed_words.proofs.Settling.{closed_led}

pub record MayClose (z : KeyedSizes) (v : View) (old new : ℕ) : Type 0 where
  pub cell : v.but % 1048576 < z.cells
  pub some_call : v.but ≢ 0
  pub opened : is_open_word old v.but ≡ true
  pub new_is : new + 4194304 ≡ old
  pub told : v.told ≡ true

abbrev pub Outcome : (z : KeyedSizes) (id old : ℕ) (me : Me ℕ View) (t : State ℕ View) → ℕ → Type 0
Outcome z id old me t x = (w : View) × (a : _) × Valid t.homes me.1 a × Holds z (stepped t (state_at z me.0.but) x id me.1 w a) × tries_close me.0 old (slice_index t.words (state_at z me.0.but)) w

close_won : (z : KeyedSizes) (id old new : ℕ) (me : Me ℕ View) → MayClose z me.0 old new → (t : State ℕ View) → Holds z t → get_elem? t.views id ≡ some me.0
    → slice_index t.words (state_at z me.0.but) ≡ old → Outcome z id old me t new
close_won z id old new me may t p is found =
    let v = me.0 in
    let y = layout_of z in
    let s = p.words in
    let h = p.history in
    let m = p.seats id v is in
    let e : ℕ = v.but in
    let c : ℕ = e % 1048576 in
    let cell = may.cell in
    let new_is = may.new_is in
    let i : ℕ = state_at z e in
    let parts = open_parts old e may.opened in
    let gen = parts.0 in
    let two = parts.1 in
    let new_gen : new / 8388608 ≡ old / 8388608 = omega (arith, two, new_is) in
    let new_tag : new / 2097152 % 4 ≡ 0 = omega (arith, two, new_is) in
    let new_held : new % 1048576 ≡ old % 1048576 = omega (arith, new_is) in
    let new_bit : new / 1048576 % 2 ≡ old / 1048576 % 2 = omega (arith, new_is) in
    let f = open_found z t p id old v m may.some_call may.opened may.told found in
    let step : Step y s = closes e f.led in
    let s2 : Words = closed_one s e in
    let x : KeyedEvent = Forget v.number v.name (Some (call_of e)) in
    let h2 : List KeyedEvent = h ++ x ∷ [] in
    let tells : Tells s2 h2 = subst (λ k. Tells s2 (h ++ Forget v.number k (Some (call_of e)) ∷ [])) f.key (forget_tells y s v.number e h p.keeps f.led f.live p.tells) in
    let ws : List ℕ = set t.words i new in
    let st = state_set z t.words c new cell p.shows.size in
    let away = away_state z s s2 h h2 t.words ws p.holder p.holder c new st (λ k apart. refl) (λ d. refl) (λ d _ before. plain_settled h x (call_of d) refl before) (λ d _. joined_kept h x (call_of d) refl) in
    let was : (d : ℕ) → d % 1048576 ≡ c → slice_index t.words (state_at z d) ≡ old = λ d here. ap (λ q. slice_index t.words (z.tops + z.sides + 8 * q)) here ∙ found in
    let all : (k : ℕ) (u : View) → get_elem? t.views k ≡ some u → IsView z s2 h2 ws p.holder k u = λ k u at. view_away z s s2 h h2 t.words ws p.holder p.holder c k u away (one_more h x) (λ l. look_lasts z s step u p.keeps l) (λ l w. walk_lasts z s step u p.keeps l w)
    (λ any here o. own_never z s t.words p.holder k u.own u.named u.key old e c found gen refl f.led here o)
    (λ any here o. record {
      led = o.led;
      holder_is = o.holder_is;
      within = o.within;
      generation = ap (λ n. n / 8388608) (st.at u.leads here) ∙ (new_gen ∙ (sym (ap (λ n. n / 8388608) (was u.leads here)) ∙ o.generation));
      runs = ap (λ n. n / 2097152 % 4 % 2) (st.at u.leads here) ∙ ap (λ n. n % 2) new_tag;
      unsettled = plain_settled h x (call_of u.leads) refl o.unsettled;
      value_is = λ yes. st.value u.leads ∙ o.value_is yes;
      joins = says_on h h2 u.leads _ _ (ap (λ n. n / 1048576 % 2) (st.at u.leads here) ∙ (new_bit ∙ sym (ap (λ n. n / 1048576 % 2) (was u.leads here)))) (joined_kept h x (call_of u.leads) refl) o.joins;
    })
    (λ any here o. record {
      led = o.led;
      within = o.within;
      generation = ap (λ n. n / 8388608) (st.at u.ticket here) ∙ (new_gen ∙ (sym (ap (λ n. n / 8388608) (was u.ticket here)) ∙ o.generation));
      settled = λ yes. let odd : old / 2097152 % 4 % 2 ≡ 1 = sym (ap (λ n. n / 2097152 % 4 % 2) (was u.ticket here)) ∙ o.settled yes in absurd (omega (arith, two, odd));
    })
    (λ any here o. last_never z p.words t.words p.holder k u.last old c found (λ odd none. omega (arith, two, odd)) here o)
    (p.seats k u at) in
    let mine = all id v is in
    let one : (d : ℕ) → d % 1048576 ≡ c → old / 8388608 ≡ d / 1048576 → d ≡ e = λ d here g. one_call d e c (old / 8388608) here refl g gen in
    let w : View = record v { seen = h2 } in (
      w,
      keeps,
      tt,
      made z t p id i new me w s2 h2 p.holder (steps_keep y s step p.keeps) tells (forget_members h v.number v.name (Some (call_of e)) p.members)
          (shows_state z s h h2 t.words ws c old new (put s.closed e true) cell st p.shows found
          (λ d here led opened. let o = open_parts _ d (p.shows.live d led (still_open s e d opened)).0 in
          let a : old / 8388608 ≡ d / 1048576 = sym (ap (λ n. n / 8388608) (was d here)) ∙ o.0 in
          absurd (true≢false (sym (put_here s.closed e true) ∙ (ap (put s.closed e true) (sym (one d here a)) ∙ opened))))
          (λ d here led shut. shut_from new d (λ a b. omega (arith, b, new_tag)))
          (λ d apart. put_else s.closed e true d (λ q. apart (ap (λ k. k % 1048576) q)))
          (λ d shut. closed_led s e d f.led p.shows.only shut)
          (omega (arith, new_gen))
          (λ d here led a odd. absurd (omega (arith, new_tag, odd)))
          (λ d r a. result_kept h x (call_of d) r a))
          is
          (moved z t.words ws c old new v w st found (ap (λ n. n + stake c v) new_held) (λ d apart. refl))
          (λ k u apart at. all k u at)
          (record {
            seen = whole h2;
            heard = mine.heard;
            look = mine.look;
            walk = mine.walk;
            own = mine.own;
            begun = mine.begun;
            leads = mine.leads;
            ticket = mine.ticket;
            last = mine.last;
          }),
      record {
        won = λ _. (refl, record { before = m.seen.0; seen = ap (λ l. l ++ x ∷ []) m.seen.1; legal = tells.legal; gone = λ k is. tells.shuts k (mine.look.gone k is).none });
        lost = λ bar. absurd (bar found);
      },
    )

close_lost : (z : KeyedSizes) (id old : ℕ) (me : Me ℕ View) → (t : State ℕ View) → Holds z t → get_elem? t.views id ≡ some me.0
    → slice_index t.words (state_at z me.0.but) ≢ old → Outcome z id old me t (slice_index t.words (state_at z me.0.but))
close_lost z id old me t p is differ = (
  loses me.0,
  keeps,
  tt,
  still z t p id (state_at z me.0.but) me (loses me.0) is (λ d. refl) (losing z p.words p.history t.words p.holder id me.0 (p.seats id me.0 is)),
  record { won = λ yes. absurd (differ yes); lost = λ _. refl },
)

pub closes_allowed : (z : KeyedSizes) (slots id old new : ℕ) (me : Me ℕ View) → MayClose z me.0 old new
    → Allows (Holds z) slots id me (state_at z me.0.but) (λ n. either (eqb n old) new n) (λ n after. tries_close me.0 old n after.0)
closes_allowed z slots id old new me may t p len is fits =
    exchanged (slice_index t.words (state_at z me.0.but)) old new (Outcome z id old me t) (close_won z id old new me may t p is) (close_lost z id old me t p is)
