-- The leader settles its call: for its holders, or, where nobody else holds it, so that its cell is ready for the next.
use Rattle.std.proofs.Common.{◌*◌, ◌≡◌, ◌≢◌, ℕ, ◌+◌, ◌/◌, ◌%◌, ◌<◌, true, false, cond, eqb, eq-eqb, ne_eqb, List, [], ◌∷◌, ◌++◌, Some, None, set, refl, sym, ◌∙◌, ap, subst, arith, mod-eq_of_lt}
use Rattle.std.proofs.lemmas.Bool.{true≢false}
use Rattle.std.specs.Prelude.{slice_index}
use prog.Atomic.{either}
use mathlib.Core.Option.{some}
use mathlib.Core.Logic.{dite}
use native.Mathlib.Decide.{ℕ_discrete}
use lib.ListN.{get_elem?}
use Rattle.atomic_table.specs.Table.{State, Me, Valid, stepped, keeps, Allows}
use Rattle.atomic_table.proofs.Lists.{exchanged}
use Rattle.sf_lists.specs.Functions.{put}
use Rattle.sf_lists.proofs.Functions.{put_here, put_else, put_cases}
use Rattle.sf_keyed_tells.specs.Tells.{KeyedEvent}
use Rattle.sf_history.specs.declared.event.Event.TheVariants.{Settle}
use Rattle.sf_history.proofs.Members.{joined_kept}
use Rattle.sf_history.specs.History.{joined, result_of}
use Rattle.sf_keyed_laws.specs.Words.{Words}
use Rattle.sf_keyed_laws.specs.Steps.{Step, closes, closed_one}
use Rattle.sf_keyed_laws.proofs.Walking.{steps_keep, still_open}
use Rattle.sf_keyed_tells.specs.Tells.{call_of, Tells}
use Rattle.sf_keyed_tells.proofs.Telling.{by_bool, settle_tells}
use Rattle.sf_keyed_words.specs.declared.rule.KeyedSizes.{KeyedSizes}
use Rattle.sf_keyed_words.specs.declared.rule.View.{View}
use Rattle.sf_keyed_words.specs.Rule.{state_at, value_at, layout_of, gen_of, is_open_word, is_forgotten, ready_word, IsLeads, IsView, held_at, stake, KeyedTable, Holds}
use Rattle.sf_keyed_words.proofs.Lasting.{look_lasts, walk_lasts}
use Rattle.sf_keyed_words.proofs.Results.{either_closed, shut_call, settle_members, other_settled, result_kept, result_settled}
use Rattle.sf_keyed_words.proofs.Seats.{made, still, view_away, held_here, held_else, sum_one, sum_two}
use Rattle.sf_keyed_words.proofs.States.{state_set, shows_state, own_never, last_never, moved, away_state, whole, one_more, one_call, open_parts, open_from, shut_from, ready_gen, ready_tag, ready_bit, ready_held}
use Rattle.sf_keyed_words.specs.Plays.{WasForgotten, settles, settled_view, tries_alone, alone_view}

-- a call that is closed, or that was, was led
pub closed_led : (s : Words) (e d : ℕ) → s.led e ≡ true → ((f : ℕ) → s.closed f ≡ true → s.led f ≡ true) → put s.closed e true d ≡ true → s.led d ≡ true
closed_led s e d led only = put_cases (λ b. b ≡ true → s.led d ≡ true) s.closed e true d (λ is _. ap s.led is ∙ led) (λ _ shut. only d shut)

-- a view without the call that it leads
abbrev unled : View → View
unled v = record v { leads = 0; stored = false }

unled_view : (z : KeyedSizes) (s : Words) (h : List KeyedEvent) (ws : List ℕ) (holder : ℕ → ℕ) (k : ℕ) (v : View) → IsView z s h ws holder k v → IsView z s h ws holder k (unled v)
unled_view z s h ws holder k v m = record { seen = m.seen; heard = m.heard; look = m.look; walk = m.walk; own = m.own; begun = m.begun; leads = λ no. absurd (no refl); ticket = m.ticket; last = m.last }

-- what the state word says of a Forget
was_forgotten : (z : KeyedSizes) (t : State ℕ View) (p : KeyedTable z t) (e : ℕ) → p.words.led e ≡ true → gen_of (slice_index t.words (state_at z e)) ≡ e / 1048576
    → WasForgotten p.history e (is_forgotten (slice_index t.words (state_at z e)))
was_forgotten z t p e led gen =
    let s = p.words in
    let old : ℕ = slice_index t.words (state_at z e) in
    dite (ℕ_discrete (old / 2097152 % 4) 2)
    (λ two.
    let live : s.closed e ≡ false = by_bool (s.closed e) (λ shut. true≢false (sym (open_from old e gen two) ∙ p.shows.shut e led shut)) in
    subst (WasForgotten p.history e) (sym (ap (λ b. cond b false true) (eq-eqb (old / 2097152 % 4) 2 two))) (s.key_of e, p.tells.opens e led live))
    (λ isnt.
    let shut : s.closed e ≡ true = either_closed (s.closed e) (λ live. isnt (open_parts old e (p.shows.live e led live).0).1) in
    subst (WasForgotten p.history e) (sym (ap (λ b. cond b false true) (ne_eqb (old / 2097152 % 4) 2 isnt))) (λ k. shut_call s p.history e k p.tells shut))

pub record MaySettle (z : KeyedSizes) (v : View) : Type 0 where
  pub leads_one : v.leads ≢ 0
  pub stored : v.stored ≡ true
  pub idle : v.ticket ≡ 0

pub settles_allowed : (z : KeyedSizes) (slots id : ℕ) (me : Me ℕ View) → MaySettle z me.0
    → Allows (Holds z) slots id me (state_at z me.0.leads) (λ n. (n + 2097152) % 18446744073709551616) (λ n after. settles me.0 n after.0)
settles_allowed z slots id me may t p len is fits =
    let v = me.0 in
    let y = layout_of z in
    let s = p.words in
    let h = p.history in
    let m = p.seats id v is in
    let e : ℕ = v.leads in
    let c : ℕ = e % 1048576 in
    let i : ℕ = state_at z e in
    let lead = m.leads may.leads_one in
    let cell = lead.within in
    let old : ℕ = slice_index t.words i in
    let gen : old / 8388608 ≡ e / 1048576 = lead.generation in
    let even : old / 2097152 % 4 % 2 ≡ 0 = lead.runs in
    let within : old < 18446744073709551616 = fits in
    let new : ℕ = (old + 2097152) % 18446744073709551616 in
    let sum : new ≡ old + 2097152 = mod-eq_of_lt (omega (arith, even, within)) in
    let new_gen : new / 8388608 ≡ old / 8388608 = omega (arith, even, sum) in
    let new_tag : new / 2097152 % 4 ≡ old / 2097152 % 4 + 1 = omega (arith, even, sum) in
    let new_odd : new / 2097152 % 4 % 2 ≡ 1 = omega (arith, even, new_tag) in
    let new_held : new % 1048576 ≡ old % 1048576 = omega (arith, sum) in
    let step : Step y s = closes e lead.led in
    let s2 : Words = closed_one s e in
    let j : ℕ = joined h (call_of e) in
    let x : KeyedEvent = Settle (e % 1048576) (call_of e) (Some v.value) j in
    let h2 : List KeyedEvent = h ++ x ∷ [] in
    let tells : Tells s2 h2 = settle_tells y s e (Some v.value) h p.keeps lead.led lead.unsettled p.tells in
    let ws : List ℕ = set t.words i new in
    let st = state_set z t.words c new cell p.shows.size in
    let away = away_state z s s2 h h2 t.words ws p.holder p.holder c new st (λ k apart. refl) (λ d. refl) (λ d apart before. other_settled h e d (Some v.value) j (λ q. apart (ap (λ k. k % 1048576) (sym q))) before) (λ d _. joined_kept h x (call_of d) refl) in
    let was : (d : ℕ) → d % 1048576 ≡ c → slice_index t.words (state_at z d) ≡ old = λ d here. ap (λ q. slice_index t.words (z.tops + z.sides + 8 * q)) here in
    let far : (k : ℕ) (u : View) → (u.leads ≢ 0 → u.leads % 1048576 ≡ c → IsLeads z s h t.words p.holder k u.leads u.stored u.value → ⊥) → IsView z s h t.words p.holder k u → IsView z s2 h2 ws p.holder k u
    = λ k u no view. view_away z s s2 h h2 t.words ws p.holder p.holder c k u away (one_more h x) (λ l. look_lasts z s step u p.keeps l) (λ l w. walk_lasts z s step u p.keeps l w)
    (λ any here o. own_never z s t.words p.holder k u.own u.named u.key old e c refl gen refl lead.led here o)
    (λ any here o. absurd (no any here o))
    (λ any here o. record {
      led = o.led;
      within = o.within;
      generation = ap (λ n. n / 8388608) (st.at u.ticket here) ∙ (new_gen ∙ (sym (ap (λ n. n / 8388608) (was u.ticket here)) ∙ o.generation));
      settled = λ yes. ap (λ n. n / 2097152 % 4 % 2) (st.at u.ticket here) ∙ new_odd;
    })
    (λ any here o. last_never z p.words t.words p.holder k u.last old c refl (λ odd none. omega (arith, even, odd)) here o)
    view in
    let mine = far id (unled v) (λ any here o. any refl) (unled_view z s h t.words p.holder id v m) in
    let same : (d : ℕ) → held_at d v.own + held_at d v.leads + held_at d v.ticket ≡ held_at d v.own + held_at d 0 + held_at d v.leads = λ d. let a : held_at d v.ticket ≡ 0 = ap (held_at d) may.idle in let b : held_at d 0 ≡ 0 = refl in omega (arith, a, b) in
    let w : View = record (settled_view v h2) { state = old } in
    let one : (d : ℕ) → d % 1048576 ≡ c → old / 8388608 ≡ d / 1048576 → d ≡ e = λ d here g. one_call d e c (old / 8388608) here refl g gen in (
      w,
      keeps,
      tt,
      made z t p id i new me w s2 h2 p.holder (steps_keep y s step p.keeps) tells (settle_members h (e % 1048576) (call_of e) (Some v.value) j p.members)
          (shows_state z s h h2 t.words ws c old new (put s.closed e true) cell st p.shows refl
          (λ d here led opened. let o = open_parts _ d (p.shows.live d led (still_open s e d opened)).0 in
          let a : old / 8388608 ≡ d / 1048576 = sym (ap (λ n. n / 8388608) (was d here)) ∙ o.0 in
          absurd (true≢false (sym (put_here s.closed e true) ∙ (ap (put s.closed e true) (sym (one d here a)) ∙ opened))))
          (λ d here led shut. shut_from new d (λ a two. omega (arith, two, new_odd)))
          (λ d apart. put_else s.closed e true d (λ q. apart (ap (λ k. k % 1048576) q)))
          (λ d shut. closed_led s e d lead.led p.shows.only shut)
          (omega (arith, new_gen))
          (λ d here led a odd. subst (λ q. result_of h2 (call_of q) ≡ Some (Some (slice_index t.words (value_at z q)))) (sym (one d here (sym new_gen ∙ a)))
          (result_settled h (e % 1048576) (call_of e) (Some v.value) j lead.unsettled ∙ ap (λ n. Some (Some n)) (sym (lead.value_is may.stored))))
          (λ d r a. result_kept h x (call_of d) r a))
          is
          (moved z t.words ws c old new v w st refl (let a = same c in omega (arith, a, new_held)) (λ d apart. same d))
          (λ k u apart at. far k u (λ any here o. apart (sym o.holder_is ∙ (ap p.holder here ∙ lead.holder_is))) (p.seats k u at))
          (record {
            seen = whole h2;
            heard = mine.heard;
            look = mine.look;
            walk = mine.walk;
            own = mine.own;
            begun = mine.begun;
            leads = λ no. absurd (no refl);
            ticket = λ any. record {
              led = lead.led;
              within = cell;
              generation = ap (λ n. n / 8388608) (st.at e refl) ∙ (new_gen ∙ gen);
              settled = λ yes. ap (λ n. n / 2097152 % 4 % 2) (st.at e refl) ∙ new_odd;
            };
            last = mine.last;
          }),
      record {
        view = refl;
        settled = record {
          joiners = j;
          none = lead.joins.0;
          some = lead.joins.1;
          adds = record { before = m.seen.0; seen = ap (λ l. l ++ x ∷ []) m.seen.1; legal = tells.legal; gone = λ k is. tells.shuts k (mine.look.gone k is).none };
          was = subst (λ l. WasForgotten l e (is_forgotten old)) m.seen.1 (was_forgotten z t p e lead.led gen);
        };
      },
    )

pub record MayAlone (z : KeyedSizes) (v : View) (old new : ℕ) : Type 0 where
  pub leads_one : v.leads ≢ 0
  pub alone : old ≡ ready_word v.leads
  pub new_is : new ≡ old + 8388608
  pub idle : v.own ≡ 0

abbrev pub Outcome : (z : KeyedSizes) (id old : ℕ) (me : Me ℕ View) (t : State ℕ View) → ℕ → Type 0
Outcome z id old me t x = (w : View) × (a : _) × Valid t.homes me.1 a × Holds z (stepped t (state_at z me.0.leads) x id me.1 w a) × tries_alone me.0 old (slice_index t.words (state_at z me.0.leads)) w

alone_won : (z : KeyedSizes) (id old new : ℕ) (me : Me ℕ View) → MayAlone z me.0 old new → (t : State ℕ View) → Holds z t → get_elem? t.views id ≡ some me.0
    → slice_index t.words (state_at z me.0.leads) ≡ old → Outcome z id old me t new
alone_won z id old new me may t p is found =
    let v = me.0 in
    let y = layout_of z in
    let s = p.words in
    let h = p.history in
    let m = p.seats id v is in
    let e : ℕ = v.leads in
    let c : ℕ = e % 1048576 in
    let i : ℕ = state_at z e in
    let lead = m.leads may.leads_one in
    let cell = lead.within in
    let gen : old / 8388608 ≡ e / 1048576 = ap gen_of may.alone ∙ ready_gen e in
    let two : old / 2097152 % 4 ≡ 2 = ap (λ n. n / 2097152 % 4) may.alone ∙ ready_tag e in
    let held : old % 1048576 ≡ 1 = ap (λ n. n % 1048576) may.alone ∙ ready_held e in
    let bit : slice_index t.words i / 1048576 % 2 ≡ 0 = ap (λ n. n / 1048576 % 2) (found ∙ may.alone) ∙ ready_bit e in
    let alone = may.alone in
    let new_is = may.new_is in
    let e2 : ℕ = e + 1048576 in
    let e2_cell : e2 % 1048576 ≡ c = omega arith in
    let e2_gen : e2 / 1048576 ≡ e / 1048576 + 1 = omega arith in
    let ready : new ≡ ready_word e2 = omega (arith, alone, new_is, e2_gen) in
    let new_gen : new / 8388608 ≡ old / 8388608 + 1 = omega (arith, new_is) in
    let new_tag : new / 2097152 % 4 ≡ 2 = ap (λ n. n / 2097152 % 4) ready ∙ ready_tag e2 in
    let new_held : new % 1048576 ≡ 1 = ap (λ n. n % 1048576) ready ∙ ready_held e2 in
    let step : Step y s = closes e lead.led in
    let s2 : Words = closed_one s e in
    let j : ℕ = joined h (call_of e) in
    let x : KeyedEvent = Settle (e % 1048576) (call_of e) None j in
    let h2 : List KeyedEvent = h ++ x ∷ [] in
    let tells : Tells s2 h2 = settle_tells y s e None h p.keeps lead.led lead.unsettled p.tells in
    let live : s.closed e ≡ false = by_bool (s.closed e) (λ shut. true≢false (sym (open_from old e gen two) ∙ (ap (λ n. is_open_word n e) (sym found) ∙ p.shows.shut e lead.led shut))) in
    let ws : List ℕ = set t.words i new in
    let st = state_set z t.words c new cell p.shows.size in
    let away = away_state z s s2 h h2 t.words ws p.holder p.holder c new st (λ k apart. refl) (λ d. refl) (λ d apart before. other_settled h e d None j (λ q. apart (ap (λ k. k % 1048576) (sym q))) before) (λ d _. joined_kept h x (call_of d) refl) in
    let was : (d : ℕ) → d % 1048576 ≡ c → slice_index t.words (state_at z d) ≡ old = λ d here. ap (λ q. slice_index t.words (z.tops + z.sides + 8 * q)) here ∙ found in
    let sum = p.counts c cell in
    let total : slice_index t.words i % 1048576 ≡ 1 = ap (λ n. n % 1048576) found ∙ held in
    let leads_here = held_here c e may.leads_one refl in
    let far : (k : ℕ) (u : View) → (u.leads ≢ 0 → u.leads % 1048576 ≡ c → IsLeads z s h t.words p.holder k u.leads u.stored u.value → ⊥) → (u.ticket ≢ 0 → u.ticket % 1048576 ≡ c → ⊥)
    → IsView z s h t.words p.holder k u → IsView z s2 h2 ws p.holder k u
    = λ k u no none view. view_away z s s2 h h2 t.words ws p.holder p.holder c k u away (one_more h x) (λ l. look_lasts z s step u p.keeps l) (λ l w. walk_lasts z s step u p.keeps l w)
    (λ any here o. own_never z s t.words p.holder k u.own u.named u.key old e c found gen refl lead.led here o)
    (λ any here o. absurd (no any here o))
    (λ any here o. absurd (none any here))
    (λ any here o. last_never z p.words t.words p.holder k u.last old c found (λ odd none. omega (arith, two, odd)) here o)
    view in
    let mine = far id (unled v) (λ any here o. any refl)
    (λ any here. let a = held_here c v.ticket any here in let b = sum_one (stake c) t.views id v is in omega (arith, a, b, sum, total, leads_here)) (unled_view z s h t.words p.holder id v m) in
    let same : (d : ℕ) → held_at d v.own + held_at d v.leads + held_at d v.ticket ≡ held_at d e2 + held_at d 0 + held_at d v.ticket = λ d.
    let a : held_at d v.own ≡ 0 = ap (held_at d) may.idle in
    let b : held_at d 0 ≡ 0 = refl in
    let k : held_at d e ≡ held_at d e2 = dite (ℕ_discrete c d)
    (λ here. held_here d e may.leads_one here ∙ sym (held_here d e2 (λ q. omega arith) (e2_cell ∙ here)))
    (λ apart. held_else d e apart ∙ sym (held_else d e2 (λ q. apart (sym e2_cell ∙ q)))) in
    omega (arith, a, b, k) in
    let w : View = alone_view v h2 in
    let one : (d : ℕ) → d % 1048576 ≡ c → old / 8388608 ≡ d / 1048576 → d ≡ e = λ d here g. one_call d e c (old / 8388608) here refl g gen in
    let later : gen_of (slice_index t.words (state_at z e2)) < e2 / 1048576 = (let a : slice_index t.words (state_at z e2) / 8388608 ≡ old / 8388608 = ap gen_of (was e2 e2_cell) in omega (arith, a, e2_gen, gen)) in
    let inside : e2 % 1048576 < z.cells = subst (λ d. d < z.cells) (sym e2_cell) cell in (
      w,
      keeps,
      tt,
      made z t p id i new me w s2 h2 p.holder (steps_keep y s step p.keeps) tells (settle_members h (e % 1048576) (call_of e) None j p.members)
          (shows_state z s h h2 t.words ws c old new (put s.closed e true) cell st p.shows found
          (λ d here led opened. let o = open_parts _ d (p.shows.live d led (still_open s e d opened)).0 in
          let a : old / 8388608 ≡ d / 1048576 = sym (ap (λ n. n / 8388608) (was d here)) ∙ o.0 in
          absurd (true≢false (sym (put_here s.closed e true) ∙ (ap (put s.closed e true) (sym (one d here a)) ∙ opened))))
          (λ d here led shut. shut_from new d (λ a b.
          let g : slice_index t.words (state_at z d) / 8388608 ≡ old / 8388608 = ap gen_of (was d here) in
          true≢false (sym led ∙ p.shows.coming d (subst (λ q. q < z.cells) (sym here) cell) (omega (arith, g, a, new_gen)))))
          (λ d apart. put_else s.closed e true d (λ q. apart (ap (λ k. k % 1048576) q)))
          (λ d shut. closed_led s e d lead.led p.shows.only shut)
          (omega (arith, new_gen))
          (λ d here led a odd. absurd (omega (arith, new_tag, odd)))
          (λ d r a. result_kept h x (call_of d) r a))
          is
          (moved z t.words ws c old new v w st found (let a = same c in omega (arith, a, new_held, held)) (λ d apart. same d))
          (λ k u apart at. far k u (λ any here o. apart (sym o.holder_is ∙ (ap p.holder here ∙ lead.holder_is)))
          (λ any here. let a = held_here c u.ticket any here in let b = sum_two (stake c) t.views id k v u (λ q. apart (sym q)) is at in omega (arith, a, b, sum, total, leads_here)) (p.seats k u at))
          (record {
            seen = whole h2;
            heard = mine.heard;
            look = mine.look;
            walk = mine.walk;
            own = λ any. record {
              new = p.shows.coming e2 inside later;
              holder_is = ap p.holder e2_cell ∙ lead.holder_is;
              within = inside;
              state = st.at e2 e2_cell ∙ ready;
              name = λ no. absurd (true≢false (sym no));
            };
            begun = λ _ no. absurd (true≢false (sym no));
            leads = λ no. absurd (no refl);
            ticket = mine.ticket;
            last = mine.last;
          }),
      record {
        won = λ _. (refl, record { joiners = j; none = λ _. lead.joins.0 bit; some = λ no. absurd (omega (arith, no)); adds = record { before = m.seen.0; seen = ap (λ l. l ++ x ∷ []) m.seen.1; legal = tells.legal; gone = λ k is. tells.shuts k (mine.look.gone k is).none }; was = subst (λ l. WasForgotten l e false) m.seen.1 (s.key_of e, p.tells.opens e lead.led live) });
        lost = λ no. absurd (no found);
      },
    )

alone_lost : (z : KeyedSizes) (id old : ℕ) (me : Me ℕ View) → (t : State ℕ View) → Holds z t → get_elem? t.views id ≡ some me.0
    → slice_index t.words (state_at z me.0.leads) ≢ old → Outcome z id old me t (slice_index t.words (state_at z me.0.leads))
alone_lost z id old me t p is differ = (
  me.0,
  keeps,
  tt,
  still z t p id (state_at z me.0.leads) me me.0 is (λ d. refl) (p.seats id me.0 is),
  record { won = λ yes. absurd (differ yes); lost = λ _. refl },
)

pub settles_alone : (z : KeyedSizes) (slots id old new : ℕ) (me : Me ℕ View) → MayAlone z me.0 old new
    → Allows (Holds z) slots id me (state_at z me.0.leads) (λ n. either (eqb n old) new n) (λ n after. tries_alone me.0 old n after.0)
settles_alone z slots id old new me may t p len is fits =
    exchanged (slice_index t.words (state_at z me.0.leads)) old new (Outcome z id old me t) (alone_won z id old new me may t p is) (alone_lost z id old me t p is)
